-- What the lower layers show at a spelling. It never changes, so it can be kept.
use Rattle.std.specs.Prelude.{◌≡◌, ℕ, false, List, Option, None, Some, Contains, reverse}
use Rattle.std.specs.Global.{Vec}
use Rattle.ov_base.specs.declared.attributes.Attributes.{Attributes}
use Rattle.plain_model.specs.Layers.{Name, Path, Object, Directory, Named, Whiteout, Inode, Layer, Folder, Contents, held, below, cuts, shows}
use Rattle.layer_tree.specs.Tree.{Tree, layer_of}
use Rattle.merged_lookup.specs.declared.found.Topmost.{Topmost}
use Rattle.merged_lookup.specs.declared.found.Topmost.TheVariants as shown
use Rattle.merged_lookup.specs.declared.kept.Kept.{Kept}
use Rattle.merged_lookup.specs.declared.kept.Step.{Step}
use Rattle.merged_lookup.specs.declared.kept.Step.TheVariants.{Nothing, Plain, Other}
use Rattle.merged_lookup.specs.Merged.{parent, places_at}
use Rattle.merged_lookup.specs.Passing.{directory_key}

-- the topmost object that layers show at a path, if they show any; the first of them is layer 1
abbrev pub ShowsTopmost : List Layer → Path → Option Topmost → Type 0
ShowsTopmost Ls q None = shows 1 Ls q ≡ None
ShowsTopmost Ls q (Some (shown.Directory d)) = (a : Attributes) × (shows 1 Ls q ≡ Some (Folder d.layer d.key a))
ShowsTopmost Ls q (Some (shown.Inode d)) = (x : Option Inode) × (shows 1 Ls q ≡ Some (Contents d.layer d.key x))

-- WHAT IS KEPT FOR A SPELLING: the directories of the lower layers in which its last name stands, and
-- the topmost object that they show at it
pub record IsKept (Ls : List Layer) (q : Path) (k : Kept) : Type 0 where
  pub directory : k.directory.items ≡ places_at 1 Ls (parent q)
  pub shown : ShowsTopmost Ls q k.shown

-- the upper hands a path down as it is: the lower layers come through it, and are asked by the same
-- names; and this is its directory there, if it has one
pub record HandsDown (t : Tree) (p : Path) (d : Option ℕ) : Type 0 where
  pub dir : d ≡ directory_key (held (layer_of t) p)
  pub uncut : cuts (layer_of t) p ≡ false
  pub spelling : below (layer_of t) p ≡ p

-- the topmost object at a name, where the upper holds the first there, and the lower layers show the other
abbrev pub topmost_over : Option Object → Option Topmost → Option Topmost
topmost_over None kept = kept
topmost_over (Some Whiteout) kept = None
topmost_over (Some (Named k)) kept = Some (shown.Inode (record { layer = 0; key = k }))
topmost_over (Some (Directory k a o r)) kept = Some (shown.Directory (record { layer = 0; key = k }))

-- what is held at a name is nothing, or this directory without marks, or something else
abbrev pub Steps : Option Object → Step → Type 0
Steps o Nothing = o ≡ None
Steps o (Plain k) = (a : Attributes) × (o ≡ Some (Directory k a false None))
Steps o Other = Unit {0}

-- each look-up that is kept is right by the names under which it is kept
abbrev pub AllKept : List Layer → List (Vec Name × Kept) → Type 0
AllKept Ls kept = (key : Vec Name) (k : Kept) → Contains kept (key, k) → IsKept Ls (reverse key.items) k
