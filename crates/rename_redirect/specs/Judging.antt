-- What rename finds at its two paths, and whether it may go on (rename(2)).
use Rattle.std.specs.Prelude.{◌≡◌, ℕ, Bool, true, false, not, ◌&&◌, Option, None, Some}
use Rattle.ov_base.specs.declared.errno.Errno.{Errno}
use Rattle.plain_model.specs.Layers.{Path, Object, Named, shows, base, is_directory}
use Rattle.plain_model.specs.Laws.{IsOutside}
use Rattle.mount_laws.specs.Linking.{link_fault}
use Rattle.mount_laws.specs.Moving.{NamesNoInode}
use Rattle.mount_laws.specs.Removals.{ShowsNoName}
use Rattle.mount_laws.specs.Renaming.{is_one, move_fault, rename_fault}
use Rattle.layer_tree.specs.Tree.{layer_of}
use Rattle.merged_lookup.specs.declared.layers.Layers.{Layers}
use Rattle.ov_base.specs.declared.place.Place.{Place}
use Rattle.merged_lookup.specs.declared.stack.Stack.{Stack}
use Rattle.merged_lookup.specs.Merged.{upper_of, layers_of, lowers_of, parents_fault, parent, IsStackOf, IsTopmost, ShowsInode}
pub use Rattle.make_remove.specs.Sights.{IsSeen}
use Rattle.rename_redirect.specs.declared.renames.JudgedRename.{JudgedRename}

-- what p shows, in this merged directory and at this place, may get the further name q, in the other directory
pub record MayLink (l : Layers) (p q : Path) (s t : Stack) (d : Place) : Type 0 where
  pub fine : link_fault (layers_of l) p q ≡ None
  pub way : parents_fault (layers_of l) p ≡ None
  pub directory : IsStackOf l (parent p) s
  pub shown : ShowsInode l p d
  pub parents : parents_fault (layers_of l) q ≡ None
  pub onto : IsStackOf l (parent q) t
  pub absent : shows 0 (layers_of l) q ≡ None

-- the number of the inode that is named
abbrev pub named_key : Option Object → Option ℕ
named_key (Some (Named k)) = Some k
named_key _ = None

-- why what p shows is not moved to q, which is another object and not below it
abbrev pub fit_fault : Layers → Bool → Path → Path → Bool → Option Errno
fit_fault l redirects p q full =
    move_fault false (shows 0 (layers_of l) p) (shows 0 (layers_of l) q) (base (layer_of l.upper) (lowers_of l) p && not redirects) full

-- the fault is this one, told that names are shown at q or, where none is, that none is
abbrev pub IsFaultOf : Layers → Path → (Bool → Option Errno) → Errno → Type 0
IsFaultOf l q fault e = (full : Bool) → (full ≡ false → ShowsNoName (layers_of l) q) → fault full ≡ Some e

-- what p shows may take the place of what q shows
pub record Fits (l : Layers) (redirects : Bool) (p q : Path) : Type 0 where
  pub fine : fit_fault l redirects p q false ≡ None
  pub empty : ShowsNoName (layers_of l) q
  pub kind : is_directory (shows 0 (layers_of l) p) ≡ true → NamesNoInode (layer_of l.upper) q

-- THE RENAME WAS JUDGED, and nothing refuses it: what p shows, in its merged directory, with this
-- object at the top, may move to q, in the other one
pub record MayMove (l : Layers) (redirects : Bool) (p q : Path) (moving : JudgedRename) : Type 0
  where
    pub fine : rename_fault (upper_of l) (lowers_of l) redirects p q false ≡ None
    pub directory : IsStackOf l (parent p) moving.directory.now
    pub way : parents_fault (layers_of l) p ≡ None
    pub shown : IsTopmost l p (Some moving.top)
    pub onto : IsStackOf l (parent q) moving.onto.now
    pub parents : parents_fault (layers_of l) q ≡ None
    pub empty : ShowsNoName (layers_of l) q
    pub apart : is_one (layer_of l.upper) p q ≡ false
    pub kind : is_directory (shows 0 (layers_of l) p) ≡ true → NamesNoInode (layer_of l.upper) q
    pub out : IsOutside p q
    pub within : IsOutside q p
