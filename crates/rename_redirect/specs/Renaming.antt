-- What rename leaves of the layers (rename(2); overlayfs.rst, "redirect_dir", "whiteouts and opaque directories" and "Non-directories").
use Rattle.std.specs.Prelude.{◌≡◌, ◌≢◌, ◌⊎◌, ℕ, Bool, true, false, Option, None, Some, IsSome, is_some}
use Rattle.slab.specs.Slab.{get}
use Rattle.ov_base.specs.declared.attributes.Attributes.{Attributes}
use Rattle.ov_base.specs.declared.redirect.Redirect.{Redirect}
use Rattle.ov_base.specs.declared.redirect.Redirect.TheVariants.{Absolute}
use Rattle.plain_model.specs.Layers.{Path, Directory, Named, Layer, held, below, shows, is_directory, base, AreLayers}
use Rattle.plain_model.specs.Laws.{left_at}
use Rattle.plain_model.specs.Machine.{State}
use Rattle.mount_laws.specs.Looks.{IsMountOf}
use Rattle.mount_laws.specs.Moving.{Follows, MovesTo}
pub use Rattle.mount_laws.specs.Renaming.{is_one, rename_fault, Renames}
use Rattle.mount_laws.specs.Renaming.{MovesLink}
use Rattle.layer_tree.specs.Tree.{layer_of, seen_at, directory_number}
use Rattle.layer_tree.specs.Nameless.{IsNameless}
use Rattle.merged_lookup.specs.declared.layers.Layers.{Layers}
use Rattle.merged_lookup.specs.Merged.{upper_of, layers_of, lowers_of}
use Rattle.copy_up.specs.Showing.{PlacedParent}
use Rattle.make_remove.specs.Making.{shown_under}
use Rattle.make_remove.specs.Removing.{last_named}
use Rattle.rename_redirect.specs.declared.renames.Renamed.{Renamed}
use Rattle.rename_redirect.specs.declared.renames.Renamed.TheVariants as renamed

-- the layer holds a directory of this number and these attributes at x, whatever its marks
abbrev pub HoldsDirectory : Layer → Path → ℕ → Attributes → Type 0
HoldsDirectory L x k a = (opaque : Bool) × (r : Option Redirect) × (held L x ≡ Some (Directory k a opaque r))

-- the layer holds a directory with these marks at x
abbrev pub HasMarks : Layer → Path → Bool → Option Redirect → Type 0
HasMarks L x opaque r = (k : ℕ) × (a : Attributes) × (held L x ≡ Some (Directory k a opaque r))

-- A directory that moved from p to q: a base one is not opaque, and its redirect is the path by which the layers below have it; any other
-- is opaque exactly where they show a directory at its new place, and has no redirect.
pub record MovesMarks (old new : Layers) (p q : Path) : Type 0 where
  pub when_base :
      base (layer_of old.upper) (lowers_of old) p ≡ true →
      HasMarks (layer_of new.upper) q false (Some (Absolute (below (layer_of old.upper) p)))
  pub when_not : base (layer_of old.upper) (lowers_of old) p ≡ false → HasMarks (layer_of new.upper) q (shown_under old q) None

-- the upper holds at y what it held at x, or x is a parent of p, or of q, that it gained
abbrev pub KeepsMoved : Layers → Layers → Path → Path → Path → Path → Type 0
KeepsMoved old new p q x y =
    (held (layer_of new.upper) y ≡ held (layer_of old.upper) x) ⊎ (PlacedParent old new p x ⊎ PlacedParent old new q x)

-- What p showed moved to q, where the bytes of a file of lower layers stay there if low says so, and at p a whiteout is left exactly where
-- the lower layers show something there. A directory that moved has the marks that its new place asks for. What the upper holds at other
-- paths stays at the paths that follow them, but for missing parents that it gained; its directories keep number and attributes, and its
-- inodes have the names that follow their names. Else what stood under its keys stays, also what has no name.
pub record MovesOver (old new : Layers) (low : Bool) (p q : Path) : Type 0 where
  pub lowers : new.lowers ≡ old.lowers
  pub moves : AreLayers (layers_of old) → MovesTo (upper_of old) (upper_of new) (lowers_of old) low p q
  pub left : held (layer_of new.upper) p ≡ left_at (layer_of old.upper) (lowers_of old) p
  pub marks : is_directory (shows 0 (layers_of old) p) ≡ true → MovesMarks old new p q
  pub paths : (x y : Path) → Follows p q x y → x ≢ p → KeepsMoved old new p q x y
  pub directories :
      (x y : Path) → Follows p q x y → (k : ℕ) (a : Attributes) →
      HoldsDirectory (layer_of old.upper) x k a → HoldsDirectory (layer_of new.upper) y k a
  pub links :
      AreLayers (layers_of old) → (j : ℕ) → is_some ((upper_of old).inodes j) ≡ true →
      MovesLink (upper_of old) (upper_of new) p q j
  pub seen :
      (k : ℕ) → IsSome (get old.upper k) → (directory_number (held (layer_of old.upper) p) ≡ Some k → ⊥) →
      seen_at new.upper k ≡ seen_at old.upper k
  pub nameless : (k : ℕ) → IsNameless old.upper k → IsNameless new.upper k

-- What the upper held at q lost this name: where that was its last one, it stays without a name, and its key is handed back.
pub record Replaces (old new : Layers) (q : Path) (released : Option ℕ) : Type 0 where
  pub handed_back : released ≡ last_named old.upper (held (layer_of old.upper) q)
  pub nameless : (key : ℕ) → released ≡ Some key → IsNameless new.upper key

-- what p showed, a directory or not, moved to q, over what the upper held there
pub record Moves (old new : Layers) (low : Bool) (p q : Path) (directory : Bool) (released : Option ℕ) : Type 0 where
  pub apart : is_one (layer_of old.upper) p q ≡ false
  pub kind : is_directory (shows 0 (layers_of old) p) ≡ directory
  pub over : MovesOver old new low p q
  pub replaces : Replaces old new q released

-- a directory moved, or an inode, which stands under the key that is handed on
abbrev pub DoesRename : Layers → Layers → Bool → Path → Path → Renamed → Type 0
DoesRename old new low p q (renamed.Directory released) = Moves old new low p q true released
DoesRename old new low p q (renamed.Inode key released) = Moves old new low p q false released × (held (layer_of new.upper) q ≡ Some (Named key))

-- every state of the machine with these options whose mount has the old layers goes on to one with the new layers by rename
abbrev pub RenameSteps : Layers → Layers → Bool → Bool → Path → Path → Type 0
RenameSteps old new redirects metacopy p q =
    (s : State) → IsMountOf (upper_of old) (lowers_of old) s → s.options.redirects ≡ redirects →
    s.options.metacopy ≡ metacopy → (c : ℕ) → Renames (upper_of new) (lowers_of new) s c p q
