-- Mounts without an upper (overlayfs.rst, "Multiple lower layers": without one the overlay is read-only).
use Rattle.std.specs.Prelude.{◌≡◌, List, [], ◌∷◌, Option, None}
use Rattle.ov_base.specs.declared.attributes.Attributes.{Attributes}
use Rattle.plain_model.specs.Layers.{Path, Name, Layer, held, shows, reaches_directory}
use Rattle.plain_model.specs.Tree.{Sight, see, merged}
use Rattle.plain_model.specs.Changes.{fresh}

-- the attributes of the first layer's root
abbrev pub first_root : List Layer → Attributes
first_root [] = fresh 0o755
first_root (L ∷ Ls) = L.root

-- AN UPPER THAT HOLDS NOTHING over these layers: a root with the attributes of the first one's
pub record IsBlank (U : Layer) (lowers : List Layer) : Type 0 where
  pub root : U.root ≡ first_root lowers
  pub nothing : (n : Name) (p : Path) → held U (n ∷ p) ≡ None

-- what layers show at a path without an upper
abbrev pub alone : List Layer → Path → Option Sight
alone lowers p = see (reaches_directory lowers p) (shows 1 lowers p)

-- under an upper that holds nothing each path shows what the lower layers show there alone
abbrev pub LawOfBlank : Type 0
LawOfBlank = (U L : Layer) (Ls : List Layer) → IsBlank U (L ∷ Ls) → (p : Path) → merged U (L ∷ Ls) p ≡ alone (L ∷ Ls) p
