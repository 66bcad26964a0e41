-- What is proved of the definitions of layers and of look-up: the law of look-up, that what is shown stands in shown directories,
-- that a walk name by name is look-up, and what a moved directory keeps (overlayfs.rst, "Multiple lower layers" and "redirect_dir").
use Rattle.std.specs.Prelude.{◌≡◌, ℕ, Bool, true, false, cond, List, [], ◌∷◌, ◌++◌, Option, None, Some, is_some}
use Rattle.ov_base.specs.declared.attributes.Attributes.{Attributes}
use Rattle.ov_base.specs.declared.redirect.Redirect.{Redirect}
use Rattle.ov_base.specs.declared.redirect.Redirect.TheVariants.{Absolute}
use Rattle.plain_model.specs.Layers.{Name, Path, Object, Directory, Whiteout, Layer, held, below, shows, through, under, over, is_directory, base, AreLayers}
use Rattle.plain_model.specs.Stacks.{stack, step, child}

-- a path shows the upper's object where it holds one, else what comes through it; it is base where a directory comes through
pub record LooksUp (U : Layer) (lowers : List Layer) (p : Path) : Type 0 where
  pub shown : shows 0 (U ∷ lowers) p ≡ over 0 U.inodes (held U p) (through U lowers p)
  pub is_base : base U lowers p ≡ is_directory (through U lowers p)

abbrev pub LawOfLookUp : Type 0
LawOfLookUp = (U : Layer) (lowers : List Layer) (p : Path) → LooksUp U lowers p

-- where something is shown, its parent is shown as a directory
abbrev pub LawOfParents : Type 0
LawOfParents = (i : ℕ) (Ls : List Layer) → AreLayers Ls → (n : Name) (p : Path) → is_some (shows i Ls (n ∷ p)) ≡ true → is_directory (shows i Ls p) ≡ true

-- one name on from the places of a directory are the places of the name in it, and what the name shows is what its path does
pub record StepsOn (i : ℕ) (Ls : List Layer) (p : Path) (n : Name) : Type 0 where
  pub places : step (stack i Ls p) n ≡ stack i Ls (n ∷ p)
  pub shown : child (stack i Ls p) n ≡ shows i Ls (n ∷ p)

abbrev pub LawOfSteps : Type 0
LawOfSteps = (i : ℕ) (Ls : List Layer) → AreLayers Ls → (p : Path) (n : Name) → StepsOn i Ls p n

-- x is neither p nor below it
abbrev pub IsOutside : Path → Path → Type 0
IsOutside p x = (r : Path) → x ≡ r ++ p → ⊥

-- The upper V is U with o at p, and nothing below it.
pub record Placed (U V : Layer) (p : Path) (o : Option Object) : Type 0 where
  pub here : held V p ≡ o
  pub beneath : (k : Name) (r : Path) → held V (k ∷ r ++ p) ≡ None
  pub elsewhere : (x : Path) → IsOutside p x → held V x ≡ held U x
  pub inodes : V.inodes ≡ U.inodes

-- what the upper keeps at a name that went: a whiteout exactly where the layers below show something there
abbrev pub left_at : Layer → List Layer → Path → Option Object
left_at U lowers [] = None
left_at U lowers (n ∷ p) = cond (is_some (under U lowers n p)) (Some Whiteout) None

-- The upper V is U with the directory at old moved to n in q. A base directory ends without an opaque mark and with a redirect to the
-- spelling by which the layers below have it; any other ends without a redirect, and opaque exactly where they show a directory at its new place.
pub record Moved (U V : Layer) (lowers : List Layer) (old : Path) (n : Name) (q : Path) : Type 0 where
  pub number : ℕ
  pub attributes : Attributes
  pub opaque : Bool
  pub redirect : Option Redirect
  pub placed : held V (n ∷ q) ≡ Some (Directory number attributes opaque redirect)
  pub inside : (k : Name) (r : Path) → held V (k ∷ r ++ (n ∷ q)) ≡ held U (k ∷ r ++ old)
  pub left : held V old ≡ left_at U lowers old
  pub emptied : (k : Name) (r : Path) → held V (k ∷ r ++ old) ≡ None
  pub elsewhere : (x : Path) → IsOutside old x → IsOutside (n ∷ q) x → held V x ≡ held U x
  pub when_base : base U lowers old ≡ true → (opaque ≡ false) × (redirect ≡ Some (Absolute (below U old)))
  pub when_not : base U lowers old ≡ false → (opaque ≡ is_directory (under U lowers n q)) × (redirect ≡ None)

-- The new place is base where the old one was, below it comes through what came through below the old one, also whatever the upper holds
-- there; at the old place and below it nothing is shown; outside both places nothing changes.
pub record KeepsMoves (U V : Layer) (lowers : List Layer) (old : Path) (n : Name) (q : Path) : Type 0 where
  pub base_new : base V lowers (n ∷ q) ≡ base U lowers old
  pub below_new : (k : Name) (r : Path) → through V lowers (k ∷ r ++ (n ∷ q)) ≡ through U lowers (k ∷ r ++ old)
  pub under_new : (k : Name) (r : Path) → under V lowers k (r ++ (n ∷ q)) ≡ under U lowers k (r ++ old)
  pub gone : (r : Path) → shows 0 (V ∷ lowers) (r ++ old) ≡ None
  pub elsewhere : (x : Path) → IsOutside old x → IsOutside (n ∷ q) x → through V lowers x ≡ through U lowers x
  pub under_elsewhere : (k : Name) (x : Path) → IsOutside old x → IsOutside (n ∷ q) x → under V lowers k x ≡ under U lowers k x

-- the law of moves, where neither place is below the other
abbrev pub LawOfMoves : Type 0
LawOfMoves =
    (U V : Layer) (lowers : List Layer) (old : Path) (n : Name) (q : Path) →
    AreLayers lowers → IsOutside old (n ∷ q) → IsOutside (n ∷ q) old → Moved U V lowers old n q → KeepsMoves U V lowers old n q
