-- What a list of layers shows: the law of look-up, and that what is shown stands in shown directories.
use Rattle.std.proofs.Common.{◌≡◌, ℕ, suc, Bool, true, false, not, ◌&&◌, ◌||◌, List, [], ◌∷◌, Option, None, Some, refl, is_some, arith}
use Rattle.std.proofs.lemmas.Bool.{false≢true}
use Rattle.plain_model.specs.Layers.{Name, Path, Object, Layer, Inode, held, spell, below, cut, cuts, Shown, unless, over, shows, through, is_directory, holds_directory, reaches_directory, base}
use Rattle.plain_model.specs.Laws.{LawOfLookUp, LawOfParents}

reaches-step : (i : ℕ) (inodes : ℕ → Option Inode) (o : Option Object) (n : Name) (c : Bool) (q : Path) (t : Path → Bool) (s : Path → Option Shown) → t (spell o n q) ≡ is_directory (s (spell o n q)) → holds_directory o || (not (cut o c) && t (spell o n q)) ≡ is_directory (over i inodes o (unless (cut o c) (s (spell o n q))))
reaches-step i inodes o n c q t s h = grind arith

-- whether a layer is reached and holds a directory, is whether the topmost object is one
pub reaches-shows : (i : ℕ) (Ls : List Layer) (p : Path) → reaches_directory Ls p ≡ is_directory (shows i Ls p)
reaches-shows i [] p = refl
reaches-shows i (L ∷ Ls) [] = refl
reaches-shows i (L ∷ Ls) (n ∷ p) = reaches-step i L.inodes (held L (n ∷ p)) n (cuts L p) (below L p) (reaches_directory Ls) (shows (suc i) Ls) (reaches-shows (suc i) Ls (below L (n ∷ p)))

-- a directory is base where the upper lets a directory through
pub base-through : (U : Layer) (lowers : List Layer) (p : Path) → base U lowers p ≡ is_directory (through U lowers p)
base-through U lowers p = elim (cuts U p) as (λ c. not c && reaches_directory lowers (below U p) ≡ is_directory (unless c (shows 1 lowers (below U p)))) [ true ↦ refl | false ↦ reaches-shows 1 lowers (below U p) ]

-- a file or a whiteout is held
abbrev pub hides : Option Object → Bool
hides None = false
hides (Some o) = not (holds_directory (Some o))

-- what hides cuts
pub hides-cut : (o : Option Object) (c : Bool) → hides o ≡ true → cut o c ≡ true
hides-cut o c h = grind arith

pub hides-cuts : (L : Layer) (p : Path) → hides (held L p) ≡ true → cuts L p ≡ true
hides-cuts L [] h = grind arith
hides-cuts L (n ∷ p) h = hides-cut (held L (n ∷ p)) (cuts L p) h

-- one layer's step of that: where n in p is held, p is, and what hides p cuts what is below
pub parent-step : (i : ℕ) (inodes : ℕ → Option Inode) (o u : Option Object) (n : Name) (c : Bool) (q : Path) (s : Path → Option Shown) → (is_some o ≡ true → holds_directory u ≡ true) → (hides u ≡ true → c ≡ true) → (is_some (s (n ∷ q)) ≡ true → is_directory (s q) ≡ true) → is_some (over i inodes o (unless (cut o c) (s (spell o n q)))) ≡ true → is_directory (over i inodes u (unless c (s q))) ≡ true
parent-step i inodes o u n c q s held_up reached rest e = grind arith

-- where n in p shows something, p shows a directory
pub parent-shown : LawOfParents
parent-shown i [] a n p h = absurd (false≢true h)
parent-shown i (L ∷ Ls) a n p h = parent-step i L.inodes (held L (n ∷ p)) (held L p) n (cuts L p) (below L p) (shows (suc i) Ls) (a.0.parents n p) (hides-cuts L p) (parent-shown (suc i) Ls a.1 n (below L p)) h

-- the law of look-up
pub law_of_look_up : LawOfLookUp
law_of_look_up U lowers p = record { shown = refl; is_base = base-through U lowers p }
