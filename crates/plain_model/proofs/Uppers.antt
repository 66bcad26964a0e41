-- What a change of the upper does to the merge.
use Rattle.std.proofs.Common.{◌≡◌, ℕ, Bool, true, false, List, [], ◌∷◌, ◌++◌, Option, None, refl, sym, ap, ap₂, ◌∙◌, is_some, arith}
use Rattle.plain_model.specs.Layers.{Name, Path, Object, Layer, held, spell, below, cut, cuts, Shown, Inode, unless, over, shows, through, under, is_directory, AreLayers}
use Rattle.plain_model.specs.Laws.{IsOutside, Placed}
use Rattle.plain_model.specs.Tree.{Sight, see, merged}
use Rattle.plain_model.proofs.Paths.{outside-parent}
use Rattle.plain_model.proofs.LookUp.{parent-shown, base-through}

-- what is seen where the upper holds o and s comes through it
abbrev pub meld : (ℕ → Option Inode) → Option Object → Option Shown → Option Sight
meld inodes o s = see (is_directory s) (over 0 inodes o s)

pub merged-meld : (U : Layer) (lowers : List Layer) (p : Path) → merged U lowers p ≡ meld U.inodes (held U p) (through U lowers p)
merged-meld U lowers p = ap (λ b. see b (shows 0 (U ∷ lowers) p)) (base-through U lowers p)

-- two uppers agree on the way to x
pub record AgreeTo (U V : Layer) (x : Path) : Type 0 where
  pub cut_alike : cuts V x ≡ cuts U x
  pub spelled : below V x ≡ below U x

pub agree-step : (U V : Layer) (k : Name) (x : Path) → held V (k ∷ x) ≡ held U (k ∷ x) → AgreeTo U V x → AgreeTo U V (k ∷ x)
agree-step U V k x h e = record { cut_alike = ap₂ cut h e.cut_alike; spelled = ap₂ (λ o s. spell o k s) h e.spelled }

-- on paths that hold alike, with those above them
pub agree-where : (U V : Layer) (P : Path → Type 0) → ((k : Name) (x : Path) → P (k ∷ x) → P x) → ((x : Path) → P x → held V x ≡ held U x) → (x : Path) → P x → AgreeTo U V x
agree-where U V P up alike [] h = record { cut_alike = refl; spelled = refl }
agree-where U V P up alike (k ∷ x) h = agree-step U V k x (alike (k ∷ x) h) (agree-where U V P up alike x (up k x h))

pub through-agree : (U V : Layer) (lowers : List Layer) (x : Path) → AgreeTo U V x → through V lowers x ≡ through U lowers x
through-agree U V lowers x e = ap₂ (λ c s. unless c (shows 1 lowers s)) e.cut_alike e.spelled

pub under-agree : (U V : Layer) (lowers : List Layer) (n : Name) (x : Path) → AgreeTo U V x → under V lowers n x ≡ under U lowers n x
under-agree U V lowers n x e = ap₂ (λ c s. unless c (shows 1 lowers (n ∷ s))) e.cut_alike e.spelled

pub merged-agree : (U V : Layer) (lowers : List Layer) (x : Path) → V.inodes ≡ U.inodes → held V x ≡ held U x → AgreeTo U V x → merged V lowers x ≡ merged U lowers x
merged-agree U V lowers x i h e = merged-meld V lowers x ∙ (λ j. meld (i j) (h j) (through-agree U V lowers x e j)) ∙ sym (merged-meld U lowers x)

-- where no directory comes through at p and the upper holds nothing below, nothing comes through below
pub dead-step : (low : Path → Option Shown) → ((n : Name) (s : Path) → is_some (low (n ∷ s)) ≡ true → is_directory (low s) ≡ true) → (c : Bool) (s : Path) (k : Name) → is_directory (unless c (low s)) ≡ false → unless c (low (k ∷ s)) ≡ None
dead-step low tree c s k h = grind arith

pub nothing-beneath : (V : Layer) (lowers : List Layer) → AreLayers lowers → (p : Path) → is_directory (through V lowers p) ≡ false → ((k : Name) (r : Path) → held V (k ∷ r ++ p) ≡ None) → (k : Name) (r : Path) → through V lowers (k ∷ r ++ p) ≡ None
nothing-beneath V lowers trees p h none k [] = rw (none k []) (dead-step (shows 1 lowers) (parent-shown 1 lowers trees) (cuts V p) (below V p) k h)
nothing-beneath V lowers trees p h none k (m ∷ r) = rw (none k (m ∷ r)) (dead-step (shows 1 lowers) (parent-shown 1 lowers trees) (cuts V (m ∷ r ++ p)) (below V (m ∷ r ++ p)) k (ap is_directory (nothing-beneath V lowers trees p h none m r)))

module _ (U V : Layer) (lowers : List Layer) (trees : AreLayers lowers) (p : Path) (o : Option Object) (m : Placed U V p o) where
  pub agree-placed : (x : Path) → IsOutside p x → AgreeTo U V x
  agree-placed = agree-where U V (IsOutside p) (outside-parent p) m.elsewhere

  pub merged-outside : (x : Path) → IsOutside p x → merged V lowers x ≡ merged U lowers x
  merged-outside x h = merged-agree U V lowers x m.inodes (m.elsewhere x h) (agree-placed x h)

  pub merged-here : merged V lowers p ≡ meld U.inodes o (through V lowers p)
  merged-here = merged-meld V lowers p ∙ (λ j. meld (m.inodes j) (m.here j) (through V lowers p))

  pub merged-beneath : is_directory (through V lowers p) ≡ false → (k : Name) (r : Path) → merged V lowers (k ∷ r ++ p) ≡ None
  merged-beneath h k r = merged-meld V lowers (k ∷ r ++ p) ∙ (λ j. meld V.inodes (m.beneath k r j) (nothing-beneath V lowers trees p h m.beneath k r j))
