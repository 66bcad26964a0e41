-- A mount without an upper is one under an upper that holds nothing: each path shows what the lower layers show at the path itself.
use Rattle.std.proofs.Common.{◌≡◌, true, false, not, ◌&&◌, List, [], ◌∷◌, Option, Some, refl, ap, ap₂, ◌∙◌}
use Rattle.plain_model.specs.Blank.{IsBlank, LawOfBlank}
use Rattle.plain_model.specs.Layers.{Path, Layer, below, cut, cuts, over, shows, spell, through, unless, reaches_directory, base}
use Rattle.plain_model.specs.Tree.{SeenBranch, see}

module _ (U : Layer) (lowers : List Layer) (blank : IsBlank U lowers) where
  pub blank-below : (p : Path) → below U p ≡ p
  blank-below [] = refl
  blank-below (n ∷ p) = ap (λ o. spell o n (below U p)) (blank.nothing n p) ∙ ap (λ q. n ∷ q) (blank-below p)

  pub blank-cuts : (p : Path) → cuts U p ≡ false
  blank-cuts [] = refl
  blank-cuts (n ∷ p) = ap (λ o. cut o (cuts U p)) (blank.nothing n p) ∙ blank-cuts p

  pub blank-through : (p : Path) → through U lowers p ≡ shows 1 lowers p
  blank-through p = ap₂ (λ c q. unless c (shows 1 lowers q)) (blank-cuts p) (blank-below p)

  pub blank-base : (p : Path) → base U lowers p ≡ reaches_directory lowers p
  blank-base p = ap₂ (λ c q. not c && reaches_directory lowers q) (blank-cuts p) (blank-below p)

-- over one layer or more
pub law_of_blank : LawOfBlank
law_of_blank U L Ls blank [] = ap (λ a. Some (SeenBranch a true)) blank.root
law_of_blank U L Ls blank (n ∷ p) =
    ap₂ see (blank-base U (L ∷ Ls) blank (n ∷ p))
    (ap (λ o. over 0 U.inodes o (through U (L ∷ Ls) (n ∷ p))) (blank.nothing n p) ∙ blank-through U (L ∷ Ls) blank (n ∷ p))
