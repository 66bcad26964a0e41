-- The parents of a path by their numbers of names.
use Rattle.std.proofs.Common.{◌≡◌, ℕ, ◌+◌, ◌<◌, get_or, true, List, [], ◌∷◌, ◌++◌, None, refl, sym, ap, ◌∙◌, length, length-append, length-drop, append_assoc, take, drop, reverse, arith}
use Rattle.std.proofs.lemmas.List.{reverse-reverse, reverse-append, length-reverse, length-take-le, take-append-drop, take_at}
use Rattle.plain_model.specs.Layers.{Name, Path, Layer, held, holds_directory}
use Rattle.merged_lookup.specs.Merged.{parents_fault, way_fault}
use Rattle.merged_lookup.proofs.Descending.{reverse-more}
use Rattle.merged_lookup.proofs.Looking.{reverse-parts}
use Rattle.copy_up.proofs.Keeping.{way-first}
use Rattle.copy_up.specs.Showing.{IsParent}
use Rattle.copy_up.specs.Needs.{first_names, has_directory}

-- the way to a proper part of a path has no fault where its parents have none
within-way : (Ls : List Layer) (r q path : Path) → path ≡ r ++ q → 0 < length r → parents_fault Ls path ≡ None → way_fault Ls q ≡ None
within-way Ls [] q path e some h = absurd (omega arith)
within-way Ls (x ∷ r) q path e some h = way-first Ls r q (sym (ap (parents_fault Ls) e) ∙ h)

-- a proper part of a path is a parent of it
parent-within : (r q path : Path) → path ≡ r ++ q → 0 < length r → IsParent q path
parent-within [] q path e some = absurd (omega arith)
parent-within (x ∷ r) q path e some = (x, r, e)

-- the names up to one of them that is not the last lead to a parent of what all of them lead to
pub is-proper : (names : List Name) (i : ℕ) (name : Name) → i + 1 < length names → name ≡ get_or names i name → IsParent (name ∷ reverse (take i names)) (reverse names)
is-proper names i name more is =
    parent-within (reverse (drop (i + 1) names)) (name ∷ reverse (take i names)) (reverse names)
    (reverse-parts names (i + 1) ∙ ap (λ z. reverse (drop (i + 1) names) ++ z) (reverse-more names i name (omega (arith, more)) is))
    (omega (arith, more, length-reverse (drop (i + 1) names), length-drop (i + 1) names))

-- the names of a path from the root down: those of its parent, and its last
pub names-of : (n : Name) (parents : List Name) → reverse (n ∷ reverse parents) ≡ parents ++ n ∷ []
names-of n parents = reverse-append (n ∷ []) (reverse parents) ∙ ap (λ x. x ++ n ∷ []) (reverse-reverse parents)

-- the first names of a path, the last of them apart
module _ (path : Path) (count : ℕ) (within : count < length path) (names parents : List Name) (name : Name) (first : names ≡ take count (reverse path)) (split : names ≡ parents ++ name ∷ []) where
  pub first-split : first_names count path ≡ name ∷ reverse parents
  first-split = ap reverse (sym first ∙ split) ∙ reverse-append parents (name ∷ [])

  long : length names ≡ count
  long = ap length first ∙ length-take-le count (reverse path) (omega (arith, length-reverse path))

  fewer : length parents < count
  fewer = omega (arith, long, ap length split, length-append parents (name ∷ []))

  split-all : reverse path ≡ parents ++ (name ∷ [] ++ drop count (reverse path))
  split-all = sym (take-append-drop count (reverse path)) ∙ ap (λ x. x ++ drop count (reverse path)) (sym first ∙ split) ∙ append_assoc parents (name ∷ []) (drop count (reverse path))

  first-parents : first_names (length parents) path ≡ reverse parents
  first-parents = ap reverse (ap (take (length parents)) split-all ∙ take_at parents (name ∷ [] ++ drop count (reverse path)) (length parents) refl)

  -- the upper holds the directory that the last is in
  pub held-parents : (U : Layer) → ((k : ℕ) → k < count → has_directory U path k ≡ true) → holds_directory (held U (reverse parents)) ≡ true
  held-parents U all = sym (ap (λ q. holds_directory (held U q)) first-parents) ∙ all (length parents) fewer

  path-is : path ≡ reverse (drop count (reverse path)) ++ (name ∷ reverse parents)
  path-is = sym (reverse-reverse path) ∙ reverse-parts (reverse path) count ∙ ap (λ x. reverse (drop count (reverse path)) ++ x) first-split

  some-rest : 0 < length (reverse (drop count (reverse path)))
  some-rest = omega (arith, length-reverse (drop count (reverse path)), length-drop count (reverse path), length-reverse path)

  -- the way to it has no fault
  pub way-split : (Ls : List Layer) → parents_fault Ls path ≡ None → way_fault Ls (name ∷ reverse parents) ≡ None
  way-split Ls h = within-way Ls (reverse (drop count (reverse path))) (name ∷ reverse parents) path path-is some-rest h

  -- it is a parent
  pub split-parent : IsParent (name ∷ reverse parents) path
  split-parent = parent-within (reverse (drop count (reverse path))) (name ∷ reverse parents) path path-is some-rest
