-- Tests of names, paths and nodes, and where paths stand to each other.
use Rattle.std.proofs.Common.{◌≡◌, ◌≢◌, ℕ, Bool, [], ◌∷◌, ◌++◌, refl, sym, ap, arith, ◌⊎◌, inl, inr, Decides, length, length-append, eqb-true, eq-eqb}
use Rattle.std.proofs.lemmas.Slice.Eq.{bytes_eq-Decides, slice_eq-Decides}
use Rattle.std.proofs.lemmas.Bool.{false≢true, cases_Bool, cases_eq, both_ways}
use mathlib.Core.List.{tail-eq_of_cons-eq}
use Rattle.plain_model.specs.Layers.{Name, Path, same_name, same_path}
use Rattle.plain_model.specs.Laws.{IsOutside}
use Rattle.plain_model.specs.Tree.{same_id}
use Rattle.ov_base.specs.declared.node_id.NodeId.TheVariants.{At, New}

-- a test that is true exactly of equals
abbrev pub Tells : {A : Type 0} → (A → A → Bool) → Type 0
Tells {A} test = (x y : A) → Decides (test x y) (x ≡ y)

pub names_tell : Tells same_name
names_tell = bytes_eq-Decides

pub paths_tell : Tells same_path
paths_tell p q = slice_eq-Decides bytes_eq-Decides p q (same_path p q) refl

pub ids_tell : Tells same_id
ids_tell (At p) (At q) = (λ h. ap At ((paths_tell p q).0 h), λ e. (paths_tell p q).1 cc)
ids_tell (New i) (New j) = (λ h. ap New (eqb-true i j h), λ e. eq-eqb i j cc)
ids_tell (At p) (New j) = (λ h. absurd (false≢true h), λ e. cc)
ids_tell (New i) (At q) = (λ h. absurd (false≢true h), λ e. cc)

-- so two are one or not
pub one_or_not : {A : Type 0} {test : A → A → Bool} → Tells test → (x y : A) → (x ≡ y) ⊎ (x ≢ y)
one_or_not {A} {test} tells x y = elim (cases_Bool (test x y)) [
  | inl h ↦ inl ((tells x y).0 h)
  | inr h ↦ inr (λ e. both_ways (test x y) h ((tells x y).1 e))
]

-- a name in a directory is the name in that directory, or not
pub cases_pair : (d e : ℕ) (m n : Name) → ((d ≡ e) × (m ≡ n)) ⊎ ((d ≡ e) → (m ≡ n) → ⊥)
cases_pair d e m n = elim (cases_eq d e) [
  | inl same ↦ elim (one_or_not names_tell m n) [ inl f ↦ inl (same, f) | inr g ↦ inr (λ _ f. g f) ]
  | inr g ↦ inr (λ h _. g h)
]

pub outside-parent : (p : Path) (k : Name) (x : Path) → IsOutside p (k ∷ x) → IsOutside p x
outside-parent p k x h r e = h (k ∷ r) (ap (λ y. k ∷ y) e)

abbrev pub IsBelow : Path → Path → Type 0
IsBelow p x = (r : Path) × (x ≡ r ++ p)

-- a path is at p or below it, or outside
pub place : (p x : Path) → IsBelow p x ⊎ IsOutside p x
place p [] = elim (cases_Bool (same_path p [])) [
  | inl h ↦ inl ([], sym ((paths_tell p []).0 h))
  | inr h ↦ inr (λ r. elim r as (λ r. [] ≡ r ++ p → ⊥) [ [] ↦ λ e. both_ways (same_path p []) h ((paths_tell p []).1 (sym e)) | m ∷ r ↦ λ e. cc ])
]
place p (k ∷ x) = elim (place p x) [
  | inl b ↦ inl (k ∷ b.0, ap (λ y. k ∷ y) b.1)
  | inr out ↦ elim (cases_Bool (same_path p (k ∷ x))) [
    | inl h ↦ inl ([], sym ((paths_tell p (k ∷ x)).0 h))
    | inr h ↦ inr (λ r. elim r as (λ r. k ∷ x ≡ r ++ p → ⊥) [ [] ↦ λ e. both_ways (same_path p (k ∷ x)) h ((paths_tell p (k ∷ x)).1 (sym e)) | m ∷ r ↦ λ e. out r (tail-eq_of_cons-eq e) ])
  ]
]

pub parent-outside : (n : Name) (p : Path) → IsOutside (n ∷ p) p
parent-outside n p r e = absurd (omega (arith, simp length-append at (ap length e)))
