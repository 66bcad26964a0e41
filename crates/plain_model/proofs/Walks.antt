-- What a change of one name does to every path of the plain tree.
use Rattle.std.proofs.Common.{◌≡◌, true, false, cond, [], ◌∷◌, ◌++◌, Option, None, Some, refl, sym, ap, ◌∙◌, inl, inr}
use Rattle.std.proofs.lemmas.Bool.{false≢true, cases_Bool}
use Rattle.std.specs.Cmp.Lexicographic.{slice_cmp, texts_ties, nat_list_cmp_total}
use Rattle.std.specs.Ordering.{nat_cmp, eq_by_cmp}
use Rattle.std.specs.FinMap as map
use Rattle.ov_base.specs.declared.node_id.NodeId.{NodeId}
use Rattle.plain_model.specs.Layers.{Name, Path, same_name}
use Rattle.plain_model.specs.Laws.{IsOutside}
use Rattle.plain_model.specs.Tree.{same_id, Node, Branch, Leaf, Tree, names_of, entry, node_at, with_name, set_name, Names, lead, is_folder}
use Rattle.plain_model.proofs.Paths.{outside-parent, parent-outside, names_tell, ids_tell}

-- the identity at r from a node
abbrev pub from : Tree → Option NodeId → Path → Option NodeId
from t e [] = e
from t e (n ∷ r) = entry t (from t e r) n

ne_text : (m n : Name) → (m ≡ n → ⊥) → same_name m n ≡ false
ne_text m n h = elim (cases_Bool (same_name m n)) [ inl y ↦ absurd (h ((names_tell m n).0 y)) | inr f ↦ f ]

get-set_name : (names : Names) (n : Name) (e : Option NodeId) (m : Name) → map.get (set_name names n e) m ≡ cond (eq_by_cmp (slice_cmp nat_cmp) m n) e (map.get names m)
get-set_name names n None m = map.get-remove nat_list_cmp_total names n m
get-set_name names n (Some e) m = map.get-insert nat_list_cmp_total names n e m

with_name-other : (n m : Name) (e : Option NodeId) (o : Option Node) → (n ≡ m → ⊥) → names_of (with_name n e o) m ≡ names_of o m
with_name-other n m e None h = refl
with_name-other n m e (Some (Leaf k a u l)) h = refl
with_name-other n m e (Some (Branch a b names c)) h = get-set_name names n e m ∙ ap (λ c. cond c e (map.get names m)) (sym (texts_ties m n) ∙ ne_text m n (λ i. h (sym i)))

with_name-same : (n : Name) (e : Option NodeId) (o : Option Node) → is_folder o ≡ true → names_of (with_name n e o) n ≡ e
with_name-same n e None h = absurd (false≢true h)
with_name-same n e (Some (Leaf k a u l)) h = absurd (false≢true h)
with_name-same n e (Some (Branch a b names c)) h = get-set_name names n e n ∙ ap (λ c. cond c e (map.get names n)) (sym (texts_ties n n) ∙ (names_tell n n).1 refl)

-- other entries stay
pub lead-other : (t : Tree) (d : NodeId) (n : Name) (e o : Option NodeId) (m : Name) → (o ≡ Some d → n ≡ m → ⊥) → entry (lead t d n e) o m ≡ entry t o m
lead-other t d n e None m h = refl
lead-other t d n e (Some x) m h = elim (cases_Bool (same_id d x)) [
  | inr f ↦ ap (λ b. names_of (cond b (with_name n e (t d)) (t x)) m) f
  | inl y ↦ ap (λ b. names_of (cond b (with_name n e (t d)) (t x)) m) y ∙ (let dx : d ≡ x = (ids_tell d x).0 y in with_name-other n m e (t d) (h (ap Some (sym dx))) ∙ ap (λ z. names_of (t z) m) dx)
]

-- the entry leads on
pub lead-same : (t : Tree) (d : NodeId) (n : Name) (e : Option NodeId) → is_folder (t d) ≡ true → entry (lead t d n e) (Some d) n ≡ e
lead-same t d n e h = ap (λ b. names_of (cond b (with_name n e (t d)) (t d)) n) ((ids_tell d d).1 refl) ∙ with_name-same n e (t d) h

-- n in d leads to e; d stands at p alone
module _ (t : Tree) (d : NodeId) (p : Path) (n : Name) (e : Option NodeId) (only : (y : Path) → node_at t y ≡ Some d → y ≡ p) where
  pub lead-outside : (x : Path) → IsOutside (n ∷ p) x → node_at (lead t d n e) x ≡ node_at t x
  lead-outside [] h = refl
  lead-outside (m ∷ y) h =
      ap (λ o. entry (lead t d n e) o m) (lead-outside y (outside-parent (n ∷ p) m y h))
      ∙ lead-other t d n e (node_at t y) m (λ is nm. h [] (λ i. sym nm i ∷ only y is i))

  pub lead-at : node_at t p ≡ Some d → is_folder (t d) ≡ true → node_at (lead t d n e) (n ∷ p) ≡ e
  lead-at at_p dir = ap (λ o. entry (lead t d n e) o n) (lead-outside p (parent-outside n p) ∙ at_p) ∙ lead-same t d n e dir

  -- below the name stands what stands below e, where this does not lead back to d
  pub lead-below : node_at t p ≡ Some d → is_folder (t d) ≡ true → ((r : Path) → from t e r ≡ Some d → ⊥) → (r : Path) → node_at (lead t d n e) (r ++ (n ∷ p)) ≡ from t e r
  lead-below at_p dir back [] = lead-at at_p dir
  lead-below at_p dir back (m ∷ r) = ap (λ o. entry (lead t d n e) o m) (lead-below at_p dir back r) ∙ lead-other t d n e (from t e r) m (λ is nm. back r is)
