-- A new node with its first name keeps what trees keep.
use Rattle.std.proofs.Common.{◌≡◌, ℕ, suc, ◌+◌, ◌≤◌, true, false, cond, None, Some, sym, ap, subst, ◌∙◌, arith, inl, inr}
use Rattle.std.proofs.lemmas.Bool.{cases_Bool, false≢true, both_ways}
use Rattle.ov_base.specs.declared.node_id.NodeId.{NodeId}
use Rattle.ov_base.specs.declared.node_id.NodeId.TheVariants.{New}
use Rattle.plain_model.specs.Layers.{Name}
use Rattle.plain_model.specs.Tree.{same_id, Node, Tree, root, names_of, put, lead, is_folder, count_of, is_untouched, AreNames, IsKept}
use Rattle.plain_model.proofs.Paths.{ids_tell}
use Rattle.plain_model.proofs.Names.{names-same, names-more, names-else}
use Rattle.plain_model.proofs.Keeping.{put-here, put-there, lead-counts, IsKeptAs, kept-as, lead-kept}
use Rattle.plain_model.proofs.Flat.{gained, counts, some-same}

-- a new node gets its first name in a named directory
module _ (t : Tree) (i : ℕ) (d : NodeId) (n : Name) (x : Node) (dir : is_folder (t d) ≡ true) (live : count_of (t d) ≡ 0 → ⊥) (free : names_of (t d) n ≡ None) (one : count_of (Some x) ≡ 1) (empty : (m : Name) → names_of (Some x) m ≡ None) (k : IsKept t i) where
  abbrev t1 : Tree
  t1 = put t (New i) (Some x)

  abbrev t2 : Tree
  t2 = lead t1 d n (Some (New i))

  none : t (New i) ≡ None
  none = k.unused i (let z : i ≤ i = omega arith in z)

  apart : same_id (New i) d ≡ false
  apart = elim (cases_Bool (same_id (New i) d)) [
    | inl y ↦ absurd (false≢true (sym (ap is_folder none) ∙ ap (λ z. is_folder (t z)) ((ids_tell (New i) d).0 y) ∙ dir))
    | inr f ↦ f
  ]

  dir1 : is_folder (t1 d) ≡ true
  dir1 = ap is_folder (put-there t (New i) (Some x) d apart) ∙ dir

  entries : (y : NodeId) (m : Name) → names_of (t1 y) m ≡ names_of (t y) m
  entries y m = elim (cases_Bool (same_id (New i) y)) [
    | inl s ↦ ap (λ o. names_of o m) (put-here t (New i) (Some x) y s) ∙ empty m ∙ sym (ap (λ o. names_of o m) (ap t (sym ((ids_tell (New i) y).0 s)) ∙ none))
    | inr f ↦ ap (λ o. names_of o m) (put-there t (New i) (Some x) y f)
  ]

  kept : IsKeptAs (counts t) t1 (suc i)
  kept = record {
    home = elim (cases_Bool (same_id (New i) root)) [
      | inl y ↦ absurd (false≢true y)
      | inr f ↦ k.home
    ];
    unused = λ j h. elim (cases_Bool (same_id (New i) (New j))) [
      | inl y ↦ absurd (later i j h (let s = (ids_tell (New i) (New j)).0 y in cc))
      | inr f ↦ put-there t (New i) (Some x) (New j) f ∙ k.unused j (let z : i ≤ j = omega arith in z)
    ];
    counted = λ y. names-same t t1 y (count_of (t y)) (λ w. entries w.0 w.1) (k.counted y);
    bare = λ y m h. elim (cases_Bool (same_id (New i) y)) [
      | inl s ↦ ap (λ o. names_of o m) (put-here t (New i) (Some x) y s) ∙ empty m
      | inr f ↦ entries y m ∙ k.bare y m (ap count_of (sym (put-there t (New i) (Some x) y f)) ∙ h)
    ];
    single = λ y h. elim (cases_Bool (same_id (New i) y)) [
      | inl s ↦ at-most (count_of (t1 y)) (ap count_of (put-here t (New i) (Some x) y s) ∙ one)
      | inr f ↦ subst (λ o. count_of o ≤ 1) (sym (put-there t (New i) (Some x) y f)) (k.single y (ap is_untouched (sym (put-there t (New i) (Some x) y f)) ∙ h))
    ];
  }
    where
      later : (i j : ℕ) → suc i ≤ j → (i ≡ j → ⊥)
      later i j h e = absurd (omega arith)

      at-most : (a : ℕ) → a ≡ 1 → a ≤ 1
      at-most a e = omega arith

  told : (y : NodeId) → count_of (t1 y) ≡ gained (New i) (counts t) y
  told y = elim (cases_Bool (same_id (New i) y)) [
    | inl s ↦ ap count_of (put-here t (New i) (Some x) y s) ∙ one ∙ sym (ap (λ b. cond b (count_of (t y) + 1) (count_of (t y))) s ∙ ap (λ o. count_of o + 1) (ap t (sym ((ids_tell (New i) y).0 s)) ∙ none))
    | inr f ↦ ap count_of (put-there t (New i) (Some x) y f) ∙ sym (ap (λ b. cond b (count_of (t y) + 1) (count_of (t y))) f)
  ]

  step : (y : NodeId) → AreNames t1 y (count_of (t y)) → AreNames t2 y (gained (New i) (counts t) y)
  step y a = elim (cases_Bool (same_id (New i) y)) [
    | inl s ↦ subst (AreNames t2 y) (sym (ap (λ b. cond b (count_of (t y) + 1) (count_of (t y))) s)) (names-more t1 d n (Some (New i)) dir1 y (count_of (t y)) a (ap Some ((ids_tell (New i) y).0 s)) (λ l. let z = sym (entries d n ∙ free) ∙ l in cc))
    | inr f ↦ subst (AreNames t2 y) (sym (ap (λ b. cond b (count_of (t y) + 1) (count_of (t y))) f)) (names-else t1 d n (Some (New i)) dir1 y (count_of (t y)) a (λ l. let z = sym (entries d n ∙ free) ∙ l in cc) (λ l. both_ways (same_id (New i) y) f (some-same (New i) y l)))
  ]

  pub made-kept : IsKept (lead (put t (New i) (Some x)) d n (Some (New i))) (suc i)
  made-kept =
      kept-as (gained (New i) (counts t)) t2 (suc i)
      (lead-kept (counts t) (gained (New i) (counts t)) t1 (suc i) d n (Some (New i)) dir1 (λ s h. live (ap count_of (sym (put-there t (New i) (Some x) d apart)) ∙ h)) kept step)
      (λ y. lead-counts t1 d n (Some (New i)) y ∙ told y)
