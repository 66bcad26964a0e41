-- A rename keeps what trees keep.
use Rattle.std.proofs.Common.{◌≡◌, ℕ, ◌+◌, ◌-◌, Bool, true, false, cond, Option, None, Some, refl, sym, ap, subst, ◌∙◌, arith, ◌⊎◌, inl, inr}
use Rattle.std.proofs.lemmas.Bool.{cases_Bool, false≢true, both_ways}
use Rattle.ov_base.specs.declared.node_id.NodeId.{NodeId}
use Rattle.plain_model.specs.Layers.{Name}
use Rattle.plain_model.specs.Tree.{same_id, Branch, Leaf, Tree, names_of, lead, is_folder, count_of, same_entry, AreNames, IsKept}
use Rattle.plain_model.specs.Machine.{MountOptions}
use Rattle.plain_model.specs.Changes.{change, one_fewer, meta_touched}
use Rattle.plain_model.proofs.Paths.{ids_tell}
use Rattle.plain_model.proofs.Names.{names-more, names-less, names-else, lead-entry}
use Rattle.plain_model.proofs.Keeping.{like-refl, IsMild, change-like, lead-counts, lead-folders, IsKeptAs, kept-as, lead-kept}
use Rattle.plain_model.proofs.Flat.{lost, gained, counts, as-told, like-kept_as, fewer-flat, flat-names, flat-folders, flat-kept, fewer-counts, some-same}

-- a rename of a node leaves it like itself
pub meta-mild : (m : MountOptions) → IsMild (meta_touched m)
meta-mild m (Branch a b names c) = like-refl (Some (Branch a b names c))
meta-mild m (Leaf content a u c) = record { names = λ n. refl; counts = refl; folders = refl; stands = refl; untouched = λ h. absurd (false≢true h) }

-- a node takes a new name, which what stood there loses, and leaves the old one
module _ (m : MountOptions) (t : Tree) (i : ℕ) (d1 : NodeId) (n1 : Name) (d2 : NodeId) (n2 : Name) (e : NodeId) (o : Option NodeId) (dir1 : is_folder (t d1) ≡ true) (dir2 : is_folder (t d2) ≡ true) (live : count_of (t d2) ≡ 0 → ⊥) (from : names_of (t d1) n1 ≡ Some e) (to : names_of (t d2) n2 ≡ o) (other : o ≡ Some e → ⊥) (empty : (x : NodeId) → o ≡ Some x → (m : Name) → names_of (t x) m ≡ None) (k : IsKept t i) where
  abbrev t1 : Tree
  t1 = change one_fewer t o

  abbrev t2 : Tree
  t2 = change (meta_touched m) t1 (Some e)

  abbrev t3 : Tree
  t3 = lead t2 d2 n2 (Some e)

  abbrev pub t4 : Tree
  t4 = lead t3 d1 n1 None

  first : (o : Option NodeId) → ((x : NodeId) → o ≡ Some x → (m : Name) → names_of (t x) m ≡ None) → IsKeptAs (counts t) (change one_fewer t o) i
  first None empty = as-told t i k
  first (Some x) empty = flat-kept one_fewer fewer-flat t x i (λ h. empty x refl) k

  kept2 : IsKeptAs (counts t) t2 i
  kept2 = like-kept_as (counts t) t1 t2 i (change-like (meta_touched m) (meta-mild m) t1 (Some e)) (first o empty)

  first-names : (o : Option NodeId) (x : NodeId) (m : Name) → names_of (change one_fewer t o x) m ≡ names_of (t x) m
  first-names None x m = refl
  first-names (Some y) x m = flat-names one_fewer fewer-flat t y x m

  first-folders : (o : Option NodeId) (x : NodeId) → is_folder (change one_fewer t o x) ≡ is_folder (t x)
  first-folders None x = refl
  first-folders (Some y) x = flat-folders one_fewer fewer-flat t y x

  names2 : (x : NodeId) (k : Name) → names_of (t2 x) k ≡ names_of (t x) k
  names2 x k = (change-like (meta_touched m) (meta-mild m) t1 (Some e) x).names k ∙ first-names o x k

  folders2 : (x : NodeId) → is_folder (t2 x) ≡ is_folder (t x)
  folders2 x = (change-like (meta_touched m) (meta-mild m) t1 (Some e) x).folders ∙ first-folders o x

  counts2 : (x : NodeId) → count_of (t2 x) ≡ lost o (counts t) x
  counts2 x = (change-like (meta_touched m) (meta-mild m) t1 (Some e) x).counts ∙ fewer-counts t o x

  -- a node that does not lose the name keeps its count
  not-lost : (o : Option NodeId) (x : NodeId) → (o ≡ Some x → ⊥) → lost o (counts t) x ≡ count_of (t x)
  not-lost None x h = refl
  not-lost (Some y) x h = elim (cases_Bool (same_id y x)) [
    | inl s ↦ absurd (h (ap Some ((ids_tell y x).0 s)))
    | inr f ↦ ap (λ b. cond b (count_of (t x) - 1) (count_of (t x))) f
  ]

  is-lost : (o : Option NodeId) (x : NodeId) → o ≡ Some x → lost o (counts t) x ≡ count_of (t x) - 1
  is-lost None x h = cc
  is-lost (Some y) x h = ap (λ b. cond b (count_of (t x) - 1) (count_of (t x))) (some-same y x h)

  live2 : count_of (t2 d2) ≡ 0 → ⊥
  live2 h = live (sym (not-lost o d2 (λ s. let z = sym (empty d2 s n2) ∙ to ∙ s in cc)) ∙ sym (counts2 d2) ∙ h)

  at2 : names_of (t2 d2) n2 ≡ o
  at2 = names2 d2 n2 ∙ to

  lost-or : (o : Option NodeId) (x : NodeId) → (o ≡ Some x) ⊎ (o ≡ Some x → ⊥)
  lost-or None x = inr (λ s. cc)
  lost-or (Some y) x = elim (cases_Bool (same_id y x)) [ inl s ↦ inl (ap Some ((ids_tell y x).0 s)) | inr f ↦ inr (λ s. both_ways (same_id y x) f (some-same y x s)) ]

  step3 : (x : NodeId) → AreNames t2 x (count_of (t x)) → AreNames t3 x (gained e (lost o (counts t)) x)
  step3 x a = elim (cases_Bool (same_id e x)) [
    | inl y ↦
        let s : e ≡ x = (ids_tell e x).0 y in
        let not_it = λ (l : o ≡ Some x). other (l ∙ ap Some (sym s)) in
        subst (AreNames t3 x) (sym (ap (λ b. cond b (lost o (counts t) x + 1) (lost o (counts t) x)) y ∙ ap (λ z. z + 1) (not-lost o x not_it)))
        (names-more t2 d2 n2 (Some e) (folders2 d2 ∙ dir2) x (count_of (t x)) a (ap Some s) (λ l. not_it (sym at2 ∙ l)))
    | inr f ↦
        let not_e = λ (l : Some e ≡ Some x). both_ways (same_id e x) f (some-same e x l) in
        subst (AreNames t3 x) (sym (ap (λ b. cond b (lost o (counts t) x + 1) (lost o (counts t) x)) f)) (elim (lost-or o x) [
          | inl l ↦ subst (AreNames t3 x) (sym (is-lost o x l)) (names-less t2 d2 n2 (Some e) (folders2 d2 ∙ dir2) x (count_of (t x)) a (at2 ∙ l) not_e)
          | inr l ↦ subst (AreNames t3 x) (sym (not-lost o x l)) (names-else t2 d2 n2 (Some e) (folders2 d2 ∙ dir2) x (count_of (t x)) a (λ m. l (sym at2 ∙ m)) not_e)
        ])
  ]

  kept3 : IsKeptAs (gained e (lost o (counts t))) t3 i
  kept3 = lead-kept (counts t) (gained e (lost o (counts t))) t2 i d2 n2 (Some e) (folders2 d2 ∙ dir2) (λ s h. live2 h) kept2 step3

  at3 : names_of (t3 d1) n1 ≡ Some e
  at3 = lead-entry t2 d2 n2 (Some e) (folders2 d2 ∙ dir2) (d1, n1) ∙ by (same_entry (d2, n2) (d1, n1))
    where
      by : (b : Bool) → cond b (Some e) (names_of (t2 d1) n1) ≡ Some e
      by true = refl
      by false = names2 d1 n1 ∙ from

  dir3 : is_folder (t3 d1) ≡ true
  dir3 = lead-folders t2 d2 n2 (Some e) d1 ∙ folders2 d1 ∙ dir1

  back : (c : ℕ) → (c + 1) - 1 ≡ c
  back c = omega arith

  step4 : (x : NodeId) → AreNames t3 x (gained e (lost o (counts t)) x) → AreNames t4 x (lost o (counts t) x)
  step4 x a = elim (cases_Bool (same_id e x)) [
    | inl y ↦
        subst (AreNames t4 x) (back (lost o (counts t) x))
        (names-less t3 d1 n1 None dir3 x (lost o (counts t) x + 1) (subst (AreNames t3 x) (ap (λ b. cond b (lost o (counts t) x + 1) (lost o (counts t) x)) y) a) (at3 ∙ ap Some ((ids_tell e x).0 y)) (λ s. cc))
    | inr f ↦
        names-else t3 d1 n1 None dir3 x (lost o (counts t) x) (subst (AreNames t3 x) (ap (λ b. cond b (lost o (counts t) x + 1) (lost o (counts t) x)) f) a) (λ l. both_ways (same_id e x) f (some-same e x (sym at3 ∙ l))) (λ s. cc)
  ]

  pub renamed-kept : IsKept t4 i
  renamed-kept =
      kept-as (lost o (counts t)) t4 i
      (lead-kept (gained e (lost o (counts t))) (lost o (counts t)) t3 i d1 n1 None dir3 (λ s. absurd (false≢true s)) kept3 step4)
      (λ x. lead-counts t3 d1 n1 None x ∙ lead-counts t2 d2 n2 (Some e) x ∙ counts2 x)
