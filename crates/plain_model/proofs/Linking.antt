-- A name more of a file or link keeps what trees keep.
use Rattle.std.proofs.Common.{◌≡◌, ℕ, ◌+◌, Bool, true, false, cond, Option, None, Some, refl, sym, ap, subst, ◌∙◌, inl, inr}
use Rattle.std.proofs.lemmas.Bool.{cases_Bool, false≢true, both_ways}
use Rattle.ov_base.specs.declared.node_id.NodeId.{NodeId}
use Rattle.plain_model.specs.Layers.{Name}
use Rattle.plain_model.specs.Tree.{same_id, Node, Branch, Leaf, Tree, names_of, lead, is_folder, count_of, AreNames, IsKept}
use Rattle.plain_model.specs.Machine.{MountOptions}
use Rattle.plain_model.specs.Changes.{over_node, change, one_more}
use Rattle.plain_model.proofs.Paths.{ids_tell}
use Rattle.plain_model.proofs.Names.{names-more, names-else}
use Rattle.plain_model.proofs.Keeping.{put-here, put-there, lead-counts, kept-as, lead-kept}
use Rattle.plain_model.proofs.Flat.{gained, counts, more-flat, flat-names, flat-folders, flat-kept, some-same}

-- whether a node is a file or link
abbrev pub is_leaf : Option Node → Bool
is_leaf (Some (Leaf content a u c)) = true
is_leaf _ = false

more-count : (m : MountOptions) (o : Option Node) → is_leaf o ≡ true → count_of (over_node (one_more m) o) ≡ count_of o + 1
more-count m None h = absurd (false≢true h)
more-count m (Some (Branch a b names c)) h = absurd (false≢true h)
more-count m (Some (Leaf content a u c)) h = refl

leaf-names : (o : Option Node) (m : Name) → is_leaf o ≡ true → names_of o m ≡ None
leaf-names None m h = refl
leaf-names (Some (Branch a b names c)) m h = absurd (false≢true h)
leaf-names (Some (Leaf content a u c)) m h = refl

leaf-folder : (o : Option Node) → is_leaf o ≡ true → is_folder o ≡ false
leaf-folder None h = refl
leaf-folder (Some (Branch a b names c)) h = absurd (false≢true h)
leaf-folder (Some (Leaf content a u c)) h = refl

-- a file or link gets a name more in a named directory
module _ (m : MountOptions) (t : Tree) (i : ℕ) (d : NodeId) (n : Name) (e : NodeId) (dir : is_folder (t d) ≡ true) (live : count_of (t d) ≡ 0 → ⊥) (free : names_of (t d) n ≡ None) (leaf : is_leaf (t e) ≡ true) (k : IsKept t i) where
  abbrev t1 : Tree
  t1 = change (one_more m) t (Some e)

  abbrev t2 : Tree
  t2 = lead t1 d n (Some e)

  dir1 : is_folder (t1 d) ≡ true
  dir1 = flat-folders (one_more m) (more-flat m) t e d ∙ dir

  apart : same_id e d ≡ false
  apart = elim (cases_Bool (same_id e d)) [
    | inl y ↦ absurd (both_ways (is_folder (t e)) (leaf-folder (t e) leaf) (ap (λ z. is_folder (t z)) ((ids_tell e d).0 y) ∙ dir))
    | inr f ↦ f
  ]

  free1 : names_of (t1 d) n ≡ None
  free1 = flat-names (one_more m) (more-flat m) t e d n ∙ free

  told : (x : NodeId) → count_of (t1 x) ≡ gained e (counts t) x
  told x = elim (cases_Bool (same_id e x)) [
    | inl y ↦ ap count_of (put-here t e (over_node (one_more m) (t e)) x y) ∙ more-count m (t e) leaf ∙ ap (λ z. count_of (t z) + 1) ((ids_tell e x).0 y) ∙ sym (ap (λ b. cond b (count_of (t x) + 1) (count_of (t x))) y)
    | inr f ↦ ap count_of (put-there t e (over_node (one_more m) (t e)) x f) ∙ sym (ap (λ b. cond b (count_of (t x) + 1) (count_of (t x))) f)
  ]

  step : (x : NodeId) → AreNames t1 x (count_of (t x)) → AreNames t2 x (gained e (counts t) x)
  step x a = elim (cases_Bool (same_id e x)) [
    | inl y ↦ subst (AreNames t2 x) (sym (ap (λ b. cond b (count_of (t x) + 1) (count_of (t x))) y)) (names-more t1 d n (Some e) dir1 x (count_of (t x)) a (ap Some ((ids_tell e x).0 y)) (λ l. let z = sym free1 ∙ l in cc))
    | inr f ↦ subst (AreNames t2 x) (sym (ap (λ b. cond b (count_of (t x) + 1) (count_of (t x))) f)) (names-else t1 d n (Some e) dir1 x (count_of (t x)) a (λ l. let z = sym free1 ∙ l in cc) (λ l. both_ways (same_id e x) f (some-same e x l)))
  ]

  pub linked-kept : IsKept (lead (change (one_more m) t (Some e)) d n (Some e)) i
  linked-kept =
      kept-as (gained e (counts t)) t2 i
      (lead-kept (counts t) (gained e (counts t)) t1 i d n (Some e) dir1 (λ s h. live (ap count_of (sym (put-there t e (over_node (one_more m) (t e)) d apart)) ∙ h)) (flat-kept (one_more m) (more-flat m) t e i (λ h k. leaf-names (t e) k leaf) k) step)
      (λ x. lead-counts t1 d n (Some e) x ∙ told x)
