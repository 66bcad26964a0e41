-- A name that goes keeps what trees keep.
use Rattle.std.proofs.Common.{◌≡◌, ℕ, ◌-◌, true, cond, None, Some, sym, ap, subst, ◌∙◌, inl, inr}
use Rattle.std.proofs.lemmas.Bool.{cases_Bool, false≢true, both_ways}
use Rattle.ov_base.specs.declared.node_id.NodeId.{NodeId}
use Rattle.plain_model.specs.Layers.{Name}
use Rattle.plain_model.specs.Tree.{same_id, Tree, names_of, lead, is_folder, count_of, AreNames, IsKept}
use Rattle.plain_model.specs.Changes.{change, one_fewer}
use Rattle.plain_model.proofs.Paths.{ids_tell}
use Rattle.plain_model.proofs.Names.{names-less, names-else}
use Rattle.plain_model.proofs.Keeping.{lead-counts, kept-as, lead-kept}
use Rattle.plain_model.proofs.Flat.{lost, counts, fewer-flat, flat-names, flat-folders, flat-kept, fewer-counts, some-same}

-- a name goes, of a node without names in it
module _ (t : Tree) (i : ℕ) (d : NodeId) (n : Name) (e : NodeId) (dir : is_folder (t d) ≡ true) (leads : names_of (t d) n ≡ Some e) (empty : (m : Name) → names_of (t e) m ≡ None) (k : IsKept t i) where
  abbrev t1 : Tree
  t1 = change one_fewer t (Some e)

  abbrev t2 : Tree
  t2 = lead t1 d n None

  at : names_of (t1 d) n ≡ Some e
  at = flat-names one_fewer fewer-flat t e d n ∙ leads

  step : (x : NodeId) → AreNames t1 x (count_of (t x)) → AreNames t2 x (lost (Some e) (counts t) x)
  step x a = elim (cases_Bool (same_id e x)) [
    | inl y ↦ subst (AreNames t2 x) (sym (ap (λ b. cond b (count_of (t x) - 1) (count_of (t x))) y)) (names-less t1 d n None (flat-folders one_fewer fewer-flat t e d ∙ dir) x (count_of (t x)) a (at ∙ ap Some ((ids_tell e x).0 y)) (λ s. cc))
    | inr f ↦ subst (AreNames t2 x) (sym (ap (λ b. cond b (count_of (t x) - 1) (count_of (t x))) f)) (names-else t1 d n None (flat-folders one_fewer fewer-flat t e d ∙ dir) x (count_of (t x)) a (λ l. both_ways (same_id e x) f (some-same e x (sym at ∙ l))) (λ s. cc))
  ]

  pub dropped-kept : IsKept (lead (change one_fewer t (Some e)) d n None) i
  dropped-kept =
      kept-as (lost (Some e) (counts t)) t2 i
      (lead-kept (counts t) (lost (Some e) (counts t)) t1 i d n None (flat-folders one_fewer fewer-flat t e d ∙ dir) (λ s. absurd (false≢true s)) (flat-kept one_fewer fewer-flat t e i (λ h. empty) k) step)
      (λ x. lead-counts t1 d n None x ∙ fewer-counts t (Some e) x)
