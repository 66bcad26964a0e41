use Rattle.std.proofs.Common.{◌≡◌, ◌++◌, ◌∷◌, [], map, subst, sym}
use Rattle.plain_model.specs.Watching.{silent}
use Rattle.watch_table.specs.Watched.{IsIndexOf}
use Rattle.watch_table.proofs.Indexing.{index-kept, came-watches, on-both, OnOk-from}
use Rattle.watch_table.proofs.Outcomes.{OnOk-map, OnErr-map}
use Rattle.watch_table.proofs.table.WatchTable.attach.Goals as goal

pub invariant_of-self : goal.invariant_of-self
invariant_of-self g c =
    let old = c.self.inside.listeners in
    let index = c.self.inside.objects in
    let tags = map (λ h. h.tag) c.args.hooks.items in
    let come = index-kept old (old ++ silent c.args.client tags ∷ []) index c.self.invariant (came-watches old c.args.client tags) in
    on-both c.attach.result
    (OnOk-map c.attach.result (λ h. subst (λ es. IsIndexOf es index) (sym h) come)
    (OnOk-from (c.attach.new.self ≡ old ++ silent c.args.client tags ∷ []) c.attach.result c.attach.ensures.attached))
    (OnErr-map c.attach.result (λ h. subst (λ es. IsIndexOf es index) (sym h) c.self.invariant) c.attach.ensures.same)
