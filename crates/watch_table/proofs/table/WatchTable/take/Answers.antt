use Rattle.std.proofs.Common.{drop, refl, subst, sym}
use Rattle.plain_model.specs.Watching.{Instance}
use Rattle.plain_model.specs.Changes.{at_client}
use Rattle.watch_table.specs.Watched.{IsIndexOf}
use Rattle.watch_table.proofs.Indexing.{index-kept, kept-watches, on-both}
use Rattle.watch_table.proofs.Outcomes.{OnOk-map, OnErr-map}
use Rattle.watch_table.proofs.table.WatchTable.take.Goals as goal

pub invariant_of-self : goal.invariant_of-self
invariant_of-self g c =
    let old = c.self.inside.listeners in
    let index = c.self.inside.objects in
    let f : Instance → Instance = λ e. record e { queue = drop c.args.count e.queue } in
    let kept = index-kept old (at_client c.args.client f old) index c.self.invariant
    (λ n k. kept-watches c.args.client f old n k (λ e. refl) (λ e. refl)) in
    on-both c.take.result
    (OnOk-map c.take.result (λ h. subst (λ es. IsIndexOf es index) (sym h) kept) c.take.ensures.left)
    (OnErr-map c.take.result (λ h. subst (λ es. IsIndexOf es index) (sym h) c.self.invariant) c.take.ensures.err)
