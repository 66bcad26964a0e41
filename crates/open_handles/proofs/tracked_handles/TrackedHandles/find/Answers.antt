use Rattle.std.proofs.Common.{rules, Ok, Err}
use Rattle.std.proofs.lemmas.List.Sorted.{answers_always}
use Rattle.open_handles.specs.TrackedHandles.{TrackedTable}
use Rattle.open_handles.proofs.TrackedClients.{searched}
use Rattle.open_handles.proofs.tracked_handles.TrackedHandles.find.Goals as goal

pub returns-in-Ok : goal.returns-in-Ok
returns-in-Ok c =
    let facts = c.in-Ok.ensures in
    let by_key = facts.position (λ (k : TrackedTable). k.client) (answers_always _ _ _ (λ f a r q called. search rules)) in
    rw (← c.self.view_is, ← c.deref.ensures.value) (searched c.deref.result.now (rw c.deref.ensures.value c.self.invariant.rising) c.args.client (Ok c.in-Ok.i) facts.bound by_key)

pub returns-in-Err : goal.returns-in-Err
returns-in-Err c =
    let facts = c.in-Err.ensures in
    let by_key = facts.position (λ (k : TrackedTable). k.client) (answers_always _ _ _ (λ f a r q called. search rules)) in
    rw (← c.self.view_is, ← c.deref.ensures.value) (searched c.deref.result.now (rw c.deref.ensures.value c.self.invariant.rising) c.args.client (Err c.in-Err.field-0) facts.bound by_key)
