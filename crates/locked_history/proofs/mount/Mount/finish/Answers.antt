use Rattle.std.proofs.Common.{List, map, All, ap, sym, subst}
use Rattle.locked_history.specs.declared.entry.Entry.{Entry}
use Rattle.locked_history.specs.Claims.{Claim, StandsIn}
use Rattle.locked_history.specs.Entries.{entry_in}
use Rattle.locked_history.proofs.Standing.{all_some, stand_back}
use Rattle.locked_history.proofs.mount.Mount.finish.Goals as goal

pub leave_past_end-requires-clause-known : goal.leave_past_end-requires-clause-known
leave_past_end-requires-clause-known g c = all_some (λ n. n.known) c.into_inner-core.result.notes.items c.into_inner-core.result.known

pub returns-clause-stand : goal.returns-clause-stand
returns-clause-stand g c =
    let l = c.leave_past_end.ensures in
    let es = map (λ n. entry_in n.known) c.into_inner-core.result.notes.items in
    let s = subst (λ (rs : List Claim). All (StandsIn es) rs) c.count_all.ensures.items l.stand in
    let b = stand_back es c.args.receipts.items s in
    subst (λ (x : List Entry). All (StandsIn x) c.args.receipts.items) (ap (map (λ n. entry_in n.known)) (sym l.notes.0)) b

pub invariant_of-past-clause-legal : goal.invariant_of-past-clause-legal
invariant_of-past-clause-legal g c = rw c.leave_past_end.ensures.notes.0 c.into_inner-core.result.legal

pub invariant_of-past-clause-known : goal.invariant_of-past-clause-known
invariant_of-past-clause-known g c = rw c.leave_past_end.ensures.notes.0 c.into_inner-core.result.known
