use Rattle.std.proofs.Common.{arith}
use Rattle.std.proofs.lemmas.List.{length-map}
use Rattle.watch_table.proofs.Arming.{new-IsInstance}
use Rattle.watch_table.proofs.listener.Listener.new.Goals as goal

pub invariant_of-result : goal.invariant_of-result
invariant_of-result g c =
    let few = c.requires in
    let tags = length-map c.args.hooks.items (λ h. h.tag) in
    (new-IsInstance _ _ c.in-Ok.watches.items _ (omega arith) c.in-Ok.ensures.watches, c.in-Ok.ensures.room)
