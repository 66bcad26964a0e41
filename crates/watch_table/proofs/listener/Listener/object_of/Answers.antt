use Rattle.std.proofs.lemmas.Int.{to_z-of_z}
use Rattle.watch_table.proofs.Numbers.{object-found}
use Rattle.watch_table.proofs.listener.Listener.object_of.Goals as goal

pub returns : goal.returns
returns g c =
    let fits = c.ranges.number in
    let found = rw c.as_slice.ensures.value at (simp (to_z-of_z, fits) at c.object_of.ensures) in
    rw (← c.self.view_is) (object-found c.args.number c.self.inside.watches.items c.object_of.result c.self.invariant.0.numbers found)
