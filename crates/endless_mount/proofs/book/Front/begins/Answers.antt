use Rattle.std.proofs.Common.{ap, subst, List, refl}
use mathlib.Core.List.{IsPrefix}
use lib.Dec.{leb}
use Rattle.locked_history.specs.declared.entry.Entry.{Entry}
use Rattle.endless_mount.proofs.Fronts.{one_begins}
use Rattle.endless_mount.proofs.book.Front.begins.Goals as goal

pub returns : goal.returns
returns g c =
    let xs = c.self.inside.seen.log in
    let ys = c.other.inside.seen.log in
    let both = c.learn.new.self.log in
    let this : IsPrefix xs both = subst (λ (l : List Entry). IsPrefix l both) (ap (λ s. s.log) c.again-both.ensures) c.learn.ensures.2 in
    rw (← c.self.view_is, ← c.other.view_is) (one_begins xs ys both c.self.inside.entries c.other.inside.entries c.self.invariant.0 c.other.invariant.0 this c.learn.ensures.3 (leb c.self.inside.entries c.other.inside.entries) refl)
