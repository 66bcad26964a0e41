use Rattle.std.proofs.Common.{arith, ◌≡◌}
use Rattle.std.specs.BTreeMap.{get}
use Rattle.std.specs.Ordering.{nat_cmp}
use Rattle.overlay_core.specs.Views.{core_clients, next_client}
use Rattle.overlay_core.proofs.LegalHistories.{legal_begins}
use Rattle.endless_mount.proofs.Keeping.{none_at}
use Rattle.endless_mount.proofs.Numbering.{numbers_begin}
use Rattle.endless_mount.proofs.mount.EndlessMount.open.Goals as goal

pub invariant_of-recorded : goal.invariant_of-recorded
invariant_of-recorded g c =
    let b = c.args.blank in
    let none = c.named-book.ensures in
    let first : next_client b.core ≡ 0 = omega (arith, b.core.given, b.untouched) in
    record {
      legal = rw none (legal_begins g.N.BookName.opening b.core b.core.agrees b.core.begins b.untouched c.requires.opening);
      due = rw none (numbers_begin (get nat_cmp c.new.result) (core_clients b.core) (none_at c.new.result c.new.ensures.empty) first);
      given_is = first;
      finished = rw none b.untouched;
      few = omega (arith, c.new.ensures.len);
      fits = rw none (omega (arith, c.new.ensures.len));
    }
