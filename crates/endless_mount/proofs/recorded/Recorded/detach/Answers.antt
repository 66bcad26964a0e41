use Rattle.std.proofs.Common.{rules, arith, ◌≡◌, ◌∙◌, ◌≢◌, ℕ, ◌+◌, None, refl, ap, length, length-append}
use Rattle.std.specs.BTreeMap.{btree_map_len, get}
use Rattle.std.specs.Ordering.{nat_cmp}
use Rattle.plain_model.specs.Runs as runs
use Rattle.overlay_core.specs.Views.{core_clients}
use Rattle.locked_history.specs.declared.entry.Deed.TheVariants.{Detached}
use Rattle.endless_mount.proofs.Numbering.{kept_there, numbers_detach}
use Rattle.endless_mount.proofs.Growing.{history_push, legal_due}
use Rattle.endless_mount.proofs.recorded.Recorded.detach.Goals as goal

pub invariant_of-self : goal.invariant_of-self
invariant_of-self g c =
    let s = c.args.self.now in
    let client = c.args.session.client in
    let number = c.args.session.number in
    let due = (c.may_leave.ensures.0 c.if-not-may_leave.false).0 in
    let e = c.detach-hooks.ensures in
    let push = history_push s.front (record { client = client; number = number; deed = Detached }) in
    let long : length c.append-place.new.front ≡ length s.front + 1 = ap length c.append-place.ensures.entries ∙ length-append s.front _ in
    let others : (m : ℕ) → m ≢ client → get nat_cmp c.remove.new.self m ≡ get nat_cmp s.next m = search rules in
    let gone : get nat_cmp c.remove.new.self client ≡ None = search rules in
    let less : btree_map_len c.remove.new.self + 1 ≡ btree_map_len s.next = rw (c.remove.ensures.value ∙ kept_there s.due client due.0) at c.remove.ensures.len in
    record {
      legal = rw (c.append-place.ensures.entries, push) (legal_due s.core c.detach-hooks.new.self client number runs.Detached s.legal s.due due.0 due.1 refl e.detached e.kept);
      due = rw (c.append-place.ensures.entries, push) (numbers_detach client number s.due e.clients ((core_clients s.core).rising client due.0) gone others);
      given_is = e.clients.next ∙ s.given_is;
      finished = omega (arith, e.finished, s.finished, long);
      few = omega (arith, s.few, less);
      fits = omega (arith, s.fits, less, long);
    }
