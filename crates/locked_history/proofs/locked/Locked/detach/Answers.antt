use Rattle.std.proofs.Common.{arith, ◌≡◌, ◌∙◌, ◌<◌, is_some, length, map, refl, subst, sym, vec_len}
use Rattle.std.proofs.lemmas.List.{length-map}
use Rattle.plain_model.specs.Runs as runs
use Rattle.overlay_core.specs.Views.{CoreGoes, core_clients}
use Rattle.overlay_core.proofs.Histories.{detach_places, few, one_place}
use Rattle.locked_history.specs.declared.entry.Deed.TheVariants.{Detached}
use Rattle.locked_history.specs.declared.entry.Entry.{Entry}
use Rattle.locked_history.specs.Entries.{entry_in, told}
use Rattle.locked_history.proofs.Boxes.{box_there, boxes_detach}
use Rattle.overlay_core.proofs.LegalHistories.{legal_due}
use Rattle.overlay_core.proofs.Numbering.{number_is, numbers_detach}
use Rattle.locked_history.proofs.Growing.{appends, history_push, known_push, names_push}
use Rattle.locked_history.proofs.locked.Locked.detach.Goals as goal

pub unreachable-requires : goal.unreachable-requires
unreachable-requires g c =
    let s = c.args.self.now in
    let client = c.args.session.client in
    let due = (c.may_leave.ensures.0 c.if-not-may_leave.false).0 in
    box_there s.boxes.items client c.index_mut.result.now (s.spare client due.0) c.index_mut.ensures.value (sym c.take.ensures.value ∙ c.in_default.is)

pub detach-hooks-requires-clause-bound : goal.detach-hooks-requires-clause-bound
detach-hooks-requires-clause-bound g c = few c.args.self.now.core c.args.self.now.places

pub append-requires-clause-room : goal.append-requires-clause-room
append-requires-clause-room g c =
    let s = c.args.self.now in
    let client = c.args.session.client in
    let due = (c.may_leave.ensures.0 c.if-not-may_leave.false).0 in
    let left = one_place s.core client due.0 s.places in
    let lt : vec_len s.notes < length g.N.MountName.cells = omega (arith, left, s.finished, s.history) in
    (lt, omega (arith, lt, s.notes_room))

pub append-requires-clause-parts : goal.append-requires-clause-parts
append-requires-clause-parts g c =
    let s = c.args.self.now in
    let client = c.args.session.client in
    let due = (c.may_leave.ensures.0 c.if-not-may_leave.false).0 in
    let left = one_place s.core client due.0 s.places in
    (omega (arith, left, s.parts, s.finished, s.history), s.amount)

pub invariant_of-self-clause-legal : goal.invariant_of-self-clause-legal
invariant_of-self-clause-legal g c =
    let s = c.args.self.now in
    let client = c.args.session.client in
    let due = (c.may_leave.ensures.0 c.if-not-may_leave.false).0 in
    rw (c.append.ensures.entries, c.filled-entry.ensures, history_push (map (λ n. entry_in n.known) s.notes.items) (record { client = client; number = c.args.session.number; deed = Detached })) (legal_due s.core c.detach-hooks.new.self client c.args.session.number runs.Detached s.legal s.due due.0 (number_is s.due client due.0 ∙ sym due.1) refl c.detach-hooks.ensures.detached c.detach-hooks.ensures.kept)

pub invariant_of-self-clause-due : goal.invariant_of-self-clause-due
invariant_of-self-clause-due g c =
    let s = c.args.self.now in
    let client = c.args.session.client in
    let due = (c.may_leave.ensures.0 c.if-not-may_leave.false).0 in
    rw (c.append.ensures.entries, c.filled-entry.ensures, history_push (map (λ n. entry_in n.known) s.notes.items) (record { client = client; number = c.args.session.number; deed = Detached })) (numbers_detach client c.args.session.number s.due c.detach-hooks.ensures.clients ((core_clients s.core).rising client due.0))

pub invariant_of-self-clause-names : goal.invariant_of-self-clause-names
invariant_of-self-clause-names g c =
    let s = c.args.self.now in
    let client = c.args.session.client in
    let due = (c.may_leave.ensures.0 c.if-not-may_leave.false).0 in
    let left = one_place s.core client due.0 s.places in
    rw (c.append.ensures.names, c.append.ensures.long.0) (names_push _ g.N.MountName.cells (vec_len s.notes) s.names (omega (arith, left, s.finished, s.history)))

pub invariant_of-self-clause-known : goal.invariant_of-self-clause-known
invariant_of-self-clause-known g c = known_push (λ n. is_some n.known) c.args.self.now.notes.items c.append.new.notes.items c.append.ensures.known c.args.self.now.known

pub invariant_of-self-clause-places : goal.invariant_of-self-clause-places
invariant_of-self-clause-places g c =
    let s = c.args.self.now in
    let client = c.args.session.client in
    let due = (c.may_leave.ensures.0 c.if-not-may_leave.false).0 in
    detach_places s.core c.detach-hooks.new.self c.detach-hooks.ensures.kept.options client due.0 c.detach-hooks.ensures.clients c.detach-hooks.ensures.finished s.places

pub invariant_of-self-clause-spare : goal.invariant_of-self-clause-spare
invariant_of-self-clause-spare g c = rw c.take.ensures.after (boxes_detach c.args.self.now.boxes.items c.args.session.client c.args.self.now.spare c.detach-hooks.ensures.clients)

pub returns-clause-made : goal.returns-clause-made
returns-clause-made g c =
    let s = c.args.self.now in
    let told_so = subst (λ (e : Entry). CoreGoes s.core e.client (told e.deed) c.detach-hooks.new.self) (sym c.filled-entry.ensures) c.detach-hooks.ensures.detached in
    let last : vec_len s.notes ≡ length (map (λ n. entry_in n.known) s.notes.items) = s.notes.ok.0 ∙ sym (length-map s.notes.items (λ n. entry_in n.known)) in
    appends s c.append.result c.filled-entry.result.value (vec_len s.notes) c.append.ensures.receipt c.append.ensures.entries last told_so
