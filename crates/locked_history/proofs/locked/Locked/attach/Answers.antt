use Rattle.std.proofs.Common.{arith, ◌≡◌, ◌∙◌, ℕ, ◌+◌, ◌-◌, ◌≤◌, List, ap, is_some, length, map, subst, sym, vec_len}
use Rattle.std.proofs.lemmas.List.{length-map}
use Rattle.plain_model.specs.Runs as runs
use Rattle.overlay_core.specs.Views.{CoreGoes, core_clients, core_finished, core_options, client_count, next_client}
use Rattle.overlay_core.proofs.Histories.{attach_places, few, kept_places, two_places}
use Rattle.locked_history.specs.declared.entry.Deed.TheVariants.{Attached}
use Rattle.locked_history.specs.declared.entry.Entry.{Entry}
use Rattle.locked_history.specs.Entries.{entry_in, told}
use Rattle.locked_history.proofs.Boxes.{boxes_attach, boxes_stay}
use Rattle.overlay_core.proofs.LegalHistories.{legal_attach, legal_stays}
use Rattle.overlay_core.proofs.Numbering.{numbers_attach, numbers_stay}
use Rattle.locked_history.proofs.Growing.{appends, history_push, known_push, names_push}
use Rattle.locked_history.proofs.locked.Locked.attach.Goals as goal

pub attach-requires : goal.attach-requires
attach-requires g c = few c.args.self.now.core c.args.self.now.places

pub invariant_of-self-in-Break-1 : goal.invariant_of-self-in-Break-1
invariant_of-self-in-Break-1 g c =
    let s = c.args.self.now in
    let e = c.in_err-client.ensures in
    let new = c.attach.new.self in
    let k = e.stays.1 in
    record {
      legal = legal_stays s.core new s.legal e.stays.0 e.kept;
      due = numbers_stay s.due k;
      names = s.names;
      known = s.known;
      numbers_long = s.numbers_long ∙ sym k.next;
      numbers_room = s.numbers_room;
      spare = boxes_stay s.boxes.items s.spare k;
      boxes_long = s.boxes_long ∙ sym k.next;
      boxes_room = s.boxes_room;
      finished = e.stays.2 ∙ s.finished;
      history = ap (λ o. o.history) e.kept.options ∙ s.history;
      places = kept_places s.core new e.kept.options k e.stays.2 s.places;
      notes_room = s.notes_room;
      total = s.total;
      parts = s.parts;
      amount = s.amount;
    }

pub invariant_of-self-2-clause-legal : goal.invariant_of-self-2-clause-legal
invariant_of-self-2-clause-legal g c =
    let s = c.args.self.now in
    let new = c.attach.new.self in
    let client = c.in_ok-client.client in
    let tags = c.in-Some-room.arrival.tags in
    let goes : CoreGoes s.core client (runs.Attached tags.items) new = subst (λ (ts : List ℕ). CoreGoes s.core client (runs.Attached ts) new) (sym (rw c.in-Some-room.is at c.requires.tags)) c.in_ok-client.ensures.attached in
    rw (c.append.ensures.entries, c.filled-entry.ensures, history_push (map (λ n. entry_in n.known) s.notes.items) (record { client = client; number = 1; deed = Attached tags })) (legal_attach s.core new client tags.items s.legal s.due c.in_ok-client.ensures.clients.next goes c.in_ok-client.ensures.kept)

pub invariant_of-self-2-clause-due : goal.invariant_of-self-2-clause-due
invariant_of-self-2-clause-due g c =
    let s = c.args.self.now in
    let client = c.in_ok-client.client in
    let tags = c.in-Some-room.arrival.tags in
    let long : length s.numbers.items ≡ next_client s.core = omega (arith, s.numbers_long, s.numbers.ok.0) in
    rw (c.append.ensures.entries, c.filled-entry.ensures, history_push (map (λ n. entry_in n.known) s.notes.items) (record { client = client; number = 1; deed = Attached tags }), c.push_reserved.ensures.items) (numbers_attach client tags.items s.due c.in_ok-client.ensures.clients long (core_clients s.core).rising)

pub invariant_of-self-2-clause-names : goal.invariant_of-self-2-clause-names
invariant_of-self-2-clause-names g c =
    let s = c.args.self.now in
    let two = two_places s.core c.len.result c.attach_refusal.result c.attach_refusal.ensures c.in_default.not-Some in
    let place : 2 ≤ (core_options s.core).history - (core_finished s.core + client_count s.core) = two in
    rw (c.append.ensures.names, c.append.ensures.long.0) (names_push _ g.N.MountName.cells (vec_len s.notes) s.names (omega (arith, place, s.history, s.finished)))

pub invariant_of-self-2-clause-known : goal.invariant_of-self-2-clause-known
invariant_of-self-2-clause-known g c = known_push (λ n. is_some n.known) c.args.self.now.notes.items c.append.new.notes.items c.append.ensures.known c.args.self.now.known

pub invariant_of-self-2-clause-places : goal.invariant_of-self-2-clause-places
invariant_of-self-2-clause-places g c =
    let s = c.args.self.now in
    let two = two_places s.core c.len.result c.attach_refusal.result c.attach_refusal.ensures c.in_default.not-Some in
    let e = c.in_ok-client.ensures in
    attach_places s.core c.attach.new.self e.kept.options c.in_ok-client.client e.clients two e.finished s.places

pub invariant_of-self-2-clause-spare : goal.invariant_of-self-2-clause-spare
invariant_of-self-2-clause-spare g c =
    let s = c.args.self.now in
    let long : length s.boxes.items ≡ next_client s.core = omega (arith, s.boxes_long, s.boxes.ok.0) in
    rw c.push_reserved-2.ensures.items (boxes_attach s.boxes.items c.in-Some-room.arrival.detach c.in_ok-client.client long s.spare c.in_ok-client.ensures.clients (core_clients s.core).rising)

pub returns-clause-made : goal.returns-clause-made
returns-clause-made g c =
    let s = c.args.self.now in
    let new = c.attach.new.self in
    let client = c.in_ok-client.client in
    let tags = c.in-Some-room.arrival.tags in
    let goes : CoreGoes s.core client (runs.Attached tags.items) new = subst (λ (ts : List ℕ). CoreGoes s.core client (runs.Attached ts) new) (sym (rw c.in-Some-room.is at c.requires.tags)) c.in_ok-client.ensures.attached in
    let told_so = subst (λ (e : Entry). CoreGoes s.core e.client (told e.deed) new) (sym c.filled-entry.ensures) goes in
    let last : vec_len s.notes ≡ length (map (λ n. entry_in n.known) s.notes.items) = s.notes.ok.0 ∙ sym (length-map s.notes.items (λ n. entry_in n.known)) in
    appends s c.append.result c.filled-entry.result.value (vec_len s.notes) c.append.ensures.receipt c.append.ensures.entries last told_so
