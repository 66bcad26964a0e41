use Rattle.std.proofs.Common.{arith, ◌≡◌, ◌∙◌, ℕ, ◌+◌, ◌-◌, ◌<◌, ap, inr, is_some, length, map, refl, subst, sym, vec_len}
use Rattle.std.proofs.lemmas.List.{length-map}
use Rattle.ov_base.specs.Calls.{Call}
use Rattle.plain_model.specs.Runs as runs
use Rattle.overlay_core.specs.Views.{CoreGoes, client_count, core_clients, core_finished, core_options, next_client}
use Rattle.overlay_core.proofs.Histories.{few, kept_places, step_places}
use Rattle.locked_history.specs.declared.entry.Deed.TheVariants.{Called}
use Rattle.locked_history.specs.declared.entry.Entry.{Entry}
use Rattle.locked_history.specs.Claims.{Claim}
use Rattle.locked_history.specs.Entries.{entry_in, told}
use Rattle.locked_history.proofs.Boxes.{boxes_stay}
use Rattle.overlay_core.proofs.LegalHistories.{legal_due, legal_stays}
use Rattle.overlay_core.proofs.Numbering.{number_is, numbers_call, numbers_stay}
use Rattle.locked_history.proofs.Growing.{appends, history_push, known_push, names_push}
use Rattle.locked_history.proofs.Guarding.{refused_step}
use Rattle.locked_history.proofs.locked.Locked.step.Goals as goal

pub advance-requires-clause-bound : goal.advance-requires-clause-bound
advance-requires-clause-bound g c = few c.args.self.now.core c.args.self.now.places

pub invariant_of-self-clause-legal : goal.invariant_of-self-clause-legal
invariant_of-self-clause-legal g c = legal_stays c.args.self.now.core c.advance.new.self c.args.self.now.legal c.in-More.ensures.turn.0 c.in-More.ensures.kept

pub invariant_of-self-clause-due : goal.invariant_of-self-clause-due
invariant_of-self-clause-due g c = numbers_stay c.args.self.now.due c.in-More.ensures.clients

pub invariant_of-self-clause-spare : goal.invariant_of-self-clause-spare
invariant_of-self-clause-spare g c = boxes_stay c.args.self.now.boxes.items c.args.self.now.spare c.in-More.ensures.clients

pub invariant_of-self-clause-places : goal.invariant_of-self-clause-places
invariant_of-self-clause-places g c = kept_places c.args.self.now.core c.advance.new.self c.in-More.ensures.kept.options c.in-More.ensures.clients c.in-More.ensures.finished c.args.self.now.places

pub invariant_of-self-in-NoMemory-clause-legal : goal.invariant_of-self-in-NoMemory-clause-legal
invariant_of-self-in-NoMemory-clause-legal g c = legal_stays c.args.self.now.core c.advance.new.self c.args.self.now.legal c.in-NoMemory.ensures.turn.0 c.in-NoMemory.ensures.kept

pub invariant_of-self-in-NoMemory-clause-due : goal.invariant_of-self-in-NoMemory-clause-due
invariant_of-self-in-NoMemory-clause-due g c = numbers_stay c.args.self.now.due c.in-NoMemory.ensures.clients

pub invariant_of-self-in-NoMemory-clause-spare : goal.invariant_of-self-in-NoMemory-clause-spare
invariant_of-self-in-NoMemory-clause-spare g c = boxes_stay c.args.self.now.boxes.items c.args.self.now.spare c.in-NoMemory.ensures.clients

pub invariant_of-self-in-NoMemory-clause-places : goal.invariant_of-self-in-NoMemory-clause-places
invariant_of-self-in-NoMemory-clause-places g c = kept_places c.args.self.now.core c.advance.new.self c.in-NoMemory.ensures.kept.options c.in-NoMemory.ensures.clients c.in-NoMemory.ensures.finished c.args.self.now.places

pub invariant_of-self-in-Done-clause-legal : goal.invariant_of-self-in-Done-clause-legal
invariant_of-self-in-Done-clause-legal g c =
    let s = c.args.self.now in
    let client = c.args.session.client in
    let number = c.args.session.number in
    let due = c.in-Ok.ensures.due.0 in
    let new = c.advance.new.self in
    let call = c.into_call-in-Done.result in
    let reply = c.in-Done.reply in
    let made : CoreGoes s.core c.args.job.client (runs.Called call reply) new = subst (λ (k : Call). CoreGoes s.core c.args.job.client (runs.Called k reply) new) (sym (c.into_call-in-Done.ensures ∙ c.in-Done.ensures.job.1)) c.in-Done.ensures.turn.0 in
    let goes : CoreGoes s.core client (runs.Called call reply) new = subst (λ (n : ℕ). CoreGoes s.core n (runs.Called call reply) new) c.requires.client made in
    rw (c.append.ensures.entries, c.filled-entry.ensures, history_push (map (λ n. entry_in n.known) s.notes.items) (record { client = client; number = number; deed = Called call reply })) (legal_due s.core new client number (runs.Called call reply) s.legal s.due due.0 (number_is s.due client due.0 ∙ sym due.1) refl goes c.in-Done.ensures.kept)

pub invariant_of-self-in-Done-clause-due : goal.invariant_of-self-in-Done-clause-due
invariant_of-self-in-Done-clause-due g c =
    let s = c.args.self.now in
    let client = c.args.session.client in
    let number = c.args.session.number in
    let due = c.in-Ok.ensures.due.0 in
    let call = c.into_call-in-Done.result in
    let reply = c.in-Done.reply in
    let below = (core_clients s.core).rising client due.0 in
    let lt : client < length s.numbers.items = omega (arith, below, s.numbers_long, s.numbers.ok.0) in
    let long : length s.numbers.items ≡ next_client s.core = omega (arith, s.numbers_long, s.numbers.ok.0) in
    let e : runs.Entry = record { client = client; number = number; deed = runs.Called call reply } in
    rw (c.append.ensures.entries, c.filled-entry.ensures, history_push (map (λ n. entry_in n.known) s.notes.items) (record { client = client; number = number; deed = Called call reply })) (numbers_call e s.due c.in-Done.ensures.clients due.0 lt long (number_is s.due client due.0 ∙ sym due.1) refl)

pub invariant_of-self-in-Done-clause-names : goal.invariant_of-self-in-Done-clause-names
invariant_of-self-in-Done-clause-names g c =
    let s = c.args.self.now in
    let place : 0 < (core_options s.core).history - (core_finished s.core + client_count s.core) = c.in-Ok.ensures.due.1 in
    rw (c.append.ensures.names, c.append.ensures.long.0) (names_push _ g.N.MountName.cells (vec_len s.notes) s.names (omega (arith, place, s.history, s.finished)))

pub invariant_of-self-in-Done-clause-known : goal.invariant_of-self-in-Done-clause-known
invariant_of-self-in-Done-clause-known g c = known_push (λ n. is_some n.known) c.args.self.now.notes.items c.append.new.notes.items c.append.ensures.known c.args.self.now.known

pub invariant_of-self-in-Done-clause-places : goal.invariant_of-self-in-Done-clause-places
invariant_of-self-in-Done-clause-places g c = step_places c.args.self.now.core c.advance.new.self c.in-Done.ensures.kept.options c.advance.result c.in-Done.ensures.clients c.in-Ok.ensures.due.1 c.advance.ensures.finished c.args.self.now.places

pub invariant_of-self-in-Done-clause-spare : goal.invariant_of-self-in-Done-clause-spare
invariant_of-self-in-Done-clause-spare g c = boxes_stay c.args.self.now.boxes.items c.args.self.now.spare c.in-Done.ensures.clients

pub returns-in-Done-clause-made : goal.returns-in-Done-clause-made
returns-in-Done-clause-made g c =
    let s = c.args.self.now in
    let new = c.advance.new.self in
    let call = c.into_call-in-Done.result in
    let reply = c.in-Done.reply in
    let made : CoreGoes s.core c.args.job.client (runs.Called call reply) new = subst (λ (k : Call). CoreGoes s.core c.args.job.client (runs.Called k reply) new) (sym (c.into_call-in-Done.ensures ∙ c.in-Done.ensures.job.1)) c.in-Done.ensures.turn.0 in
    let goes : CoreGoes s.core c.args.session.client (runs.Called call reply) new = subst (λ (n : ℕ). CoreGoes s.core n (runs.Called call reply) new) c.requires.client made in
    let told_so = subst (λ (e : Entry). CoreGoes s.core e.client (told e.deed) new) (sym c.filled-entry.ensures) goes in
    let last : vec_len s.notes ≡ length (map (λ n. entry_in n.known) s.notes.items) = s.notes.ok.0 ∙ sym (length-map s.notes.items (λ n. entry_in n.known)) in
    appends s c.append.result c.filled-entry.result.value (vec_len s.notes) c.append.ensures.receipt c.append.ensures.entries last told_so

pub returns-in-Err-clause-guarded : goal.returns-in-Err-clause-guarded
returns-in-Err-clause-guarded g c =
    let s = c.args.self.now in
    let e = c.in-Err.ensures in
    refused_step (map (λ n. entry_in n.known) s.notes.items) s.core c.args.job c.args.room c.give_up.new.self.core c.in-Err.why c.args.session.client c.args.session.number c.give_up.ensures.gives_up e.refused e.memory

pub returns-in-NoMemory-clause-guarded : goal.returns-in-NoMemory-clause-guarded
returns-in-NoMemory-clause-guarded g c =
    let e = c.in-NoMemory.ensures in
    inr (c.advance.new.job, record { same = e.job; turns = e.turn; steps = e.steps; step = e.step; at_once = e.at_once; read_only = e.read_only; memory = e.memory; finished = e.finished; clients = e.clients; layers = e.layers; brings = e.brings; refused = e.refused; marks = e.marks; kept = e.kept })

pub returns-in-More-clause-guarded : goal.returns-in-More-clause-guarded
returns-in-More-clause-guarded g c =
    let e = c.in-More.ensures in
    record { same = e.job; turns = e.turn; steps = e.steps; step = e.step; at_once = e.at_once; read_only = e.read_only; memory = e.memory; finished = e.finished; clients = e.clients; layers = e.layers; brings = e.brings; refused = e.refused; marks = e.marks; kept = e.kept }

pub returns-in-Done-clause-guarded : goal.returns-in-Done-clause-guarded
returns-in-Done-clause-guarded g c =
    let e = c.in-Done.ensures in
    let reply = c.in-Done.reply in
    let deed = ap (λ (r : Claim). r.entry.deed) c.append.ensures.receipt ∙ ap (λ (n : Entry). n.deed) c.filled-entry.ensures ∙ ap (λ (k : Call). Called k reply) (c.into_call-in-Done.ensures ∙ e.job.1) in
    (reply, deed, (c.advance.new.job, record { same = e.job; turns = e.turn; steps = e.steps; step = e.step; at_once = e.at_once; read_only = e.read_only; memory = e.memory; finished = e.finished; clients = e.clients; layers = e.layers; brings = e.brings; refused = e.refused; marks = e.marks; kept = e.kept }))
