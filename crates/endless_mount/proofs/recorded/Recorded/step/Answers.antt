use Rattle.std.proofs.Common.{arith, ◌≡◌, ◌∙◌, ℕ, ◌+◌, suc, refl, subst, sym, ap, Some, is_some, length, length-append}
use Rattle.ov_base.specs.Calls.{Call}
use Rattle.plain_model.specs.Runs as runs
use Rattle.overlay_core.specs.Views.{CoreGoes}
use Rattle.locked_history.specs.declared.entry.Deed.TheVariants.{Called}
use Rattle.locked_history.specs.Entries.{history_of}
use Rattle.overlay_core.proofs.LegalHistories.{legal_stays}
use Rattle.endless_mount.specs.Numbered.{next_number}
use Rattle.endless_mount.specs.declared.recorded.Answered.{Answered}
use Rattle.endless_mount.proofs.Numbering.{kept_there, numbers_call, numbers_stay}
use Rattle.endless_mount.proofs.Growing.{history_push, legal_due}
use Rattle.endless_mount.proofs.recorded.Recorded.step.Goals as goal

pub invariant_of-self : goal.invariant_of-self
invariant_of-self g c =
    let s = c.args.self.now in
    let e = c.in-More.ensures in
    record {
      legal = legal_stays s.core c.advance.new.self s.legal e.turn.0 e.kept;
      due = numbers_stay s.due e.clients;
      given_is = e.clients.next ∙ s.given_is;
      finished = e.finished ∙ s.finished;
      few = s.few;
      fits = s.fits;
    }

pub invariant_of-self-in-NoMemory : goal.invariant_of-self-in-NoMemory
invariant_of-self-in-NoMemory g c =
    let s = c.args.self.now in
    let e = c.in-NoMemory.ensures in
    record {
      legal = legal_stays s.core c.advance.new.self s.legal e.turn.0 e.kept;
      due = numbers_stay s.due e.clients;
      given_is = e.clients.next ∙ s.given_is;
      finished = e.finished ∙ s.finished;
      few = s.few;
      fits = s.fits;
    }

pub renumber-requires : goal.renumber-requires
renumber-requires g c = ap is_some (kept_there c.args.self.now.due c.args.session.client c.in_default.ensures.due.0.0)

pub invariant_of-self-in-Done : goal.invariant_of-self-in-Done
invariant_of-self-in-Done g c =
    let s = c.args.self.now in
    let client = c.args.session.client in
    let number = c.args.session.number in
    let due = c.in_default.ensures.due.0 in
    let e = c.in-Done.ensures in
    let new = c.advance.new.self in
    let call = c.into_call-in-Done.result in
    let reply = c.in-Done.reply in
    let made : CoreGoes s.core c.args.job.client (runs.Called call reply) new = subst (λ (k : Call). CoreGoes s.core c.args.job.client (runs.Called k reply) new) (sym (c.into_call-in-Done.ensures ∙ e.job.1)) e.turn.0 in
    let goes : CoreGoes s.core client (runs.Called call reply) new = subst (λ (n : ℕ). CoreGoes s.core n (runs.Called call reply) new) c.requires.client made in
    let entry : runs.Entry = record { client = client; number = number; deed = runs.Called call reply } in
    let up : number + 1 ≡ suc (next_number (history_of s.front) client) = omega (arith, due.1) in
    let long : length c.append-place.new.front ≡ length s.front + 1 = ap length c.append-place.ensures.entries ∙ length-append s.front _ in
    let push = history_push s.front (record { client = client; number = number; deed = Called call reply }) in
    record {
      legal = rw (c.append-place.ensures.entries, push) (legal_due s.core new client number (runs.Called call reply) s.legal s.due due.0 due.1 refl goes e.kept);
      due = rw (c.append-place.ensures.entries, push) (numbers_call entry s.due e.clients due.0 refl (c.renumber.ensures.kept ∙ ap (λ (n : ℕ). Some n) up) c.renumber.ensures.others);
      given_is = e.clients.next ∙ s.given_is;
      finished = omega (arith, e.finished, s.finished, long);
      few = omega (arith, s.few, c.renumber.ensures.len);
      fits = omega (arith, s.few, c.renumber.ensures.len, long, c.in_default.ensures.due.1);
    }

pub returns-in-NoMemory-clause-guarded : goal.returns-in-NoMemory-clause-guarded
returns-in-NoMemory-clause-guarded g c =
    let e = c.in-NoMemory.ensures in
    (c.advance.new.job, record { same = e.job; turns = e.turn; steps = e.steps; step = e.step; at_once = e.at_once; read_only = e.read_only; memory = e.memory; finished = e.finished; clients = e.clients; layers = e.layers; brings = e.brings; refused = e.refused; marks = e.marks; kept = e.kept })

pub returns-in-Done-clause-made : goal.returns-in-Done-clause-made
returns-in-Done-clause-made g c =
    let s = c.args.self.now in
    let e = c.in-Done.ensures in
    let new = c.advance.new.self in
    let call = c.into_call-in-Done.result in
    let reply = c.in-Done.reply in
    let call_is : call ≡ c.args.job.call = c.into_call-in-Done.ensures ∙ e.job.1 in
    let answered_is : c.answered_by.result ≡ record { place = c.append-place.result; reply = reply; call = call } = c.answered_by.ensures _ _ refl in
    let made : CoreGoes s.core c.args.job.client (runs.Called call reply) new = subst (λ (k : Call). CoreGoes s.core c.args.job.client (runs.Called k reply) new) (sym call_is) e.turn.0 in
    let goes : CoreGoes s.core c.args.session.client (runs.Called call reply) new = subst (λ (n : ℕ). CoreGoes s.core n (runs.Called call reply) new) c.requires.client made in
    rw (answered_is, ← call_is) (record { entries = c.append-place.ensures.entries; place = c.append-place.ensures.place; goes = goes })

pub returns-in-Done-clause-guarded : goal.returns-in-Done-clause-guarded
returns-in-Done-clause-guarded g c =
    let e = c.in-Done.ensures in
    let reply = c.in-Done.reply in
    let same : c.answered_by.result.reply ≡ reply = ap (λ (a : Answered). a.reply) (c.answered_by.ensures _ _ refl) in
    (c.advance.new.job, rw same (record { same = e.job; turns = e.turn; steps = e.steps; step = e.step; at_once = e.at_once; read_only = e.read_only; memory = e.memory; finished = e.finished; clients = e.clients; layers = e.layers; brings = e.brings; refused = e.refused; marks = e.marks; kept = e.kept }))
