use Rattle.std.proofs.Common.{◌∙◌, ap, refl, sym}
use Rattle.overlay_core.proofs.Histories.{kept_places}
use Rattle.locked_history.proofs.Boxes.{boxes_stay}
use Rattle.overlay_core.proofs.LegalHistories.{legal_stays, same_clients, same_keeps, same_stays}
use Rattle.overlay_core.proofs.Numbering.{numbers_stay}
use Rattle.locked_history.proofs.locked.Locked.give_up.Goals as goal

pub invariant_of-self : goal.invariant_of-self
invariant_of-self g c =
    let s = c.args.self.now in
    let e = c.drop_job.ensures.same in
    let new = c.drop_job.new.self in
    let k = same_clients s.core new e in
    record {
      legal = legal_stays s.core new s.legal (same_stays s.core new e) (same_keeps s.core new e);
      due = numbers_stay s.due k;
      names = s.names;
      known = s.known;
      numbers_long = s.numbers_long ∙ sym k.next;
      numbers_room = s.numbers_room;
      spare = boxes_stay s.boxes.items s.spare k;
      boxes_long = s.boxes_long ∙ sym k.next;
      boxes_room = s.boxes_room;
      finished = e.finished ∙ s.finished;
      history = ap (λ o. o.history) e.options ∙ s.history;
      places = kept_places s.core new e.options k e.finished s.places;
      notes_room = s.notes_room;
      total = s.total;
      parts = s.parts;
      amount = s.amount;
    }

pub returns-clause-stays : goal.returns-clause-stays
returns-clause-stays g c =
    let s = c.args.self.now in
    let e = c.drop_job.ensures.same in
    let new = c.drop_job.new.self in
    record {
      entries = refl;
      core = same_stays s.core new e;
      clients = same_clients s.core new e;
      finished = e.finished;
    }

pub returns-clause-gives_up : goal.returns-clause-gives_up
returns-clause-gives_up g c = record { same = c.drop_job.ensures.same; work = c.drop_job.ensures.work }
