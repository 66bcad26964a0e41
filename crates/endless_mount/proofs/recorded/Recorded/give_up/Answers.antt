use Rattle.std.proofs.Common.{◌∙◌, refl}
use Rattle.overlay_core.proofs.LegalHistories.{legal_stays, same_clients, same_keeps, same_stays}
use Rattle.endless_mount.proofs.Numbering.{numbers_stay}
use Rattle.endless_mount.proofs.recorded.Recorded.give_up.Goals as goal

pub invariant_of-self : goal.invariant_of-self
invariant_of-self g c =
    let s = c.args.self.now in
    let e = c.drop_job.ensures.same in
    let new = c.drop_job.new.self in
    let k = same_clients s.core new e in
    record {
      legal = legal_stays s.core new s.legal (same_stays s.core new e) (same_keeps s.core new e);
      due = numbers_stay s.due k;
      given_is = k.next ∙ s.given_is;
      finished = e.finished ∙ s.finished;
      few = s.few;
      fits = s.fits;
    }

pub returns-clause-stays : goal.returns-clause-stays
returns-clause-stays g c =
    let s = c.args.self.now in
    let e = c.drop_job.ensures.same in
    let new = c.drop_job.new.self in
    record {
      entries = refl;
      core = same_stays s.core new e;
      clients = same_clients s.core new e;
      finished = e.finished;
    }

pub returns-clause-gives_up : goal.returns-clause-gives_up
returns-clause-gives_up g c = record { same = c.drop_job.ensures.same; work = c.drop_job.ensures.work }
