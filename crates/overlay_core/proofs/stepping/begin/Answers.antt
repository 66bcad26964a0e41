use Rattle.std.proofs.Common.{None, refl}
use Rattle.work_dir.specs.declared.next.Next.TheVariants.{Begin}
use Rattle.overlay_core.specs.declared.turn.Turn.TheVariants.{More, NoMemory}
use Rattle.overlay_core.proofs.StepsMade.{made-aside}
use Rattle.overlay_core.proofs.stepping.begin.Goals as goal

pub returns-in-Ok-clause-makes : goal.returns-in-Ok-clause-makes
returns-in-Ok-clause-makes g c = λ t.
    let kept = c.in-Ok.ensures.kept in
    made-aside g.R.Rule.shows c.args.watched.now c.args.work.now c.keep_begun.new.work c.args.job.now
    c.begin.new.self More (Begin c.args.source) t c.keep_begun.ensures.temps (λ s a. a, c.begin.ensures.standing) (
      record { number = c.in-Ok.number; known = c.begin.ensures.number; free = kept.0; kept = kept.1 },
      c.begin.ensures.counts,
      refl,
    ) (λ r is. cc)

pub returns-in-Err-clause-makes : goal.returns-in-Err-clause-makes
returns-in-Err-clause-makes g c = λ t.
    made-aside g.R.Rule.shows c.args.watched.now c.args.work.now c.keep_begun.new.work c.args.job.now
    c.end.new.self NoMemory (Begin c.args.source) t c.keep_begun.ensures.temps
    (λ s a. a, c.end.ensures.standing) ((λ is. cc), c.in-Err.ensures.same, c.end.ensures.number) (λ r is. cc)

pub keep_begun-requires-clause-can : goal.keep_begun-requires-clause-can
keep_begun-requires-clause-can g c = (c.requires.due None).1

pub begin-requires-clause-few : goal.begin-requires-clause-few
begin-requires-clause-few g c = (c.requires.due None).2
