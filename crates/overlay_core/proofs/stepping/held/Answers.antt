use Rattle.std.proofs.Common.{rules, ◌≡◌, sym, ◌∙◌}
use Rattle.overlay_core.specs.Steps.{held_by}
use Rattle.overlay_core.proofs.TempFits.{closed-fit, held-fits}
use Rattle.overlay_core.proofs.stepping.held.Goals as goal

pub returns-then-begins-gt0-clause-temps : goal.returns-then-begins-gt0-clause-temps
returns-then-begins-gt0-clause-temps c = λ lowers temps.
    let is : c.close-temp.result ≡ held_by c.args.work.now c.args.job.now = search rules in (
      closed-fit lowers c.args.work.now c.close-temp.new.self c.number.result c.client.result
          c.close-temp.ensures.table c.close-temp.ensures.numbers temps,
      λ t e. held-fits lowers c.args.work.now c.args.job.now temps t (sym is ∙ e),
    )

pub returns-else-begins-gt0-clause-temps : goal.returns-else-begins-gt0-clause-temps
returns-else-begins-gt0-clause-temps c = λ lowers temps. (
  closed-fit lowers c.args.work.now c.close-temp.new.self c.number.result c.client.result
      c.close-temp.ensures.table c.close-temp.ensures.numbers temps,
  λ t e. cc,
)
