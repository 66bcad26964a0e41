use Rattle.overlay_core.proofs.TempFits.{closed-fit}
use Rattle.overlay_core.proofs.stepping.let_go.Goals as goal

pub returns-clause-temps : goal.returns-clause-temps
returns-clause-temps c = λ lowers temps.
    closed-fit lowers c.args.work.now c.end.new.self c.number.result c.client.result
    c.end.ensures.table c.end.ensures.numbers temps
