use Rattle.ov_embedded.proofs.Jobs.{drops_done}
use Rattle.ov_embedded.proofs.mounted.Mounted.give_up.Goals as goal

pub returns-then-let_go : goal.returns-then-let_go
returns-then-let_go c =
    let gone = c.let_go in
    drops_done c.args.number c.args.self.now gone.new.self gone.result gone.ensures.was
    c.if-let_go.true gone.ensures.core gone.ensures.work gone.ensures.gone gone.ensures.others
    gone.ensures.reply
