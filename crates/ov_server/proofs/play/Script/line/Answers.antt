use Rattle.std.proofs.Common.{refl, subst}
use Rattle.ov_server.specs.declared.commands.LineFault.TheVariants as line
use Rattle.ov_server.specs.Plays.{IsRefusal}
use Rattle.ov_server.proofs.play.Script.line.Goals as goal

pub returns-in-Err-BadCommand-clause-err : goal.returns-in-Err-BadCommand-clause-err
returns-in-Err-BadCommand-clause-err g c =
    let told : IsRefusal c.args.self.now.stage c.as_slice.result.now c.in-Err-BadCommand.field-0 = rw c.in-Err-BadCommand.is at c.play_line-outcome.ensures.err in
    let bad : IsRefusal c.args.self.now.stage c.as_slice.result.now line.BadCommand = subst (IsRefusal c.args.self.now.stage c.as_slice.result.now) (rw c.in-Err-BadCommand.is at c.in-Err-BadCommand.field-0-is) told in
    (refl, subst (λ text. IsRefusal c.args.self.now.stage text line.BadCommand) c.as_slice.ensures.value bad)
