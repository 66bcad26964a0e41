use Rattle.std.proofs.Common.{◌∙◌, ap, ap₂}
use Rattle.std.proofs.lemmas.Result.{IfOk-weaker}
use Rattle.clap.specs.Simple.{App, with_subcommand}
use Rattle.command_line.proofs.arguments.overlayd.Goals as goal

pub returns : goal.returns
returns c =
    IfOk-weaker c.subcommand.result _ _
    (λ r added. added.shape c.in_ok-serve.ensures.local
    ∙ ap₂ with_subcommand c.in_ok-command.ensures (ap (λ (a : App). a.top) c.in_ok-serve.ensures.app))
    c.subcommand.ensures
