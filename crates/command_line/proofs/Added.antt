-- A command with one more argument.
use Rattle.std.proofs.Common.{◌≡◌, ◌∙◌, ◌||◌, Bool, false, ap₂}
use Rattle.clap.specs.Built.{AddsArg}
use Rattle.clap.specs.Simple.{App, app_of, with_rule}
use Rattle.clap.specs.Walk.{Rule, rule_of}
use Rattle.clap.specs.declared.builder.arg.Arg.{Arg}
use Rattle.clap.specs.declared.builder.command.Command.{Command}
use Rattle.clap.specs.declared.builder.command.Command.TheViews.{out-Command}

-- a command with one more argument has its rule too
pub with_one : (old new : Command) (a : Arg) (before : App) (rule : Rule) → app_of old ≡ before
    → rule_of a ≡ rule → a.global ≡ false → AddsArg old a new → app_of new ≡ with_rule before rule
with_one old new a before rule was is local adds = adds.shape local ∙ ap₂ with_rule was is

-- and none that its subcommands have
pub still_local : (old new : Command) (a : Arg) → (out-Command old).has_globals ≡ false
    → a.global ≡ false → AddsArg old a new → (out-Command new).has_globals ≡ false
still_local old new a was local adds = adds.globals ∙ ap₂ (λ (x y : Bool). x || y) was local
