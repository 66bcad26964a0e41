use Rattle.std.proofs.Common.{rules, ◌≡◌, false, Some, sym}
use Rattle.std.proofs.lemmas.Result.{on_ok_weaker}
use Rattle.ov_script.specs.Commands.{command_of}
use Rattle.ov_server.specs.Rosters.{is_skipped}
use Rattle.ov_server.proofs.Clients.{line_plays}
use Rattle.ov_server.proofs.commands.play_line.Goals as goal

pub returns-in_ok-command_of-clause-ok : goal.returns-in_ok-command_of-clause-ok
returns-in_ok-command_of-clause-ok g c =
    let skipped : is_skipped c.args.line.now ≡ false = search rules in
    let is : command_of c.args.line.now ≡ Some c.in_ok-command_of.field-0 = sym c.in_ok-command_of.ensures in
    on_ok_weaker c.play_command.result (λ (plays : _). line_plays c.args.stage.now c.play_command.new.stage c.args.line.now c.in_ok-command_of.field-0 skipped is plays) c.play_command.ensures.ok
