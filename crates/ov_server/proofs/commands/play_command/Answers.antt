use Rattle.std.proofs.Common.{◌≡◌, IfErr, IsErr, IsOk, OnErr, OnOk, Result, Ok, Err, false, true, refl}
use Rattle.ov_script.specs.declared.script.BadCommand.{BadCommand}
use Rattle.ov_script.specs.declared.script.Command.{Command}
use Rattle.watch_table.specs.declared.hook.Callback.{Ghosts as Callback}
use Rattle.watch_table.specs.declared.hook.Rule.{Ghosts as Rule}
use Rattle.ov_server.specs.Plays.{CannotPlay, IsCommandRefusal, bad_line}
use Rattle.ov_server.specs.declared.commands.LineFault.{LineFault}
use Rattle.ov_server.specs.declared.commands.LineFault.TheVariants as line
use Rattle.ov_server.specs.declared.stage.Stage.{Stage}
use Rattle.ov_server.proofs.commands.play_command.Goals as goal

-- where an answer was put out, its command was played
played : {T : Type 0} (put : Result (Unit {0}) LineFault) (answer : Result T BadCommand) (P : Type 0) → OnOk put (IsOk answer) → OnOk answer P → OnOk put P
played (Ok x) (Ok y) P was is = is
played (Ok x) (Err e) P was is = let no : false ≡ true = was in cc
played (Err e) answer P was is = tt

-- and where it was refused as a bad line, it cannot be
refused : {T F G : Type 0} {asks : Callback F} {rule : Rule G} (m : Stage F G asks rule) (command asked : Command) (put : Result (Unit {0}) LineFault) (answer : Result T BadCommand) → command ≡ asked → IfErr put (λ fault. fault ≡ bad_line → IsErr answer) → OnErr answer (CannotPlay m asked) → IfErr put (IsCommandRefusal m command)
refused m command asked (Ok x) answer same was is = tt
refused m command asked (Err line.BadCommand) (Ok y) same was is = let no : false ≡ true = was refl in cc
refused m command asked (Err line.BadCommand) (Err e) same was is = rw same is
refused m command asked (Err (line.Device fault)) answer same was is = tt

pub returns-in-Detach-clause-ok : goal.returns-in-Detach-clause-ok
returns-in-Detach-clause-ok g c =
    rw c.in-Detach.is (played c.put_played.result c.detached.result _ c.put_played.ensures.ok c.detached.ensures.ok)

pub returns-in-Detach-clause-err : goal.returns-in-Detach-clause-err
returns-in-Detach-clause-err g c =
    refused c.args.stage.now c.args.command _ c.put_played.result c.detached.result c.in-Detach.is
    c.put_played.ensures.err c.detached.ensures.err

pub returns-in-Call-clause-ok : goal.returns-in-Call-clause-ok
returns-in-Call-clause-ok g c =
    rw c.in-Call.is (played c.put_played-in-Call.result c.called.result _ c.put_played-in-Call.ensures.ok c.called.ensures.ok)

pub returns-in-Call-clause-err : goal.returns-in-Call-clause-err
returns-in-Call-clause-err g c =
    refused c.args.stage.now c.args.command _ c.put_played-in-Call.result c.called.result c.in-Call.is
    c.put_played-in-Call.ensures.err c.called.ensures.err

pub returns-in-Start-clause-ok : goal.returns-in-Start-clause-ok
returns-in-Start-clause-ok g c =
    rw c.in-Start.is (played c.put_started.result c.started.result _ c.put_started.ensures.ok c.started.ensures.ok)

pub returns-in-Start-clause-err : goal.returns-in-Start-clause-err
returns-in-Start-clause-err g c =
    refused c.args.stage.now c.args.command _ c.put_started.result c.started.result c.in-Start.is
    c.put_started.ensures.err c.started.ensures.err

pub returns-in-Step-clause-ok : goal.returns-in-Step-clause-ok
returns-in-Step-clause-ok g c =
    rw c.in-Step.is (played c.put_played-in-Step.result c.stepped.result _ c.put_played-in-Step.ensures.ok c.stepped.ensures.ok)

pub returns-in-Step-clause-err : goal.returns-in-Step-clause-err
returns-in-Step-clause-err g c =
    refused c.args.stage.now c.args.command _ c.put_played-in-Step.result c.stepped.result c.in-Step.is
    c.put_played-in-Step.ensures.err c.stepped.ensures.err

pub returns-in-Drop-clause-ok : goal.returns-in-Drop-clause-ok
returns-in-Drop-clause-ok g c =
    rw c.in-Drop.is (played c.put_played-in-Drop.result c.dropped.result _ c.put_played-in-Drop.ensures.ok c.dropped.ensures.ok)

pub returns-in-Drop-clause-err : goal.returns-in-Drop-clause-err
returns-in-Drop-clause-err g c =
    refused c.args.stage.now c.args.command _ c.put_played-in-Drop.result c.dropped.result c.in-Drop.is
    c.put_played-in-Drop.ensures.err c.dropped.ensures.err
