use Rattle.std.proofs.Common.{codes}
use Rattle.clap.specs.Matches.{found_of}
use Rattle.command_line.proofs.Told.{told_if}
use Rattle.command_line.proofs.arguments.history_of.Goals as goal

pub returns-in_ok-new-in-Some : goal.returns-in_ok-new-in-Some
returns-in_ok-new-in-Some c =
    let asked = told_if (found_of c.args.matches.now) (codes "history") c.try_get_one.result
    c.in_ok-told.told c.in_ok-told.ensures.value c.try_get_one.ensures.none
    c.try_get_one.ensures.value in
    rw c.in_ok-new-in-Some.ensures.some (rw c.in-Some.is at asked)

pub returns-in-None : goal.returns-in-None
returns-in-None c =
    let asked = told_if (found_of c.args.matches.now) (codes "history") c.try_get_one.result
    c.in_ok-told.told c.in_ok-told.ensures.value c.try_get_one.ensures.none
    c.try_get_one.ensures.value in
    rw c.in-None.is at asked
