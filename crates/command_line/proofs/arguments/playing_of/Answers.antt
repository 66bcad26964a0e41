use Rattle.std.proofs.Common.{◌∙◌, codes, sym}
use Rattle.clap.specs.Matches.{found_of}
use Rattle.clap.proofs.WalkLemmas.{first_value-rows}
use Rattle.command_line.proofs.Told.{flag}
use Rattle.command_line.proofs.arguments.playing_of.Goals as goal

pub returns-clause-asks : goal.returns-clause-asks
returns-clause-asks c =
    let found = found_of c.args.matches.now in record {
      echoes = flag found (codes "echo") c.get_flag-echo.result c.get_flag-echo.ensures.value
          c.get_flag-echo.ensures.other c.get_flag-echo.ensures.none;
      script_named = sym (first_value-rows found (codes "script")) ∙ sym c.get_str-script.ensures;
    }
