use Rattle.std.proofs.Common.{◌∙◌, codes, refl, sym}
use Rattle.clap.specs.Matches.{found_of}
use Rattle.clap.proofs.WalkLemmas.{first_value-rows}
use Rattle.command_line.proofs.Told.{flag, told, told_if}
use Rattle.command_line.proofs.arguments.serving_of.Goals as goal

pub returns-clause-asks : goal.returns-clause-asks
returns-clause-asks c =
    let found = found_of c.args.matches.now in record {
      socket_named = sym (first_value-rows found (codes "SOCKET")) ∙ sym c.in_ok-socket.ensures;
      workers_told = told found (codes "workers") _ c.in_ok-workers.workers refl
          c.in_ok-workers.ensures.none c.in_ok-workers.ensures.value;
      sessions_told = told_if found (codes "sessions") c.try_get_one.result
          c.in_ok-sessions.sessions c.in_ok-sessions.ensures.value c.try_get_one.ensures.none
          c.try_get_one.ensures.value;
      history_told = c.in_ok-history.ensures;
      keeps_none = flag found (codes "no-history") c.get_flag-no_history.result
          c.get_flag-no_history.ensures.value c.get_flag-no_history.ensures.other
          c.get_flag-no_history.ensures.none;
      idle_told = told_if found (codes "idle") c.try_get_one-2.result c.in_ok-idle.idle
          c.in_ok-idle.ensures.value c.try_get_one-2.ensures.none c.try_get_one-2.ensures.value;
      refuses = flag found (codes "refuse") c.get_flag-refuse.result
          c.get_flag-refuse.ensures.value c.get_flag-refuse.ensures.other
          c.get_flag-refuse.ensures.none;
      unlinks = flag found (codes "unlink") c.get_flag-unlink.result
          c.get_flag-unlink.ensures.value c.get_flag-unlink.ensures.other
          c.get_flag-unlink.ensures.none;
      ends = flag found (codes "until-eof") c.get_flag-until_eof.result
          c.get_flag-until_eof.ensures.value c.get_flag-until_eof.ensures.other
          c.get_flag-until_eof.ensures.none;
      saves = sym (first_value-rows found (codes "save")) ∙ sym c.get_str-save.ensures;
      status_named = sym (first_value-rows found (codes "status")) ∙ sym c.get_str-status.ensures;
      tells = flag found (codes "verbose") c.get_flag-verbose.result
          c.get_flag-verbose.ensures.value c.get_flag-verbose.ensures.other
          c.get_flag-verbose.ensures.none;
    }
