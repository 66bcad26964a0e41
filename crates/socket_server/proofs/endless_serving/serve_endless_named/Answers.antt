use Rattle.std.proofs.Common.{refl}
use Rattle.overlay_core.specs.LegalHistories.{opening_of}
use Rattle.locked_history.specs.Entries.{history_of}
use Rattle.endless_mount.specs.Names.{blank_core}
use Rattle.socket_server.proofs.Ends.{named_legal}
use Rattle.socket_server.proofs.endless_serving.serve_endless_named.Goals as goal

pub keep-requires : goal.keep-requires
keep-requires g c = (
  opening_of (blank_core c.args.blank),
  history_of c.in_ok-core.history,
  c.requires.taken,
  named_legal _ _ _ _ _ c.requires.named.opening refl c.in_ok-core.ensures.legal,
)

pub returns-clause-served : goal.returns-clause-served
returns-clause-served g c =
    let history = c.in_ok-core.history in
    let legal = named_legal _ _ _ _ _ c.requires.named.opening refl c.in_ok-core.ensures.legal in (
      history,
      record { last = c.in_ok-core.core; legal = legal },
      c.keep.ensures (opening_of (blank_core c.args.blank)) (history_of history) c.requires.taken legal,
      c.in_ok-core.ensures.served,
    )

pub returns-clause-stopped : goal.returns-clause-stopped
returns-clause-stopped g c = c.in_ok-core.ensures.stopped
