use Rattle.std.proofs.Common.{◌∙◌, sym}
use Rattle.ov_server.proofs.Clients.{drop_plays}
use Rattle.ov_server.proofs.Stages.{same_keeps}
use Rattle.ov_server.proofs.stepping.dropped.Goals as goal

pub returns-clause-ok : goal.returns-clause-ok
returns-clause-ok g c =
    let old = c.args.stage.now in
    let new = c.drop_call.new.self in
    drop_plays old new c.args.client (same_keeps old.core new.core c.drop_call.ensures.core) (sym c.is_calling.ensures ∙ c.if-not-is_calling.false) c.drop_call.ensures.gone c.drop_call.ensures.others
