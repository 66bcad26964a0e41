use Rattle.std.proofs.Common.{arith, is_some, length, ◌<◌}
use Rattle.endless_mount.proofs.Fronts.{prefix_length, prefix_trans}
use Rattle.locked_history.specs.Claims.{IsAttachOf}
use Rattle.doors.specs.endless.Advancing.{standing}
use Rattle.socket_server.proofs.Clients.{one_guest_more, some_within}
use Rattle.socket_server.proofs.endless_service.EndlessService.run.Goals as goal

pub returns : goal.returns
returns g c tags closes count may new =
    let left = c.converse-left.result in
    let gone = is_some left.hooks in
    let client = c.args.client in
    let old = c.args.kept.now in
    let with_first = c.longer.result in
    let kept = c.longer-2.result in
    let here : client.place < length client.seen =
    some_within (λ entry. IsAttachOf entry client.session.client tags) client.seen client.place new.attached in
    let within : client.place < length kept =
    omega (
      arith,
      here,
      prefix_length client.seen with_first c.longer.ensures.that,
      prefix_length with_first kept c.longer-2.ensures.this,
    ) in
    rw c.is_some.ensures
    (one_guest_more tags closes gone count old kept client.place
    (standing left.session left.seen gone)
    (prefix_trans old with_first kept c.longer.ensures.this c.longer-2.ensures.this)
    c.requires.is_new within c.longer-2.ensures.that
    (c.converse-left.ensures tags closes may new))
