use Rattle.std.proofs.Common.{◌∙◌, ◌≡◌, true, sym, ap}
use Rattle.mount_calls.specs.declared.mount.Mount.{Mount}
use Rattle.plain_model.specs.Runs.{Detached}
use Rattle.overlay_core.specs.Views.{has_client}
use Rattle.ov_server.proofs.Clients.{detach_plays, same_layers}
use Rattle.overlay_core.proofs.Histories.{detach_places, few}
use Rattle.ov_server.proofs.Stages.{detached_others, order_gone, same_attached, same_detaches, same_goes, same_places, with_core}
use Rattle.ov_server.proofs.commands.detached.Goals as goal

pub detach-requires-clause-attached : goal.detach-requires-clause-attached
detach-requires-clause-attached g c = (same_attached c.args.stage.now.core c.drop_call.new.self.core c.drop_call.ensures.core).attached c.args.client ∙ sym c.is_attached.ensures ∙ c.if-not-is_attached.false

pub detach-requires-clause-bound : goal.detach-requires-clause-bound
detach-requires-clause-bound g c = few c.drop_call.new.self.core (same_places c.args.stage.now.core c.drop_call.new.self.core c.drop_call.ensures.core c.requires.places)

pub returns-clause-order : goal.returns-clause-order
returns-clause-order g c =
    let old = c.args.stage.now in
    let mid = c.drop_call.new.self in
    let core = c.detach.new.self in
    let same = c.drop_call.ensures.core in
    let kept = same_attached old.core mid.core same in
    let was : has_client mid.core c.args.client ≡ true = kept.attached c.args.client ∙ sym c.is_attached.ensures ∙ c.if-not-is_attached.false in
    let places = detach_places mid.core core c.detach.ensures.kept.options c.args.client was c.detach.ensures.clients c.detach.ensures.finished (same_places old.core mid.core same c.requires.places) in
    order_gone old (with_core mid core) c.requires c.args.client places (λ n differ is. detached_others mid.core core c.args.client c.detach.ensures.clients n differ (kept.attached n ∙ is)) c.drop_call.ensures.others c.drop_call.ensures.gone

pub returns-clause-ok : goal.returns-clause-ok
returns-clause-ok g c =
    let old = c.args.stage.now in
    let mid = c.drop_call.new.self in
    let core = c.detach.new.self in
    let same = c.drop_call.ensures.core in
    let lowers = c.detach.ensures.kept.lowers ∙ ap (λ (m : Mount). m.layers.lowers) same.mount in
    let layers = same_layers old.core core (c.detach.ensures.kept.read_only ∙ same.read_only) lowers in
    detach_plays old (with_core mid core) c.args.client (sym c.is_attached.ensures ∙ c.if-not-is_attached.false) (same_detaches old.core mid.core core c.args.client same c.detach.ensures.clients) layers c.drop_call.ensures.others c.drop_call.ensures.gone

pub returns-clause-goes : goal.returns-clause-goes
returns-clause-goes g c = same_goes c.args.stage.now.core c.drop_call.new.self.core c.detach.new.self c.args.client Detached c.drop_call.ensures.core c.detach.ensures.detached
