use Rattle.std.proofs.Common.{ap}
use Rattle.mount_calls.specs.declared.mount.Mount.{Mount}
use Rattle.overlay_core.proofs.Instances.{has-instance}
use Rattle.overlay_core.proofs.Leaving.{goes-detached, muted-followed, none-open, none-tracked}
use Rattle.overlay_core.proofs.watched.Watched.detach.Goals as goal

pub muted-hooks-requires : goal.muted-hooks-requires
muted-hooks-requires g c = has-instance c.args.self.now.mount c.args.self.now.notifier c.args.client c.requires.state c.requires.there

pub shut_each-requires-clause-state : goal.shut_each-requires-clause-state
shut_each-requires-clause-state g c =
    muted-followed c.args.self.now.mount c.args.self.now.notifier c.muted-hooks.new.self c.args.client c.requires.state
    c.muted-hooks.ensures.mutes c.lawful.ensures.known

pub depart-requires : goal.depart-requires
depart-requires g c =
    let has = muted-followed c.args.self.now.mount c.args.self.now.notifier c.muted-hooks.new.self c.args.client c.requires.state
    c.muted-hooks.ensures.mutes c.lawful.ensures.known in
    none-open g.R.Rule.shows c.args.self.now.mount c.shut_each.new.self.mount c.muted-hooks.new.self c.shut_each.new.self.notifier c.args.client has
    c.shut_each.ensures.closes

pub depart-requires-2 : goal.depart-requires-2
depart-requires-2 g c =
    let has = muted-followed c.args.self.now.mount c.args.self.now.notifier c.muted-hooks.new.self c.args.client c.requires.state
    c.muted-hooks.ensures.mutes c.lawful.ensures.known in
    none-tracked g.R.Rule.shows c.args.self.now.mount c.shut_each.new.self.mount c.muted-hooks.new.self c.shut_each.new.self.notifier c.args.client
    has c.shut_each.ensures.closes

pub returns-clause-detached : goal.returns-clause-detached
returns-clause-detached g c =
    goes-detached g.R.Rule.shows c.args.self.now.mount c.shut_each.new.self.mount c.depart.new.self c.args.self.now.notifier c.muted-hooks.new.self
    c.shut_each.new.self.notifier c.depart-2.new.self c.args.client c.requires.there c.muted-hooks.ensures.mutes c.lawful.ensures.known
    c.shut_each.ensures.closes c.depart.ensures.gone (ap (λ (m : Mount). m.layers) c.depart.ensures.only) c.depart-2.ensures c.lawful-2.ensures.known
