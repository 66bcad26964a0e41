use Rattle.std.proofs.Common.{arith, ◌≡◌, length}
use Rattle.plain_model.specs.Machine.{handles_of}
use Rattle.overlay_core.proofs.Leaving.{below-followed, closes-each, closes-next, closes-none, others-on, others-same, paths-on, paths-same, slots-of}
use Rattle.overlay_core.proofs.watched.Watched.shut_each.Goals as goal

pub loop-descriptor-init : goal.loop-descriptor-init
loop-descriptor-init g c =
    let m = c.args.self.now.mount in
    record {
      closes = λ s f. closes-none g.R.Rule.shows m c.args.self.now.notifier s c.args.client f;
      others = others-same m.clients c.args.client;
      paths = paths-same m.layers;
      thin = λ thin. thin;
    }

pub shut-requires-clause-there : goal.shut-requires-clause-there
shut-requires-clause-there g c = c.loop-descriptor.invariant.others.attached c.requires.there

pub shut-requires-clause-state : goal.shut-requires-clause-state
shut-requires-clause-state g c =
    below-followed g.R.Rule.shows c.args.self.now.mount c.loop-descriptor.self.mount c.args.self.now.notifier c.loop-descriptor.self.notifier
    c.args.client c.loop-descriptor.descriptor c.requires.state c.loop-descriptor.invariant.closes

pub loop-descriptor-preserved : goal.loop-descriptor-preserved
loop-descriptor-preserved g c =
    let I = c.loop-descriptor.invariant in
    let old = c.args.self.now in
    let mid = c.loop-descriptor.self in
    let new = c.shut.new.self in
    record {
      closes = λ s f.
          let room : length (handles_of s.tables c.args.client) ≡ 64 = slots-of old.mount old.notifier s c.args.client c.requires.there f in
          closes-next g.R.Rule.shows s mid.mount new.mount mid.notifier new.notifier c.args.client c.loop-descriptor.descriptor (I.closes s f)
          (omega arith) c.shut.result c.shut.ensures.shuts;
      others = others-on old.mount.clients mid.mount.clients new.mount.clients c.args.client I.others c.shut.ensures.others;
      paths = paths-on old.mount.layers mid.mount.layers new.mount.layers I.paths c.shut.ensures.paths;
      thin = λ thin. c.shut.ensures.thin (I.thin thin);
    }

pub returns-clause-closes : goal.returns-clause-closes
returns-clause-closes g c = λ s f.
    let old = c.args.self.now in
    let room : length (handles_of s.tables c.args.client) ≡ 64 = slots-of old.mount old.notifier s c.args.client c.requires.there f in
    closes-each g.R.Rule.shows s c.loop-descriptor.self.mount c.loop-descriptor.self.notifier c.args.client c.loop-descriptor.descriptor (omega arith)
    (c.loop-descriptor.invariant.closes s f)

pub returns-clause-others : goal.returns-clause-others
returns-clause-others g c = c.loop-descriptor.invariant.others

pub returns-clause-paths : goal.returns-clause-paths
returns-clause-paths g c = c.loop-descriptor.invariant.paths

pub returns-clause-thin : goal.returns-clause-thin
returns-clause-thin g c = c.loop-descriptor.invariant.thin
