use Rattle.std.proofs.Common.{false, ◌+◌, ap, map, ◌∙◌}
use Rattle.plain_model.specs.Runs.{Detached}
use Rattle.overlay_core.specs.Mounting.{machine_options}
use Rattle.overlay_core.proofs.Agreeing.{given-more, goes-on, has-begun, some-more, temps-on}
use Rattle.merged_lookup.specs.Merged.{lowers_of}
use Rattle.overlay_core.proofs.TempFits.{forgotten-fit}
use Rattle.work_dir.specs.OpenJobs.{unless_of}
use Rattle.overlay_core.proofs.ReadOnly.{blank-on, goes-as}
use Rattle.overlay_core.proofs.Waited.{none-waits}
use Rattle.overlay_core.proofs.mounted.Core.detach.Goals as goal

pub invariant_of-self : goal.invariant_of-self
invariant_of-self g c =
    let old = c.args.self.now.watched in
    let new = c.detach.new.self in
    record {
      agrees = goes-on g.R.Rule.shows old.mount new.mount old.notifier new.notifier c.args.client Detached c.args.self.now.agrees c.detach.ensures.detached;
      begins = has-begun (c.args.self.now.finished + 1) (machine_options false c.args.self.now.options) new.mount new.notifier (some-more c.args.self.now.finished);
      given = given-more old.mount.clients.next new.mount.clients.next c.args.self.now.finished c.args.self.now.given c.detach.ensures.clients.next;
      short = c.args.self.now.short;
      waits = none-waits new.mount c.clear.new.self.items c.clear.ensures.items;
      temps = temps-on c.forget.new.self old.mount.layers new.mount.layers c.detach.ensures.layers.lowers
          (forgotten-fit (lowers_of old.mount.layers) c.args.self.now.work c.forget.new.self c.args.client c.forget.ensures.numbers c.args.self.now.temps);
      blank = blank-on c.args.self.now.read_only old.mount.layers new.mount.layers c.detach.ensures.layers.lowers c.detach.ensures.layers.objects c.args.self.now.blank;
      idle = λ only. c.forget.ensures.table ∙ ap (map (unless_of c.args.client)) (c.args.self.now.idle only);
    }

pub returns-clause-detached : goal.returns-clause-detached
returns-clause-detached g c =
    let old = c.args.self.now.watched in
    let new = c.detach.new.self in
    goes-as old.mount new.mount old.notifier new.notifier g.R.Rule.shows c.args.client Detached
    c.args.self.now.read_only (λ only s a. tt) c.detach.ensures.detached
