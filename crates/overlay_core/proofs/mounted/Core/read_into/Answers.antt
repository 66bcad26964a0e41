use Rattle.std.proofs.Common.{false, ◌+◌, length, refl}
use Rattle.ov_base.specs.declared.call.CallOf.TheVariants.{Read}
use Rattle.plain_model.specs.Runs.{Called}
use Rattle.mount_calls.specs.Reading.{read_reply}
use Rattle.overlay_core.specs.Mounting.{machine_options}
use Rattle.overlay_core.proofs.Agreeing.{given-more, goes-on, has-begun, some-more, temps-on}
use Rattle.overlay_core.proofs.ReadOnly.{blank-on, goes-as}
use Rattle.overlay_core.proofs.ReadSteps.{same-held}
use Rattle.overlay_core.proofs.Waited.{none-waits}
use Rattle.overlay_core.proofs.mounted.Core.read_into.Goals as goal

pub invariant_of-self : goal.invariant_of-self
invariant_of-self g c =
    let core = c.args.self.now in
    let old = core.watched in
    let new = c.read_into-read.new.self in
    let made = c.read_into-read.ensures.performs in
    let k = Read c.args.descriptor (length c.args.room.now) in
    let r = read_reply c.read_into-read.result c.read_into-read.new.room in
    record {
      agrees = goes-on g.R.Rule.shows old.mount new.mount old.notifier new.notifier c.args.client (Called k r) core.agrees made.goes;
      begins = has-begun (core.finished + 1) (machine_options false core.options) new.mount new.notifier (some-more core.finished);
      given = given-more old.mount.clients.next new.mount.clients.next core.finished core.given made.kept.clients.next;
      short = core.short;
      waits = none-waits new.mount c.clear.new.self.items c.clear.ensures.items;
      temps = temps-on core.work old.mount.layers new.mount.layers made.kept.lowers core.temps;
      blank = blank-on core.read_only old.mount.layers new.mount.layers made.kept.lowers
          (same-held old.mount.layers new.mount.layers made.kept.layers.paths) core.blank;
      idle = core.idle;
    }

pub returns-clause-goes : goal.returns-clause-goes
returns-clause-goes g c =
    let core = c.args.self.now in
    let old = core.watched in
    let new = c.read_into-read.new.self in
    let k = Read c.args.descriptor (length c.args.room.now) in
    let r = read_reply c.read_into-read.result c.read_into-read.new.room in
    goes-as old.mount new.mount old.notifier new.notifier g.R.Rule.shows c.args.client (Called k r)
    core.read_only (λ only s a. refl) c.read_into-read.ensures.performs.goes

pub returns-clause-clients : goal.returns-clause-clients
returns-clause-clients g c = c.read_into-read.ensures.performs.kept.clients

pub returns-clause-layers : goal.returns-clause-layers
returns-clause-layers g c = c.read_into-read.ensures.performs.kept.layers

pub returns-clause-kept : goal.returns-clause-kept
returns-clause-kept g c =
    let made = c.read_into-read.ensures.performs in
    record { options = refl; read_only = refl; lowers = made.kept.lowers; thin = made.kept.thin }
