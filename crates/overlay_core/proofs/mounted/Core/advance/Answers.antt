use Rattle.std.proofs.Common.{false, ◌+◌, refl}
use Rattle.plain_model.specs.Refusals.{refusal}
use Rattle.overlay_core.specs.Mounting.{machine_options}
use Rattle.overlay_core.proofs.Agreeing.{
  given-more,
  given-same,
  has-begun,
  some-finished,
  some-more,
}
use Rattle.overlay_core.proofs.ReadOnly.{blank-on}
use Rattle.overlay_core.proofs.ReadSteps.{idle-on, none-there}
use Rattle.overlay_core.proofs.StepsMade.{after-made, brings-made}
use Rattle.overlay_core.proofs.mounted.Core.advance.Goals as goal

pub invariant_of-self : goal.invariant_of-self
invariant_of-self g c =
    let self = c.args.self.now in
    let old = self.watched in
    let new = c.step.new.watched in
    let job = c.args.job.now in
    let made = c.in-Done.ensures.makes.2 in
    record {
      agrees = after-made self.read_only g.R.Rule.shows old new _ _ _ _ _ _ _ self.agrees made;
      begins = has-begun (self.finished + 1) (machine_options false self.options) new.mount
          new.notifier (some-more self.finished);
      given = given-more old.mount.clients.next new.mount.clients.next self.finished self.given
          made.clients.next;
      short = self.short;
      waits = c.in-Done.ensures.waits;
      temps = made.temps;
      blank = λ only. blank-on self.read_only old.mount.layers new.mount.layers made.lowers
          (made.reads only).2 self.blank only;
      idle = λ only. idle-on self.work c.step.new.work job (made.reads only).1 (self.idle only);
    }

pub returns-in-Done-clause-turn : goal.returns-in-Done-clause-turn
returns-in-Done-clause-turn g c = c.in-Done.ensures.makes.2.turns

pub returns-in-Done-clause-step : goal.returns-in-Done-clause-step
returns-in-Done-clause-step g c = λ s a.
    rw (c.in-Done.ensures.makes.1 s a) c.in-Done.ensures.makes.2.steps

pub returns-in-Done-clause-kept : goal.returns-in-Done-clause-kept
returns-in-Done-clause-kept g c =
    let made = c.in-Done.ensures.makes.2 in
    record { options = refl; read_only = refl; lowers = made.lowers; thin = made.thin }

pub returns-in-Done-clause-layers : goal.returns-in-Done-clause-layers
returns-in-Done-clause-layers g c = c.in-Done.ensures.makes.2.layers

pub returns-in-Done-clause-brings : goal.returns-in-Done-clause-brings
returns-in-Done-clause-brings g c =
    brings-made c.args.self.now.read_only g.R.Rule.shows c.args.self.now.watched
    c.step.new.watched _ _ _ _ _ _ _ c.args.self.now.agrees c.in-Done.ensures.makes.2

pub returns-in-Done-clause-clients : goal.returns-in-Done-clause-clients
returns-in-Done-clause-clients g c = c.in-Done.ensures.makes.2.clients

pub returns-in-Done-clause-refused : goal.returns-in-Done-clause-refused
returns-in-Done-clause-refused g c = c.in-Done.ensures.makes.2.refused

pub returns-in-Done-clause-marks : goal.returns-in-Done-clause-marks
returns-in-Done-clause-marks g c = c.in-Done.ensures.makes.2.marks

pub invariant_of-self-in-More : goal.invariant_of-self-in-More
invariant_of-self-in-More g c =
    let self = c.args.self.now in
    let old = self.watched in
    let new = c.step.new.watched in
    let job = c.args.job.now in
    let made = c.in-More.ensures.makes.2 in
    let there = old.mount.clients.rising job.client c.requires.attached in
    record {
      agrees = after-made self.read_only g.R.Rule.shows old new _ _ _ _ _ _ _ self.agrees made;
      begins = has-begun self.finished (machine_options false self.options) new.mount
          new.notifier
          (some-finished job.client old.mount.clients.next self.finished there self.given);
      given = given-same old.mount.clients.next new.mount.clients.next self.finished self.given
          made.clients.next;
      short = self.short;
      waits = c.in-More.ensures.waits;
      temps = made.temps;
      blank = λ only. absurd ((made.reads only).0 refl);
      idle = λ only. absurd ((made.reads only).0 refl);
    }

pub returns-in-More-clause-turn : goal.returns-in-More-clause-turn
returns-in-More-clause-turn g c = c.in-More.ensures.makes.2.turns

pub returns-in-More-clause-step : goal.returns-in-More-clause-step
returns-in-More-clause-step g c = λ s a.
    rw (c.in-More.ensures.makes.1 s a) c.in-More.ensures.makes.2.steps

pub returns-in-More-clause-kept : goal.returns-in-More-clause-kept
returns-in-More-clause-kept g c =
    let made = c.in-More.ensures.makes.2 in
    record { options = refl; read_only = refl; lowers = made.lowers; thin = made.thin }

pub returns-in-More-clause-layers : goal.returns-in-More-clause-layers
returns-in-More-clause-layers g c = c.in-More.ensures.makes.2.layers

pub returns-in-More-clause-brings : goal.returns-in-More-clause-brings
returns-in-More-clause-brings g c =
    brings-made c.args.self.now.read_only g.R.Rule.shows c.args.self.now.watched
    c.step.new.watched _ _ _ _ _ _ _ c.args.self.now.agrees c.in-More.ensures.makes.2

pub returns-in-More-clause-clients : goal.returns-in-More-clause-clients
returns-in-More-clause-clients g c = c.in-More.ensures.makes.2.clients

pub returns-in-More-clause-marks : goal.returns-in-More-clause-marks
returns-in-More-clause-marks g c = c.in-More.ensures.makes.2.marks

pub returns-in-More-clause-read_only : goal.returns-in-More-clause-read_only
returns-in-More-clause-read_only g c = λ only is.
    (c.in-More.ensures.makes.2.reads only).0 refl

pub invariant_of-self-in-NoMemory : goal.invariant_of-self-in-NoMemory
invariant_of-self-in-NoMemory g c =
    let self = c.args.self.now in
    let old = self.watched in
    let new = c.step.new.watched in
    let job = c.args.job.now in
    let made = c.in-NoMemory.ensures.makes.2 in
    let there = old.mount.clients.rising job.client c.requires.attached in
    record {
      agrees = after-made self.read_only g.R.Rule.shows old new _ _ _ _ _ _ _ self.agrees made;
      begins = has-begun self.finished (machine_options false self.options) new.mount
          new.notifier
          (some-finished job.client old.mount.clients.next self.finished there self.given);
      given = given-same old.mount.clients.next new.mount.clients.next self.finished self.given
          made.clients.next;
      short = self.short;
      waits = c.in-NoMemory.ensures.waits;
      temps = made.temps;
      blank = λ only. blank-on self.read_only old.mount.layers new.mount.layers made.lowers
          (made.reads only).2 self.blank only;
      idle = λ only. idle-on self.work c.step.new.work job (made.reads only).1 (self.idle only);
    }

pub returns-in-NoMemory-clause-turn : goal.returns-in-NoMemory-clause-turn
returns-in-NoMemory-clause-turn g c = c.in-NoMemory.ensures.makes.2.turns

pub returns-in-NoMemory-clause-step : goal.returns-in-NoMemory-clause-step
returns-in-NoMemory-clause-step g c = λ s a.
    rw (c.in-NoMemory.ensures.makes.1 s a) c.in-NoMemory.ensures.makes.2.steps

pub returns-in-NoMemory-clause-kept : goal.returns-in-NoMemory-clause-kept
returns-in-NoMemory-clause-kept g c =
    let made = c.in-NoMemory.ensures.makes.2 in
    record { options = refl; read_only = refl; lowers = made.lowers; thin = made.thin }

pub returns-in-NoMemory-clause-layers : goal.returns-in-NoMemory-clause-layers
returns-in-NoMemory-clause-layers g c = c.in-NoMemory.ensures.makes.2.layers

pub returns-in-NoMemory-clause-brings : goal.returns-in-NoMemory-clause-brings
returns-in-NoMemory-clause-brings g c =
    brings-made c.args.self.now.read_only g.R.Rule.shows c.args.self.now.watched
    c.step.new.watched _ _ _ _ _ _ _ c.args.self.now.agrees c.in-NoMemory.ensures.makes.2

pub returns-in-NoMemory-clause-clients : goal.returns-in-NoMemory-clause-clients
returns-in-NoMemory-clause-clients g c = c.in-NoMemory.ensures.makes.2.clients

pub returns-in-NoMemory-clause-marks : goal.returns-in-NoMemory-clause-marks
returns-in-NoMemory-clause-marks g c = c.in-NoMemory.ensures.makes.2.marks

pub returns-in-NoMemory-clause-refusals : goal.returns-in-NoMemory-clause-refusals
returns-in-NoMemory-clause-refusals g c = λ s a some is.
    let job = c.args.job.now in
    none-there (refusal s job.client job.call) (c.in-NoMemory.ensures.allowed refl s a) some
