use Rattle.std.proofs.Common.{ap, ◌∙◌}
use Rattle.work_dir.specs.OpenJobs.{closed_any}
use Rattle.merged_lookup.specs.Merged.{lowers_of}
use Rattle.overlay_core.proofs.TempFits.{closed-fit}
use Rattle.overlay_core.proofs.ReadOnly.{closed-none}
use Rattle.overlay_core.proofs.Waited.{none-waits}
use Rattle.overlay_core.proofs.mounted.Core.drop_job.Goals as goal

pub invariant_of-self : goal.invariant_of-self
invariant_of-self g c =
    let self = c.args.self.now in
    record {
      agrees = self.agrees;
      begins = self.begins;
      given = self.given;
      short = self.short;
      waits = none-waits self.watched.mount c.clear.new.self.items c.clear.ensures.items;
      temps = closed-fit (lowers_of self.watched.mount.layers) self.work c.close.new.self c.number.result c.client.result
          c.close.ensures.table c.close.ensures.numbers self.temps;
      blank = self.blank;
      idle = λ only. c.close.ensures.table ∙ ap (λ w. closed_any w c.number.result c.client.result) (self.idle only) ∙ closed-none c.number.result c.client.result;
    }
