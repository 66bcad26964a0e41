use Rattle.std.proofs.Common.{◌≡◌, ◌<◌, ◌∙◌, ap, sym, length, set, arith, take, drop, ◌++◌, Option}
use Rattle.std.proofs.lemmas.Grind.{common_steps}
use Rattle.std.proofs.lemmas.List.Edits.{map_over_more}
use Rattle.work_dir.specs.declared.table.OpenJob.{OpenJob}
use Rattle.work_dir.specs.OpenJobs.{unless_of}
use Rattle.work_dir.proofs.Jobs.{none_in}
use Rattle.work_dir.proofs.table.WorkDir.forget.Goals as goal

pub loop-job-preserved : goal.loop-job-preserved
loop-job-preserved c =
    let work = c.args.self.now in
    let now = c.loop-job.job-items in
    let i = c.loop-job.job-index in
    let began : c.deref_mut-job-items.result.now ≡ work = c.deref_mut-job-items.ensures.value ∙ c.self.view_is in
    let within : i < length work = omega (arith, ap length began) in
    ap (λ (o : Option OpenJob). set now i o) (c.forget.ensures ∙ sym (ap (unless_of c.args.client) c.job-item.is))
    ∙ map_over_more (unless_of c.args.client) work now i c.job-item.result within c.loop-job.invariant c.job-item.is

pub returns-clause-none : goal.returns-clause-none
returns-clause-none c = none_in c.args.client c.args.self.now
    (take c.self.inside.jobs.len (c.loop-job.job-items ++ drop (length c.loop-job.job-items) c.self.inside.jobs.items))
    (grind (arith, common_steps))
