use Rattle.std.proofs.Common.{rules, ◌≡◌, Some}
use Rattle.overlay_core.proofs.Histories.{few}
use Rattle.ov_server.specs.Stages.{open_call}
use Rattle.ov_server.proofs.stage.Stage.step.Goals as goal

pub steps_of_job-requires-clause-open : goal.steps_of_job-requires-clause-open
steps_of_job-requires-clause-open g c =
    let was : open_call c.args.self.now c.args.client ≡ Some c.unwrap-job.result.now = search rules in
    c.requires.order.unended c.args.client c.unwrap-job.result.now was

pub steps_of_job-requires-clause-attached : goal.steps_of_job-requires-clause-attached
steps_of_job-requires-clause-attached g c =
    let was : open_call c.args.self.now c.args.client ≡ Some c.unwrap-job.result.now = search rules in
    rw (c.requires.order.owners c.args.client c.unwrap-job.result.now was) (c.requires.order.attached c.args.client c.requires.calling)

pub steps_of_job-requires-clause-bound : goal.steps_of_job-requires-clause-bound
steps_of_job-requires-clause-bound g c = few c.args.self.now.core c.requires.order.places

pub returns-clause-steps : goal.returns-clause-steps
returns-clause-steps g c = record {
  before = c.unwrap-job.result.now;
  after = c.steps_of_job.new.job;
  was = search rules;
  is = search rules;
  makes = c.steps_of_job.ensures;
}
