use Rattle.std.proofs.Common.{rules, ◌≡◌, Some}
use Rattle.ov_embedded.specs.Jobs.{job_of}
use Rattle.ov_embedded.proofs.Jobs.{may_of}
use Rattle.ov_embedded.proofs.mounted.Mounted.advance.Goals as goal

pub advance-requires-clause-open : goal.advance-requires-clause-open
advance-requires-clause-open c =
    let job = c.unwrap-job.result.now in
    let was : job_of c.args.self.now c.args.number ≡ Some job = search rules in
    (may_of c.args.self.now c.args.number job was c.requires.job).0

pub advance-requires-clause-attached : goal.advance-requires-clause-attached
advance-requires-clause-attached c =
    let job = c.unwrap-job.result.now in
    let was : job_of c.args.self.now c.args.number ≡ Some job = search rules in
    (may_of c.args.self.now c.args.number job was c.requires.job).1

pub returns-clause-step : goal.returns-clause-step
returns-clause-step c =
    let made = c.advance.ensures in (
      c.unwrap-job.result.now,
      c.advance.new.job,
      search rules,
      search rules,
      record {
        same = made.job;
        turns = made.turn;
        steps = made.steps;
        step = made.step;
        at_once = made.at_once;
        read_only = made.read_only;
        memory = made.memory;
        finished = made.finished;
        clients = made.clients;
        layers = made.layers;
        brings = made.brings;
        refused = made.refused;
        marks = made.marks;
        kept = made.kept;
      },
    )
