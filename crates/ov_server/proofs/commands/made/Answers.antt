use Rattle.overlay_core.proofs.Histories.{few, step_places}
use Rattle.ov_server.proofs.JobSteps.{answers_over, turns_goes}
use Rattle.ov_server.proofs.commands.made.Goals as goal

pub complete-turn-requires-clause-bound : goal.complete-turn-requires-clause-bound
complete-turn-requires-clause-bound g c = few c.args.core.now c.requires.places

pub returns-clause-places : goal.returns-clause-places
returns-clause-places g c = step_places c.args.core.now c.complete-turn.new.self c.complete-turn.ensures.kept.options c.complete-turn.result c.complete-turn.ensures.clients c.requires.room c.complete-turn.ensures.finished c.requires.places

pub returns-clause-answer : goal.returns-clause-answer
returns-clause-answer g c = rw c.answer_of.ensures (answers_over c.args.client c.complete-turn.result c.complete-turn.ensures.at_once)

pub returns-clause-goes : goal.returns-clause-goes
returns-clause-goes g c =
    rw c.answer_of.ensures (turns_goes c.args.core.now c.complete-turn.new.self c.args.client c.args.call c.new-job.result c.complete-turn.new.job c.complete-turn.result c.new-job.ensures.call c.complete-turn.ensures.at_once c.complete-turn.ensures.turn)
