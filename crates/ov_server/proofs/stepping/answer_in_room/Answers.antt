use Rattle.std.proofs.Common.{◌∙◌}
use Rattle.overlay_core.proofs.Histories.{step_places}
use Rattle.ov_server.proofs.JobSteps.{answers_step, at_most_one, job_keeps, keeps_on, more_goes, others_on, over_goes}
use Rattle.ov_server.proofs.Stages.{order_gone, same_attached, same_keeps, same_places}
use Rattle.ov_server.proofs.stepping.answer_in_room.Goals as goal

pub returns-in-More-clause-goes : goal.returns-in-More-clause-goes
returns-in-More-clause-goes g c = more_goes c.args.stage.now c.step.new.self c.args.client c.args.steps c.in-More.ensures.steps

pub returns-in_default : goal.returns-in_default
returns-in_default g c =
    let old = c.args.stage.now in
    let mid = c.step.new.self in
    let new = c.drop_call.new.self in
    let client = c.args.client in
    let h = c.step.ensures.steps in
    let same = c.drop_call.ensures.core in
    let gone = c.drop_call.ensures.gone in
    let others = others_on old mid new client c.step.ensures.others c.drop_call.ensures.others in
    let of_client = c.requires.order.owners client h.before h.was in
    let places = step_places old.core mid.core h.makes.options c.step.result h.makes.clients c.requires.room h.makes.finished c.requires.order.places in
    record {
      order = order_gone old new c.requires.order client (same_places mid.core new.core same places) (λ n differ is. (same_attached mid.core new.core same).attached n ∙ h.makes.clients.attached n ∙ is) others gone;
      counted = at_most_one c.step.result _ _ (same.finished ∙ h.makes.finished);
      keeps = keeps_on old.core mid.core new.core (job_keeps old.core mid.core h.before h.after c.args.steps c.step.result h.makes) (same_keeps mid.core new.core same);
      answer = rw c.answer_of.ensures (answers_step client c.step.result);
      goes = rw c.answer_of.ensures (over_goes old mid new client c.args.steps c.step.result h c.in_default.not-More of_client same gone);
      others = others;
    }
