use Rattle.std.proofs.Common.{◌≡◌, ◌∙◌, ◌&&◌, Bool, Option, None, Some, is_some, not, true, false}
use Rattle.std.proofs.Common.{refl, sym}
use Rattle.std.proofs.lemmas.Bool.{false≢true}
use Rattle.overlay_core.specs.Views.{has_client}
use Rattle.ov_base.specs.Calls.{call_of}
use Rattle.ov_server.proofs.Clients.{start_plays}
use Rattle.ov_server.proofs.JobSteps.{start_order}
use Rattle.ov_server.proofs.Stages.{same_keeps}
use Rattle.ov_server.specs.Stages.{open_call}
use Rattle.ov_server.proofs.stepping.started.Goals as goal

-- where a test holds that asks for no open call, there is none
none-open : {A : Type 0} (b : Bool) (call : Option A) → (b && not (is_some call)) ≡ true
    → call ≡ None
none-open b None may = refl
none-open true (Some job) may = absurd (false≢true may)
none-open false (Some job) may = absurd (false≢true may)

pub start_answer-requires : goal.start_answer-requires
start_answer-requires g c = record {
  free = none-open (has_client c.args.stage.now.core c.args.client)
      (open_call c.args.stage.now c.args.client) (sym c.may_call.ensures ∙ c.if-may_call.true);
}

pub returns-then-may_call-clause-order : goal.returns-then-may_call-clause-order
returns-then-may_call-clause-order g c =
    start_order c.args.stage.now c.start_answer.new.stage c.args.client (call_of c.args.text) c.start_answer.result c.requires (sym c.may_call.ensures ∙ c.if-may_call.true) c.start_answer.ensures.core c.start_answer.ensures.goes c.start_answer.ensures.others

pub returns-then-may_call-clause-ok : goal.returns-then-may_call-clause-ok
returns-then-may_call-clause-ok g c =
    let old = c.args.stage.now in
    let new = c.start_answer.new.stage in
    start_plays old new c.args.client c.args.text c.start_answer.result (sym c.may_call.ensures ∙ c.if-may_call.true) (same_keeps old.core new.core c.start_answer.ensures.core) c.start_answer.ensures.goes c.start_answer.ensures.others
