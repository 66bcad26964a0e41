use Rattle.std.proofs.Common.{sym, ap₂, ◌∙◌}
use Rattle.plain_model.specs.Machine.{writable}
use Rattle.plain_model.specs.Refusals.{refusal}
use Rattle.overlay_core.proofs.ReadRefusals.{refused-as}
use Rattle.overlay_core.proofs.ReadSteps.{plain-writes}
use Rattle.overlay_core.proofs.StepsMade.{ended-allowed, ended-memory, ended-over, made-plain}
use Rattle.overlay_core.proofs.finishing.plain.Goals as goal

pub returns-clause-makes : goal.returns-clause-makes
returns-clause-makes g c = λ read_only work next t last temps.
    made-plain g.R.Rule.shows read_only c.args.watched.now c.perform_plain-outcome.new.self work
    c.args.job.now c.ended.new.job next t last temps c.client.result c.call.result.now
    c.client.ensures c.call.ensures c.perform_plain-outcome.result c.ended.result
    c.ended.ensures.ends c.perform_plain-outcome.ensures.performs c.requires.plain

pub returns-clause-over : goal.returns-clause-over
returns-clause-over g c = ended-over c.ended.new.job c.perform_plain-outcome.result c.ended.result c.ended.ensures.ends

pub returns-clause-memory : goal.returns-clause-memory
returns-clause-memory g c = λ none.
    ended-memory c.ended.new.job c.perform_plain-outcome.result c.ended.result c.ended.ensures.ends
    ((rw c.call.ensures at c.perform_plain-outcome.ensures.memory) none)

pub returns-clause-allowed : goal.returns-clause-allowed
returns-clause-allowed g c = λ read_only is s a.
    let j = c.args.job.now in
    refused-as s j.client j.call read_only a.1 (λ only. plain-writes s j.call c.requires.plain)
    ∙ ap₂ (refusal (writable s)) (sym c.client.ensures) (sym c.call.ensures)
    ∙ ended-allowed c.ended.new.job c.perform_plain-outcome.result c.ended.result _
    c.ended.ensures.ends c.perform_plain-outcome.ensures.allowed is (writable s) a.0
