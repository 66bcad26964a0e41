use Rattle.std.proofs.Common.{◌∙◌, sym}
use Rattle.std.proofs.lemmas.Bool.{eq-eqb, eqb-true}
use Rattle.overlay_core.specs.Views.{has_client}
use Rattle.locked_history.specs.Entries.{history_of}
use Rattle.endless_mount.specs.Numbered.{next_number}
use Rattle.endless_mount.proofs.Numbering.{kept_is, kept_none, kept_some}
use Rattle.endless_mount.proofs.recorded.Recorded.is_due.Goals as goal

pub returns-in-Some : goal.returns-in-Some
returns-in-Some g c =
    let s = c.args.self.now in
    let client = c.args.session.client in
    let kept = kept_some (has_client s.core client) (next_number (history_of s.front) client) c.in-Some.number.now ((rw c.in-Some.is at c.get.ensures.value) ∙ kept_is s.due client) in (
      λ e. (kept.0, sym (eqb-true _ _ e) ∙ kept.1),
      λ d. eq-eqb _ _ (kept.1 ∙ sym d.1),
    )

pub returns-in-None : goal.returns-in-None
returns-in-None g c =
    let s = c.args.self.now in
    let client = c.args.session.client in (
      λ e. absurd cc,
      λ d. absurd (kept_none (has_client s.core client) (next_number (history_of s.front) client) ((rw c.in-None.is at c.get.ensures.value) ∙ kept_is s.due client) d.0),
    )
