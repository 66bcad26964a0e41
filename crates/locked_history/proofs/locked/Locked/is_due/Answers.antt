use Rattle.std.proofs.Common.{arith, ◌≡◌, ◌<◌, ◌∙◌, length, sym, true}
use Rattle.std.specs.Prelude.{slice_index}
use Rattle.std.proofs.lemmas.Bool.{eq-eqb, eqb-true}
use Rattle.overlay_core.specs.Views.{core_clients, has_client}
use Rattle.overlay_core.proofs.Numbering.{number_is}
use Rattle.locked_history.proofs.Growing.{read_at}
use Rattle.locked_history.proofs.locked.Locked.is_due.Goals as goal

pub returns-then-is_attached : goal.returns-then-is_attached
returns-then-is_attached g c =
    let s = c.args.self.now in
    let client = c.args.session.client in
    let here : has_client s.core client ≡ true = sym c.is_attached.ensures ∙ c.if-is_attached.true in
    let below = (core_clients s.core).rising client here in
    let lt : client < length s.numbers.items = omega (arith, below, s.numbers_long, s.numbers.ok.0) in
    let read : slice_index s.numbers.items client ≡ c.index.result.now = read_at s.numbers.items client c.index.result.now lt c.index.ensures in
    let due = number_is s.due client here in (
      λ e. (here, sym (eqb-true _ _ e) ∙ (sym read ∙ due)),
      λ d. eq-eqb _ _ (sym read ∙ (due ∙ sym d.1)),
    )
