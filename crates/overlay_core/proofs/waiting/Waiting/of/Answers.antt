use Rattle.std.proofs.Common.{◌≡◌, reverse, refl, sym, ap, ◌∙◌}
use Rattle.std.proofs.lemmas.List.{reverse-reverse}
use Rattle.ov_base.specs.declared.path.Path.{Path}
use Rattle.ov_base.specs.declared.call.CallOf.TheVariants.{Open}
use Rattle.overlay_core.proofs.waiting.Waiting.of.Goals as goal

pub returns : goal.returns
returns c =
    let path : reverse c.in-Ok.names.items ≡ c.in-Open.path = ap reverse (c.in-Ok.ensures ∙ c.names.ensures) ∙ reverse-reverse c.in-Open.path in (
      (
        sym c.client.ensures,
        sym c.call.ensures ∙ c.in-Open.is ∙ ap (λ (p : Path). Open p c.in-Open.flags c.in-Open.mode) (sym path),
      ),
      refl,
      refl,
    )
