use Rattle.std.proofs.Common.{◌≡◌, Some, sym, ap, ◌∙◌}
use Rattle.std.specs.Option.{option_copied}
use Rattle.ov_base.specs.declared.bytes.Content.TheVariants as content
use Rattle.merged_lookup.proofs.Preparing.{bytes-low}
use Rattle.merged_lookup.proofs.layers.Layers.low_copy.Goals as goal

pub returns : goal.returns
returns c =
    let held = c.in-Some-File in
    let same : c.in_ok-bytes-in-Some-File.bytes ≡ c.in-Some-File.bytes = c.in_ok-bytes-in-Some-File.ensures.cases in
    bytes-low c.args.self.now c.args.source c.in_ok-bytes-in-Some-File.bytes c.requires
    (sym (sym (ap option_copied held.is) ∙ c.file_at.ensures) ∙ ap Some held.field-0-is
    ∙ ap (λ b. Some (content.File b)) (sym same))
