use Rattle.std.proofs.Common.{◌≡◌, Ok, ap, sym, ◌∙◌}
use Rattle.merged_lookup.specs.Merged.{layers_of}
use Rattle.mount_laws.specs.Looks.{walk_fault}
use Rattle.ov_base.specs.Paths.{path_of_text}
use Rattle.ov_embedded.proofs.Places.{refused_by_walk}
use Rattle.ov_embedded.proofs.mounted.Mounted.place.Goals as goal

pub returns : goal.returns
returns c =
    let p = c.in-Ok-parsed.path in
    let read : Ok p ≡ path_of_text c.args.text.now = sym c.in-Ok-parsed.is ∙ c.in-Ok.ensures in
    refused_by_walk c.args.text.now c.args.self.now p c.in-Err-walk_topmost.errno read
    (ap (λ l. walk_fault (layers_of l) p) (sym c.layers.ensures) ∙ c.in-Err-walk_topmost.ensures.refused)
