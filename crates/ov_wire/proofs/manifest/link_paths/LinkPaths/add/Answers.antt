use Rattle.std.proofs.Common.{◌||◌, ap, bytes_eq, ◌∙◌}
use Rattle.ov_wire.specs.Drafts.{has_text}
use Rattle.ov_wire.proofs.Listing.{added}
use Rattle.ov_wire.proofs.manifest.link_paths.LinkPaths.add.Goals as goal

pub returns : goal.returns
returns c other =
    c.in_ok-insert.ensures.updates.0 other
    ∙ added c.args.text other (has_text c.self.inside.texts.keys other)
    ∙ ap (λ texts. bytes_eq other c.args.text || has_text texts other) c.self.view_is
