use Rattle.std.proofs.Common.{◌≡◌, ◌∙◌, Some}
use Rattle.plain_model.specs.Layers.{shows}
use Rattle.merged_lookup.specs.Merged.{layers_of, lowers_of}
use Rattle.merged_lookup.proofs.Preparing.{content-shown}
use Rattle.merged_lookup.proofs.layers.Layers.content_of.Goals as goal

pub returns : goal.returns
returns c = λ p i shown.
    let l = c.args.self.now in
    c.in_ok-content.ensures.cases
    ∙ content-shown (lowers_of l) c.args.place.layer c.args.place.key
    (shows 0 (layers_of l) p) c.inode_at.result.now i c.requires.lower shown
    (c.inode_at.ensures p (record { inode = Some i; shown = shown }))
