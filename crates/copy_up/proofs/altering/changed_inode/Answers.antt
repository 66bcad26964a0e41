use Rattle.std.proofs.Common.{Some, option_map, ap, ◌∙◌}
use Rattle.ov_base.specs.AttributeChanges.{changed}
use Rattle.plain_model.specs.Layers.{Inode, Contents}
use Rattle.merged_lookup.specs.Merged.{lowers_of}
use Rattle.copy_up.proofs.Raising.{IsFilled, filled-at}
use Rattle.copy_up.proofs.altering.changed_inode.Goals as goal

pub returns : goal.returns
returns c = λ p shown.
    let i : Inode = record { content = c.inode_at.result.now.content; attributes = c.inode_at.result.now.attributes; links = c.inode_at.result.now.links; mark = option_map (λ b. b.value) c.inode_at.result.now.mark } in
    let f : IsFilled c.args.place.layer (lowers_of c.args.layers.now) i = filled-at c.args.place.layer (lowers_of c.args.layers.now) i in (
      f.inode,
      c.inode_at.ensures p shown ∙ ap (λ x. Some (Contents c.args.place.layer c.args.place.key x)) f.is,
      c.in_ok-apply.ensures.ok ∙ ap (changed c.args.change) (c.in_ok-attributes.ensures.cases ∙ f.attributes),
    )
