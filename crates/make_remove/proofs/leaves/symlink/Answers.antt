use Rattle.std.proofs.Common.{subst, ap, ◌∙◌}
use Rattle.ov_base.specs.declared.attributes.Attributes.{Attributes}
use Rattle.ov_base.specs.declared.bytes.Content.TheVariants as content
use Rattle.merged_lookup.specs.Merged.{layers_of}
use Rattle.make_remove.specs.Leaves.{MakesLeaf}
use Rattle.make_remove.specs.Making.{new_attributes}
use Rattle.make_remove.proofs.LeafSteps.{symlink-vacancy, symlink-steps, vacancy-fine}
use Rattle.make_remove.proofs.leaves.symlink.Goals as goal

pub returns-clause-steps : goal.returns-clause-steps
returns-clause-steps c =
    symlink-steps c.args.layers.now c.make_leaf.new.layers c.args.target c.args.path.now
    (symlink-vacancy (layers_of c.args.layers.now) c.args.target c.args.path.now c.lawful.ensures ∙ vacancy-fine (layers_of c.args.layers.now) c.args.path.now c.requires.parents c.requires.absent)
    (subst (λ (a : Attributes). MakesLeaf c.args.layers.now c.make_leaf.new.layers c.args.path.now (content.SymbolicLink c.args.target) a) (c.new_attributes-attributes.ensures ∙ ap new_attributes c.of_links.ensures) c.in_ok-make_leaf.ensures.made.0)
