use Rattle.std.proofs.Common.{◌≡◌, ◌∙◌, subst}
use Rattle.ov_base.specs.declared.attributes.Attributes.{Attributes}
use Rattle.ov_base.specs.declared.bytes.Content.TheVariants as content
use Rattle.merged_lookup.specs.Merged.{layers_of}
use Rattle.make_remove.specs.Making.{new_attributes}
use Rattle.make_remove.specs.Leaves.{MakesLeaf}
use Rattle.make_remove.proofs.LeafSteps.{mkdir-vacancy, vacancy-fine, create-steps}
use Rattle.make_remove.proofs.leaves.create.Goals as goal

pub returns-clause-made : goal.returns-clause-made
returns-clause-made c =
    subst (λ bytes. (leaf : MakesLeaf c.args.layers.now c.make_leaf.new.layers c.args.path.now (content.File bytes) (new_attributes c.args.mode)) × (leaf.number ≡ c.in_ok-key.key)) c.new.ensures
    (subst (λ (a : Attributes). (leaf : MakesLeaf c.args.layers.now c.make_leaf.new.layers c.args.path.now (content.File c.new.result) a) × (leaf.number ≡ c.in_ok-key.key)) c.new_attributes.ensures c.in_ok-key.ensures.made)

pub returns-clause-steps : goal.returns-clause-steps
returns-clause-steps c =
    create-steps c.args.layers.now c.make_leaf.new.layers c.args.path.now c.args.mode
    (mkdir-vacancy (layers_of c.args.layers.now) c.args.path.now c.args.mode c.lawful.ensures ∙ vacancy-fine (layers_of c.args.layers.now) c.args.path.now c.requires.parents c.requires.absent)
    (subst (λ bytes. MakesLeaf c.args.layers.now c.make_leaf.new.layers c.args.path.now (content.File bytes) (new_attributes c.args.mode)) c.new.ensures
    (subst (λ (a : Attributes). MakesLeaf c.args.layers.now c.make_leaf.new.layers c.args.path.now (content.File c.new.result) a) c.new_attributes.ensures c.in_ok-key.ensures.made.0))
