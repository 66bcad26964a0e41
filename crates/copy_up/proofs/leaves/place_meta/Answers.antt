use Rattle.std.proofs.Common.{◌≡◌, ◌∷◌, [], Some, reverse, refl, sym, ap, ◌∙◌}
use Rattle.ov_base.specs.declared.bytes.Content.TheVariants.{File}
use Rattle.plain_model.specs.Layers.{Inode, Contents, is_file}
use Rattle.copy_up.proofs.Copying.{leaf_of, marked-copy, answer-more}
use Rattle.copy_up.proofs.leaves.place_meta.Goals as goal

pub place_leaf-requires-clause-leaf : goal.place_leaf-requires-clause-leaf
place_leaf-requires-clause-leaf c = (leaf_of (File []) (Some c.args.mark.value) c.args.attributes, refl)

pub returns-clause-copied : goal.returns-clause-copied
returns-clause-copied c = answer-more _ _ _ c.place_leaf.result c.place_leaf.ensures.copied (λ key copied i shown.
    let two : Some (Contents c.args.place.layer c.args.place.key (Some c.requires.shown.0)) ≡ Some (Contents c.args.place.layer c.args.place.key (Some i)) = sym c.requires.shown.1 ∙ shown in
    let one : c.requires.shown.0 ≡ i = cc in
    copied i (leaf_of (File []) (Some c.args.mark.value) c.args.attributes) shown refl
    (marked-copy c.args.layers.now (c.args.name.now ∷ reverse c.args.parents.now) c.args.mark.value c.args.place.layer c.args.place.key i [] shown c.requires.lower
    (ap (λ (x : Inode). is_file x.content) (sym one) ∙ c.requires.shown.2) c.requires.mark))
