use Rattle.std.proofs.Common.{◌≡◌, [], None, Some, option_map, refl, ap, ◌∙◌}
use Rattle.ov_base.specs.declared.bytes.Content.TheVariants.{File}
use Rattle.plain_model.specs.Layers.{Inode, Contents}
use Rattle.layer_tree.specs.Tree.{layer_of}
use Rattle.merged_lookup.specs.Merged.{lowers_of, fill_at}
use Rattle.copy_up.specs.Leaves.{copy_mark}
use Rattle.copy_up.proofs.Copying.{leaf_of, is-mark, marked-copy}
use Rattle.rename_redirect.proofs.Given.{follows}
use Rattle.rename_redirect.proofs.copies.copy_of.Goals as goal

pub returns-in-Some : goal.returns-in-Some
returns-in-Some c =
    let l = c.args.layers.now in
    let p = c.args.path.now in
    let i : Inode = record { content = c.inode_at.result.now.content; attributes = c.inode_at.result.now.attributes; links = c.inode_at.result.now.links; mark = option_map (λ b. b.value) c.inode_at.result.now.mark } in
    let is = c.inode_at.ensures p c.requires.shown ∙ ap (λ j. Some (Contents c.args.place.layer c.args.place.key (fill_at j (lowers_of l) (Some i)))) (follows c.args.place.layer c.requires.lower).1 in
    let told : Some c.in-Some.mark.value ≡ copy_mark c.args.metacopy (layer_of l.upper) p i.content = rw c.in-Some.is at (c.in_ok-mark.ensures i is) in
    let mark = is-mark c.args.metacopy (layer_of l.upper) p i.content c.in-Some.mark.value told in (
      i,
      is,
      record {
        copy = leaf_of (File []) (Some c.in-Some.mark.value) c.in_ok-attributes.attributes;
        is = refl;
        mark = told;
        content = marked-copy l p c.in-Some.mark.value c.args.place.layer c.args.place.key i [] is c.requires.lower mark.file mark.spelled;
        attributes = c.in_ok-attributes.ensures.cases;
      },
    )

pub returns-in_ok-content-in-None : goal.returns-in_ok-content-in-None
returns-in_ok-content-in-None c =
    let l = c.args.layers.now in
    let p = c.args.path.now in
    let i : Inode = record { content = c.inode_at.result.now.content; attributes = c.inode_at.result.now.attributes; links = c.inode_at.result.now.links; mark = option_map (λ b. b.value) c.inode_at.result.now.mark } in
    let is = c.inode_at.ensures p c.requires.shown ∙ ap (λ j. Some (Contents c.args.place.layer c.args.place.key (fill_at j (lowers_of l) (Some i)))) (follows c.args.place.layer c.requires.lower).1 in
    let told : None ≡ copy_mark c.args.metacopy (layer_of l.upper) p i.content = rw c.in-None.is at (c.in_ok-mark.ensures i is) in (
      i,
      is,
      record {
        copy = leaf_of c.in_ok-content-in-None.content None c.in_ok-attributes.attributes;
        is = refl;
        mark = told;
        content = c.in_ok-content-in-None.ensures p i is;
        attributes = c.in_ok-attributes.ensures.cases;
      },
    )
