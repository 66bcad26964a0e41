use Rattle.std.proofs.Common.{◌≡◌, ap, ◌∙◌, subst, reverse, take, IfOk}
use Rattle.std.proofs.lemmas.List.{take_all, reverse-reverse}
use Rattle.plain_model.specs.Layers.{Path, below}
use Rattle.layer_tree.specs.Tree.{layer_of}
use Rattle.merged_lookup.specs.Respelling.{respelled}
use Rattle.merged_lookup.proofs.layers.Layers.spelling_below.Goals as goal

pub returns : goal.returns
returns c =
    let whole : reverse (take c.loop-name.name-index c.names-name-items.result.now) ≡ c.args.path.now =
    ap reverse (take_all c.loop-name.name-index c.names-name-items.result.now c.loop-name-test.false ∙ c.names-name-items.ensures) ∙ reverse-reverse c.args.path.now in
    let spelled : respelled c.loop-name.way ≡ below (layer_of c.args.self.now.upper) c.args.path.now =
    c.loop-name.invariant.spelling ∙ ap (λ t. below (layer_of t) (reverse (take c.loop-name.name-index c.names-name-items.result.now))) c.upper-upper.ensures
    ∙ ap (below (layer_of c.args.self.now.upper)) whole in
    subst (λ (q : Path). IfOk c.spelled.result (λ s. s ≡ q)) spelled c.spelled.ensures
