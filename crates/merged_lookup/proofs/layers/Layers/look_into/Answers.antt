use Rattle.std.proofs.Common.{◌≡◌, ◌≤◌, ◌∙◌, arith, length, reverse, Some, refl, subst, sym}
use Rattle.ov_base.specs.declared.attributes.Attributes.{Attributes}
use Rattle.plain_model.specs.Layers.{Path, Folder, shows}
use Rattle.layer_tree.specs.Tree.{layer_of}
use Rattle.merged_lookup.specs.Merged.{trees, layers_of, IsTopmost}
use Rattle.merged_lookup.proofs.Looking.{topmost-shown}
use Rattle.merged_lookup.proofs.layers.Layers.look_into.Goals as goal

pub returns-in_default-clause-topmost : goal.returns-in_default-clause-topmost
returns-in_default-clause-topmost c =
    let Q : Path → Type 0 = λ p. (a : Attributes) × (shows 0 (layers_of c.args.self.now) p ≡ Some (Folder 0 0 a)) in
    subst Q (sym c.in_default.ensures) ((layer_of c.args.self.now.upper).root, refl)

pub returns-2-clause-topmost : goal.returns-2-clause-topmost
returns-2-clause-topmost c =
    let few : length (trees c.args.self.now) ≤ 17 = omega (arith, c.args.self.now.few_lowers) in
    subst (λ (p : Path). IsTopmost c.args.self.now p c.topmost.result) (sym c.in-Some.ensures)
    (topmost-shown c.args.self.now c.as_slice.result.now c.in-Some.name.now few (reverse c.in-Some.parents.now) (c.as_slice.ensures.value ∙ c.in_ok-reach.ensures.reached) c.topmost.result c.topmost.ensures.place c.topmost.ensures.directory)
