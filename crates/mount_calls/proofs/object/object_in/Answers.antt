use Rattle.std.proofs.Common.{◌≡◌, ℕ, ◌<◌, suc, zero, List, ◌∷◌, Some, subst, arith}
use Rattle.plain_model.specs.Layers.{Contents, Inode, Layer, Path, shows}
use Rattle.layer_tree.specs.Tree.{inode_of}
use Rattle.layer_tree.specs.declared.node.Node.TheVariants as node
use Rattle.merged_lookup.specs.Merged.{fill_at, layers_of, lowers_of, upper_of}
use Rattle.notice_laws.specs.Objects.{IsLower}
use Rattle.mount_calls.proofs.Marks.{shown-inode}
use Rattle.mount_calls.proofs.object.object_in.Goals as goal

-- what stands under the upper is a lower layer's
is-lower : (U : Layer) (lowers : List Layer) (p : Path) (layer key : ℕ) (i : Inode) → 0 < layer → shows 0 (U ∷ lowers) p ≡ Some (Contents layer key (Some i)) → IsLower U lowers p
is-lower U lowers p zero key i h shown = absurd (omega arith)
is-lower U lowers p (suc j) key i h shown = record { layer = j; key = key; inode = i; shown = shown }

pub returns-then-place-gt0 : goal.returns-then-place-gt0
returns-then-place-gt0 c = λ p at.
    let is = shown-inode c.args.layers.now p c.args.place c.inode_at-inode.result.now (c.inode_at-inode.ensures p at) in
    is-lower _ _ p _ _ _ c.if-place-gt0.true is.1

pub returns : goal.returns
returns c = λ p at.
    let l = c.args.layers.now in
    let own : c.args.place.layer ≡ 0 = omega arith in
    c.upper_object.ensures (upper_of l) (lowers_of l) (lowers_of l) p
    (subst (λ j. shows 0 (layers_of l) p ≡ Some (Contents j c.args.place.key (fill_at j (lowers_of l) (inode_of (node.Inode c.inode_at-inode.result.now))))) own (c.inode_at-inode.ensures p at))
