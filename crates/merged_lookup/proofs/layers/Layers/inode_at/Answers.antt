-- An inode that is shown stands at its place.
use Rattle.std.proofs.Common.{◌≡◌, Some, sym, ◌∙◌, ap, arith}
use Rattle.std.specs.Option.{option_copied}
use Rattle.slab.specs.Slab.{get}
use Rattle.layer_tree.specs.Tree.{inode_of}
use Rattle.layer_tree.specs.declared.node.Node.TheVariants as node
use Rattle.plain_model.specs.Layers.{Contents}
use Rattle.merged_lookup.specs.Merged.{lowers_of, fill_at}
use Rattle.merged_lookup.proofs.Filled.{raw_shown, inode-filled}
use Rattle.merged_lookup.proofs.Inodes.{IsShownInode, layer-there, inode-node}
use Rattle.merged_lookup.proofs.layers.Layers.inode_at.Goals as goal
use Rattle.merged_lookup.proofs.layers.Layers.inode_at.Goals.{in_default-node-via-in-Some+in_default, in_default-node-via-in_default}

pub unreachable-requires : goal.unreachable-requires
unreachable-requires c =
    let there = layer-there c.args.self.now c.requires.0 c.args.place c.requires.1 in
    let none = c.in_default.ensures ∙ there.1 in
    cc

pub unreachable-requires-in_default-node : goal.unreachable-requires-in_default-node
unreachable-requires-in_default-node c =
    let s : IsShownInode (get c.in-Some.layer.now c.args.place.key) c.args.place.layer c.args.place.key (raw_shown c.args.self.now c.requires.0) = inode-node c.args.self.now c.requires.0 c.args.place c.in-Some.layer.now (sym c.in-Some.ensures) c.lawful.ensures.together c.requires.1 in
    let found : option_copied c.node.result ≡ Some (node.Inode s.inode) = c.node.ensures ∙ s.is in
    elim c.in_default-node.branch [
      | in_default-node-via-in-Some+in_default w ↦
          let same : Some w.in_default-node.field-0.now ≡ Some (node.Inode s.inode) = sym (ap option_copied w.in_default-node.is) ∙ found in
          grind arith
      | in_default-node-via-in_default w ↦
          let same = sym found ∙ ap option_copied w.in_default-node.is in
          cc
    ]

pub returns : goal.returns
returns c = λ p shown.
    let s : IsShownInode (get c.in-Some.layer.now c.args.place.key) c.args.place.layer c.args.place.key (raw_shown c.args.self.now p) = inode-node c.args.self.now p c.args.place c.in-Some.layer.now (sym c.in-Some.ensures) c.lawful.ensures.together shown in
    let same : Some (node.Inode s.inode) ≡ Some (node.Inode c.in-Some-Inode.inode) = sym s.is ∙ sym c.in-Some-Inode.ensures ∙ ap Some c.in-Some-Inode.field-0-is in
    let one : node.Inode s.inode ≡ node.Inode c.in-Some-Inode.inode = cc in
    inode-filled c.args.self.now p c.args.place.layer c.args.place.key (inode_of (node.Inode s.inode)) s.shown
    ∙ ap (λ n. Some (Contents c.args.place.layer c.args.place.key (fill_at c.args.place.layer (lowers_of c.args.self.now) (inode_of n)))) one
