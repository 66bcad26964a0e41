-- A directory that is shown stands at its place.
use Rattle.std.proofs.Common.{◌≡◌, Some, sym, ◌∙◌, ap, refl, arith}
use Rattle.std.specs.Option.{option_copied}
use Rattle.slab.specs.Slab.{get}
use Rattle.layer_tree.specs.declared.node.Node.TheVariants as node
use Rattle.merged_lookup.specs.Merged.{trees}
use Rattle.merged_lookup.proofs.Filled.{raw-folder}
use Rattle.merged_lookup.proofs.Folders.{HoldsFolder, folder-held, folder-node, same-attributes, IsDirectoryWith, some-not-none}
use Rattle.merged_lookup.proofs.layers.Layers.attributes_at.Goals as goal
use Rattle.merged_lookup.proofs.layers.Layers.attributes_at.Goals.{in_default-node-via-in-Some+in_default, in_default-node-via-in_default}

pub unreachable-requires : goal.unreachable-requires
unreachable-requires c =
    let f : HoldsFolder (trees c.args.self.now) c.args.place.layer c.args.place.key c.requires.1 = folder-held 0 (trees c.args.self.now) (trees c.args.self.now) refl c.requires.0 c.args.place.layer c.args.place.key c.requires.1 (raw-folder c.args.self.now c.requires.0 c.args.place.layer c.args.place.key c.requires.1 c.requires.2) in
    some-not-none f.tree (sym f.is ∙ sym c.in_default.ensures)

pub unreachable-requires-in_default-node : goal.unreachable-requires-in_default-node
unreachable-requires-in_default-node c =
    let d : IsDirectoryWith (get c.in-Some.layer.now c.args.place.key) c.requires.1 = folder-node (trees c.args.self.now) c.requires.0 c.args.place.layer c.args.place.key c.requires.1 c.in-Some.layer.now (raw-folder c.args.self.now c.requires.0 c.args.place.layer c.args.place.key c.requires.1 c.requires.2) (sym c.in-Some.ensures) c.lawful.ensures.tree in
    let found : option_copied c.node.result ≡ Some (node.Directory d.directory) = c.node.ensures ∙ d.is in
    elim c.in_default-node.branch [
      | in_default-node-via-in-Some+in_default w ↦
          let same : Some w.in_default-node.field-0.now ≡ Some (node.Directory d.directory) = sym (ap option_copied w.in_default-node.is) ∙ found in
          grind arith
      | in_default-node-via-in_default w ↦ some-not-none (node.Directory d.directory) (sym found ∙ ap option_copied w.in_default-node.is)
    ]

pub returns : goal.returns
returns c = λ p a h.
    let d : IsDirectoryWith (get c.in-Some.layer.now c.args.place.key) a = folder-node (trees c.args.self.now) p c.args.place.layer c.args.place.key a c.in-Some.layer.now (raw-folder c.args.self.now p c.args.place.layer c.args.place.key a h) (sym c.in-Some.ensures) c.lawful.ensures.tree in
    let same : Some (node.Directory c.in-Some-Directory.directory) ≡ Some (node.Directory d.directory) = ap Some (sym c.in-Some-Directory.field-0-is) ∙ c.in-Some-Directory.ensures ∙ d.is in
    same-attributes c.in-Some-Directory.directory d.directory same ∙ d.attributes
