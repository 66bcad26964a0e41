use Rattle.std.proofs.Common.{◌∷◌, Ok, refl, sym, subst}
use Rattle.layer_tree.specs.Tree.{layer_of}
use Rattle.ov_wire.specs.Drafts.{Plants}
use Rattle.ov_wire.proofs.Planting.{no-objects, puts-whiteout}
use Rattle.ov_wire.proofs.Unmarked.{unmarked-linked}
use Rattle.ov_wire.proofs.manifest.place.plant.Goals as goal

pub returns-in_ok-insert_whiteout-in-Whiteout-clause-keeps : goal.returns-in_ok-insert_whiteout-in-Whiteout-clause-keeps
returns-in_ok-insert_whiteout-in-Whiteout-clause-keeps c = λ path at layer.
    c.insert_whiteout.ensures.keeps path at (no-objects c.args.layer.now c.args.parent c.args.name c.requires.free) layer

pub returns-in_ok-insert_whiteout-in-Whiteout-clause-plants : goal.returns-in_ok-insert_whiteout-in-Whiteout-clause-plants
returns-in_ok-insert_whiteout-in-Whiteout-clause-plants c = λ path at layer.
    subst (λ i. Plants (layer_of c.args.layer.now) (layer_of c.insert_whiteout.new.self) (c.args.name ∷ path) c.args.to_further i (Ok tt)) (sym c.in-Whiteout.is) (
      refl,
      puts-whiteout c.args.layer.now c.insert_whiteout.new.self c.args.parent c.args.name path layer at c.requires.free
          (c.in_ok-insert_whiteout-in-Whiteout.ensures.covers path at) c.in_ok-insert_whiteout-in-Whiteout.ensures.unbinds,
    )

pub returns-in_ok-link-in-Link-clause-unmarked : goal.returns-in_ok-link-in-Link-clause-unmarked
returns-in_ok-link-in-Link-clause-unmarked c = unmarked-linked c.args.layer.now c.link.new.self c.args.parent c.args.name c.in-Some.key c.in_ok-link-in-Link.ensures.links
