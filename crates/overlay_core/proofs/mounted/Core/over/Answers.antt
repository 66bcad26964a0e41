use Rattle.std.proofs.Common.{arith, false, sym, subst}
use Rattle.std.proofs.lemmas.Grind.{merely}
use Rattle.plain_model.specs.Blank.{IsBlank}
use Rattle.plain_model.specs.Layers.{AreLayers}
use Rattle.layer_tree.specs.Tree.{layer_of}
use Rattle.merged_lookup.specs.declared.layers.Layers.{Layers}
use Rattle.merged_lookup.specs.Merged.{layers_of, lowers_of}
use Rattle.overlay_core.specs.Mounting.{machine_options}
use Rattle.overlay_core.specs.Watching.{BeginsWith}
use Rattle.overlay_core.proofs.Agreeing.{filled-layers, has-state, no-temps}
use Rattle.overlay_core.proofs.Waited.{none-waits}
use Rattle.overlay_core.proofs.mounted.Core.over.Goals as goal

pub new-requires : goal.new-requires
new-requires g c = filled-layers (layer_of c.args.layers.upper) (lowers_of c.args.layers) c.requires.layers

pub invariant_of-result : goal.invariant_of-result
invariant_of-result g c =
    let w = c.in_ok-watched.watched in
    let given = c.args.layers in
    let options = machine_options false c.args.options in
    let are : AreLayers (layers_of given) = filled-layers (layer_of given.upper) (lowers_of given) c.requires.layers in
    let begins : BeginsWith w.mount.layers options w.mount w.notifier = subst (λ (l : Layers). BeginsWith l options w.mount w.notifier) (sym c.in_ok-watched.ensures.layers) c.in_ok-watched.ensures.begins in
    record {
      agrees = merely (has-state w.mount w.notifier given options c.in_ok-watched.ensures.layers are begins);
      begins = merely (λ none. begins);
      given = omega (arith, c.in_ok-watched.ensures.first);
      short = c.requires.short;
      waits = none-waits w.mount c.new-2.result.items c.new-2.ensures.items;
      temps = no-temps (lowers_of w.mount.layers) c.new-work.result c.new-work.ensures;
      blank = λ only. subst (λ (l : Layers). IsBlank (layer_of l.upper) (lowers_of l)) (sym c.in_ok-watched.ensures.layers) (c.requires.blank only);
      idle = λ only. c.new-work.ensures;
    }
