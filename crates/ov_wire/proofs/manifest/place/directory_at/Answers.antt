use Rattle.std.proofs.Common.{◌≡◌, ◌+◌, ◌<◌, Some, length, reverse, drop, sym, ap, ◌∙◌, arith}
use Rattle.std.specs.Option.{option_and_then}
use Rattle.layer_tree.specs.Tree.{entry}
use Rattle.layer_tree.specs.declared.name_table.Entry.TheVariants as to
use Rattle.layer_tree.proofs.Following.{follow, follow-on}
use Rattle.ov_wire.proofs.Planting.{leads_to_directory, held-directory, past-whiteout, follow-names}
use Rattle.ov_wire.proofs.manifest.place.directory_at.Goals as goal

pub loop-name-init : goal.loop-name-init
loop-name-init c = follow-names c.args.layer.now c.args.names.now

pub returns-in-Whiteout-clause-none : goal.returns-in-Whiteout-clause-none
returns-in-Whiteout-clause-none c =
    let led : entry c.args.layer.now c.loop-name.key c.name-item.result ≡ Some to.Whiteout = sym c.entry.ensures ∙ c.in_ok-next.was ∙ ap Some c.in-Whiteout.is in
    let within : c.loop-name.name-index < length c.args.names.now = omega arith in
    held-directory c.args.layer.now c.lawful.ensures.tree (reverse c.args.names.now)
    ∙ ap (leads_to_directory c.args.layer.now) (sym c.loop-name.invariant ∙ follow-on c.args.layer.now c.args.names.now c.loop-name.name-index (to.Object c.loop-name.key) c.name-item.result within c.name-item.is ∙ ap (option_and_then (λ f. follow c.args.layer.now f (drop (c.loop-name.name-index + 1) c.args.names.now))) led)
    ∙ past-whiteout c.args.layer.now (drop (c.loop-name.name-index + 1) c.args.names.now)
