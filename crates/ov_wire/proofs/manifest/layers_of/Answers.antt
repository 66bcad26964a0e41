use Rattle.std.proofs.Common.{◌≡◌, All, Err, Ok, map, sym, subst, ◌∙◌, rules, arith}
use Rattle.std.proofs.lemmas.Grind.{common_steps}
use Rattle.toml.specs.View.{table_view, items_view}
use Rattle.plain_model.specs.Limits.{IsWithinLimits, HasShortPaths}
use Rattle.layer_tree.specs.Tree.{layer_of}
use Rattle.ov_wire.specs.Manifests.{whole_of}
use Rattle.ov_wire.specs.ManifestLayers.{AreSpelled, HasNoMark, layer_items}
use Rattle.ov_wire.specs.declared.manifest.fault.ManifestFault.TheVariants.{NotToml}
use Rattle.ov_wire.proofs.Reading.{options-of-entries, spelled-faultless, whole-toml}
use Rattle.ov_wire.proofs.WithinLimits.{spelled-within, spelled-short}
use Rattle.ov_wire.proofs.manifest.layers_of.Goals as goal

pub returns-in_err-options-clause-toml : goal.returns-in_err-options-clause-toml
returns-in_err-options-clause-toml c = λ h.
    let same : c.whole_of.result ≡ Err NotToml = first_of (search rules, grind (arith, common_steps)) in
    whole-toml (table_view c.args.manifest.now) (sym c.whole_of.ensures.said ∙ same)

pub returns-clause-options : goal.returns-clause-options
returns-clause-options c =
    let whole : whole_of (table_view c.args.manifest.now) ≡ Ok c.in_ok-options.options = first_of (search rules, grind (arith, common_steps)) in
    let spelled = subst (AreSpelled c.in_ok-options.options.file_limit c.args.blobs.now (map layer_of c.in_ok-layers.layers.items)) c.layers_in-tables.ensures.items c.in_ok-layers.ensures.spelled in
    options-of-entries c.args.blobs.now (table_view c.args.manifest.now) c.in_ok-options.options whole
    (spelled-faultless c.in_ok-options.options.file_limit c.args.blobs.now 0 (map layer_of c.in_ok-layers.layers.items) (layer_items (table_view c.args.manifest.now)) spelled)

pub returns-clause-unmarked : goal.returns-clause-unmarked
returns-clause-unmarked c = subst (All HasNoMark) (sym c.parted-upper.ensures.given) c.in_ok-layers.ensures.unmarked

pub returns-clause-limits : goal.returns-clause-limits
returns-clause-limits c =
    subst (All (IsWithinLimits c.in_ok-options.options.file_limit)) (sym c.parted-upper.ensures.given)
    (spelled-within c.in_ok-options.options.file_limit c.args.blobs.now (map layer_of c.in_ok-layers.layers.items) (items_view c.layers_in-tables.result.now) c.in_ok-layers.ensures.spelled)

pub returns-clause-short_paths : goal.returns-clause-short_paths
returns-clause-short_paths c =
    subst (All HasShortPaths) (sym c.parted-upper.ensures.given)
    (spelled-short c.in_ok-options.options.file_limit c.args.blobs.now (map layer_of c.in_ok-layers.layers.items) (items_view c.layers_in-tables.result.now) c.in_ok-layers.ensures.spelled)
