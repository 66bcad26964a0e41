-- The mount that a manifest tells.
use Rattle.std.specs.Prelude.{◌≡◌, ℕ, Bool, cond, not, List, ◌∷◌, Option, Some, None, Ok}
use Rattle.toml.specs.Data.{Members}
use Rattle.ov_base.specs.declared.options.Options.{Options}
use Rattle.plain_model.specs.Layers.{Layer}
use Rattle.layer_tree.specs.Tree.{layer_of}
use Rattle.merged_lookup.specs.Merged.{lowers_of}
use Rattle.merged_lookup.specs.declared.layers.Layers.{Layers}
use Rattle.ov_wire.specs.Manifests.{file_limit_of, has_upper}
use Rattle.ov_wire.specs.ManifestLayers.{AreSpelled, layer_items, manifest_of}
use Rattle.overlay_core.specs.Views.{core_layers, core_options, core_read_only}
use Rattle.overlay_core.specs.declared.mounted.Core.{Core}
use Rattle.history_length.specs.declared.HistoryLength.{HistoryLength}
use Rattle.watch_table.specs.declared.hook.Callback.{Ghosts as Callback}
use Rattle.watch_table.specs.declared.hook.Rule.{Ghosts as Rule}

-- the layers that a manifest has tables for: the lower ones, and the upper where there is one
abbrev pub told_layers : Bool → Layers → List Layer
told_layers upper l = cond upper (layer_of l.upper ∷ lowers_of l) (lowers_of l)

-- these layers hold what the entries of a manifest's tables say, the upper's first, whose files may be parts
-- of these blobs, and none of which is at fault under the limit that the manifest tells for the bytes of a file
abbrev pub HoldManifest : List (List ℕ) → Members → Layers → Type 0
HoldManifest blobs m l =
    (limit : ℕ) × (file_limit_of m ≡ Ok limit) × AreSpelled limit blobs (told_layers (has_upper m) l) (layer_items m)

-- options with a history of this length, if one is told
abbrev pub lasting : Option HistoryLength → Options → Options
lasting None options = options
lasting (Some length) options = record options { history = length.places }

-- THE MOUNT OF A MANIFEST whose blobs have these bytes: its layers hold what the entries say, its options are those that are told,
-- but for the length of the history where that is told apart, and it may be written to where it has an
-- upper
pub record IsMountOf {F G : Type 0} {asks : Callback F} {rule : Rule G} (blobs : List (List ℕ)) (m : Members)
    (history : Option HistoryLength) (core : Core F G asks rule) : Type 0 where
  pub layers : HoldManifest blobs m (core_layers core)
  pub told : Options
  pub is_told : manifest_of blobs m ≡ Ok told
  pub options : core_options core ≡ lasting history told
  pub upper : has_upper m ≡ not (core_read_only core)
