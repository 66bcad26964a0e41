-- The mount of a manifest.
use Rattle.std.specs.Prelude.{◌≡◌, ◌≢◌, ℕ, Bool, cond, not, true, List, [], ◌∷◌, length, take, drop, Option, Some, None, Ok, Err, IsErr, IsSome, IsUtf8, ◌⊎◌}
use Rattle.std.specs.List.{sum}
use Rattle.toml.specs.Data.{Data, Members}
use Rattle.toml.specs.Parse.{parse_document}
use Rattle.layer_tree.specs.Tree.{layer_of}
use Rattle.merged_lookup.specs.Merged.{lowers_of}
use Rattle.merged_lookup.specs.declared.layers.Layers.{Layers}
use Rattle.ov_wire.specs.Manifests.{blob_names, has_upper, whole_of}
use Rattle.ov_wire.specs.ManifestLayers.{AreSpelled, layer_items, manifest_of}
use Rattle.ov_wire.specs.declared.manifest.fault.ManifestFault.{ManifestFault}
use Rattle.ov_wire.specs.declared.manifest.fault.ManifestFault.TheVariants as fault
use Rattle.ov_server.specs.GoingOn.{going_on, layer_alone}
use Rattle.overlay_core.specs.Views.{CoreBegins, core_finished, core_layers, core_options, core_read_only, has_client}
use Rattle.overlay_core.specs.declared.mounted.Core.{Core}
use Rattle.plain_model.specs.Layers.{Layer}
use Rattle.watch_table.specs.declared.hook.Callback.{Ghosts as Callback}
use Rattle.watch_table.specs.declared.hook.Rule.{Ghosts as Rule}
use Rattle.ov_embedded.specs.Jobs.{job_of}
use Rattle.ov_embedded.specs.declared.manifest.Unmountable.{Unmountable}
use Rattle.ov_embedded.specs.declared.manifest.Unmountable.TheVariants as unmountable
use Rattle.ov_embedded.specs.declared.mounted.Mounted.{Mounted}
use Rattle.ov_embedded.specs.declared.outcome.Outcome.{Outcome}
use Rattle.ov_embedded.specs.declared.outcome.Outcome.TheVariants as outcome

-- the parts of some bytes, one behind the other, that have these lengths
abbrev pub pieces_of : List ℕ → List ℕ → List (List ℕ)
pieces_of [] bytes = []
pieces_of (n ∷ ns) bytes = take n bytes ∷ pieces_of ns (drop n bytes)

-- these are the lengths of the bytes of so many blobs, which are all of them
abbrev pub Fits : List ℕ → List ℕ → ℕ → Type 0
Fits lengths bytes count = (length lengths ≡ count) × (sum lengths ≡ length bytes)

-- the layers of a mount for which a manifest has tables: an upper only where it has one
abbrev pub layers_told : Bool → Layers → List Layer
layers_told upper l = cond upper (layer_of l.upper ∷ lowers_of l) (lowers_of l)

-- THE MOUNT OF A MANIFEST whose blobs have these bytes: its layers hold what the entries say, its
-- options are those that are told, it may be written to where there is an upper, and nothing was
-- done on it
pub record IsMountOf {F G : Type 0} {asks : Callback F} {rule : Rule G} (blobs : List (List ℕ))
    (m : Members) (core : Core F G asks rule) : Type 0 where
  pub options : manifest_of blobs m ≡ Ok (core_options core)
  pub layers :
      AreSpelled (core_options core).file_limit blobs
      (layers_told (has_upper m) (core_layers core)) (layer_items m)
  pub upper : has_upper m ≡ not (core_read_only core)
  pub finished : core_finished core ≡ 0
  pub nobody : (n : ℕ) → has_client core n ≢ true
  pub begins : CoreBegins core (core_options core)

-- so of the bytes of a manifest, and of its blobs' one behind the other
abbrev pub IsMounted : {F G : Type 0} {asks : Callback F} {rule : Rule G} →
    List ℕ → List ℕ → List ℕ → Core F G asks rule → Type 0
IsMounted manifest blobs lengths core =
    (m : Members) × (parse_document manifest ≡ Some m)
    × Fits lengths blobs (length (blob_names m)) × IsMountOf (pieces_of lengths blobs) m core

-- THE MOUNT OF A MANIFEST THAT GOES ON with a saved upper: of the manifest that has this over its
-- lower layers
abbrev pub IsMountedOn : {F G : Type 0} {asks : Callback F} {rule : Rule G} →
    List ℕ → List ℕ → List ℕ → List ℕ → Core F G asks rule → Type 0
IsMountedOn saved manifest blobs lengths core =
    (s : Members) × (m : Members) × (upper : Data) × (parse_document saved ≡ Some s)
    × (parse_document manifest ≡ Some m) × Fits lengths blobs (length (blob_names m))
    × (layer_alone s ≡ Some upper)
    × IsMountOf (pieces_of lengths blobs) (going_on upper m) core

-- no call was answered yet, nothing saved, and no job begun
abbrev pub IsFresh : Mounted → Type 0
IsFresh m =
    (m.reply.items ≡ []) × (m.saved.items ≡ []) × (m.begun ≡ 0) × ((n : ℕ) → job_of m n ≡ None)

-- how a fault of a manifest is told
abbrev pub of_manifest : ManifestFault → Unmountable
of_manifest (fault.Memory e) = unmountable.Memory
of_manifest f = unmountable.Manifest f

-- and one of a saved upper
abbrev pub of_upper : ManifestFault → Unmountable
of_upper (fault.Memory e) = unmountable.Memory
of_upper f = unmountable.Upper f

-- why a manifest is no mount: a fault of it that is told is its first
abbrev pub IsUnmountable : List (List ℕ) → Members → Unmountable → Type 0
IsUnmountable blobs m (unmountable.Manifest f) = manifest_of blobs m ≡ Err f
IsUnmountable blobs m unmountable.Memory = Unit {0}
IsUnmountable blobs m _ = ⊥

-- why bytes aren't those of so many blobs: they don't fit
abbrev pub IsUnfit : List ℕ → List ℕ → ℕ → Unmountable → Type 0
IsUnfit lengths bytes count (unmountable.Blob n) = Fits lengths bytes count → ⊥
IsUnfit lengths bytes count unmountable.Memory = Unit {0}
IsUnfit lengths bytes count _ = ⊥

-- bytes are no manifest: no TOML, or at fault as a whole
abbrev pub IsNoManifest : List ℕ → Type 0
IsNoManifest bytes =
    (IsUtf8 bytes → IsSome (parse_document bytes) → ⊥)
    ⊎ ((m : Members) × (parse_document bytes ≡ Some m) × IsErr (whole_of m))

-- the bytes of a manifest's blobs don't fit it
abbrev pub LacksBlobs : List ℕ → List ℕ → List ℕ → Type 0
LacksBlobs manifest blobs lengths =
    (m : Members) × (parse_document manifest ≡ Some m)
    × (Fits lengths blobs (length (blob_names m)) → ⊥)

-- WHY A MANIFEST IS NO MOUNT: it is none, or its blobs don't fit, or one of its layers is at fault
abbrev pub HasNoMount : List ℕ → List ℕ → List ℕ → Unmountable → Type 0
HasNoMount manifest blobs lengths (unmountable.Manifest f) =
    IsNoManifest manifest
    ⊎ ((m : Members) × (parse_document manifest ≡ Some m)
    × IsErr (manifest_of (pieces_of lengths blobs) m))
HasNoMount manifest blobs lengths (unmountable.Blob n) = LacksBlobs manifest blobs lengths
HasNoMount manifest blobs lengths unmountable.Memory = Unit {0}
HasNoMount manifest blobs lengths (unmountable.Upper f) = ⊥

-- the whole of a manifest is at fault, whosever that is
abbrev pub HasNoWhole : Members → Unmountable → Type 0
HasNoWhole m (unmountable.Blob n) = ⊥
HasNoWhole m unmountable.Memory = Unit {0}
HasNoWhole m _ = IsErr (whole_of m)

-- a fault of a manifest is told as its own or its saved upper's, and any other as it is
abbrev pub Blames : Unmountable → Unmountable → Type 0
Blames (unmountable.Manifest f) (unmountable.Manifest g) = Unit {0}
Blames (unmountable.Manifest f) (unmountable.Upper g) = Unit {0}
Blames why told = told ≡ why

-- the layer of a saved upper over a manifest's lower ones is at fault
abbrev pub JoinsNone : List ℕ → List ℕ → List ℕ → List ℕ → Type 0
JoinsNone saved manifest blobs lengths =
    (s : Members) × (m : Members) × (upper : Data) × (parse_document saved ≡ Some s)
    × (parse_document manifest ≡ Some m) × (layer_alone s ≡ Some upper)
    × IsErr (manifest_of (pieces_of lengths blobs) (going_on upper m))

-- bytes are no saved upper: no TOML, or not of one layer alone
abbrev pub IsNoUpper : List ℕ → Type 0
IsNoUpper saved =
    (IsUtf8 saved → IsSome (parse_document saved) → ⊥)
    ⊎ ((s : Members) × (parse_document saved ≡ Some s) × (layer_alone s ≡ None))

-- WHY A MANIFEST GOES ON WITH NO SAVED UPPER: that is none, or the manifest is none, or its blobs don't
-- fit, or what both come to is at fault
abbrev pub GoesNowhere : List ℕ → List ℕ → List ℕ → List ℕ → Unmountable → Type 0
GoesNowhere saved manifest blobs lengths (unmountable.Upper f) =
    IsNoUpper saved ⊎ JoinsNone saved manifest blobs lengths
GoesNowhere saved manifest blobs lengths (unmountable.Manifest f) =
    IsNoManifest manifest ⊎ JoinsNone saved manifest blobs lengths
GoesNowhere saved manifest blobs lengths (unmountable.Blob n) = LacksBlobs manifest blobs lengths
GoesNowhere saved manifest blobs lengths unmountable.Memory = Unit {0}

-- the outcome by which that is told
abbrev pub outcome_of : Unmountable → Outcome
outcome_of (unmountable.Upper f) = outcome.Upper
outcome_of unmountable.Memory = outcome.NoMemory
outcome_of _ = outcome.Fault

-- so it is, or memory ran out for its text
abbrev pub IsToldAs : Unmountable → Outcome → Type 0
IsToldAs why result = (result ≡ outcome_of why) ⊎ (result ≡ outcome.NoMemory)

-- a handle of nothing holds a mount of this kind, or nothing, for which there is such a reason, or
-- memory ran out; one that holds a mount keeps it
abbrev pub MountsAs : (Mounted → Type 0) → (Unmountable → Type 0) → Option Mounted →
    Option Mounted → Outcome → Type 0
MountsAs Is Lacks (Some old) new result = (new ≡ Some old) × (result ≡ outcome.Mounted)
MountsAs Is Lacks None new outcome.Done = (m : Mounted) × (new ≡ Some m) × Is m × IsFresh m
MountsAs Is Lacks None new outcome.NoMemory = new ≡ None
MountsAs Is Lacks None new result =
    (new ≡ None) × ((why : Unmountable) × Lacks why × (result ≡ outcome_of why))

-- so of the mount of a manifest, and of one that goes on
abbrev pub MountsInto : List ℕ → List ℕ → List ℕ → Option Mounted → Option Mounted → Outcome →
    Type 0
MountsInto manifest blobs lengths old new result =
    MountsAs (λ m. IsMounted manifest blobs lengths m.core) (HasNoMount manifest blobs lengths)
    old new result

abbrev pub MountsOnInto : List ℕ → List ℕ → List ℕ → List ℕ → Option Mounted → Option Mounted →
    Outcome → Type 0
MountsOnInto saved manifest blobs lengths old new result =
    MountsAs (λ m. IsMountedOn saved manifest blobs lengths m.core)
    (GoesNowhere saved manifest blobs lengths) old new result
