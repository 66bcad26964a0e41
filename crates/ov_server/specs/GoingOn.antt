-- A mount that goes on with a saved upper.
use Rattle.std.specs.Prelude.{◌≡◌, codes, ℕ, List, Bool, true, Option, Some, None, if◌then◌else◌}
use Rattle.std.specs.Ordering.{match_ordering, nat_cmp}
use Rattle.std.specs.Cmp.Lexicographic.{slice_cmp}
use Rattle.std.specs.Option.{option_and_then}
use Rattle.std.specs.Str.{bytes_eq}
use Rattle.toml.specs.Data.{Data, array, boolean, Items, no_items, item, Members, no_members, member, as_array}
use Rattle.ov_wire.specs.Manifests.{has_upper}
use Rattle.ov_wire.specs.ManifestLayers.{layer_items}
use Rattle.ov_wire.specs.declared.manifest.fault.ManifestFault.TheVariants.{Layers}
use Rattle.ov_server.specs.declared.fault.Fault.{Fault}
use Rattle.ov_server.specs.declared.fault.Fault.TheVariants.{Memory, Upper}

-- the one item, where there is no other
abbrev pub alone : Items → Option Data
alone (item d no_items) = Some d
alone _ = None

-- the one layer of the key that has them
abbrev pub layer_in : List ℕ → Data → Option Data
layer_in key value =
    if bytes_eq key (codes "layer") then option_and_then alone (as_array value) else None

-- THE LAYER OF A SAVED UPPER: the one item of `layer`, which is the only key
abbrev pub layer_alone : Members → Option Data
layer_alone (member key value no_members) = layer_in key value
layer_alone _ = None

-- members in the order of their keys, with this value at a key
abbrev pub with_member : List ℕ → Data → Members → Members
with_member key value no_members = member key value no_members
with_member key value (member k d rest) =
    match_ordering (slice_cmp nat_cmp key k) (member key value (member k d rest))
    (member k value rest) (member k d (with_member key value rest))

-- the lower ones of these layers, of which the first may be an upper
abbrev pub lowers_in : Bool → Items → Items
lowers_in true (item upper lowers) = lowers
lowers_in _ layers = layers

-- THE MANIFEST OF A MOUNT THAT GOES ON: this upper over the lower layers of a manifest, of which all
-- other keys are
abbrev pub going_on : Data → Members → Members
going_on upper m =
    with_member (codes "upper") (boolean true)
    (with_member (codes "layer") (array (item upper (lowers_in (has_upper m) (layer_items m)))) m)

-- what is refused is no saved upper, unless memory ran out
abbrev pub IsRefusalOf : Members → Fault → Type 0
IsRefusalOf saved (Upper Layers) = layer_alone saved ≡ None
IsRefusalOf saved Memory = Unit {0}
IsRefusalOf saved _ = ⊥
