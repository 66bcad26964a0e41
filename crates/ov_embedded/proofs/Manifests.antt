-- The mount of what a manifest gave.
use Rattle.std.proofs.Common.{◌≡◌, ℕ, Bool, not, List, ◌∷◌, length, Option, Some, None, Result, Ok, Err, IfSome, option_map, refl, sym, ap, subst, map, is_none, is_some}
use Rattle.std.proofs.lemmas.Option.{none-some}
use Rattle.std.specs.Prelude.{unwrap_or}
use Rattle.toml.specs.Data.{Items, Members}
use Rattle.ov_base.specs.declared.options.Options.{Options}
use Rattle.toml.specs.Parse.{parse_document}
use Rattle.layer_tree.specs.Tree.{Tree, layer_of, layers_given}
use Rattle.merged_lookup.specs.declared.layers.Layers.{Layers}
use Rattle.ov_wire.specs.ManifestLayers.{AreSpelled, IsTold, fault_of, manifest_of}
use Rattle.ov_wire.specs.Manifests.{blob_names}
use Rattle.ov_wire.specs.declared.manifest.fault.ManifestFault.{ManifestFault}
use Rattle.ov_wire.specs.declared.manifest.fault.ManifestFault.TheVariants as manifest
use Rattle.ov_server.specs.GoingOn.{going_on, layer_alone}
use Rattle.overlay_core.specs.declared.mounted.Core.{Core}
use Rattle.watch_table.specs.declared.hook.Callback.{Ghosts as Callback}
use Rattle.watch_table.specs.declared.hook.Rule.{Ghosts as Rule}
use Rattle.ov_embedded.specs.Mounting.{Fits, IsMountOf, IsMounted, IsMountedOn, IsUnmountable, layers_told, of_manifest, pieces_of}

-- what something was made of
pub mapped : {A B : Type 0} (f : A → B) (o : Option A) (y : B) → option_map f o ≡ Some y →
    (x : A) × (o ≡ Some x) × (f x ≡ y)
mapped f None y e = absurd (none-some y e)
mapped f (Some x) y e = (x, refl, ap (λ o. unwrap_or o y) e)

-- a fault that is told is the one that there is
fault_told : (r : Result Options ManifestFault) {f : ManifestFault} → fault_of r ≡ Some f → r ≡ Err f
fault_told (Ok x) {f} e = absurd (none-some f e)
fault_told (Err g) {f} e = ap (λ o. Err (unwrap_or o g)) e

-- a fault of the layers is one of the manifest, or memory ran out
pub told_fault : (blobs : List (List ℕ)) (m : Members) (f : ManifestFault) →
    IsTold (fault_of (manifest_of blobs m)) f → IsUnmountable blobs m (of_manifest f)
told_fault blobs m f =
    elim f as (λ x.
    IsTold (fault_of (manifest_of blobs m)) x → IsUnmountable blobs m (of_manifest x)) [
      | manifest.Memory e ↦ λ told. tt
      | _ ↦ λ told. fault_told (manifest_of blobs m) told
    ]

-- a mount is read-only where it is given no upper
pub given_upper : (upper : Option Tree) (read_only : Bool) → read_only ≡ is_none upper →
    not read_only ≡ is_some upper
given_upper None read_only e = ap not e
given_upper (Some U) read_only e = ap not e

-- layers that were made of what a manifest gave hold what its entries say
pub held_by : (limit : ℕ) (blobs : List (List ℕ)) (upper : Option Tree) (lowers : List Tree)
    (l : Layers) (b : Bool) (items : Items) →
    IfSome upper (λ given. l.upper ≡ given) → l.lowers.items ≡ lowers → b ≡ is_some upper →
    AreSpelled limit blobs (layers_given upper lowers) items →
    AreSpelled limit blobs (layers_told b l) items
held_by limit blobs None lowers l b items above below has spelled =
    subst (λ x. AreSpelled limit blobs (layers_told x l) items) (sym has)
    (subst (λ (xs : List Tree). AreSpelled limit blobs (map layer_of xs) items) (sym below) spelled)
held_by limit blobs (Some u) lowers l b items above below has spelled =
    subst (λ x. AreSpelled limit blobs (layers_told x l) items) (sym has)
    (subst (λ (x : Tree). AreSpelled limit blobs (layer_of x ∷ map layer_of l.lowers.items) items)
    (sym above)
    (subst (λ (xs : List Tree). AreSpelled limit blobs (layer_of u ∷ map layer_of xs) items)
    (sym below) spelled))

module _ {F G : Type 0} {asks : Callback F} {rule : Rule G} (all lengths : List ℕ)
    (blobs : List (List ℕ)) (core made : Core F G asks rule) where
  -- so of the bytes of the manifest and of its blobs'
  pub mounted_of : (bytes : List ℕ) (m : Members) (count : ℕ) → parse_document bytes ≡ Some m →
      blobs ≡ pieces_of lengths all → count ≡ length (blob_names m) → Fits lengths all count →
      IsMountOf blobs m core → made ≡ core → IsMounted bytes all lengths made
  mounted_of bytes m count document parts counted fits mount is = (
    m,
    document,
    subst (λ n. Fits lengths all n) counted fits,
    subst (λ c. IsMountOf (pieces_of lengths all) m c) (sym is)
        (subst (λ b. IsMountOf b m core) parts mount),
  )

  -- and of those of a saved upper, with which it goes on
  pub goes_on : (saved bytes : List ℕ) (s m joined : Members) (count : ℕ) →
      parse_document saved ≡ Some s →
      parse_document bytes ≡ Some m →
      option_map (λ upper. going_on upper m) (layer_alone s) ≡ Some joined →
      blobs ≡ pieces_of lengths all → count ≡ length (blob_names m) → Fits lengths all count →
      IsMountOf blobs joined core → made ≡ core → IsMountedOn saved bytes all lengths made
  goes_on saved bytes s m joined count upper document over parts counted fits mount is =
      let it = mapped (λ d. going_on d m) (layer_alone s) joined over in (
        s,
        m,
        it.0,
        upper,
        document,
        subst (λ n. Fits lengths all n) counted fits,
        it.1,
        subst (λ j. IsMountOf (pieces_of lengths all) j made) (sym it.2)
            (subst (λ c. IsMountOf (pieces_of lengths all) joined c) (sym is)
            (subst (λ b. IsMountOf b joined core) parts mount)),
      )
