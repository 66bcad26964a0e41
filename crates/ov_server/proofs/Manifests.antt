-- What the reading of a manifest answers.
use Rattle.std.proofs.Common.{◌≡◌, ◌∙◌, ℕ, suc, pred, Bool, true, false, not, List, [], ◌∷◌, Option, Some, None, Result, Ok, Err, IfSome, refl, sym, ap, subst, map, length, is_none, is_some}
use Rattle.std.proofs.lemmas.List.{length-map}
use Rattle.toml.specs.Data.{Items, no_items, item, Members}
use Rattle.ov_base.specs.declared.options.Options.{Options}
use Rattle.plain_model.specs.Layers.{Layer}
use Rattle.layer_tree.specs.Tree.{Tree, layer_of, layers_given}
use Rattle.ov_wire.specs.Manifests.{has_upper, items_len, layer_count}
use Rattle.ov_wire.specs.ManifestLayers.{AreSpelled, IsTold, fault_of, layer_items, manifest_of}
use Rattle.ov_wire.specs.declared.manifest.fault.ManifestFault.{ManifestFault}
use Rattle.ov_wire.specs.declared.manifest.fault.ManifestFault.TheVariants as manifest
use Rattle.ov_server.specs.declared.fault.Fault.TheVariants.{Manifest, Memory}
use Rattle.merged_lookup.specs.declared.layers.Layers.{Layers}
use Rattle.ov_server.specs.Mounts.{HoldManifest, told_layers}
use Rattle.ov_server.specs.Faults.{AnswersManifest, layering_of, manifest_fault}
use Rattle.ov_server.proofs.Mountable.{told-limit}

-- a manifest that has a fault has this one
document_fault : (r : Result Options ManifestFault) (f : ManifestFault) → fault_of r ≡ Some f → r ≡ Err f
document_fault (Ok x) f e = cc
document_fault (Err g) f e = cc

-- a manifest without a fault isn't refused
pub refuses_none : {T : Type 0} (blobs : List (List ℕ)) (m : Members) (x : T) (o : Options) → manifest_of blobs m ≡ Ok o → AnswersManifest {T = T} blobs m (Ok x)
refuses_none blobs m x o good = record { told = λ f e. cc; ends = λ f e. cc }

-- memory ran out
refuses_for_memory : {T : Type 0} (blobs : List (List ℕ)) (m : Members) → AnswersManifest {T = T} blobs m (Err Memory)
refuses_for_memory blobs m = record { told = λ f e. cc; ends = λ f p. tt }

-- a fault that is told is the first
refuses_first : {T : Type 0} (blobs : List (List ℕ)) (m : Members) (f : ManifestFault) → fault_of (manifest_of blobs m) ≡ Some f → AnswersManifest {T = T} blobs m (Err (Manifest f))
refuses_first {T} blobs m f h = record {
  told = λ g e. let same : f ≡ g = cc in first ∙ ap Err same;
  ends = λ g p. let same : f ≡ g = cc (first) in ap Manifest same;
}
  where
    first : manifest_of blobs m ≡ Err f
    first = document_fault (manifest_of blobs m) f h

-- what the fault of a manifest is told as
pub refuses_told : (S : Type 0) (blobs : List (List ℕ)) (m : Members) (f : ManifestFault) → IsTold (fault_of (manifest_of blobs m)) f → AnswersManifest {T = S} blobs m (Err (manifest_fault f))
refuses_told S blobs m f =
    elim f as (λ x. IsTold (fault_of (manifest_of blobs m)) x → AnswersManifest {T = S} blobs m (Err (manifest_fault x))) [
      | manifest.Memory e ↦ λ told. refuses_for_memory {T = S} blobs m
      | _ ↦ λ told. refuses_first {T = S} blobs m _ told
    ]

-- as many layers are spelled as there are
spelled_count : (limit : ℕ) (blobs : List (List ℕ)) (Ls : List Layer) (items : Items) → AreSpelled limit blobs Ls items → length Ls ≡ items_len items
spelled_count limit blobs [] no_items p = refl
spelled_count limit blobs (L ∷ Ls) (item d rest) p = ap suc (spelled_count limit blobs Ls rest p.1)
spelled_count limit blobs [] (item d rest) p = absurd p
spelled_count limit blobs (L ∷ Ls) no_items p = absurd p

-- the layers of a manifest are as many as it has, and with the upper told they are those of the manifest
pub counted : (limit : ℕ) (blobs : List (List ℕ)) (m : Members) (upper : Option Tree) (lowers : List Tree) → is_some upper ≡ has_upper m → AreSpelled limit blobs (layers_given upper lowers) (layer_items m) → layering_of m ≡ (is_some upper, length lowers)
counted limit blobs m upper lowers there p = by upper there (spelled_count limit blobs (layers_given upper lowers) (layer_items m) p)
  where
    by : (upper : Option Tree) → is_some upper ≡ has_upper m → length (layers_given upper lowers) ≡ layer_count m → layering_of m ≡ (is_some upper, length lowers)
    by None there n =
        let none : has_upper m ≡ false = sym there in
        rw none (ap (λ (k : ℕ). (false, k)) (sym n ∙ length-map lowers layer_of))
    by (Some U) there n =
        let some : has_upper m ≡ true = sym there in
        rw some (ap (λ (k : ℕ). (true, pred k)) (sym n) ∙ ap (λ (k : ℕ). (true, k)) (length-map lowers layer_of))

-- a mount is read-only where it is given no upper
pub given_upper : (upper : Option Tree) (read_only : Bool) → read_only ≡ is_none upper → not read_only ≡ is_some upper
given_upper None read_only e = ap not e
given_upper (Some U) read_only e = ap not e

-- layers that were made of what a manifest gave hold what its entries say
told_by : (limit : ℕ) (blobs : List (List ℕ)) (upper : Option Tree) (lowers : List Tree) (l : Layers) (b : Bool) (items : Items) →
    IfSome upper (λ given. l.upper ≡ given) → l.lowers.items ≡ lowers → b ≡ is_some upper →
    AreSpelled limit blobs (layers_given upper lowers) items → AreSpelled limit blobs (told_layers b l) items
told_by limit blobs None lowers l b items above below has spelled =
    subst (λ x. AreSpelled limit blobs (told_layers x l) items) (sym has)
    (subst (λ (xs : List Tree). AreSpelled limit blobs (map layer_of xs) items) (sym below) spelled)
told_by limit blobs (Some u) lowers l b items above below has spelled =
    subst (λ x. AreSpelled limit blobs (told_layers x l) items) (sym has)
    (subst (λ (x : Tree). AreSpelled limit blobs (layer_of x ∷ map layer_of l.lowers.items) items) (sym above)
    (subst (λ (xs : List Tree). AreSpelled limit blobs (layer_of u ∷ map layer_of xs) items) (sym below) spelled))

pub holds_manifest : (blobs : List (List ℕ)) (m : Members) (upper : Option Tree) (lowers : List Tree) (options : Options) (l : Layers) →
    manifest_of blobs m ≡ Ok options → IfSome upper (λ given. l.upper ≡ given) → l.lowers.items ≡ lowers → is_some upper ≡ has_upper m →
    AreSpelled options.file_limit blobs (layers_given upper lowers) (layer_items m) → HoldManifest blobs m l
holds_manifest blobs m upper lowers options l good above below has spelled =
    (options.file_limit, told-limit blobs m options good, told_by options.file_limit blobs upper lowers l (has_upper m) (layer_items m) above below (sym has) spelled)
