-- Why a manifest is no mount.
use Rattle.std.proofs.Common.{◌≡◌, ℕ, List, length, map, Some, option_map, Result, Ok, Err, IsErr, IsOk, IsSome, IsUtf8, inl, inr, refl, sym, subst, ap, ◌∙◌}
use Rattle.std.proofs.lemmas.Bool.{false≢true}
use Rattle.std.proofs.lemmas.List.{length-map}
use Rattle.toml.specs.Data.{Members}
use Rattle.toml.specs.Parse.{parse_document}
use Rattle.ov_wire.specs.ManifestEntries.{and_then}
use Rattle.ov_wire.specs.ManifestLayers.{manifest_of}
use Rattle.ov_wire.specs.Manifests.{IsMemory, blob_names, whole_of}
use Rattle.ov_wire.specs.declared.manifest.fault.ManifestFault.{ManifestFault}
use Rattle.ov_wire.specs.declared.manifest.fault.ManifestFault.TheVariants as fault
use Rattle.ov_server.specs.GoingOn.{IsRefusalOf, going_on, layer_alone}
use Rattle.ov_server.specs.declared.fault.Fault.TheVariants.{Upper}
use Rattle.ov_embedded.proofs.Manifests.{mapped}
use Rattle.ov_embedded.specs.Mounting.{Blames, Fits, GoesNowhere, HasNoMount, HasNoWhole, IsUnfit, IsUnmountable, JoinsNone, of_manifest, of_upper, pieces_of}
use Rattle.ov_embedded.specs.declared.manifest.Unmountable.{Unmountable}
use Rattle.ov_embedded.specs.declared.manifest.Unmountable.TheVariants as unmountable

-- what isn't well is a fault
pub not_ok : {T E : Type 0} (r : Result T E) → (IsOk r → ⊥) → IsErr r
not_ok (Ok x) h = absurd (h refl)
not_ok (Err e) h = refl

-- a fault is one
is_err : {T E : Type 0} (r : Result T E) (e : E) → r ≡ Err e → IsErr r
is_err r e is = subst (λ x. IsErr x) (sym is) refl

-- what is at fault first is at fault
err_first : {A B E : Type 0} (r : Result A E) (f : A → Result B E) → IsErr r → IsErr (and_then r f)
err_first (Ok x) f e = absurd (false≢true e)
err_first (Err x) f e = refl

-- how many blobs a manifest names
pub counted : {A : Type 0} (view : A → List ℕ) (names : List A) (m : Members) (count : ℕ) →
    map view names ≡ blob_names m → count ≡ length names → count ≡ length (blob_names m)
counted view names m count same is = is ∙ (sym (length-map names view) ∙ ap length same)

-- blobs that don't fit so many
unfit : (lengths bytes : List ℕ) (count wanted : ℕ) → count ≡ wanted →
    (Fits lengths bytes count → ⊥) → Fits lengths bytes wanted → ⊥
unfit lengths bytes count wanted same h fits =
    h (subst (λ n. Fits lengths bytes n) (sym same) fits)

-- a fault of a manifest is none of a blob
abbrev is_blob : Unmountable → Type 0
is_blob (unmountable.Blob n) = Unit {0}
is_blob _ = ⊥

manifest_is_no_blob : (f : ManifestFault) (n : ℕ) → unmountable.Blob n ≡ unmountable.Manifest f → ⊥
manifest_is_no_blob f n e = subst is_blob e tt

module _ (manifest blobs lengths : List ℕ) where
  -- no mount comes of bytes that are no TOML
  pub none_bytes : (f : ManifestFault) →
      (IsUtf8 manifest → IsSome (parse_document manifest) → IsMemory f) →
      HasNoMount manifest blobs lengths (of_manifest f)
  none_bytes f =
      elim f as (λ x.
      (IsUtf8 manifest → IsSome (parse_document manifest) → IsMemory x) →
      HasNoMount manifest blobs lengths (of_manifest x)) [
        | fault.Memory e ↦ λ h. tt
        | _ ↦ λ h. inl (inl h)
      ]

  -- nor of a manifest whose whole is at fault
  pub none_whole : (m : Members) (f : ManifestFault) → parse_document manifest ≡ Some m →
      (IsOk (whole_of m) → IsMemory f) → HasNoMount manifest blobs lengths (of_manifest f)
  none_whole m f document =
      elim f as (λ x. (IsOk (whole_of m) → IsMemory x) →
      HasNoMount manifest blobs lengths (of_manifest x)) [
        | fault.Memory e ↦ λ h. tt
        | _ ↦ λ h. inl (inr (m, document, not_ok (whole_of m) h))
      ]

  -- nor of blobs that don't fit
  pub none_blobs : {A : Type 0} (view : A → List ℕ) (names : List A) (m : Members) (count : ℕ)
      (why : Unmountable) → parse_document manifest ≡ Some m → map view names ≡ blob_names m →
      count ≡ length names → IsUnfit lengths blobs count why →
      HasNoMount manifest blobs lengths why
  none_blobs view names m count (unmountable.Blob n) document same is h = (
    m,
    document,
    unfit lengths blobs count (length (blob_names m)) (counted view names m count same is) h,
  )
  none_blobs view names m count unmountable.Memory document same is h = tt
  none_blobs view names m count (unmountable.Manifest f) document same is h = absurd h
  none_blobs view names m count (unmountable.Upper f) document same is h = absurd h

  -- nor of layers that are at fault
  pub none_layers : (m : Members) (parts : List (List ℕ)) (why : Unmountable) →
      parse_document manifest ≡ Some m → parts ≡ pieces_of lengths blobs →
      IsUnmountable parts m why → HasNoMount manifest blobs lengths why
  none_layers m parts (unmountable.Manifest f) document are e =
      inr (
        m,
        document,
        is_err (manifest_of (pieces_of lengths blobs) m) f
            (subst (λ p. manifest_of p m ≡ Err f) are e),
      )
  none_layers m parts unmountable.Memory document are e = tt
  none_layers m parts (unmountable.Blob n) document are e = absurd e
  none_layers m parts (unmountable.Upper f) document are e = absurd e

  module _ (saved : List ℕ) where
    -- what is no TOML is no saved upper
    pub nowhere_saved : (f : ManifestFault) →
        (IsUtf8 saved → IsSome (parse_document saved) → IsMemory f) →
        GoesNowhere saved manifest blobs lengths (of_upper f)
    nowhere_saved f =
        elim f as (λ x.
        (IsUtf8 saved → IsSome (parse_document saved) → IsMemory x) →
        GoesNowhere saved manifest blobs lengths (of_upper x)) [
          | fault.Memory e ↦ λ h. tt
          | _ ↦ λ h. inl (inl h)
        ]

    -- nor is what has another layer beside it, or any other key
    pub nowhere_alone : (s : Members) (f : ManifestFault) → parse_document saved ≡ Some s →
        IsRefusalOf s (Upper f) → GoesNowhere saved manifest blobs lengths (unmountable.Upper f)
    nowhere_alone s f document =
        elim f as (λ x. IsRefusalOf s (Upper x) →
        GoesNowhere saved manifest blobs lengths (unmountable.Upper x)) [
          | fault.Layers ↦ λ h. inl (inr (s, document, h))
          | _ ↦ λ h. absurd h
        ]

    -- why a manifest alone is no mount it is none that goes on
    pub nowhere_bytes : (f : ManifestFault) →
        (IsUtf8 manifest → IsSome (parse_document manifest) → IsMemory f) →
        GoesNowhere saved manifest blobs lengths (of_manifest f)
    nowhere_bytes f =
        elim f as (λ x.
        (IsUtf8 manifest → IsSome (parse_document manifest) → IsMemory x) →
        GoesNowhere saved manifest blobs lengths (of_manifest x)) [
          | fault.Memory e ↦ λ h. tt
          | _ ↦ λ h. inl (inl h)
        ]

    pub nowhere_whole : (m : Members) (f : ManifestFault) → parse_document manifest ≡ Some m →
        (IsOk (whole_of m) → IsMemory f) →
        GoesNowhere saved manifest blobs lengths (of_manifest f)
    nowhere_whole m f document =
        elim f as (λ x. (IsOk (whole_of m) → IsMemory x) →
        GoesNowhere saved manifest blobs lengths (of_manifest x)) [
          | fault.Memory e ↦ λ h. tt
          | _ ↦ λ h. inl (inr (m, document, not_ok (whole_of m) h))
        ]

    pub nowhere_blobs : {A : Type 0} (view : A → List ℕ) (names : List A) (m : Members)
        (count : ℕ) (why : Unmountable) → parse_document manifest ≡ Some m →
        map view names ≡ blob_names m → count ≡ length names →
        IsUnfit lengths blobs count why → GoesNowhere saved manifest blobs lengths why
    nowhere_blobs view names m count (unmountable.Blob n) document same is h = (
      m,
      document,
      unfit lengths blobs count (length (blob_names m)) (counted view names m count same is) h,
    )
    nowhere_blobs view names m count unmountable.Memory document same is h = tt
    nowhere_blobs view names m count (unmountable.Manifest f) document same is h = absurd h
    nowhere_blobs view names m count (unmountable.Upper f) document same is h = absurd h

    module _ (s m joined : Members) (written : parse_document saved ≡ Some s)
        (document : parse_document manifest ≡ Some m)
        (over : option_map (λ upper. going_on upper m) (layer_alone s) ≡ Some joined) where
      -- what both come to is at fault
      joins_none : IsErr (manifest_of (pieces_of lengths blobs) joined) →
          JoinsNone saved manifest blobs lengths
      joins_none e =
          let it = mapped (λ d. going_on d m) (layer_alone s) joined over in (
            s,
            m,
            it.0,
            written,
            document,
            it.1,
            subst (λ j. IsErr (manifest_of (pieces_of lengths blobs) j)) (sym it.2) e,
          )

      -- as a whole
      pub nowhere_judged : (why : Unmountable) → HasNoWhole joined why →
          GoesNowhere saved manifest blobs lengths why
      nowhere_judged (unmountable.Upper f) h =
          inr (joins_none (err_first (whole_of joined) _ h))
      nowhere_judged (unmountable.Manifest f) h =
          inr (joins_none (err_first (whole_of joined) _ h))
      nowhere_judged unmountable.Memory h = tt
      nowhere_judged (unmountable.Blob n) h = absurd h

      -- or in a layer, whosever that is
      pub nowhere_blamed : (parts : List (List ℕ)) (why told : Unmountable) →
          parts ≡ pieces_of lengths blobs → IsUnmountable parts joined why → Blames why told →
          GoesNowhere saved manifest blobs lengths told
      nowhere_blamed parts (unmountable.Manifest f) (unmountable.Manifest g) are e blamed =
          inr (joins_none (is_err (manifest_of (pieces_of lengths blobs) joined) f
          (subst (λ p. manifest_of p joined ≡ Err f) are e)))
      nowhere_blamed parts (unmountable.Manifest f) (unmountable.Upper g) are e blamed =
          inr (joins_none (is_err (manifest_of (pieces_of lengths blobs) joined) f
          (subst (λ p. manifest_of p joined ≡ Err f) are e)))
      nowhere_blamed parts (unmountable.Manifest f) unmountable.Memory are e blamed = tt
      nowhere_blamed parts (unmountable.Manifest f) (unmountable.Blob n) are e blamed =
          absurd (manifest_is_no_blob f n blamed)
      nowhere_blamed parts unmountable.Memory told are e blamed =
          subst (λ w. GoesNowhere saved manifest blobs lengths w) (sym blamed) tt
      nowhere_blamed parts (unmountable.Blob n) told are e blamed = absurd e
      nowhere_blamed parts (unmountable.Upper f) told are e blamed = absurd e
