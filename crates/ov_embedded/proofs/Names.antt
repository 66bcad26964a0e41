-- The names of blobs, one behind the other.
use Rattle.std.proofs.Common.{◌≡◌, ℕ, ◌+◌, ◌<◌, ◌≤◌, List, [], ◌∷◌, ◌++◌, length, get_or, map, drop, Some, IsOk, IsSome, IsUtf8, inl, inr, refl, subst, sym, ap, ◌∙◌}
use Rattle.std.proofs.lemmas.List.{append-nil, append_assoc, drop_all, drop_more, length-map}
use Rattle.toml.specs.Data.{Members}
use Rattle.toml.specs.Parse.{parse_document}
use Rattle.ov_wire.specs.Manifests.{IsMemory, blob_names, whole_of}
use Rattle.ov_wire.specs.declared.manifest.fault.ManifestFault.{ManifestFault}
use Rattle.ov_wire.specs.declared.manifest.fault.ManifestFault.TheVariants as fault
use Rattle.ov_embedded.specs.Mounting.{IsToldAs, of_manifest}
use Rattle.ov_embedded.proofs.Refusals.{not_ok}
use Rattle.ov_embedded.specs.Naming.{AreNames, IsNameless, TellsNames, names_text}
use Rattle.ov_embedded.specs.declared.manifest.Unmountable.{Unmountable}
use Rattle.ov_embedded.specs.declared.manifest.Unmountable.TheVariants as unmountable
use Rattle.ov_embedded.specs.declared.outcome.Outcome.{Outcome}

module _ {A : Type 0} (view : A → List ℕ) (names : List A) where
  -- one more name
  pub names_more : (i : ℕ) (name : A) (old mid new whole : List ℕ) → i < length names →
      name ≡ get_or names i name → mid ≡ old ++ view name → new ≡ mid ++ 0 ∷ [] →
      old ++ names_text (map view (drop i names)) ≡ whole →
      new ++ names_text (map view (drop (i + 1) names)) ≡ whole
  names_more i name old mid new whole within is named ended so =
      let rest : List ℕ = names_text (map view (drop (i + 1) names)) in
      ap (λ (text : List ℕ). text ++ rest)
      (ended ∙ ap (λ (text : List ℕ). text ++ 0 ∷ []) named
      ∙ append_assoc old (view name) (0 ∷ []))
      ∙ append_assoc old (view name ++ 0 ∷ []) rest
      ∙ ap (λ (xs : List A). old ++ names_text (map view xs))
      (sym (drop_more names i name within
      ∙ ap (λ (x : A). x ∷ drop (i + 1) names) (sym is)))
      ∙ so

  -- all names
  pub names_all : (i : ℕ) (text whole : List ℕ) → length names ≤ i →
      text ++ names_text (map view (drop i names)) ≡ whole → text ≡ whole
  names_all i text whole past so =
      sym (ap (λ (xs : List A). text ++ names_text (map view xs)) (drop_all i names past)
      ∙ append-nil text)
      ∙ so

  -- they are those of a manifest
  pub are_names : (manifest text : List ℕ) (m : Members) (count : ℕ) →
      parse_document manifest ≡ Some m → map view names ≡ blob_names m →
      text ≡ names_text (map view names) → count ≡ length names → AreNames manifest text count
  are_names manifest text m count document same spelled counted = (
    m,
    document,
    spelled ∙ ap names_text same,
    counted ∙ (sym (length-map names view) ∙ ap length same),
  )

-- no names come of bytes that are no TOML
pub nameless_bytes : (manifest : List ℕ) (f : ManifestFault) →
    (IsUtf8 manifest → IsSome (parse_document manifest) → IsMemory f) →
    IsNameless manifest (of_manifest f)
nameless_bytes manifest f =
    elim f as (λ x.
    (IsUtf8 manifest → IsSome (parse_document manifest) → IsMemory x) →
    IsNameless manifest (of_manifest x)) [
      | fault.Memory e ↦ λ h. tt
      | _ ↦ λ h. inl h
    ]

-- nor of a manifest whose whole is at fault
pub nameless_whole : (manifest : List ℕ) (m : Members) (f : ManifestFault) →
    parse_document manifest ≡ Some m → (IsOk (whole_of m) → IsMemory f) →
    IsNameless manifest (of_manifest f)
nameless_whole manifest m f document =
    elim f as (λ x. (IsOk (whole_of m) → IsMemory x) → IsNameless manifest (of_manifest x)) [
      | fault.Memory e ↦ λ h. tt
      | _ ↦ λ h. inr (m, document, not_ok (whole_of m) h)
    ]

-- what has none is told so
pub tells_none : (manifest before after : List ℕ) (why : Unmountable) (result : Outcome)
    (told : ℕ) → IsNameless manifest why → IsToldAs why result →
    TellsNames manifest before after result told 0
tells_none manifest before after (unmountable.Manifest f) result told none (inl e) =
    subst (λ r. TellsNames manifest before after r told 0) (sym e) (none, refl)
tells_none manifest before after unmountable.Memory result told none (inl e) =
    subst (λ r. TellsNames manifest before after r told 0) (sym e) refl
tells_none manifest before after (unmountable.Upper f) result told none e = absurd none
tells_none manifest before after (unmountable.Blob n) result told none e = absurd none
tells_none manifest before after why result told none (inr e) =
    subst (λ r. TellsNames manifest before after r told 0) (sym e) refl
