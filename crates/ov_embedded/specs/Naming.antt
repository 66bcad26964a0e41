-- The names of a manifest's blobs.
use Rattle.std.specs.Prelude.{◌≡◌, ℕ, List, [], ◌∷◌, ◌++◌, length, Some}
use Rattle.std.specs.List.{flat_map}
use Rattle.toml.specs.Data.{Members}
use Rattle.toml.specs.Parse.{parse_document}
use Rattle.ov_wire.specs.Manifests.{blob_names}
use Rattle.ov_embedded.specs.Calling.{IsCopied}
use Rattle.ov_embedded.specs.Mounting.{IsNoManifest}
use Rattle.ov_embedded.specs.declared.manifest.Unmountable.{Unmountable}
use Rattle.ov_embedded.specs.declared.manifest.Unmountable.TheVariants as unmountable
use Rattle.ov_embedded.specs.declared.outcome.Outcome.{Outcome}
use Rattle.ov_embedded.specs.declared.outcome.Outcome.TheVariants as outcome

-- names one behind the other, each with a zero byte behind it
abbrev pub names_text : List (List ℕ) → List ℕ
names_text names = flat_map (λ name. name ++ 0 ∷ []) names

-- THE NAMES OF THE BLOBS OF A MANIFEST, so many
abbrev pub AreNames : List ℕ → List ℕ → ℕ → Type 0
AreNames manifest text count =
    (m : Members) × (parse_document manifest ≡ Some m) × (text ≡ names_text (blob_names m))
    × (count ≡ length (blob_names m))

-- this is why none are told: there is no manifest, or memory ran out
abbrev pub IsNameless : List ℕ → Unmountable → Type 0
IsNameless manifest (unmountable.Manifest f) = IsNoManifest manifest
IsNameless manifest unmountable.Memory = Unit {0}
IsNameless manifest _ = ⊥

-- they go into some room, as far as that goes; or none are told, as there are none or memory ran out
abbrev pub TellsNames : List ℕ → List ℕ → List ℕ → Outcome → ℕ → ℕ → Type 0
TellsNames manifest before after outcome.Done told count =
    (text : List ℕ) × AreNames manifest text count × IsCopied text before after told
TellsNames manifest before after outcome.Fault told count = IsNoManifest manifest × (count ≡ 0)
TellsNames manifest before after outcome.NoMemory told count = count ≡ 0
TellsNames manifest before after _ told count = ⊥
