-- The lines of a script, and how a play of them ends.
use Rattle.std.specs.Prelude.{◌≡◌, ℕ, ◌+◌, ◌<◌, false, List, ◌∷◌, ◌++◌, length, nat_eq, Option, IfSome, ◌⊎◌}
use Rattle.std.specs.List.{slice_split}
use Rattle.ov_server.specs.Rosters.{ArePlayed, Layering, Roster, is_good, nobody}
use Rattle.ov_server.specs.declared.fault.Fault.{Fault}
use Rattle.ov_server.specs.declared.fault.Fault.TheVariants.{Stream, Memory, BadCommand, Manifest}

-- the lines of a script; the last is what follows the last line break
abbrev pub script_lines : List ℕ → List (List ℕ)
script_lines script = slice_split (λ b. nat_eq b 10) script

-- every line of a script is good where it stands, on these layers
abbrev pub IsGoodScript : Layering → List ℕ → Type 0
IsGoodScript layers script = (r : Roster) × ArePlayed layers nobody (script_lines script) r

-- the line of this number, counted from 1, is the first that isn't good where it stands
pub record IsBadLine (layers : Layering) (script : List ℕ) (number : ℕ) : Type 0 where
  pub before : List (List ℕ)
  pub line : List ℕ
  pub after : List (List ℕ)
  pub lines : script_lines script ≡ before ++ line ∷ after
  pub count : number ≡ length before + 1
  pub roster : Roster
  pub played : ArePlayed layers nobody before roster
  pub bad : is_good layers roster line ≡ false

-- how a run ends early: by its manifest, by the first bad line of its script, where that is known,
-- by a stream or because memory ran out
abbrev pub IsRunFault : Option (List ℕ) → Layering → Fault → Type 0
IsRunFault script layers (BadCommand number) = IfSome script (λ s. IsBadLine layers s number)
IsRunFault script layers (Manifest fault) = Unit {0}
IsRunFault script layers Stream = Unit {0}
IsRunFault script layers Memory = Unit {0}
IsRunFault script layers _ = ⊥

-- a stream is told at fault only where the input or the output has failed, or no read is left
abbrev pub IsStreamFault : ℕ → ℕ → ℕ → ℕ → Fault → Type 0
IsStreamFault input_failures reads most output_failures Stream = (0 < input_failures) ⊎ ((reads ≡ most) ⊎ (0 < output_failures))
IsStreamFault input_failures reads most output_failures _ = Unit {0}
