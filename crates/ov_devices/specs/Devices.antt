-- What reads and writes leave.
use Rattle.std.specs.Prelude.{◌≡◌, ℕ, ◌+◌, ◌≤◌, min, List, length, take, Option, MatchOption, Result, Ok, Err}
use Rattle.std.specs.Io.KnownBytes.{Consumes, IsAtEnd, Keeps}
use Rattle.ov_devices.specs.declared.fault.Fault.{Fault}
use Rattle.ov_devices.specs.declared.fault.Fault.TheVariants.{Memory, Failed}

-- how many failures a fault is
abbrev pub fails : Fault → ℕ
fails Memory = 0
fails Failed = 1

-- and what a call answers
abbrev pub failed : {T : Type 0} → Result T Fault → ℕ
failed (Ok x) = 0
failed (Err fault) = fails fault

-- one failure more, up to the last that is counted
abbrev pub one_more : ℕ → ℕ
one_more failures = min (failures + 1) 18446744073709551615

-- the failures before and after a fault
abbrev pub CountsFault : ℕ → ℕ → Fault → Type 0
CountsFault before after Memory = after ≡ before
CountsFault before after Failed = after ≡ one_more before

-- and what a call answers
abbrev pub Counts : {T : Type 0} → ℕ → ℕ → Result T Fault → Type 0
Counts before after (Ok x) = after ≡ before
Counts before after (Err fault) = CountsFault before after fault

-- a read gave so many bytes, which stand first in a piece; none come only at the end
abbrev pub Reads : Option (List ℕ) → Option (List ℕ) → ℕ → List ℕ → Type 0
Reads before after count piece =
    (count ≤ length piece) × Consumes before after (take count piece)
    × (count ≡ 0 → IsAtEnd after)

-- what a read gives: so many bytes, or none where it was interrupted
abbrev pub Gives : Option (List ℕ) → Option (List ℕ) → Option ℕ → List ℕ → Type 0
Gives before after read piece =
    MatchOption read (Keeps before after) (λ count. Reads before after count piece)
