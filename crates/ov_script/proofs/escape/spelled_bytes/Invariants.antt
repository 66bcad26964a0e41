use Rattle.std.proofs.Common.{◌≡◌, ◌++◌, length, option_map}
use Rattle.ov_script.specs.Escapes.{spelled}
use Rattle.ov_script.proofs.escape.spelled_bytes.Given as goal

-- the bytes so far, and then those that the rest spells
abbrev pub invariant-word : goal.invariant-word
invariant-word l = option_map (λ more. l.bytes.items ++ more) (spelled l.rest) ≡ spelled l.text

abbrev pub decreases-word : goal.decreases-word
decreases-word l = length l.rest
