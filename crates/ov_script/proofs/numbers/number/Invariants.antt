use Rattle.std.proofs.Common.{◌≡◌, drop}
use Rattle.ov_script.specs.Numbers.{number_after}
use Rattle.ov_script.proofs.numbers.number.Given as goal

-- the digits that are left go on from the value so far
abbrev pub invariant-loop-byte : goal.invariant-loop-byte
invariant-loop-byte l = number_after l.base l.value (drop l.byte-index l.word) ≡ number_after l.base 0 l.word
