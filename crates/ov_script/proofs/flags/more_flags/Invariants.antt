use Rattle.std.proofs.Common.{◌≡◌, drop}
use Rattle.ov_script.specs.Flags.{flags_after, no_flags}
use Rattle.ov_script.proofs.flags.more_flags.Given as goal

-- the letters that are left go on from the flags so far
abbrev pub invariant-loop-letter : goal.invariant-loop-letter
invariant-loop-letter l = flags_after l.flags (drop l.letter-index l.letters) ≡ flags_after no_flags l.letters
