use Rattle.std.proofs.Common.{◌≡◌, is_some, length}
use Rattle.ov_script.specs.Escapes.{spelled}
use Rattle.ov_script.proofs.escape.is_escaped.Given as goal

abbrev pub invariant-word : goal.invariant-word
invariant-word l = is_some (spelled l.rest) ≡ is_some (spelled l.fn.word)

abbrev pub decreases-word : goal.decreases-word
decreases-word l = length l.rest
