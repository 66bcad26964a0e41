use Rattle.std.proofs.Common.{◌≡◌, [], length}
use Rattle.ov_base.specs.Paths.{pieces, path_below}
use Rattle.ov_base.proofs.path.parse_names.Given as goal

abbrev pub decreases-names : goal.decreases-names
decreases-names l = length l.rest

abbrev pub invariant-names : goal.invariant-names
invariant-names l = path_below l.path (pieces l.rest) ≡ path_below [] (pieces l.text)
