use Rattle.std.proofs.Common.{◌≡◌, reverse, take}
use Rattle.plain_model.specs.Merging as merging
use Rattle.merged_lookup.proofs.candidate.text_of.Given as goal

abbrev pub invariant-loop-name : goal.invariant-loop-name
invariant-loop-name l = l.text.items ≡ merging.text (reverse (take l.name-index l.names))
