use Rattle.std.proofs.Common.{◌≡◌, List, ℕ, map, take}
use Rattle.ov_base.proofs.attributes.names_in.Given as goal

abbrev pub invariant-loop-name : goal.invariant-loop-name
invariant-loop-name l = l.names.items ≡ map (λ (x : List ℕ × List ℕ). x.0) (take l.name-index l.values)
