use Rattle.std.proofs.Common.{◌≡◌, ◌++◌, drop, map}
use Rattle.ov_embedded.specs.Naming.{names_text}
use Rattle.ov_embedded.proofs.naming.joined.Given as goal

-- what is there, with the names that are left, is the text of all
abbrev pub invariant-loop-name : goal.invariant-loop-name
invariant-loop-name l =
    l.text.items ++ names_text (map (λ name. name.now) (drop l.name-index l.names))
    ≡ names_text (map (λ name. name.now) l.names)
