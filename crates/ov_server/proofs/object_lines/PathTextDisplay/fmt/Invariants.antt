use Rattle.std.proofs.Common.{◌∷◌, take}
use Rattle.std.specs.List.{flat_map}
use Rattle.std.specs.Fmt.{HasWritten, IsPlainFormatter}
use Rattle.ov_script.specs.Escapes.{escaped_of}
use Rattle.ov_server.proofs.object_lines.PathTextDisplay.fmt.Given as goal

-- a slash and a word for each name so far is written
abbrev pub invariant-loop-name : goal.invariant-loop-name
invariant-loop-name g l =
    IsPlainFormatter l.initial.f → HasWritten g.W.Write.write_str_gives l.initial.f (flat_map (λ m. 47 ∷ escaped_of m) (take l.name-index l.name-items)) l.f
