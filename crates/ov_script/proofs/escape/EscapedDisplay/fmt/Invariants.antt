use Rattle.std.proofs.Common.{take}
use Rattle.std.specs.List.{flat_map}
use Rattle.std.specs.Fmt.{HasWritten, IsPlainFormatter}
use Rattle.ov_script.specs.Escapes.{escaped_byte}
use Rattle.ov_script.proofs.escape.EscapedDisplay.fmt.Given as goal

-- what the bytes so far come to is written
abbrev pub invariant-loop-byte : goal.invariant-loop-byte
invariant-loop-byte g l =
    IsPlainFormatter l.initial.f → HasWritten g.W.Write.write_str_gives l.initial.f (flat_map escaped_byte (take l.byte-index l.byte-items)) l.f
