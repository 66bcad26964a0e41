use Rattle.std.proofs.Common.{take}
use Rattle.std.specs.List.{flat_map}
use Rattle.std.specs.Fmt.{HasWritten, IsPlainFormatter}
use Rattle.ov_script.specs.Lines.{word_after}
use Rattle.ov_script.proofs.lines.TextWordsDisplay.fmt.Given as goal

-- a word for each so far is written
abbrev pub invariant-loop-text : goal.invariant-loop-text
invariant-loop-text g l =
    IsPlainFormatter l.initial.f → HasWritten g.W.Write.write_str_gives l.initial.f (flat_map word_after (take l.text-index l.text-items)) l.f
