use Rattle.std.proofs.Common.{take}
use Rattle.std.specs.List.{flat_map}
use Rattle.std.specs.Fmt.{HasWritten, IsPlainFormatter}
use Rattle.ov_script.specs.Lines.{notice_after}
use Rattle.ov_script.proofs.lines.NoticeWordsDisplay.fmt.Given as goal

-- a word for each so far is written
abbrev pub invariant-loop-notice : goal.invariant-loop-notice
invariant-loop-notice g l =
    IsPlainFormatter l.initial.f → HasWritten g.W.Write.write_str_gives l.initial.f (flat_map notice_after (take l.notice-index l.notice-items)) l.f
