-- The lines that answer commands.
use Rattle.std.specs.Prelude.{ℕ, List, ◌++◌, codes}
use Rattle.std.specs.Fmt.{decimal}
use Rattle.ov_base.specs.Errnos.{text_of}
use Rattle.ov_script.specs.Lines.{reply_line}
use Rattle.ov_server.specs.declared.answers.Answer.{Answer}
use Rattle.ov_server.specs.declared.answers.Answer.TheVariants.{Attached, NotAttached, Detached, Replied, NotTaken, More, Dropped, Work}

-- the line that answers a command, without its line break
abbrev pub answer_line : Answer → List ℕ
answer_line (Attached client) = codes "client " ++ decimal client
answer_line (NotAttached errno) = codes "not attached " ++ text_of errno
answer_line (Detached client) = decimal client ++ codes " detached"
answer_line (Replied client reply) = reply_line client reply
answer_line (NotTaken client errno) = decimal client ++ codes " not taken " ++ text_of errno
answer_line (More client) = decimal client ++ codes " more"
answer_line (Dropped client) = decimal client ++ codes " dropped"
answer_line (Work temps) = codes "work " ++ decimal temps
