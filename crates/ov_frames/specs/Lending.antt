-- Answers whose reply somebody else keeps.
use Rattle.ov_frames.specs.declared.answer.Answer.{Answer}
use Rattle.ov_frames.specs.declared.answer.Answer.TheVariants.{Replied, NotTaken}
use Rattle.ov_frames.specs.declared.answer.LentAnswer.{LentAnswer}
use Rattle.ov_frames.specs.declared.answer.LentAnswer.TheVariants as lent

-- the answer that is lent
abbrev pub answer_of : LentAnswer → Answer
answer_of (lent.Replied place reply) = Replied place reply.now
answer_of (lent.NotTaken errno) = NotTaken errno
