use Rattle.std.proofs.Common.{rules}
use Rattle.std.proofs.lemmas.Result.{IfOk-weaker}
use Rattle.ov_script.proofs.Escapes.{word_read}
use Rattle.ov_script.proofs.escape.EscapedWord.bytes.Goals as goal

pub returns-else-eq : goal.returns-else-eq
returns-else-eq c = IfOk-weaker c.spelled_bytes.result _ _ (λ bytes h. rw (← c.self.view_is) (word_read c.self.inside.word.now bytes.items (search rules) c.self.invariant h)) c.spelled_bytes.ensures
