use Rattle.ov_script.specs.Escapes.{spelled}
use Rattle.ov_script.proofs.Escapes.{is_some_after}
use Rattle.ov_script.proofs.escape.is_escaped.Goals as goal

pub word-preserved : goal.word-preserved
word-preserved c = is_some_after _ (spelled c.args.word.now) (spelled c.word.rest.now) (spelled c.in-Some.after.now) c.in-Some.ensures.some c.word.invariant
