use Rattle.std.proofs.Common.{length}
use Rattle.ov_script.specs.Escapes.{spelled}
use Rattle.ov_script.proofs.Escapes.{none_before, more_before, all_read, spelled_nothing}
use Rattle.ov_script.proofs.escape.spelled_bytes.Goals as goal

pub word-init : goal.word-init
word-init c = rw c.new-bytes.ensures.items (none_before (spelled c.args.text.now))

pub word-preserved : goal.word-preserved
word-preserved c = rw c.in_ok-push.ensures.items (more_before _ _ _ _ _ c.in-Some.ensures.some c.word.invariant)

pub returns : goal.returns
returns c = all_read _ _ (spelled c.word.rest.now) (length c.word.rest.now) (spelled_nothing c.word.rest.now) c.in_default.ensures.none c.word.invariant
