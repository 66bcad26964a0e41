use Rattle.ov_script.proofs.Words.{words_any, call_text_long}
use Rattle.ov_script.proofs.script.call_text.Goals as goal

pub returns-in-Some-rest-2 : goal.returns-in-Some-rest-2
returns-in-Some-rest-2 c =
    let first = rw c.in-Some.is at c.split_word.ensures in
    let second = rw c.in-Some-rest.is at c.split_word-2.ensures in
    let third = rw c.in-Some-rest-2.is at c.split_word-3.ensures in
    call_text_long c.args.name.now _ _ _ _ _ _ _ first second third (words_any c.in-Some-rest-2.field-0.now)
