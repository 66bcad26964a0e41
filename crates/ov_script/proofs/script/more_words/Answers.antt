use Rattle.std.proofs.Common.{sym, ◌∙◌}
use Rattle.ov_script.proofs.Words.{words_any, more_words_long}
use Rattle.ov_script.proofs.script.more_words.Goals as goal

pub returns-in-Some : goal.returns-in-Some
returns-in-Some c =
    let second = rw c.in-Some.is at c.split_word.ensures in
    c.client_words.ensures ∙ sym (more_words_long c.args.first.now c.split_word.result.0.now _ _ second (words_any c.in-Some.rest.now))
