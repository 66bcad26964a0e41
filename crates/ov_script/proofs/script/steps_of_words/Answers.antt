use Rattle.ov_script.proofs.Words.{words_any, steps_of_words_long}
use Rattle.ov_script.proofs.script.steps_of_words.Goals as goal

pub returns-in-Some : goal.returns-in-Some
returns-in-Some c =
    let first = rw c.in-Some.is at c.split_word.ensures in
    steps_of_words_long _ _ _ first (words_any c.in-Some._more.now)
