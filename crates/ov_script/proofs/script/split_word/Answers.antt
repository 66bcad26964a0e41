use Rattle.std.proofs.Common.{◌+◌, ◌∷◌, List, ℕ, take, sym, ap, ◌∙◌}
use Rattle.std.proofs.lemmas.List.{take_rest}
use Rattle.ov_script.specs.Words.{words}
use Rattle.ov_script.proofs.Words.{words_one, words_first}
use Rattle.ov_script.proofs.script.split_word.Goals as goal

pub returns-in-Some : goal.returns-in-Some
returns-in-Some c =
    words_first c.args.text.now c.in-Some.space c.in-Some.ensures.place
    ∙ ap (λ (rest : List ℕ). take c.in-Some.space c.args.text.now ∷ words rest) (sym (take_rest c.args.text.now (c.in-Some.space + 1)))

pub returns-in-None : goal.returns-in-None
returns-in-None c = words_one c.args.text.now c.in-None.ensures.place
