use Rattle.std.proofs.Common.{◌∙◌, arith, refl, sym}
use Rattle.std.proofs.lemmas.Bool.{le-ltb, lt-ltb}
use Rattle.ov_script.proofs.numbers.watch.Goals as goal

pub returns-in_err-number : goal.returns-in_err-number
returns-in_err-number c =
    rw (c.from_residual.ensures, sym c.number.ensures ∙ c.in_err-number.was) refl

pub returns-then-number-gt-WATCH_MAX : goal.returns-then-number-gt-WATCH_MAX
returns-then-number-gt-WATCH_MAX c =
    rw (sym c.number.ensures ∙ c.in_ok-number.was, le-ltb c.in_ok-number.number 2147483648 (omega arith)) refl

pub returns : goal.returns
returns c =
    rw (sym c.number.ensures ∙ c.in_ok-number.was, lt-ltb c.in_ok-number.number 2147483648 (omega arith)) refl
