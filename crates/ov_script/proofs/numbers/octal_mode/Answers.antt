use Rattle.std.proofs.Common.{arith, length, refl}
use Rattle.std.proofs.lemmas.Bool.{le-ltb, lt-ltb}
use Rattle.ov_script.proofs.numbers.octal_mode.Goals as goal

pub returns-then-word-gt-MODE_DIGITS : goal.returns-then-word-gt-MODE_DIGITS
returns-then-word-gt-MODE_DIGITS c = rw (lt-ltb 6 (length c.args.word.now) (omega arith)) refl

pub returns : goal.returns
returns c = rw (le-ltb 6 (length c.args.word.now) (omega arith)) c.short_number.ensures
