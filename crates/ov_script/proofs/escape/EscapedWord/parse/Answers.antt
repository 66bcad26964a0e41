use Rattle.std.proofs.Common.{◌≡◌, List, ℕ, [], Option, Some, None, is_some, true, false, refl, rules}
use Rattle.std.specs.Option.{unwrap_or}
use Rattle.ov_script.specs.Escapes.{spelled_word}
use Rattle.ov_script.proofs.escape.EscapedWord.parse.Goals as goal

-- what is there is what `unwrap_or` gives
some_unwrapped : (o : Option (List ℕ)) → is_some o ≡ true → Some (unwrap_or o []) ≡ o
some_unwrapped None h = cc
some_unwrapped (Some x) h = refl

-- nothing is there
none_of : (o : Option (List ℕ)) → is_some o ≡ false → None ≡ o
none_of None h = refl
none_of (Some x) h = cc

pub returns-then-is_escaped : goal.returns-then-is_escaped
returns-then-is_escaped c = some_unwrapped (spelled_word c.args.word.now) (search rules)

pub returns-else-is_escaped : goal.returns-else-is_escaped
returns-else-is_escaped c = none_of (spelled_word c.args.word.now) (search rules)
