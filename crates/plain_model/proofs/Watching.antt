-- What is heard of nothing, and the last notice of a queue.
use Rattle.std.proofs.Common.{◌≡◌, suc, ◌-◌, Bool, false, List, [], ◌∷◌, Option, Some, None, length, refl, sym, ap, ◌∙◌, arith}
use Rattle.std.specs.Prelude.{slice_get}
use Rattle.ov_base.specs.declared.notice.Notice.{Notice}
use Rattle.plain_model.specs.Watching.{Instance, Rule, AllHear, last_is, same_notice}

-- all hear no subjects
pub AllHear-none : (shows : Rule) (es : List Instance) → AllHear shows [] es es
AllHear-none shows [] = tt
AllHear-none shows (e ∷ es) = (record { watches = refl; queue = refl }, AllHear-none shows es)

-- whether a notice is there and is this one
abbrev pub is_it : Option Notice → Notice → Bool
is_it None n = false
is_it (Some m) n = same_notice m n

-- the last notice is the last of the list
pub last_is-last_item : (q : List Notice) (n : Notice) → last_is q n ≡ is_it (slice_get q (length q - 1)) n
last_is-last_item [] n = refl
last_is-last_item (m ∷ []) n = refl
last_is-last_item (m ∷ l ∷ q) n =
    let one : suc (length q) - 1 ≡ length q = omega arith in
    let two : suc (suc (length q)) - 1 ≡ suc (length q) = omega arith in
    last_is-last_item (l ∷ q) n ∙ ap (λ k. is_it (slice_get (l ∷ q) k) n) one ∙ sym (ap (λ k. is_it (slice_get (m ∷ l ∷ q) k) n) two)
