-- How the words of a line follow one another.
use Rattle.std.proofs.Common.{◌≡◌, ◌+◌, ◌<◌, ℕ, List, [], ◌∷◌, Some, None, nat_eq, position, take, drop, length, refl, ap, ◌∙◌, arith, sym}
use Rattle.std.specs.List.{position_or_len}
use Rattle.std.proofs.lemmas.Bool.{ltb-true}
use Rattle.std.proofs.lemmas.Option.{cond_some}
use Rattle.std.proofs.lemmas.List.Splits.{slice_split_none, slice_split_first, length-slice_split}
use Rattle.ov_base.proofs.PathLemmas.{none-passes}
use Rattle.ov_script.specs.Words.{words}
use Rattle.ov_script.specs.Commands.{call_text, client_words, more_words, steps_of_words}

-- a text without a space is one word
pub words_one : (text : List ℕ) → None ≡ position (λ b. nat_eq b 32) text → words text ≡ text ∷ []
words_one text none = slice_split_none _ text (none-passes _ text (sym none))

-- a text is the word before its first space, and the words of what follows
pub words_first : (text : List ℕ) (place : ℕ) → Some place ≡ position (λ b. nat_eq b 32) text → words text ≡ take place text ∷ words (drop (place + 1) text)
words_first text place found =
    let there = cond_some _ _ _ (sym found) in
    let within : position_or_len (λ b. nat_eq b 32) text < length text = ltb-true _ _ there.0 in
    let zero : ℕ = 0 in
    slice_split_first (λ b. nat_eq b 32) text zero within ∙ ap (λ k. take k text ∷ words (drop (k + 1) text)) there.1

-- any text has a word
pub words_any : (text : List ℕ) → words text ≡ [] → ⊥
words_any text none =
    let e : length (words text) ≡ 0 = ap length none in
    absurd (omega (arith, length-slice_split (λ b. nat_eq b 32) text))

-- no call has four words after its name
pub call_text_long : (name u v w : List ℕ) (all after_u after_v rest : List (List ℕ)) → all ≡ u ∷ after_u → after_u ≡ v ∷ after_v → after_v ≡ w ∷ rest → (rest ≡ [] → ⊥) → None ≡ call_text name all
call_text_long name u v w all after_u after_v [] e f g some = absurd (some refl)
call_text_long name u v w all after_u after_v (x ∷ more) e f g some = rw (e, f, g) refl

-- a number of steps has no second word
pub steps_of_words_long : (w : List ℕ) (all rest : List (List ℕ)) → all ≡ w ∷ rest → (rest ≡ [] → ⊥) → None ≡ steps_of_words all
steps_of_words_long w all [] e some = absurd (some refl)
steps_of_words_long w all (x ∷ more) e some = rw e refl

-- a line of three words or more is a client's call
pub more_words_long : (first second : List ℕ) (all rest : List (List ℕ)) → all ≡ second ∷ rest → (rest ≡ [] → ⊥) → more_words first all ≡ client_words first second rest
more_words_long first second all [] e some = absurd (some refl)
more_words_long first second all (w ∷ rest) e some = rw e refl
