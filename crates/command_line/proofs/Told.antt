-- What an argument that has a value, or may be missing, tells.
use Rattle.std.proofs.Common.{◌≡◌, ◌∙◌, ℕ, List, Option, Some, None, Bool, true, false, codes, refl, sym, ap, subst}
use Rattle.std.specs.Prelude.{Result, Ok, Err}
use Rattle.std.specs.Result.{result_ok}
use Rattle.std.specs.Str.Parse.{ParsesUnsigned, ExplainsUnsignedError, HasUnsignedDigitsIfOk}
use Rattle.std.proofs.lemmas.Option.{none-some}
use Rattle.std.specs.declared.num.ParseIntError.{ParseIntError}
use Rattle.clap.specs.Matches.{ReadsOne, TriesOne, one_text}
use Rattle.clap.specs.Walk.{one_of, rows_of}
use Rattle.clap.specs.declared.parser.matches.Found.{Found}
use Rattle.clap.proofs.WalkLemmas.{one_text-rows}
use Rattle.command_line.specs.Arguments.{Spells, TellsFlag}

-- what a text gives as a number
abbrev pub Gives : List ℕ → Result ℕ ParseIntError → Type 0
Gives text r =
    ParsesUnsigned 64 10 text r × ExplainsUnsignedError 10 text r × HasUnsignedDigitsIfOk text r

-- what was asked for and may be missing
abbrev got : Result (Option ℕ) ParseIntError → Option ℕ
got (Ok n) = n
got (Err e) = None

-- a number that was read is the text's
read : (text : Option (List ℕ)) (r : Option ℕ) (n : ℕ) → r ≡ Some n → (text ≡ None → r ≡ None)
    → ((t : List ℕ) → text ≡ Some t → ReadsOne Gives t r) → Spells text (Some n)
read None r n is none value = none-some n (sym (none refl) ∙ is)
read (Some t) r n is none value = (subst (λ (x : Option ℕ). ReadsOne Gives t x) is (value t refl)).0

-- a number that was asked for is the text's, and there is none where there is no text
asked : (text : Option (List ℕ)) (r : Result (Option ℕ) ParseIntError) (n : Option ℕ) → r ≡ Ok n
    → (text ≡ None → r ≡ Ok None) → ((t : List ℕ) → text ≡ Some t → TriesOne Gives t r)
    → Spells text n
asked None r None is none value = tt
asked None r (Some n) is none value = none-some n (ap got (sym (none refl) ∙ is))
asked (Some t) r None is none value =
    subst (λ (x : Result (Option ℕ) ParseIntError). TriesOne Gives t x) is (value t refl)
asked (Some t) r (Some n) is none value =
    (subst (λ (x : Result (Option ℕ) ParseIntError). TriesOne Gives t x) is (value t refl)).0

-- what comes out well is its value
of_ok : (r : Result (Option ℕ) ParseIntError) (n : Option ℕ) → Some n ≡ result_ok r → r ≡ Ok n
of_ok (Ok m) n is = cc
of_ok (Err e) n is = absurd (none-some n (sym is))

-- a number that a parse has is the one that its rows spell
pub told : (found : Found) (name : List ℕ) (r : Option ℕ) (n : ℕ) → r ≡ Some n
    → (one_text found name ≡ None → r ≡ None)
    → ((t : List ℕ) → one_text found name ≡ Some t → ReadsOne Gives t r)
    → Spells (one_of name (rows_of found)) (Some n)
told found name r n is none value =
    subst (λ (text : Option (List ℕ)). Spells text (Some n)) (one_text-rows found name)
    (read (one_text found name) r n is none value)

-- and one that may be missing
pub told_if : (found : Found) (name : List ℕ) (r : Result (Option ℕ) ParseIntError) (n : Option ℕ)
    → Some n ≡ result_ok r → (one_text found name ≡ None → r ≡ Ok None)
    → ((t : List ℕ) → one_text found name ≡ Some t → TriesOne Gives t r)
    → Spells (one_of name (rows_of found)) n
told_if found name r n is none value =
    subst (λ (text : Option (List ℕ)). Spells text n) (one_text-rows found name)
    (asked (one_text found name) r n (of_ok r n is) none value)

-- a flag of a parse is set as its rows say
pub flag : (found : Found) (name : List ℕ) (set : Bool)
    → (one_text found name ≡ Some (codes "true") → set ≡ true)
    → (one_text found name ≡ Some (codes "false") → set ≡ false)
    → (one_text found name ≡ None → set ≡ false) → TellsFlag (rows_of found) name set
flag found name set is_set is_clear unsaid = record {
  is_set = λ e. is_set (one_text-rows found name ∙ e);
  is_clear = λ e. is_clear (one_text-rows found name ∙ e);
  unsaid = λ e. unsaid (one_text-rows found name ∙ e);
}
