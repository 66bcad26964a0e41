-- What is written is read back.
use Rattle.std.proofs.Common.{◌≡◌, ◌+◌, ◌*◌, ◌/◌, ◌%◌, ◌<◌, ℕ, suc, List, [], ◌∷◌, ◌++◌, Some, Bool, true, false, cond, nat_eq, refl, ◌∙◌, arith}
use Rattle.std.specs.List.{All, flat_map}
use Rattle.std.specs.Fmt.{digit_glyph}
use Rattle.std.proofs.lemmas.Bool.Decides.{nat_tests}
use Rattle.std.proofs.lemmas.List.Elements.{All-cons, All-nil, All-append}
use Rattle.std.proofs.lemmas.List.Splits.{slice_split_none}
use Rattle.ov_script.specs.Escapes.{LawOfEscapes, escaped_byte, escaped_of, hexadecimal_value, digits_before, is_plain, spelled, spelled_word}
use Rattle.ov_script.specs.Words.{words}
use Rattle.ov_script.proofs.Escapes.{spelled_plain}

-- a digit has its value
glyph_value : (d : ℕ) → d < 16 → hexadecimal_value (digit_glyph false d) ≡ Some d
glyph_value d h = grind (arith, nat_tests)

-- a digit is no space
glyph_no_space : (d : ℕ) → d < 16 → nat_eq (digit_glyph false d) 32 ≡ false
glyph_no_space d h = grind (arith, nat_tests)

-- a plain byte is no backslash
plain_other : (b : ℕ) → is_plain b ≡ true → nat_eq b 92 ≡ false
plain_other b h = grind (arith, nat_tests)

-- a plain byte is no space
plain_no_space : (b : ℕ) → is_plain b ≡ true → nat_eq b 32 ≡ false
plain_no_space b h = grind (arith, nat_tests)

-- two digits give the byte back
digits_back : (b : ℕ) (bytes : List ℕ) → b < 256 → digits_before (hexadecimal_value (digit_glyph false (b / 16))) (hexadecimal_value (digit_glyph false (b % 16))) (Some bytes) ≡ Some (b ∷ bytes)
digits_back b bytes h =
    let high : b / 16 < 16 = grind arith in
    let low : b % 16 < 16 = grind arith in
    let whole : b / 16 * 16 + b % 16 ≡ b = grind arith in
    rw (glyph_value (b / 16) high, glyph_value (b % 16) low, whole) refl

-- the bytes of the tail
all_after : (b : ℕ) (bytes : List ℕ) → All (λ c. c < 256) (b ∷ bytes) → All (λ c. c < 256) bytes
all_after b bytes h = λ k d lt. h (suc k) d (omega arith)

-- one byte as it is written, by whether it is plain
abbrev written : Bool → ℕ → List ℕ
written plain b = cond plain (b ∷ []) (92 ∷ 120 ∷ digit_glyph false (b / 16) ∷ digit_glyph false (b % 16) ∷ [])

-- a byte that is written before what spells more bytes
spelled_one : (b : ℕ) (plain : Bool) (rest bytes : List ℕ) → is_plain b ≡ plain → b < 256 → spelled rest ≡ Some bytes → spelled (written plain b ++ rest) ≡ Some (b ∷ bytes)
spelled_one b true rest bytes is h e = let other = plain_other b is in rw (spelled_plain b rest other, is, e) refl
spelled_one b false rest bytes is h e = rw e (digits_back b bytes h)

-- what bytes are written as spells them
spelled_all : (bytes : List ℕ) → All (λ b. b < 256) bytes → spelled (flat_map escaped_byte bytes) ≡ Some bytes
spelled_all [] h = refl
spelled_all (b ∷ bytes) h =
    let zero : ℕ = 0 in
    spelled_one b (is_plain b) (flat_map escaped_byte bytes) bytes refl (h zero zero (omega arith)) (spelled_all bytes (all_after b bytes h))

-- what one byte or more are written as is not the word of no bytes
word_one : (b : ℕ) (plain : Bool) (rest : List ℕ) → is_plain b ≡ plain → spelled_word (written plain b ++ rest) ≡ spelled (written plain b ++ rest)
word_one b true rest is = let other = plain_other b is in rw other refl
word_one b false rest is = refl

-- the word of bytes spells them
spelled_back : (bytes : List ℕ) → All (λ b. b < 256) bytes → spelled_word (escaped_of bytes) ≡ Some bytes
spelled_back [] h = refl
spelled_back (b ∷ bytes) h = word_one b (is_plain b) (flat_map escaped_byte bytes) refl ∙ spelled_all (b ∷ bytes) h

-- a byte is written without a space
one_no_space : (b : ℕ) (plain : Bool) → is_plain b ≡ plain → b < 256 → All (λ c. nat_eq c 32 ≡ false) (written plain b)
one_no_space b true is h = All-cons (λ c. nat_eq c 32 ≡ false) b [] (plain_no_space b is) (All-nil _)
one_no_space b false is h =
    let high : b / 16 < 16 = grind arith in
    let low : b % 16 < 16 = grind arith in
    let NoSpace : ℕ → Type 0 = λ c. nat_eq c 32 ≡ false in
    let lower : List ℕ = digit_glyph false (b % 16) ∷ [] in
    let digits : List ℕ = digit_glyph false (b / 16) ∷ lower in
    let from_lower : All NoSpace lower = All-cons NoSpace (digit_glyph false (b % 16)) [] (glyph_no_space (b % 16) low) (All-nil NoSpace) in
    let from_digits : All NoSpace digits = All-cons NoSpace (digit_glyph false (b / 16)) lower (glyph_no_space (b / 16) high) from_lower in
    All-cons NoSpace 92 (120 ∷ digits) refl (All-cons NoSpace 120 digits refl from_digits)

-- bytes are written without a space
all_no_space : (bytes : List ℕ) → All (λ b. b < 256) bytes → All (λ c. nat_eq c 32 ≡ false) (flat_map escaped_byte bytes)
all_no_space [] h = All-nil _
all_no_space (b ∷ bytes) h =
    let zero : ℕ = 0 in
    All-append (λ c. nat_eq c 32 ≡ false) (written (is_plain b) b) (flat_map escaped_byte bytes) (one_no_space b (is_plain b) refl (h zero zero (omega arith))) (all_no_space bytes (all_after b bytes h))

-- the word of bytes is one word of a line
one_word : (bytes : List ℕ) → All (λ b. b < 256) bytes → words (escaped_of bytes) ≡ escaped_of bytes ∷ []
one_word [] h = refl
one_word (b ∷ bytes) h = slice_split_none _ (flat_map escaped_byte (b ∷ bytes)) (all_no_space (b ∷ bytes) h)

-- both
pub escapes_back : LawOfEscapes
escapes_back bytes h = (one_word bytes h, spelled_back bytes h)
