-- Any bytes as one word of a line, and the bytes that a word spells.
use Rattle.std.specs.Prelude.{◌≡◌, ◌<◌, ℕ, ◌+◌, ◌*◌, ◌-◌, ◌/◌, ◌%◌, Bool, false, not, ◌&&◌, List, [], ◌∷◌, cond, nat_le, nat_eq, Option, Some, None, option_map}
use Rattle.std.specs.List.{All, flat_map}
use Rattle.std.specs.Fmt.{digit_glyph}
use Rattle.std.specs.Str.{bytes_eq}
use Rattle.ov_script.specs.Words.{words}

-- whether a byte may stand in a word
abbrev pub is_graphic : ℕ → Bool
is_graphic b = nat_le 33 b && nat_le b 126

-- whether a byte stands for itself: a backslash begins an escape
abbrev pub is_plain : ℕ → Bool
is_plain b = is_graphic b && not (nat_eq b 92)

-- a byte as it stands in a word
abbrev pub escaped_byte : ℕ → List ℕ
escaped_byte b = cond (is_plain b) (b ∷ []) (92 ∷ 120 ∷ digit_glyph false (b / 16) ∷ digit_glyph false (b % 16) ∷ [])

-- the word of bytes; of no bytes it is a backslash and a dash
abbrev pub escaped_of : List ℕ → List ℕ
escaped_of [] = 92 ∷ 45 ∷ []
escaped_of (b ∷ bytes) = flat_map escaped_byte (b ∷ bytes)

-- the value of a lower-case hexadecimal digit
abbrev pub hexadecimal_value : ℕ → Option ℕ
hexadecimal_value c = cond (nat_le 48 c && nat_le c 57) (Some (c - 48)) (cond (nat_le 97 c && nat_le c 102) (Some (c - 87)) None)

-- a plain byte before what the rest spells
abbrev pub plain_before : ℕ → Option (List ℕ) → Option (List ℕ)
plain_before c rest = cond (is_plain c) (option_map (λ bytes. c ∷ bytes) rest) None

-- the byte of two digits before what the rest spells
abbrev pub digits_before : Option ℕ → Option ℕ → Option (List ℕ) → Option (List ℕ)
digits_before (Some high) (Some low) rest = option_map (λ bytes. (high * 16 + low) ∷ bytes) rest
digits_before (Some high) None rest = None
digits_before None low rest = None

-- the byte of an escape, after its backslash, before what the rest spells
abbrev pub escape_before : ℕ → ℕ → ℕ → Option (List ℕ) → Option (List ℕ)
escape_before x high low rest = cond (nat_eq x 120) (digits_before (hexadecimal_value high) (hexadecimal_value low) rest) None

-- the bytes that plain bytes and escapes spell
abbrev pub spelled : List ℕ → Option (List ℕ)
spelled [] = Some []
spelled (c ∷ []) = plain_before c (Some [])
spelled (c ∷ x ∷ []) = plain_before c (spelled (x ∷ []))
spelled (c ∷ x ∷ h ∷ []) = plain_before c (spelled (x ∷ h ∷ []))
spelled (c ∷ x ∷ h ∷ l ∷ rest) = cond (nat_eq c 92) (escape_before x h l (spelled rest)) (plain_before c (spelled (x ∷ h ∷ l ∷ rest)))

-- the bytes that a word spells
abbrev pub spelled_word : List ℕ → Option (List ℕ)
spelled_word [] = None
spelled_word (c ∷ word) = cond (bytes_eq (c ∷ word) (92 ∷ 45 ∷ [])) (Some []) (spelled (c ∷ word))

-- what bytes are written as is one word of a line, and spells the bytes
abbrev pub LawOfEscapes : Type 0
LawOfEscapes = (bytes : List ℕ) → All (λ b. b < 256) bytes → (words (escaped_of bytes) ≡ escaped_of bytes ∷ []) × (spelled_word (escaped_of bytes) ≡ Some bytes)
