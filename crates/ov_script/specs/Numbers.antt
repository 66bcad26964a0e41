-- The numbers that words spell.
use Rattle.std.specs.Prelude.{ℕ, zero, suc, ℤ, pos, negsuc, nat_eq, ◌+◌, ◌*◌, ◌-◌, ◌^◌, ◌&&◌, List, [], ◌∷◌, length, cond, nat_le, nat_lt, Option, Some, None, option_map}

-- goes on from a number
abbrev pub go_on : (ℕ → Option ℕ) → Option ℕ → Option ℕ
go_on f None = None
go_on f (Some n) = f n

-- a number, where it is below a limit
abbrev pub below : ℕ → Option ℕ → Option ℕ
below limit o = go_on (λ n. cond (nat_lt n limit) (Some n) None) o

-- what a hexadecimal digit of either case counts
abbrev pub digit_value : ℕ → Option ℕ
digit_value c =
    cond (nat_le 48 c && nat_le c 57) (Some (c - 48))
    (cond (nat_le 97 c && nat_le c 102) (Some (c - 87))
    (cond (nat_le 65 c && nat_le c 70) (Some (c - 55)) None))

-- a number with one more digit of a base of at most sixteen, where it fits 64 bits
abbrev pub with_digit : ℕ → ℕ → ℕ → Option ℕ
with_digit base n c = go_on (λ d. below (2 ^ 64) (Some (n * base + d))) (below base (digit_value c))

-- a number with these digits after its own
abbrev pub number_after : ℕ → ℕ → List ℕ → Option ℕ
number_after base n [] = Some n
number_after base n (c ∷ digits) = go_on (λ m. number_after base m digits) (with_digit base n c)

-- the number that one digit or more spell, where it fits 64 bits
abbrev pub spelled_number : ℕ → List ℕ → Option ℕ
spelled_number base [] = None
spelled_number base (c ∷ digits) = number_after base 0 (c ∷ digits)

-- the number that one digit or more spell, where it fits 32 bits
abbrev pub number_of : ℕ → List ℕ → Option ℕ
number_of base digits = below (2 ^ 32) (spelled_number base digits)

-- the mode that one to six octal digits spell
abbrev pub mode_of : List ℕ → Option ℕ
mode_of digits = cond (nat_lt 6 (length digits)) None (number_of 8 digits)

-- the mask that one to eight hexadecimal digits spell
abbrev pub mask_of : List ℕ → Option ℕ
mask_of digits = cond (nat_lt 8 (length digits)) None (number_of 16 digits)

-- the slot that one decimal digit or more spell, where it fits 8 bits
abbrev pub slot_of : List ℕ → Option ℕ
slot_of digits = below (2 ^ 8) (spelled_number 10 digits)

-- the watch that one decimal digit or more spell, where it fits 32 bits with a sign
abbrev pub watch_of : List ℕ → Option ℤ
watch_of digits = option_map pos (below (2 ^ 31) (spelled_number 10 digits))

-- a number with a sign in front
abbrev pub negated : ℕ → ℤ
negated zero = pos 0
negated (suc n) = negsuc n

-- the size that one decimal digit or more spell, where it fits 64 bits
abbrev pub size_of : List ℕ → Option ℕ
size_of digits = spelled_number 10 digits

-- how many steps one decimal digit or more spell, from 1, where they fit 64 bits
abbrev pub steps_of : List ℕ → Option ℕ
steps_of digits = go_on (λ n. cond (nat_eq n 0) None (Some n)) (spelled_number 10 digits)

-- the offset that decimal digits spell, of which one `-` may stand in front, where it fits 64 bits with a sign
abbrev pub offset_of : List ℕ → Option ℤ
offset_of [] = None
offset_of (c ∷ digits) =
    cond (nat_eq c 45)
    (option_map negated (below (2 ^ 63 + 1) (spelled_number 10 digits)))
    (option_map pos (below (2 ^ 63) (spelled_number 10 (c ∷ digits))))
