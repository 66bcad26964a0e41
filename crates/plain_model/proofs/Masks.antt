-- The masks of watches have no bits but those of events.
use Rattle.std.proofs.Common.{◌≡◌, ℕ, Bool, true, false, cond, ◌||◌, sym, ap, ◌∙◌, min, max, bit_and, bit_or, arith}
use Rattle.std.specs.Int.{bit_at}
use Rattle.std.specs.Int.Bits.{and_self}
use Rattle.std.proofs.lemmas.Nat.{and_assoc}
use Rattle.std.proofs.lemmas.Nat.Bits.{bit_at_and, bit_at_or, same_from_bits}
use Rattle.plain_model.specs.Watching.{EVENTS, MASK_ADD, ONESHOT, has_bit, Watch}
use Rattle.plain_model.specs.Changes.{re_mask}

-- a watch that asks for events alone
abbrev pub AsksEvents : Watch → Type 0
AsksEvents w = bit_and w.mask EVENTS ≡ w.mask

-- what a mask shares with another is within that
pub and-within : (m n : ℕ) → bit_and (bit_and m n) n ≡ bit_and m n
and-within m n = and_assoc n m n ∙ ap (bit_and m) (and_self n)

-- two numbers that are at most a third are so both
max-within : (x y e : ℕ) → min x e ≡ x → min y e ≡ y → min (max x y) e ≡ max x y
max-within x y e h k = omega arith

-- two masks within a third are so together
or-within : (a b m : ℕ) → bit_and a m ≡ a → bit_and b m ≡ b →
    bit_and (bit_or a b) m ≡ bit_or a b
or-within a b m h k = same_from_bits (bit_and (bit_or a b) m) (bit_or a b) each
  where
    at : (n : ℕ) → bit_and n m ≡ n → (i : ℕ) → min (bit_at n i) (bit_at m i) ≡ bit_at n i
    at n e i = sym (bit_at_and n m i) ∙ ap (λ x. bit_at x i) e

    each : (i : ℕ) → bit_at (bit_and (bit_or a b) m) i ≡ bit_at (bit_or a b) i
    each i =
        bit_at_and (bit_or a b) m i ∙ ap (λ x. min x (bit_at m i)) (bit_at_or a b i)
        ∙ max-within (bit_at a i) (bit_at b i) (bit_at m i) (at a h i) (at b k i)
        ∙ sym (bit_at_or a b i)

-- a watch asks for events alone when it is armed again, or isn't
pub rearmed-AsksEvents : (again : Bool) (mask : ℕ) (w : Watch) → AsksEvents w →
    AsksEvents (cond again (re_mask mask w) w)
rearmed-AsksEvents false mask w h = h
rearmed-AsksEvents true mask w h = by (has_bit mask MASK_ADD)
  where
    by : (adds : Bool) →
        AsksEvents (cond adds (record w { mask = bit_or w.mask (bit_and mask EVENTS); once = w.once || has_bit mask ONESHOT })
        (record w { mask = bit_and mask EVENTS; once = has_bit mask ONESHOT }))
    by true = or-within w.mask (bit_and mask EVENTS) EVENTS h (and-within mask EVENTS)
    by false = and-within mask EVENTS
