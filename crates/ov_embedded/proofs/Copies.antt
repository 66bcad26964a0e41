-- What is copied into some room.
use Rattle.std.proofs.Common.{◌≡◌, ℕ, ◌<◌, ◌≤◌, ◌-◌, min, List, [], ◌++◌, length, length-drop, take, drop, refl, sym, ap, subst, ◌∙◌, arith}
use Rattle.std.proofs.lemmas.List.{take_all, drop_all, append-nil, length-take}
use Rattle.ov_embedded.specs.Calling.{IsCopied}
use Rattle.ov_embedded.specs.Saving.{IsPieceOf}

-- all of some bytes go into room for as many
pub whole_front : (xs ys : List ℕ) → length xs ≤ length ys →
    xs ++ drop (length xs) ys ≡ take (length ys) xs ++ drop (length xs) ys
whole_front xs ys h =
    ap (λ (zs : List ℕ). zs ++ drop (length xs) ys) (sym (take_all (length ys) xs h))

-- of more than there is room for, the front does, and nothing is left of what was there
pub front_part : (xs ys : List ℕ) → length ys < length xs →
    take (length ys) xs ≡ take (length ys) xs ++ drop (length xs) ys
front_part xs ys h =
    sym (ap (λ (zs : List ℕ). take (length ys) xs ++ zs)
    (drop_all (length xs) ys (omega (arith, h))) ∙ append-nil (take (length ys) xs))

-- of no bytes there is no front
take_nothing : (n : ℕ) (ys : List ℕ) → take n [] ++ drop 0 ys ≡ ys
take_nothing n ys = ap (λ (zs : List ℕ). zs ++ ys) (take_all n [] (omega (arith)))

-- a range up to the end has all that is left
pub range_to_end : (bytes : List ℕ) (at : ℕ) →
    take (length bytes - at) (drop at bytes) ≡ drop at bytes
range_to_end bytes at =
    take_all (length bytes - at) (drop at bytes) (omega (arith, length-drop at bytes))

-- behind the end of some bytes there is nothing to copy
pub no_piece : (bytes room : List ℕ) (at : ℕ) → length bytes ≤ at → IsPieceOf bytes at room room 0
no_piece bytes room at past =
    let none : drop at bytes ≡ [] = drop_all at bytes past in
    subst (λ (rest : List ℕ). (left : ℕ) × IsCopied rest room room left
    × (0 ≡ min left (length room)))
    (sym none) (0, (sym (take_nothing (length room) room), refl), length-take 0 room)
