-- What a read into some room leaves of it.
use Rattle.std.proofs.Common.{◌≡◌, ℕ, ◌+◌, ◌-◌, ◌≤◌, List, ◌++◌, sym, ap, ◌∙◌, drop, length, take, arith}
use Rattle.std.proofs.lemmas.List.{drop_at, length-append, length-drop, length-take, take_at}

-- the front of the room is what was read
pub front : (given room : List ℕ) (n : ℕ) (now : List ℕ) → n ≡ length given → now ≡ given ++ drop n room →
    take n now ≡ given
front given room n now count is =
    ap (λ (l : List ℕ). take n l) is ∙ take_at given (drop n room) n (sym count)

-- behind it the room is as it was
pub behind : (given room : List ℕ) (n : ℕ) (now : List ℕ) → n ≡ length given → now ≡ given ++ drop n room →
    drop n now ≡ drop n room
behind given room n now count is =
    ap (λ (l : List ℕ). drop n l) is ∙ drop_at given (drop n room) n (sym count)

-- and as long as it was
pub as_long : (given room : List ℕ) (n : ℕ) (now : List ℕ) → n ≡ length given → n ≤ length room →
    now ≡ given ++ drop n room → length now ≡ length room
as_long given room n now count most is =
    let long : length now ≡ length given + length (drop n room) = ap length is ∙ length-append given (drop n room) in
    let left : length (drop n room) ≡ length room - n = length-drop n room in
    omega (arith, long, left, count, most)

-- and no more was read than it has room for
pub most : (left room : List ℕ) (n : ℕ) → n ≡ length (take (length room) left) → n ≤ length room
most left room n count = omega (arith, count, length-take (length room) left)
