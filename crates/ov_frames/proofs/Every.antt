-- Every stream spells something.
use Rattle.std.proofs.Common.{◌≡◌, ℕ, zero, suc, ◌≤◌, List, [], ◌∷◌, length, drop, arith, length-drop, refl}
use Rattle.ov_frames.proofs.Completing.{end_least, whole_end}
use Rattle.ov_frames.proofs.Pieces.{whole_length}
use Rattle.ov_frames.specs.Fronts.{front_end}
use Rattle.ov_frames.specs.Streams.{Left, Held, Faulty, Spells, front_of}
use Rattle.ov_frames.specs.declared.front.Front.{Front}
use Rattle.ov_frames.specs.declared.front.Front.TheVariants.{Begun, Whole, Bad}
use Rattle.ov_frames.specs.declared.request.Request.{Request}

-- a whole frame has its length at least
pub whole_least : (bytes : List ℕ) (r : Request) (len : ℕ) → front_of bytes ≡ Whole r len → 4 ≤ len
whole_least bytes r len e =
    let end : len ≡ front_end bytes = whole_end bytes r len e in omega (arith, end_least bytes)

-- so of bytes that are no more than n, by what stands at their front
spelled_within : (n : ℕ) (bytes : List ℕ) (f : Front) → front_of bytes ≡ f → length bytes ≤ n
    → (rs : List Request) × (left : Left) × Spells bytes rs left
spelled_within n bytes Begun e h = ([], Held bytes, (e, refl))
spelled_within n bytes (Bad fault) e h = ([], Faulty fault, e)
spelled_within zero bytes (Whole r len) e h =
    let least = whole_least bytes r len e in
    let within = whole_length bytes r len e in
    absurd (omega arith)
spelled_within (suc n) bytes (Whole r len) e h =
    let least = whole_least bytes r len e in
    let within = whole_length bytes r len e in
    let rest = drop len bytes in
    let more = spelled_within n rest (front_of rest) refl (omega (arith, length-drop len bytes)) in
    (r ∷ more.0, more.1, (len, e, more.2))

-- every stream spells some requests, and something is left
pub spelled_always : (stream : List ℕ) → (rs : List Request) × (left : Left)
    × Spells stream rs left
spelled_always stream = spelled_within (length stream) stream (front_of stream) refl (omega arith)
