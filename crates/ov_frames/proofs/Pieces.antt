-- What a stream spells, piece by piece.
use Rattle.std.specs.Prelude.{nat_lt, nat_eq}
use Rattle.std.specs.Int.{w32, from_be_bytes}
use Rattle.std.proofs.lemmas.Bool.{ltb-true, ltb-false, le-ltb}
use Rattle.std.proofs.Common.{Bool, true, false, cond, Result, Ok, Err, ◌≡◌, ℕ, ◌+◌, List, [], ◌∷◌, ◌++◌, ◌-◌, ◌≤◌, ◌<◌, length, take, drop, arith, length-drop, refl, sym, ap, subst, ◌∙◌, append_assoc, append-nil, drop-drop}
use Rattle.ov_frames.specs.Feeding.{Adds}
use Rattle.ov_frames.specs.Requests.{request_at}
use Rattle.ov_frames.specs.declared.fault.FrameFault.TheVariants.{BadLength}
use Rattle.ov_frames.specs.Streams.{FRAME_MAX, judged, sized, Continues, front_of, IsLeft, Left, Held, Faulty, Spells}
use Rattle.ov_frames.specs.declared.fault.FrameFault.{FrameFault}
use Rattle.std.proofs.lemmas.List.{take_all, take-append-le, drop-append-le, length-append}
use Rattle.ov_frames.specs.Fronts.{IsWithin}
use Rattle.ov_frames.specs.declared.front.Front.{Front}
use Rattle.ov_frames.specs.declared.front.Front.TheVariants.{Begun, Whole, Bad}
use Rattle.ov_frames.specs.declared.request.Request.{Request}

-- the requests are those that were there before and those of so many bytes at the front
abbrev pub Opens : List Request → List ℕ → ℕ → List Request → Type 0
Opens before bytes used rs =
    (more : List Request) (left : Left) → Spells (drop used bytes) more left
    → Adds before (rs ++ more) bytes left

-- no bytes, no requests
pub opens_none : (before : List Request) (bytes : List ℕ) → Opens before bytes 0 before
opens_none before bytes more left h = record { added = more; requests = refl; spells = h }

-- a whole frame adds its request
pub opens_more : (before : List Request) (bytes : List ℕ) (used len : ℕ) (rs : List Request)
    (r : Request) → Opens before bytes used rs → front_of (drop used bytes) ≡ Whole r len
    → Opens before bytes (used + len) (rs ++ r ∷ [])
opens_more before bytes used len rs r opens whole more left h =
    let rest = subst (λ (bs : List ℕ). Spells bs more left) (sym (drop-drop len used bytes)) h in
    subst (λ (all : List Request). Adds before all bytes left) (sym (append_assoc rs (r ∷ []) more))
    (opens (r ∷ more) left (len, whole, rest))

-- nothing whole follows
pub opens_all : (before : List Request) (bytes : List ℕ) (used : ℕ) (rs : List Request)
    (left : Left) → Opens before bytes used rs → IsLeft (drop used bytes) left
    → Adds before rs bytes left
opens_all before bytes used rs left opens h =
    subst (λ (all : List Request). Adds before all bytes left) (append-nil rs) (opens [] left h)

-- a slice to the end
pub front_to_end : (bytes : List ℕ) (used : ℕ) (f : Front)
    → f ≡ front_of (take (length bytes - used) (drop used bytes)) → front_of (drop used bytes) ≡ f
front_to_end bytes used f h =
    let e : take (length bytes - used) (drop used bytes) ≡ drop used bytes =
    take_all (length bytes - used) (drop used bytes) (omega (arith, length-drop used bytes)) in
    sym (h ∙ ap front_of e)

-- what the front says of how far it goes, for a whole frame
pub whole_within : (n : ℕ) (f : Front) (r : Request) (len : ℕ) → IsWithin n f → f ≡ Whole r len
    → (4 < len) × (len ≤ n)
whole_within n f r len h e = subst (IsWithin n) e h

-- ---- more bytes leave a whole frame and a fault as they are

-- the tests of a length, and what they leave
abbrev pub tested : Bool → Bool → Bool → Front → Front
tested b1 b2 b3 whole = cond b1 (Bad BadLength) (cond b2 (Bad BadLength) (cond b3 Begun whole))

-- so by the tests
kept_tested : (b1 b2 b3 c3 : Bool) (v w f : Front) → tested b1 b2 b3 v ≡ f → (f ≡ Begun → ⊥)
    → (b3 ≡ false → (c3 ≡ false) × (w ≡ v)) → tested b1 b2 c3 w ≡ f
kept_tested true b2 b3 c3 v w f e more h = e
kept_tested false true b3 c3 v w f e more h = e
kept_tested false false true c3 v w f e more h = absurd (more (sym e))
kept_tested false false false c3 v w f e more h =
    let k = h refl in subst (λ b. cond b Begun w ≡ f) (sym k.0) (k.1 ∙ e)

-- so behind a length
kept_sized : (n : ℕ) (bytes piece : List ℕ) (f : Front) → sized n bytes ≡ f → (f ≡ Begun → ⊥)
    → sized n (bytes ++ piece) ≡ f
kept_sized n bytes piece f e more =
    kept_tested (nat_eq n 0) (nat_lt FRAME_MAX n) (nat_lt (length bytes) n)
    (nat_lt (length (bytes ++ piece)) n) (judged (4 + n) (request_at (take n bytes)))
    (judged (4 + n) (request_at (take n (bytes ++ piece)))) f e more
    (λ short. let le : n ≤ length bytes = ltb-false _ _ short in (
      le-ltb _ _ (omega (arith, length-append bytes piece)),
      ap (λ bs. judged (4 + n) (request_at bs)) (take-append-le n bytes piece le),
    ))

-- so where the length is there
kept_long : (b c : Bool) (v w f : Front) → cond b Begun v ≡ f → (f ≡ Begun → ⊥)
    → (b ≡ false → (c ≡ false) × (v ≡ f → w ≡ f)) → cond c Begun w ≡ f
kept_long true c v w f e more h = absurd (more (sym e))
kept_long false c v w f e more h =
    let k = h refl in subst (λ b. cond b Begun w ≡ f) (sym k.0) (k.1 e)

-- more bytes leave a whole frame and a fault as they are
pub front_kept : (bytes piece : List ℕ) (f : Front) → front_of bytes ≡ f → (f ≡ Begun → ⊥)
    → front_of (bytes ++ piece) ≡ f
unfolding front_of
front_kept bytes piece f e more =
    kept_long (nat_lt (length bytes) 4) (nat_lt (length (bytes ++ piece)) 4)
    (sized (from_be_bytes w32 (take 4 bytes)) (drop 4 bytes))
    (sized (from_be_bytes w32 (take 4 (bytes ++ piece))) (drop 4 (bytes ++ piece))) f e more
    (λ short. let le : 4 ≤ length bytes = ltb-false _ _ short in (
      le-ltb _ _ (omega (arith, length-append bytes piece)),
      λ k.
          rw (take-append-le 4 bytes piece le, drop-append-le 4 bytes piece le)
          (kept_sized (from_be_bytes w32 (take 4 bytes)) (drop 4 bytes) piece f k more),
    ))

-- ---- how far a whole frame goes

-- what is known of the tests of a whole frame
pub inside_tested : (b1 b2 b3 : Bool) (n : ℕ) (o : Result Request FrameFault) (r : Request)
    (len : ℕ)
    → tested b1 b2 b3 (judged (4 + n) o) ≡ Whole r len
    → (b2 ≡ false) × (b3 ≡ false) × (o ≡ Ok r) × (4 + n ≡ len)
inside_tested true b2 b3 n o r len e = absurd cc
inside_tested false true b3 n o r len e = absurd cc
inside_tested false false true n o r len e = absurd cc
inside_tested false false false n (Ok q) r len e =
    let same : q ≡ r = cc in
    let far : 4 + n ≡ len = cc in
    (refl, refl, ap (λ (x : Request). Ok x) same, far)
inside_tested false false false n (Err f) r len e = absurd cc

-- the length of a whole frame is there
pub whole_long : (b : Bool) (v : Front) (r : Request) (len : ℕ) (P : Type 0)
    → cond b Begun v ≡ Whole r len
    → (b ≡ false → v ≡ Whole r len → P) → P
whole_long true v r len P e long = absurd cc
whole_long false v r len P e long = long refl e

-- a whole frame ends within the bytes
pub whole_length : (bytes : List ℕ) (r : Request) (len : ℕ) → front_of bytes ≡ Whole r len
    → len ≤ length bytes
unfolding front_of
whole_length bytes r len e =
    let n = from_be_bytes w32 (take 4 bytes) in
    let rest = drop 4 bytes in
    whole_long (nat_lt (length bytes) 4) (sized n rest) r len (len ≤ length bytes) e
    (λ short k.
    let le : 4 ≤ length bytes = ltb-false _ _ short in
    let t =
    inside_tested (nat_eq n 0) (nat_lt FRAME_MAX n) (nat_lt (length rest) n) n
    (request_at (take n rest)) r len k in
    let within : n ≤ length rest = ltb-false _ _ t.1 in
    let far : 4 + n ≡ len = t.3 in
    omega (arith, length-drop 4 bytes))

-- ---- THE CUTS OF A STREAM DON'T MATTER

-- what is left, and a further piece
left_goes_on : (bytes piece : List ℕ) (left : Left) (more : List Request) (new : Left)
    → IsLeft bytes left → Continues left piece more new → Spells (bytes ++ piece) more new
left_goes_on bytes piece (Held held) more new h k =
    subst (λ (bs : List ℕ). Spells (bs ++ piece) more new) h.1 k
left_goes_on bytes piece (Faulty fault) more new h k =
    let kept = front_kept bytes piece (Bad fault) h (λ e. cc) in
    subst (λ (rs : List Request). Spells (bytes ++ piece) rs new) (sym k.0)
    (subst (λ (l : Left). IsLeft (bytes ++ piece) l) (sym k.1) kept)

-- a stream, and a further piece
pub goes_on : (stream piece : List ℕ) (rs more : List Request) (left new : Left)
    → Spells stream rs left → Continues left piece more new
    → Spells (stream ++ piece) (rs ++ more) new
goes_on stream piece [] more left new h k = left_goes_on stream piece left more new h k
goes_on stream piece (r ∷ rs) more left new h k =
    let kept = front_kept stream piece (Whole r h.0) h.1 (λ e. cc) in
    let rest = goes_on (drop h.0 stream) piece rs more left new h.2 k in (
      h.0,
      kept,
      subst (λ (bs : List ℕ). Spells bs (rs ++ more) new)
          (sym (drop-append-le h.0 stream piece (whole_length stream r h.0 h.1))) rest,
    )

-- ---- a stream spells no other requests

-- one thing is left
same_left : (bytes : List ℕ) (left other : Left) → IsLeft bytes left → IsLeft bytes other
    → left ≡ other
same_left bytes (Held a) (Held b) h k = ap Held (h.1 ∙ sym k.1)
same_left bytes (Held a) (Faulty f) h k = let e = sym h.0 ∙ k in absurd cc
same_left bytes (Faulty f) (Held a) h k = let e = sym h ∙ k.0 in absurd cc
same_left bytes (Faulty f) (Faulty g) h k = let e = sym h ∙ k in cc

-- no whole frame is left
whole_left : (bytes : List ℕ) (r : Request) (len : ℕ) (left : Left) → front_of bytes ≡ Whole r len
    → IsLeft bytes left → ⊥
whole_left bytes r len (Held a) e h = let d = sym e ∙ h.0 in cc
whole_left bytes r len (Faulty f) e h = let d = sym e ∙ h in cc

-- the requests and what is left are the only ones
pub only_so : (bytes : List ℕ) (rs others : List Request) (left other : Left) → Spells bytes rs left
    → Spells bytes others other → (rs ≡ others) × (left ≡ other)
only_so bytes [] [] left other h k = (refl, same_left bytes left other h k)
only_so bytes [] (q ∷ qs) left other h k = absurd (whole_left bytes q k.0 left k.1 h)
only_so bytes (r ∷ rs) [] left other h k = absurd (whole_left bytes r h.0 other h.1 k)
only_so bytes (r ∷ rs) (q ∷ qs) left other h k =
    let e = sym h.1 ∙ k.1 in
    let same : r ≡ q = cc in
    let far : h.0 ≡ k.0 = cc in
    let rest =
    only_so (drop h.0 bytes) rs qs left other h.2
    (subst (λ (n : ℕ). Spells (drop n bytes) qs other) (sym far) k.2) in
    (cc, rest.1)

-- ---- what is held back is less than a frame

-- a frame that was judged is begun no more
pub judged_whole : (k : ℕ) (o : Result Request FrameFault) → judged k o ≡ Begun → ⊥
judged_whole k (Ok r) e = cc
judged_whole k (Err f) e = cc

-- so by the tests
short_tested : (b1 b2 b3 : Bool) (v : Front) (n m : ℕ) → tested b1 b2 b3 v ≡ Begun → (v ≡ Begun → ⊥)
    → (b2 ≡ false → n ≤ 70000) → (b3 ≡ true → m < n) → m < 70000
short_tested true b2 b3 v n m e whole small less = absurd cc
short_tested false true b3 v n m e whole small less = absurd cc
short_tested false false true v n m e whole small less =
    let a = small refl in let b = less refl in omega arith
short_tested false false false v n m e whole small less = absurd (whole e)

-- a begun frame lacks bytes of its length or of what that counts
pub begun_long : (b : Bool) (v : Front) (P : Type 0) → cond b Begun v ≡ Begun → (b ≡ true → P)
    → (b ≡ false → v ≡ Begun → P) → P
begun_long true v P e short long = short refl
begun_long false v P e short long = long refl e

-- a begun frame is less than the longest one
begun_short : (bytes : List ℕ) → front_of bytes ≡ Begun → length bytes < 70004
unfolding front_of
begun_short bytes e =
    let n = from_be_bytes w32 (take 4 bytes) in
    let rest = drop 4 bytes in
    begun_long (nat_lt (length bytes) 4) (sized n rest) (length bytes < 70004) e
    (λ t. let h = ltb-true _ _ t in omega arith)
    (λ f k. let h = short_tested (nat_eq n 0) (nat_lt FRAME_MAX n) (nat_lt (length rest) n)
    (judged (4 + n) (request_at (take n rest))) n (length rest) k
    (judged_whole (4 + n) (request_at (take n rest))) (λ b. ltb-false _ _ b)
    (λ b. ltb-true _ _ b) in
    omega (arith, h, length-drop 4 bytes))

-- what is held is less than the longest frame
pub held_short : (bytes : List ℕ) (rs : List Request) (held : List ℕ) → Spells bytes rs (Held held)
    → length held < 70004
held_short bytes [] held h =
    subst (λ (l : List ℕ). length l < 70004) (sym h.1) (begun_short bytes h.0)
held_short bytes (r ∷ rs) held h = held_short (drop h.0 bytes) rs held h.2
