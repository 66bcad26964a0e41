-- Bytes that are added to a begun frame: up to its end and no further.
use Rattle.std.proofs.Common.{◌≡◌, ℕ, ◌+◌, ◌-◌, ◌≤◌, ◌<◌, Bool, true, false, cond, List, [], ◌∷◌, ◌++◌, length, take, drop, Option, Some, None, Result, Ok, Err, arith, length-drop, refl, sym, ap, subst, ◌∙◌, append_assoc, take-add, inl, inr}
use Rattle.std.specs.Prelude.{nat_lt, nat_eq, min}
use Rattle.std.specs.Int.{w32, from_be_bytes}
use Rattle.std.specs.Option.{ForNone}
use Rattle.std.proofs.lemmas.Bool.{cases_lt, ltb-true, ltb-false, lt-ltb, le-ltb}
use Rattle.std.proofs.lemmas.List.{drop_at, take-append-drop, take-append-le, take_all, take_rest, length-append, length-take-le}
use Rattle.ov_frames.proofs.Pieces.{begun_long, front_kept, judged_whole, tested, whole_length, whole_long}
use Rattle.ov_frames.specs.Feeding.{Adds, IsCompleted, IsFilled}
use Rattle.ov_frames.specs.Fronts.{front_end, length_end}
use Rattle.ov_frames.specs.Requests.{request_at}
use Rattle.ov_frames.specs.Streams.{FRAME_MAX, Left, Held, Faulty, Spells, front_of, judged, left_of, sized}
use Rattle.ov_frames.specs.declared.fault.FrameFault.{FrameFault}
use Rattle.ov_frames.specs.declared.front.Front.{Front}
use Rattle.ov_frames.specs.declared.front.Front.TheVariants.{Begun, Whole, Bad}
use Rattle.ov_frames.specs.declared.request.Request.{Request}

-- ---- where the frame at the front of bytes ends

-- until the length is there, its end
end_short : (bytes : List ℕ) → length bytes < 4 → front_end bytes ≡ 4
unfolding front_end
end_short bytes short = rw (lt-ltb _ _ short) refl

-- then what the length says
end_long : (bytes : List ℕ) → 4 ≤ length bytes → front_end bytes ≡ length_end
    (from_be_bytes w32 (take 4 bytes))
unfolding front_end
end_long bytes long = rw (le-ltb _ _ long) refl

-- more bytes move no end that is known
end_kept : (bytes more : List ℕ) → 4 ≤ length bytes → front_end (bytes ++ more) ≡ front_end bytes
end_kept bytes more long =
    end_long (bytes ++ more) (omega (arith, length-append bytes more))
    ∙ ap (λ (l : List ℕ). length_end (from_be_bytes w32 l)) (take-append-le 4 bytes more long)
    ∙ sym (end_long bytes long)

-- so by the tests
least_tested : (b1 b2 : Bool) (n : ℕ) → 4 ≤ cond b1 4 (cond b2 4 (4 + n))
least_tested true b2 n = omega arith
least_tested false true n = omega arith
least_tested false false n = omega arith

-- no frame ends within its length
pub end_least : (bytes : List ℕ) → 4 ≤ front_end bytes
end_least bytes =
    elim (cases_lt (length bytes) 4) [
      | inl short ↦ omega (arith, end_short bytes short)
      | inr long ↦ rw (end_long bytes long)
          (least_tested (nat_eq (from_be_bytes w32 (take 4 bytes)) 0)
          (nat_lt FRAME_MAX (from_be_bytes w32 (take 4 bytes))) (from_be_bytes w32 (take 4 bytes)))
    ]

-- so by the tests, behind the length
begun_tested : (b1 b2 b3 : Bool) (v : Front) (n m : ℕ) → tested b1 b2 b3 v ≡ Begun → (v ≡ Begun → ⊥)
    → (b3 ≡ true → m < n) → 4 + m < cond b1 4 (cond b2 4 (4 + n))
begun_tested true b2 b3 v n m e whole less = absurd cc
begun_tested false true b3 v n m e whole less = absurd cc
begun_tested false false true v n m e whole less = let h = less refl in omega arith
begun_tested false false false v n m e whole less = absurd (whole e)

-- a begun frame lacks bytes
begun_lacks : (bytes : List ℕ) → front_of bytes ≡ Begun → length bytes < front_end bytes
unfolding front_of
begun_lacks bytes e =
    let n = from_be_bytes w32 (take 4 bytes) in
    let rest = drop 4 bytes in
    begun_long (nat_lt (length bytes) 4) (sized n rest) (length bytes < front_end bytes) e
    (λ t. let short : length bytes < 4 = ltb-true _ _ t in omega (arith, end_short bytes short))
    (λ f k. let long : 4 ≤ length bytes = ltb-false _ _ f in
    let h =
    begun_tested (nat_eq n 0) (nat_lt FRAME_MAX n) (nat_lt (length rest) n)
    (judged (4 + n) (request_at (take n rest))) n (length rest) k
    (judged_whole (4 + n) (request_at (take n rest))) (λ b. ltb-true _ _ b) in
    rw (end_long bytes long) (omega (arith, h, length-drop 4 bytes)))

-- so by the tests, behind the length
lacks_tested : (b1 b2 b3 : Bool) (v : Front) (n m : ℕ) → 4 + m < cond b1 4 (cond b2 4 (4 + n))
    → (m < n → b3 ≡ true) → tested b1 b2 b3 v ≡ Begun
lacks_tested true b2 b3 v n m h less = absurd (omega arith)
lacks_tested false true b3 v n m h less = absurd (omega arith)
lacks_tested false false b3 v n m h less =
    subst (λ b. cond b Begun v ≡ Begun) (sym (less (omega arith))) refl

-- bytes that end before their frame does begin it
pub lacks_begun : (bytes : List ℕ) → length bytes < front_end bytes → front_of bytes ≡ Begun
unfolding front_of
lacks_begun bytes h =
    let n = from_be_bytes w32 (take 4 bytes) in
    let rest = drop 4 bytes in
    elim (cases_lt (length bytes) 4) [
      | inl short ↦ rw (lt-ltb _ _ short) refl
      | inr long ↦ rw (le-ltb _ _ long)
          (lacks_tested (nat_eq n 0) (nat_lt FRAME_MAX n) (nat_lt (length rest) n)
          (judged (4 + n) (request_at (take n rest))) n (length rest)
          (omega (arith, end_long bytes long, length-drop 4 bytes))
          (λ less. lt-ltb _ _ less))
    ]

-- so by the tests
whole_tested : (b1 b2 b3 : Bool) (n : ℕ) (o : Result Request FrameFault) (r : Request) (len : ℕ)
    → tested b1 b2 b3 (judged (4 + n) o) ≡ Whole r len → len ≡ cond b1 4 (cond b2 4 (4 + n))
whole_tested true b2 b3 n o r len e = absurd cc
whole_tested false true b3 n o r len e = absurd cc
whole_tested false false true n o r len e = absurd cc
whole_tested false false false n (Ok q) r len e = let same : 4 + n ≡ len = cc in sym same
whole_tested false false false n (Err f) r len e = absurd cc

-- a whole frame goes as far as its length says
pub whole_end : (bytes : List ℕ) (r : Request) (len : ℕ) → front_of bytes ≡ Whole r len
    → len ≡ front_end bytes
unfolding front_of
whole_end bytes r len e =
    let n = from_be_bytes w32 (take 4 bytes) in
    let rest = drop 4 bytes in
    whole_long (nat_lt (length bytes) 4) (sized n rest) r len (len ≡ front_end bytes) e
    (λ f k. whole_tested (nat_eq n 0) (nat_lt FRAME_MAX n) (nat_lt (length rest) n) n
    (request_at (take n rest)) r len k ∙ sym (end_long bytes (ltb-false _ _ f)))

-- ---- a begun frame is filled to the end of its length and then to its own

-- the numbers of two fillings, of a and b bytes: what was there, of the piece, and the three ends
fills : (old a b piece e0 e1 e2 : ℕ) → old < e0 → a ≡ min (e0 - old) piece
    → b ≡ min (e1 - (old + a)) (piece - a) → 4 ≤ e1 → (old < 4 → e0 ≡ 4) → (4 ≤ old → e1 ≡ e0)
    → (old + a < 4 → e1 ≡ 4) → (4 ≤ old + a → e2 ≡ e1) → (old + a + b < 4 → e2 ≡ 4)
    → (old + a + b ≤ e2) × (old + a + b < e2 → a + b ≡ piece)
fills old a b piece e0 e1 e2 lacks is_a is_b least short0 long0 short1 long1 short2 =
    elim (cases_lt (old + a) 4) [
      | inl lt ↦ let z = short0 (omega arith) in let o = short1 lt in
          let none : b ≡ 0 = omega arith in let t = short2 (omega arith) in
          (omega arith, λ less. omega arith)
      | inr le ↦ let t = long1 le in elim (cases_lt old 4) [
        | inl lt ↦ let z = short0 lt in (omega arith, λ less. omega arith)
        | inr ge ↦ let o = long0 ge in (omega arith, λ less. omega arith)
      ]
    ]

-- two fillings make a begun frame whole, or use the piece up
pub completes : (old piece mid new : List ℕ) (a b : ℕ) → front_of old ≡ Begun
    → IsFilled old (front_end old) piece mid a → IsFilled mid (front_end mid)
    (take (length piece - a) (drop a piece)) new b
    → IsCompleted old piece new (front_of new) (a + b)
completes old piece mid new a b begun first second =
    let rest = drop a piece in
    let slice : take (length piece - a) rest ≡ rest = take_rest piece a in
    let within-a : a ≤ length piece = omega (arith, first.lacking) in
    let second-added : new ≡ mid ++ take b rest =
    second.added ∙ ap (λ (l : List ℕ). mid ++ take b l) slice in
    let second-lacking : b ≡ min (front_end mid - length mid) (length piece - a) =
    second.lacking ∙ ap (λ (l : List ℕ). min (front_end mid - length mid) (length l)) slice
    ∙ ap (min (front_end mid - length mid)) (length-drop a piece) in
    let long-mid : length mid ≡ length old + a =
    ap length first.added ∙ length-append old (take a piece)
    ∙ ap (λ (n : ℕ). length old + n) (length-take-le a piece within-a) in
    let within-b : b ≤ length rest = omega (arith, second-lacking, length-drop a piece) in
    let long-new : length new ≡ length old + a + b =
    ap length second-added ∙ length-append mid (take b rest)
    ∙ ap (λ (n : ℕ). length mid + n) (length-take-le b rest within-b)
    ∙ ap (λ (n : ℕ). n + b) long-mid in
    let counts : (length old + a + b ≤ front_end new)
    × (length old + a + b < front_end new → a + b ≡ length piece) =
    fills (length old) a b (length piece) (front_end old) (front_end mid) (front_end new)
    (begun_lacks old begun) first.lacking (second-lacking
    ∙ ap (λ (n : ℕ). min (front_end mid - n) (length piece - a)) long-mid) (end_least mid)
    (end_short old)
    (λ ge. ap front_end first.added ∙ end_kept old (take a piece) ge)
    (λ lt. end_short mid (omega (arith, long-mid)))
    (λ ge. ap front_end second-added ∙ end_kept mid (take b rest) (omega (arith, long-mid)))
    (λ lt. end_short new (omega (arith, long-new))) in
    record {
      within = omega (arith, within-b, length-drop a piece);
      added = second-added ∙ ap (λ (l : List ℕ). l ++ take b rest) first.added
          ∙ append_assoc old (take a piece) (take b rest)
          ∙ ap (λ (l : List ℕ). old ++ l) (sym (take-add a b piece));
      stands = refl;
      begun = λ e. let lacks = begun_lacks new e in counts.1 (omega (arith, long-new));
      whole = λ r len e. let end = whole_end new r len e in let far = whole_length new r len e in
          let top = counts.0 in omega (arith, long-new);
    }

-- ---- what the whole stream spells then

-- the stream as what is held then and the rest of the piece
stream : (old piece new : List ℕ) (used : ℕ) → new ≡ old ++ take used piece → old ++ piece ≡ new
    ++ drop used piece
stream old piece new used added =
    ap (λ (l : List ℕ). old ++ l) (sym (take-append-drop used piece))
    ∙ sym (append_assoc old (take used piece) (drop used piece))
    ∙ ap (λ (l : List ℕ). l ++ drop used piece) (sym added)

-- requests where none stood before
pub adds_alone : (before after : List Request) (bytes : List ℕ) (left : Left) → before ≡ []
    → Adds before after bytes left → Spells bytes after left
adds_alone before after bytes left none adds =
    subst (λ (rs : List Request). Spells bytes rs left)
    (sym (adds.requests ∙ ap (λ (rs : List Request). rs ++ adds.added) none)) adds.spells

-- the frame is whole, and the rest of the piece goes on from there
pub completed_whole : (old piece new : List ℕ) (before after : List Request) (r : Request)
    (len used : ℕ) (left : Left) → IsCompleted old piece new (Whole r len) used → before ≡ r ∷ []
    → Adds before after (drop used piece) left → Spells (old ++ piece) after left
completed_whole old piece new before after r len used left done first adds =
    let rest = drop used piece in
    let kept : front_of (new ++ rest) ≡ Whole r len =
    front_kept new rest (Whole r len) done.stands (λ e. cc) in
    let behind : drop len (new ++ rest) ≡ rest =
    drop_at new rest len (sym (done.whole r len refl)) in
    let all : after ≡ r ∷ adds.added =
    adds.requests ∙ ap (λ (rs : List Request). rs ++ adds.added) first in
    let spelled : Spells (new ++ rest) (r ∷ adds.added) left =
    (len, kept, subst (λ (bs : List ℕ). Spells bs adds.added left) (sym behind) adds.spells) in
    subst (λ (bs : List ℕ). Spells bs after left) (sym (stream old piece new used done.added))
    (subst (λ (rs : List Request). Spells (new ++ rest) rs left) (sym all) spelled)

-- the frame is begun still, and the piece is used up
pub completed_begun : (old piece new : List ℕ) (rs : List Request) (used : ℕ)
    → IsCompleted old piece new Begun used → rs ≡ [] → Spells (old ++ piece) rs (Held new)
completed_begun old piece new rs used done none =
    let all : new ≡ old ++ piece =
    done.added ∙ ap (λ (l : List ℕ). old ++ l)
    (take_all used piece (omega (arith, done.begun refl))) in
    subst (λ (qs : List Request). Spells (old ++ piece) qs (Held new)) (sym none)
    (ap front_of (sym all) ∙ done.stands, all)

-- the frame is at fault
pub completed_bad : (old piece new : List ℕ) (rs : List Request) (fault : FrameFault) (used : ℕ)
    → IsCompleted old piece new (Bad fault) used → rs ≡ [] → Spells (old ++ piece) rs (Faulty fault)
completed_bad old piece new rs fault used done none =
    let kept : front_of (new ++ drop used piece) ≡ Bad fault =
    front_kept new (drop used piece) (Bad fault) done.stands (λ e. cc) in
    subst (λ (qs : List Request). Spells (old ++ piece) qs (Faulty fault)) (sym none)
    (ap front_of (stream old piece new used done.added) ∙ kept)

-- what is held where no fault is, is begun
pub spelled_begun : (bytes : List ℕ) (rs : List Request) (fault : Option FrameFault) (held : List ℕ)
    → Spells bytes rs (left_of fault held) → ForNone fault (front_of held ≡ Begun)
spelled_begun bytes [] None held h e = ap front_of h.1 ∙ h.0
spelled_begun bytes (r ∷ rs) None held h e = spelled_begun (drop h.0 bytes) rs None held h.2 e
spelled_begun bytes rs (Some fault) held h e = absurd cc
