-- What bytes spell, served frame by frame.
use Rattle.std.proofs.Common.{◌≡◌, ℕ, ◌+◌, ◌-◌, ◌≤◌, List, [], ◌∷◌, ◌++◌, length, take, drop, Result, Ok, Err, refl, sym, ap, subst, ◌∙◌, append_assoc, append-nil, drop-drop, length-drop, arith, inl, inr}
use Rattle.std.proofs.lemmas.List.{drop-take, take_at, drop_at, take-append-le, drop-append-le, length-take-le}
use Rattle.std.proofs.lemmas.List.Edits.{take-paste}
use Rattle.std.proofs.lemmas.Slice.{between_is}
use Rattle.std.specs.List.{copy_within}
use borrow.Rule.Slice.PartMut.{put_mid, post_of, same_len_mid}
use lib.Seq.{take-add}
use Rattle.ov_frames.proofs.Every.{spelled_always}
use Rattle.ov_frames.specs.Streams.{Left, Held, Faulty, Spells, front_of}
use Rattle.ov_frames.specs.declared.fault.FrameFault.{FrameFault}
use Rattle.ov_frames.specs.declared.front.Front.TheVariants.{Begun, Whole, Bad}
use Rattle.ov_frames.specs.declared.request.Request.{Request}
use Rattle.ov_session.specs.Conversing.{IsTurn}
use Rattle.ov_session.specs.Devices.{IsOutputEnd}
use Rattle.ov_session.specs.Doors.{Goes}
use Rattle.ov_session.specs.Serving.{frames}
use Rattle.ov_session.specs.Talks.{Place, Gained, Talked, IsServed}
use Rattle.ov_session.specs.declared.ending.Ending.{Ending}
use Rattle.ov_session.specs.declared.ending.Ending.TheVariants as ending
use Rattle.ov_session.specs.declared.exchange.Exchange.{Exchange}
use Rattle.ov_session.proofs.Gaining.{front_of_all}
use Rattle.ov_session.proofs.Talking.{Doorway, talked_nothing, talked_then, talked_on, broke_then, broke_before, regrouped, served_on, served_badly}

-- so many bytes at the front are whole frames, and their requests were served
pub record ServedSo {D : Type 0} (goes : Goes D) (bytes : List ℕ) (used : ℕ) (old new : Place D) :
    Type 0 where
  pub requests : List Request
  pub opens : (more : List Request) (left : Left) → Spells (drop used bytes) more left
      → Spells bytes (requests ++ more) left
  pub talked : Talked goes old new requests

-- no bytes, no requests
pub served_none : {D : Type 0} (goes : Goes D) (bytes : List ℕ) (o : Place D) → Doorway goes
    → ServedSo goes bytes 0 o o
served_none goes bytes o laws = record {
  requests = [];
  opens = λ more left h. h;
  talked = talked_nothing goes o laws;
}

-- the request of a further frame was served
pub served_more : {D : Type 0} (goes : Goes D) (bytes : List ℕ) (used len : ℕ) (o m n : Place D)
    (r : Request) → Doorway goes → ServedSo goes bytes used o m
    → front_of (drop used bytes) ≡ Whole r len → Talked goes m n (r ∷ [])
    → ServedSo goes bytes (used + len) o n
served_more goes bytes used len o m n r laws s whole talk = record {
  requests = s.requests ++ r ∷ [];
  opens = λ more left h.
      let rest = subst (λ (bs : List ℕ). Spells bs more left) (sym (drop-drop len used bytes)) h in
      subst (λ (all : List Request). Spells bytes all left)
      (sym (append_assoc s.requests (r ∷ []) more)) (s.opens (r ∷ more) left (len, whole, rest));
  talked = talked_then goes o m n s.requests (r ∷ []) laws s.talked talk;
}

-- nothing whole follows
alone : {D : Type 0} (goes : Goes D) (bytes : List ℕ) (used : ℕ) (o n : Place D) (left : Left)
    (s : ServedSo goes bytes used o n) → Spells (drop used bytes) [] left
    → Spells bytes s.requests left
alone goes bytes used o n left s h =
    subst (λ (all : List Request). Spells bytes all left) (append-nil s.requests)
    (s.opens [] left h)

-- a begun frame follows
pub turn_begun : {D : Type 0} (goes : Goes D) (bytes : List ℕ) (used : ℕ) (o n : Place D)
    → ServedSo goes bytes used o n → used ≤ length bytes → front_of (drop used bytes) ≡ Begun
    → IsTurn goes bytes o n (Ok used)
turn_begun goes bytes used o n s within begun = (
  within,
  (
    s.requests,
    alone goes bytes used o n (Held (drop used bytes)) s (begun, refl),
    s.talked,
  ),
)

-- a fault follows
pub turn_bad : {D : Type 0} (goes : Goes D) (bytes : List ℕ) (used : ℕ)
    (o n : Place D) (fault : FrameFault) → ServedSo goes bytes used o n
    → front_of (drop used bytes) ≡ Bad fault
    → IsTurn goes bytes o n (Err (ending.Frame fault))
turn_bad goes bytes used o n fault s bad =
    inr (fault, s.requests, alone goes bytes used o n (Faulty fault) s bad, refl, s.talked)

-- the request of the next frame was not served
pub turn_broken : {D : Type 0} (goes : Goes D) (bytes : List ℕ)
    (used len : ℕ) (o m n : Place D) (r : Request) (e : Ending) → Doorway goes
    → ServedSo goes bytes used o m → front_of (drop used bytes) ≡ Whole r len
    → IsServed goes m n (r ∷ []) (Err e) → IsTurn goes bytes o n (Err e)
turn_broken goes bytes used len o m n r e laws s whole h =
    let more = spelled_always (drop len (drop used bytes)) in
    let all = s.requests ++ r ∷ more.0 in
    let parts : all ≡ (s.requests ++ h.0) ++ (h.1 ++ more.0) =
    regrouped all s.requests r h.0 h.1 more.0 (sym (append_assoc s.requests (r ∷ []) more.0)) h.2 in
    let broke =
    broke_before goes o n (s.requests ++ h.0) h.1 more.0 e
    (broke_then goes o m n s.requests h.0 h.1 e laws s.talked h.3) in
    inl (
      all,
      more.1,
      s.opens (r ∷ more.0) more.1 (len, whole, more.2),
      (s.requests ++ h.0, h.1 ++ more.0, parts, broke),
    )

-- there was no memory to read the request of the next frame
pub turn_memory : {D : Type 0} (goes : Goes D) (bytes : List ℕ) (used : ℕ)
    (o n : Place D) → ServedSo goes bytes used o n
    → IsTurn goes bytes o n (Err ending.Memory)
turn_memory goes bytes used o n s =
    let more = spelled_always (drop used bytes) in
    let t = s.talked in
    inl (
      s.requests ++ more.0,
      more.1,
      s.opens more.0 more.1 more.2,
      (
        s.requests,
        more.0,
        refl,
        record {
          told = t.told;
          stopped = [];
          added = t.added ∙ ap (λ (l : List Exchange). o.told ++ l) (sym (append-nil t.told));
          went = subst (λ (l : List Exchange). goes o.door l n.door) (sym (append-nil t.told))
              t.went;
          answers = t.answers;
          served = t.served;
          given = frames t.answers;
          gained = t.gained;
          how = (inl refl, front_of_all (frames t.answers));
        },
      ),
    )

-- ---- handing on

-- a turn, after the output handed on what it held
pub turn_on : {D : Type 0} (goes : Goes D) (bytes : List ℕ) (o m n : Place D)
    (result : Result ℕ Ending) → IsTurn goes bytes o m result → Gained m n []
    → n.told ≡ m.told → n.door ≡ m.door → IsTurn goes bytes o n result
turn_on goes bytes o m n (Ok x) h k t d =
    (h.0, (h.1.0, h.1.1, talked_on goes o m n h.1.0 h.1.2 k t d))
turn_on goes bytes o m n (Err e) (inl h) k t d =
    inl (h.0, h.1, h.2, served_on goes o m n h.0 (Err e) h.3 k t d)
turn_on goes bytes o m n (Err e) (inr h) k t d =
    inr (h.0, h.1, h.2, h.3, talked_on goes o m n h.1 h.4 k t d)

-- a turn, after which the output failed
pub turn_badly : {D : Type 0} (goes : Goes D) (bytes : List ℕ)
    (o m n : Place D) (result : Result ℕ Ending) (end : Ending)
    → IsTurn goes bytes o m result → IsOutputEnd end → Gained m n [] → n.told ≡ m.told
    → n.door ≡ m.door → IsTurn goes bytes o n (Err end)
turn_badly goes bytes o m n (Ok x) end h by k t d = inl (
  h.1.0,
  Held (drop x bytes),
  h.1.1,
  served_badly goes o m n h.1.0 (Ok tt) end h.1.2 by k t d,
)
turn_badly goes bytes o m n (Err e) end (inl h) by k t d =
    inl (h.0, h.1, h.2, served_badly goes o m n h.0 (Err e) end h.3 by k t d)
turn_badly goes bytes o m n (Err e) end (inr h) by k t d =
    inl (h.1, Faulty h.0, h.2, served_badly goes o m n h.1 (Ok tt) end h.4 by k t d)

-- ---- the begun frame at the front

-- bytes that were moved to the front
pub moved : (bytes : List ℕ) (used count : ℕ) → used ≤ count → count ≤ length bytes
    → take (count - used) (copy_within bytes used count 0) ≡ drop used (take count bytes)
moved bytes used count start within =
    let n = count - used in
    let none : n ≡ 0 + n = omega arith in
    let all : used + n ≡ count = omega arith in
    ap (λ (m : ℕ). take m (copy_within bytes used count 0)) none
    ∙ take-paste bytes 0 (drop used bytes) n (omega arith)
    (omega (arith, length-drop used bytes))
    ∙ sym (drop-take used n bytes)
    ∙ ap (λ (m : ℕ). drop used (take m bytes)) all

-- what a read gave stands behind the bytes that were held
pub filled : (bytes piece : List ℕ) (start end room count : ℕ) → start ≤ end → end ≤ length bytes
    → count ≤ length piece
    → take (end + count - start) (drop start (put_mid end room bytes piece))
    ≡ drop start (take end bytes) ++ take count piece
filled bytes piece start end room count ordered within fits =
    let front : length (take end bytes) ≡ end = length-take-le end bytes within in
    let after = piece ++ post_of end room bytes in
    let all : take (end + count) (put_mid end room bytes piece)
    ≡ take end bytes ++ take count piece =
    take-add end count (put_mid end room bytes piece)
    ∙ rw (
      take_at (take end bytes) after end front,
      drop_at (take end bytes) after end front,
      take-append-le count piece (post_of end room bytes) fits,
    ) refl in
    between_is (put_mid end room bytes piece) start (end + count)
    ∙ ap (λ (l : List ℕ). drop start l) all
    ∙ drop-append-le start (take end bytes) (take count piece) (omega arith)

-- and there is room for as many bytes as before
pub filled_long : (bytes piece : List ℕ) (end room : ℕ)
    → length piece ≡ length (take room (drop end bytes))
    → length (put_mid end room bytes piece) ≡ length bytes
filled_long bytes piece end room h = same_len_mid end room bytes piece h
