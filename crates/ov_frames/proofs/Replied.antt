-- Each reply has one frame: what its reader reads was written so, and what was written is read.
use Rattle.std.proofs.Common.{◌≡◌, ℕ, ◌<◌, ◌≤◌, ◌^◌, Bool, false, List, [], ◌∷◌, ◌++◌, length, take, drop, cond, true, Result, Ok, Err, refl, sym, ap, subst, ◌∙◌, arith}
use Rattle.std.specs.Prelude.{nat_eq, nat_lt}
use Rattle.std.specs.Int.{w32, to_be_bytes}
use Rattle.std.proofs.lemmas.Bool.{eqb-true, ltb-false, le-ltb}
use Rattle.std.proofs.lemmas.List.{drop_at, take_at}
use Rattle.ov_base.specs.declared.reply.Reply.{Reply}
use Rattle.ov_base.specs.declared.reply.Reply.TheVariants as reply
use Rattle.ov_frames.specs.Fields.{Format, ◌>>=◌, ◌then◌, signed, text, block, nothing}
use Rattle.ov_frames.specs.Frames.{IsBytes}
use Rattle.ov_frames.specs.Reading.{Kind, OfNothing, OfStatus, OfTarget, OfValue, OfBytes, OfDescriptor, OfWritten, OfPlace, OfNames, OfAttributeNames, OfWatch, OfNotices, AnswerFits, IsOfKind, IsReplyTo, ReplyFits, answer_read, by_status, kind_for, kind_of, reply_front, reply_read, within_frame}
use Rattle.ov_frames.specs.Replies.{answer_body, answer_frame, notice_bytes, reply_body, stat_bytes}
use Rattle.ov_frames.specs.Requests.{u32, u64, made}
use Rattle.ov_frames.specs.Streams.{FRAME_MAX}
use Rattle.ov_frames.specs.Values.{errno_byte, listed, notice, stat}
use Rattle.ov_frames.specs.declared.answer.Answer.{Answer}
use Rattle.ov_frames.specs.declared.answer.Answer.TheVariants.{Replied, NotTaken}
use Rattle.ov_frames.specs.declared.fault.FrameFault.{FrameFault}
use Rattle.ov_frames.specs.declared.fault.FrameFault.TheVariants.{BadLength}
use Rattle.ov_frames.specs.declared.request.Request.{Request}
use Rattle.ov_frames.proofs.Formats.{IsBytes-drop, IsBytes-rest, IsBytes-take, IsFormat, bind_ok, block_law, both, either, made_again, made_found, no_bytes, number32, number64, ok_is, signed32, text_law}
use Rattle.ov_frames.proofs.Values.{errno_law, listed_law, notice_law, stat_law}

-- ---- what is read was written so

-- the bytes are those of a reply of a kind
abbrev Is : Kind → List ℕ → Reply → Type 0
Is kind bytes answered =
    ((place : ℕ) → 0 ∷ (u64.written place ++ bytes) ≡ reply_body place answered)
    × ((place : ℕ) → IsOfKind kind (Replied place answered)) × ReplyFits answered

-- one kind
one : {A : Type 0} (kind : Kind) (bytes : List ℕ) (f : Format A) (make : A → Reply)
    (fits : A → Type 0) (answered : Reply) → IsFormat f fits → IsBytes bytes →
    ((x : A) → fits x → Is kind (f.written x) (make x)) →
    made f make bytes ≡ Ok answered → Is kind bytes answered
one kind bytes f make fits answered law bs good e =
    let x = made_found f make fits law bytes answered bs e in
    subst (λ (b : List ℕ). Is kind b answered) (sym x.2)
    (subst (λ (q : Reply). Is kind (f.written x.0) q) x.1 (good x.0 x.3))

-- the answer of a call
reply_found : (kind : Kind) (bytes : List ℕ) (answered : Reply) → IsBytes bytes →
    reply_read kind bytes ≡ Ok answered → Is kind bytes answered
unfolding notice_bytes stat_bytes
reply_found OfNothing bytes a bs e =
    one OfNothing bytes nothing (λ _. reply.Done) _ a no_bytes bs
    (λ x h. ((λ place. refl), (λ place. refl), tt)) e
reply_found OfStatus bytes a bs e =
    one OfStatus bytes stat reply.Status _ a stat_law bs
    (λ x h. ((λ place. refl), (λ place. refl), h)) e
reply_found OfTarget bytes a bs e =
    one OfTarget bytes text reply.Target _ a text_law bs
    (λ x h. ((λ place. refl), (λ place. refl), h)) e
reply_found OfValue bytes a bs e =
    one OfValue bytes text reply.Value _ a text_law bs
    (λ x h. ((λ place. refl), (λ place. refl), h)) e
reply_found OfBytes bytes a bs e =
    one OfBytes bytes block reply.Read _ a block_law bs
    (λ x h. ((λ place. refl), (λ place. refl), h)) e
reply_found OfDescriptor bytes a bs e =
    one OfDescriptor bytes u32 reply.Descriptor _ a number32 bs
    (λ x h. ((λ place. refl), (λ place. refl), h)) e
reply_found OfWritten bytes a bs e =
    one OfWritten bytes u32 reply.Written _ a number32 bs
    (λ x h. ((λ place. refl), (λ place. refl), h)) e
reply_found OfPlace bytes a bs e =
    one OfPlace bytes u64 reply.Place _ a number64 bs
    (λ x h. ((λ place. refl), (λ place. refl), h)) e
reply_found OfNames bytes a bs e =
    one OfNames bytes (listed text) reply.Names _ a (listed_law text_law) bs
    (λ x h. ((λ place. refl), (λ place. refl), h)) e
reply_found OfAttributeNames bytes a bs e =
    one OfAttributeNames bytes (listed text) reply.AttributeNames _ a (listed_law text_law) bs
    (λ x h. ((λ place. refl), (λ place. refl), h)) e
reply_found OfWatch bytes a bs e =
    one OfWatch bytes (signed w32) reply.Watch _ a signed32 bs
    (λ x h. ((λ place. refl), (λ place. refl), h)) e
reply_found OfNotices bytes a bs e =
    one OfNotices bytes (listed notice) reply.Unread _ a (listed_law notice_law) bs
    (λ x h. ((λ place. refl), (λ place. refl), h)) e

-- the bytes behind a length are those of an answer
abbrev IsBody : Kind → List ℕ → Answer → Type 0
IsBody kind bytes a = (bytes ≡ answer_body a) × IsOfKind kind a × AnswerFits a

-- status 0
made_call : (kind : Kind) (bytes : List ℕ) (a : Answer) → IsBytes bytes →
    (u64.read bytes >>= λ place. reply_read kind place.1 >>= λ q. Ok (Replied place.0 q)) ≡ Ok a →
    IsBody kind (0 ∷ bytes) a
made_call kind bytes a bs e =
    let p =
    bind_ok (u64.read bytes) (λ place. reply_read kind place.1 >>= λ q. Ok (Replied place.0 q))
    a e in
    let q = bind_ok (reply_read kind p.0.1) (λ q. Ok (Replied p.0.0 q)) a p.2 in
    let t = number64.takes bytes p.0.0 p.0.1 bs p.1 in
    let r = reply_found kind p.0.1 q.0 t.0.rest_fits q.1 in
    subst (λ (b : Answer). IsBody kind (0 ∷ bytes) b) (ok_is (Replied p.0.0 q.0) a q.2)
    (ap (λ (b : List ℕ). 0 ∷ b) t.0.parts ∙ r.0 p.0.0, r.1 p.0.0, (t.1, r.2))

-- status 1
refused_call : (kind : Kind) (bytes : List ℕ) (a : Answer) → IsBytes bytes →
    made (u64 then errno_byte) (λ x. Replied x.0 (reply.Refused x.1)) bytes ≡ Ok a →
    IsBody kind (1 ∷ bytes) a
refused_call kind bytes a bs e =
    let x =
    made_found (u64 then errno_byte) (λ x. Replied x.0 (reply.Refused x.1)) _
    (both number64 errno_law) bytes a bs e in
    subst (λ (b : Answer). IsBody kind (1 ∷ bytes) b) x.1
    (ap (λ (b : List ℕ). 1 ∷ b) x.2, tt, (x.3.0, tt))

-- status 2
no_call : (kind : Kind) (bytes : List ℕ) (a : Answer) → IsBytes bytes →
    made errno_byte NotTaken bytes ≡ Ok a → IsBody kind (2 ∷ bytes) a
no_call kind bytes a bs e =
    let x = made_found errno_byte NotTaken _ errno_law bytes a bs e in
    subst (λ (b : Answer). IsBody kind (2 ∷ bytes) b) x.1 (ap (λ (b : List ℕ). 2 ∷ b) x.2, tt, tt)

-- by the status
status_found : (kind : Kind) (status : ℕ) (bytes : List ℕ) (a : Answer) → IsBytes bytes →
    by_status kind status bytes ≡ Ok a → IsBody kind (status ∷ bytes) a
unfolding by_status
status_found kind status bytes a bs e =
    let its : (n : ℕ) → nat_eq status n ≡ true → IsBody kind (n ∷ bytes) a
    → IsBody kind (status ∷ bytes) a
    = λ n t. subst (λ (m : ℕ). IsBody kind (m ∷ bytes) a) (sym (eqb-true _ _ t)) in
    either (nat_eq status 0) _ _ a (IsBody kind (status ∷ bytes) a) e
    (λ t k. its 0 t (made_call kind bytes a bs k))
    (λ e2. either (nat_eq status 1) _ _ a (IsBody kind (status ∷ bytes) a) e2
    (λ t k. its 1 t (refused_call kind bytes a bs k))
    (λ e3. either (nat_eq status 2) _ _ a (IsBody kind (status ∷ bytes) a) e3
    (λ t k. its 2 t (no_call kind bytes a bs k))
    (λ e4. absurd cc)))

-- all that stands behind a length
answer_found : (kind : Kind) (bytes : List ℕ) (a : Answer) → IsBytes bytes →
    answer_read kind bytes ≡ Ok a → IsBody kind bytes a
answer_found kind [] a bs e = absurd cc
answer_found kind (status ∷ bytes) a bs e =
    status_found kind status bytes a (IsBytes-rest status bytes bs) e

-- a length that is none is refused
short_enough : (long : Bool) (w : Result Answer FrameFault) (a : Answer) →
    cond long (Err BadLength) w ≡ Ok a → (long ≡ false) × (w ≡ Ok a)
short_enough true w a e = absurd cc
short_enough false w a e = (refl, e)

-- what a frame counts are bytes
body_bytes : (bytes body rest : List ℕ) → IsBytes bytes →
    bytes ≡ (to_be_bytes w32 (length body) ++ body) ++ rest → IsBytes body
body_bytes bytes body rest bs e =
    let head = to_be_bytes w32 (length body) in
    let front : take (length (head ++ body)) bytes ≡ head ++ body
    = ap (take (length (head ++ body))) e ∙ take_at (head ++ body) rest _ refl in
    let its : IsBytes (drop 4 (head ++ body))
    = IsBytes-drop 4 (head ++ body) (subst IsBytes front
    (IsBytes-take (length (head ++ body)) bytes bs)) in
    subst IsBytes (drop_at head body 4 refl) its

-- what is read at the front is the frame of a reply to the request
pub reply_found_front : (r : Request) (a : Answer) (bytes rest : List ℕ) → IsBytes bytes →
    reply_front r bytes ≡ Ok (a, rest) → IsReplyTo r a × (bytes ≡ answer_frame a ++ rest)
reply_found_front r a bytes rest bs e =
    let kind = kind_for r in
    let p =
    bind_ok (block.read bytes) (λ f. within_frame kind f.0 >>= λ b. Ok (b, f.1)) (a, rest) e in
    let q = bind_ok (within_frame kind p.0.0) (λ b. Ok (b, p.0.1)) (a, rest) p.2 in
    let t = block_law.takes bytes p.0.0 p.0.1 bs p.1 in
    let g = short_enough (nat_lt FRAME_MAX (length p.0.0)) (answer_read kind p.0.0) q.0 q.1 in
    let b = answer_found kind p.0.0 q.0 (body_bytes bytes p.0.0 p.0.1 bs t.0.parts) g.1 in
    let all : bytes ≡ answer_frame q.0 ++ p.0.1
    = t.0.parts ∙ ap (λ (l : List ℕ). (to_be_bytes w32 (length l) ++ l) ++ p.0.1) b.0 in
    let short : length (answer_body q.0) ≤ FRAME_MAX
    = subst (λ (l : List ℕ). length l ≤ FRAME_MAX) b.0 (ltb-false _ _ g.0) in
    subst (λ (x : Answer × List ℕ). IsReplyTo r x.0 × (bytes ≡ answer_frame x.0 ++ x.1))
    (ok_is (q.0, p.0.1) (a, rest) q.2) (record { kind = b.1; fits = b.2; short = short }, all)

-- ---- what was written is read

-- a place and the answer of a call
placed : (kind : Kind) (place : ℕ) (answered : Reply) (words : List ℕ) → place < 2 ^ 64 →
    reply_read kind words ≡ Ok answered →
    by_status kind 0 (u64.written place ++ words) ≡ Ok (Replied place answered)
unfolding by_status
placed kind place answered words fits e = rw (number64.again place words fits, e) refl

-- so by the kind
of_kind : (kind : Kind) (place : ℕ) (answered : Reply) (words : List ℕ) → kind_of answered ≡ kind →
    place < 2 ^ 64 → reply_read (kind_of answered) words ≡ Ok answered →
    by_status kind 0 (u64.written place ++ words) ≡ Ok (Replied place answered)
of_kind kind place answered words is fits e =
    subst (λ (k : Kind). by_status k 0 (u64.written place ++ words) ≡ Ok (Replied place answered))
    is
    (placed (kind_of answered) place answered words fits e)

-- an answer
answer_again : (kind : Kind) (a : Answer) → IsOfKind kind a → AnswerFits a →
    answer_read kind (answer_body a) ≡ Ok a
unfolding by_status notice_bytes stat_bytes
answer_again kind (NotTaken e) is h = made_again errno_byte NotTaken _ errno_law e tt
answer_again kind (Replied n (reply.Refused e)) is h =
    made_again (u64 then errno_byte) (λ x. Replied x.0 (reply.Refused x.1)) _ (both number64 errno_law)
    (n, e) (h.0, tt)
answer_again kind (Replied n reply.Done) is h =
    of_kind kind n reply.Done [] is h.0 (made_again nothing (λ _. reply.Done) _ no_bytes tt tt)
answer_again kind (Replied n (reply.Status x)) is h =
    of_kind kind n (reply.Status x) (stat.written x) is h.0
    (made_again stat reply.Status _ stat_law x h.1)
answer_again kind (Replied n (reply.Target x)) is h =
    of_kind kind n (reply.Target x) (text.written x) is h.0
    (made_again text reply.Target _ text_law x h.1)
answer_again kind (Replied n (reply.Value x)) is h =
    of_kind kind n (reply.Value x) (text.written x) is h.0
    (made_again text reply.Value _ text_law x h.1)
answer_again kind (Replied n (reply.Read x)) is h =
    of_kind kind n (reply.Read x) (block.written x) is h.0
    (made_again block reply.Read _ block_law x h.1)
answer_again kind (Replied n (reply.Names x)) is h =
    of_kind kind n (reply.Names x) ((listed text).written x) is h.0
    (made_again (listed text) reply.Names _ (listed_law text_law) x h.1)
answer_again kind (Replied n (reply.AttributeNames x)) is h =
    of_kind kind n (reply.AttributeNames x) ((listed text).written x) is h.0
    (made_again (listed text) reply.AttributeNames _ (listed_law text_law) x h.1)
answer_again kind (Replied n (reply.Descriptor x)) is h =
    of_kind kind n (reply.Descriptor x) (u32.written x) is h.0
    (made_again u32 reply.Descriptor _ number32 x h.1)
answer_again kind (Replied n (reply.Written x)) is h =
    of_kind kind n (reply.Written x) (u32.written x) is h.0
    (made_again u32 reply.Written _ number32 x h.1)
answer_again kind (Replied n (reply.Place x)) is h =
    of_kind kind n (reply.Place x) (u64.written x) is h.0
    (made_again u64 reply.Place _ number64 x h.1)
answer_again kind (Replied n (reply.Watch x)) is h =
    of_kind kind n (reply.Watch x) ((signed w32).written x) is h.0
    (made_again (signed w32) reply.Watch _ signed32 x h.1)
answer_again kind (Replied n (reply.Unread x)) is h =
    of_kind kind n (reply.Unread x) ((listed notice).written x) is h.0
    (made_again (listed notice) reply.Unread _ (listed_law notice_law) x h.1)

-- the frame of a reply to the request is read, whatever follows it
pub reply_again_front : (r : Request) (a : Answer) (rest : List ℕ) → IsReplyTo r a →
    reply_front r (answer_frame a ++ rest) ≡ Ok (a, rest)
reply_again_front r a rest h =
    let body = answer_body a in
    let fits : length body < 2 ^ 32 = omega (arith, h.short) in
    let short : nat_lt FRAME_MAX (length body) ≡ false = le-ltb _ _ h.short in
    let one : within_frame (kind_for r) body ≡ Ok a
    = rw short (answer_again (kind_for r) a h.kind h.fits) in
    rw (block_law.again body rest fits, one) refl
