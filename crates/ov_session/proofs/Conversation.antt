-- A session from piece to piece, and its ends.
use Rattle.std.proofs.Common.{◌≡◌, ℕ, List, [], ◌∷◌, ◌++◌, Option, Err, false, refl, sym, ap, subst, ◌∙◌, append_assoc, append-nil, inl, inr}
use Rattle.std.specs.Io.KnownBytes.{Appends, Consumes, IsAtEnd, Keeps}
use Rattle.std.proofs.KnownBytes.{Consumes-nil, Consumes-trans, Consumes-kept}
use Rattle.ov_frames.specs.Replies.{answer_frame}
use Rattle.ov_frames.specs.Streams.{Left, Held, Faulty, Spells, Continues, front_of}
use Rattle.ov_frames.specs.declared.answer.Answer.{Answer}
use Rattle.ov_frames.specs.declared.request.Request.{Request}
use Rattle.ov_frames.proofs.Pieces.{goes_on}
use Rattle.ov_session.specs.Conversing.{Stands, Conversed, IsTurn, is_faulty}
use Rattle.ov_session.specs.Devices.{Gains, InputAt, IsFrontOf, IsInputEnd, IsSent, OutputAt}
use Rattle.ov_session.specs.Doors.{Goes}
use Rattle.ov_session.specs.Heard.{Heard}
use Rattle.ov_session.specs.Serving.{frames}
use Rattle.ov_session.specs.Sessions.{StandsLast, IsSession}
use Rattle.ov_session.specs.Talks.{Place, Talked, Breaks, IsServed, HandedOn}
use Rattle.ov_session.specs.declared.ending.Ending.{Ending}
use Rattle.ov_session.specs.declared.ending.Ending.TheVariants as ending
use Rattle.ov_session.specs.declared.exchange.Exchange.{Exchange}
use Rattle.ov_session.specs.declared.exchange.Exchange.TheVariants.{Departed}
use Rattle.ov_session.proofs.SoFar.{SoFar}
use Rattle.ov_session.proofs.Gaining.{front_of_all, gains_then, written_of, written_all}
use Rattle.ov_session.proofs.Talking.{Doorway, talked_nothing, talked_then, broke_then}

-- a further piece was served
pub so_far_more : {D : Type 0} (goes : Goes D) (i j k : Option (List ℕ)) (o m n : Place D)
    (left new : Left) (piece : List ℕ) (rs : List Request) → Doorway goes
    → SoFar goes i j o m left → Consumes j k piece → Continues left piece rs new
    → Talked goes m n rs → SoFar goes i k o n new
so_far_more goes i j k o m n left new piece rs laws s c h talk = record {
  taken = s.taken ++ piece;
  consumed = Consumes-trans i j k s.taken piece s.consumed c;
  requests = s.requests ++ rs;
  spelled = goes_on s.taken piece s.requests rs left new s.spelled h;
  talked = talked_then goes o m n s.requests rs laws s.talked talk;
}

-- what was heard so far, where all requests are served
abbrev pub all_heard : {D : Type 0} (goes : Goes D) (i j : Option (List ℕ)) (o n : Place D)
    (left : Left) → SoFar goes i j o n left → Heard i j
all_heard goes i j o n left s = record {
  taken = s.taken;
  consumed = s.consumed;
  requests = s.requests;
  left = left;
  spelled = s.spelled;
  front = s.requests;
  later = [];
  parts = sym (append-nil s.requests);
  told = s.talked.told;
  answers = s.talked.answers;
  served = s.talked.served;
  stopped = [];
}

-- all requests are served, and their answers given to the output
pub all_served : {D : Type 0} (goes : Goes D) (i j : Option (List ℕ)) (o n : Place D) (left : Left)
    (end : Ending) (s : SoFar goes i j o n left) →
    Stands i j end (all_heard goes i j o n left s) (frames s.talked.answers) →
    Conversed goes i j o n end
all_served goes i j o n left end s h = record {
  heard = all_heard goes i j o n left s;
  added = s.talked.added ∙ ap (λ (l : List Exchange). o.told ++ l) (sym (append-nil s.talked.told));
  went =
      subst (λ (l : List Exchange). goes o.door l n.door) (sym (append-nil s.talked.told))
      s.talked.went;
  given = frames s.talked.answers;
  gained = s.talked.gained;
  stands = h;
}

-- what broke off stands so
broken_stands : (e : Ending) (i j : Option (List ℕ)) (h : Heard i j) (given : List ℕ) →
    Breaks e h.later h.stopped given h.answers → Stands i j e h given
broken_stands ending.Detached i j h given b = (b.2, b.0, b.1)
broken_stands ending.Write i j h given b = b
broken_stands ending.Memory i j h given b = b
broken_stands ending.Stopped i j h given b = b
broken_stands ending.Ended i j h given b = absurd b
broken_stands ending.Cut i j h given b = absurd b
broken_stands (ending.Frame f) i j h given b = absurd b
broken_stands ending.Read i j h given b = absurd b

-- a request was not served, or its answer not handed on
broken_off : {D : Type 0} (goes : Goes D) (i j k : Option (List ℕ)) (o m n : Place D)
    (left new : Left) (piece : List ℕ) (rs : List Request) (e : Ending) → Doorway goes
    → SoFar goes i j o m left → Consumes j k piece → Continues left piece rs new
    → IsServed goes m n rs (Err e) → Conversed goes i k o n e
broken_off goes i j k o m n left new piece rs e laws s c h broke =
    let b = broke_then goes o m n s.requests broke.0 broke.1 e laws s.talked broke.3 in
    let heard : Heard i k = record {
      taken = s.taken ++ piece;
      consumed = Consumes-trans i j k s.taken piece s.consumed c;
      requests = s.requests ++ rs;
      left = new;
      spelled = goes_on s.taken piece s.requests rs left new s.spelled h;
      front = s.requests ++ broke.0;
      later = broke.1;
      parts =
          ap (λ (l : List Request). s.requests ++ l) broke.2
          ∙ sym (append_assoc s.requests broke.0 broke.1);
      told = b.told;
      answers = b.answers;
      served = b.served;
      stopped = b.stopped;
    } in
    record {
      heard = heard;
      added = b.added;
      went = b.went;
      given = b.given;
      gained = b.gained;
      stands = broken_stands e i k heard b.given b.how;
    }

-- a turn that ends the session
pub turn_ends : {D : Type 0} (goes : Goes D) (i j k : Option (List ℕ)) (o m n : Place D)
    (held piece all : List ℕ) (e : Ending) → Doorway goes
    → all ≡ held ++ piece → SoFar goes i j o m (Held held) → Consumes j k piece
    → IsTurn goes all m n (Err e) → Conversed goes i k o n e
turn_ends goes i j k o m n held piece all e laws same s c (inl h) =
    broken_off goes i j k o m n (Held held) h.1 piece h.0 e laws s c
    (subst (λ (bs : List ℕ). Spells bs h.0 h.1) same h.2) h.3
turn_ends goes i j k o m n held piece all e laws same s c (inr h) =
    let more =
    so_far_more goes i j k o m n (Held held) (Faulty h.0) piece h.1 laws s c
    (subst (λ (bs : List ℕ). Spells bs h.1 (Faulty h.0)) same h.2) h.4 in
    subst (λ (x : Ending). Conversed goes i k o n x) (sym h.3)
    (all_served goes i k o n (Faulty h.0) (ending.Frame h.0) more ((refl, refl, refl), refl))

-- a turn ends by no failed read
pub turn_no_read : {D : Type 0} (goes : Goes D) (all : List ℕ) (m n : Place D)
    (e : Ending) → IsTurn goes all m n (Err e) → e ≡ ending.Read → ⊥
turn_no_read goes all m n e (inl h) k = let b =
    h.3.3 in subst (λ (x : Ending). Breaks x h.3.1 b.stopped b.given b.answers) k b.how
turn_no_read goes all m n e (inr h) k = absurd cc

-- an input without failure, where a session ends by no failed read
pub input_well : (before after reads most : ℕ) (e : Ending) → after ≡ before
    → (e ≡ ending.Read → ⊥) → InputAt before after reads most e
input_well before after reads most ending.Read h differs = absurd (differs refl)
input_well before after reads most ending.Detached h differs = h
input_well before after reads most ending.Ended h differs = h
input_well before after reads most ending.Cut h differs = h
input_well before after reads most (ending.Frame f) h differs = h
input_well before after reads most ending.Write h differs = h
input_well before after reads most ending.Memory h differs = h
input_well before after reads most ending.Stopped h differs = h

-- a read that ended a session, after others that failed no more often
pub input_ended : (before between after reads limit most : ℕ) (e : Ending) → between ≡ before
    → limit ≡ most → IsInputEnd between after reads limit e → IsInputEnd before after reads most e
input_ended before between after reads limit most e same kept h =
    subst (λ (n : ℕ). IsInputEnd before after reads n e) kept
    (subst (λ (n : ℕ). IsInputEnd n after reads limit e) same h)

-- a read that ended a session
pub input_at : (before after reads most : ℕ) (e : Ending) → IsInputEnd before after reads most e
    → InputAt before after reads most e
input_at before after reads most ending.Read h = h
input_at before after reads most ending.Memory h = h
input_at before after reads most ending.Detached h = absurd h
input_at before after reads most ending.Ended h = absurd h
input_at before after reads most ending.Cut h = absurd h
input_at before after reads most (ending.Frame f) h = absurd h
input_at before after reads most ending.Write h = absurd h
input_at before after reads most ending.Stopped h = absurd h

-- nothing was read yet
pub so_far_nothing : {D : Type 0} (goes : Goes D) (i : Option (List ℕ)) (o : Place D) (left : Left)
    → Doorway goes → Spells [] [] left → SoFar goes i i o o left
so_far_nothing goes i o left laws h = record {
  taken = [];
  consumed = Consumes-nil i;
  requests = [];
  spelled = h;
  talked = talked_nothing goes o laws;
}

-- no bytes spell nothing
pub nothing_spelled : Spells [] [] (Held [])
unfolding front_of
nothing_spelled = (refl, refl)

-- a read that gave nothing
pub so_far_same : {D : Type 0} (goes : Goes D) (i j k : Option (List ℕ)) (o n : Place D)
    (left : Left) (piece : List ℕ) → SoFar goes i j o n left → Consumes j k piece → piece ≡ []
    → SoFar goes i k o n left
so_far_same goes i j k o n left piece s c e = record {
  taken = s.taken;
  consumed = subst (Consumes i k) (ap (λ (l : List ℕ). s.taken ++ l) e ∙ append-nil s.taken)
      (Consumes-trans i j k s.taken piece s.consumed c);
  requests = s.requests;
  spelled = s.spelled;
  talked = s.talked;
}

-- a read that failed
pub read_ended : {D : Type 0} (goes : Goes D) (i j k : Option (List ℕ)) (o n : Place D)
    (left : Left) (before after reads most : ℕ) (e : Ending) → SoFar goes i j o n left
    → is_faulty left ≡ false → Keeps j k → IsInputEnd before after reads most e
    → Conversed goes i k o n e
read_ended goes i j k o n left before after reads most ending.Read s b c h =
    let s' : SoFar goes i k o n left =
    record {
      taken = s.taken;
      consumed = Consumes-kept i j k s.taken s.consumed c;
      requests = s.requests;
      spelled = s.spelled;
      talked = s.talked;
    } in
    all_served goes i k o n left ending.Read s' ((refl, refl, refl), b)
read_ended goes i j k o n left before after reads most ending.Memory s b c h =
    let s' : SoFar goes i k o n left =
    record {
      taken = s.taken;
      consumed = Consumes-kept i j k s.taken s.consumed c;
      requests = s.requests;
      spelled = s.spelled;
      talked = s.talked;
    } in
    all_served goes i k o n left ending.Memory s' (inl refl, front_of_all (frames s.talked.answers))
read_ended goes i j k o n left before after reads most ending.Detached s b c h = absurd h
read_ended goes i j k o n left before after reads most ending.Ended s b c h = absurd h
read_ended goes i j k o n left before after reads most ending.Cut s b c h = absurd h
read_ended goes i j k o n left before after reads most (ending.Frame f) s b c h = absurd h
read_ended goes i j k o n left before after reads most ending.Write s b c h = absurd h
read_ended goes i j k o n left before after reads most ending.Stopped s b c h = absurd h

-- such a read leaves the sink as it was
pub read_unwritten : (before after reads most sink_before sink_after : ℕ) (e : Ending)
    → IsInputEnd before after reads most e → sink_after ≡ sink_before
    → OutputAt sink_before sink_after e
read_unwritten before after reads most a b ending.Read h k = k
read_unwritten before after reads most a b ending.Memory h k = k
read_unwritten before after reads most a b ending.Detached h k = absurd h
read_unwritten before after reads most a b ending.Ended h k = absurd h
read_unwritten before after reads most a b ending.Cut h k = absurd h
read_unwritten before after reads most a b (ending.Frame f) h k = absurd h
read_unwritten before after reads most a b ending.Write h k = absurd h
read_unwritten before after reads most a b ending.Stopped h k = absurd h

-- the input ended between frames
pub ended_between : {D : Type 0} (goes : Goes D) (i j : Option (List ℕ)) (o n : Place D)
    (held : List ℕ) → held ≡ [] → SoFar goes i j o n (Held held) → IsAtEnd j
    → Conversed goes i j o n ending.Ended
ended_between goes i j o n [] none s h =
    all_served goes i j o n (Held []) ending.Ended s ((refl, refl, refl), refl, h)
ended_between goes i j o n (b ∷ bytes) none s h = absurd cc

-- the input ended inside a frame
pub ended_inside : {D : Type 0} (goes : Goes D) (i j : Option (List ℕ)) (o n : Place D)
    (held : List ℕ) → (held ≡ [] → ⊥) → SoFar goes i j o n (Held held) → IsAtEnd j
    → Conversed goes i j o n ending.Cut
ended_inside goes i j o n [] some s h = absurd (some refl)
ended_inside goes i j o n (b ∷ bytes) some s h =
    all_served goes i j o n (Held (b ∷ bytes)) ending.Cut s
    ((refl, refl, refl), (b, bytes, refl), h)

-- memory ran out at the beginning
pub nothing_done : {D : Type 0} (goes : Goes D) (i : Option (List ℕ)) (o : Place D) → Doorway goes
    → Conversed goes i i o o ending.Memory
nothing_done goes i o laws =
    let s = so_far_nothing goes i o (Held []) laws nothing_spelled in
    all_served goes i i o o (Held []) ending.Memory s (
      inl refl,
      front_of_all
          (frames s.talked.answers),
    )

-- ---- the detach

-- a beginning of bytes is one of them and more
front_longer : (given all last : List ℕ) → IsFrontOf given all → IsFrontOf given (all ++ last)
front_longer given all last h = (
  h.0 ++ last,
  ap (λ (l : List ℕ). l ++ last) h.1
      ∙ append_assoc given h.0 last,
)

-- what was written of a beginning
front_shorter : (given all written held : List ℕ) → given ≡ written ++ held → IsFrontOf given all
    → IsFrontOf written all
front_shorter given all written held e h = (
  held ++ h.0,
  h.1 ∙ ap (λ (l : List ℕ). l ++ h.0) e
      ∙ append_assoc written held h.0,
)

-- what was written, and how things stand with it
last_written : (e : Ending) (i j a b : Option (List ℕ)) (heard : Heard i j)
    (p q given last : List ℕ) → (e ≡ ending.Detached → ⊥) → Gains a b p q given → p ≡ [] →
    HandedOn e q → Stands i j e heard given →
    (written : List ℕ) × Appends a b written × StandsLast i j e heard written last
last_written ending.Detached i j a b heard p q given last differs g z hand h =
    absurd (differs refl)
last_written ending.Write i j a b heard p q given last differs g z hand h =
    let w = written_of a b p q given g z in
    let all = frames heard.answers in
    (w.0, w.1, (h.0, front_longer w.0 all last (front_shorter given all w.0 q w.2 h.1)))
last_written ending.Memory i j a b heard p q given last differs g z hand h =
    let w = written_of a b p q given g z in
    let all = frames heard.answers in
    (w.0, w.1, (h.0, front_longer w.0 all last (front_shorter given all w.0 q w.2 h.1)))
last_written ending.Stopped i j a b heard p q given last differs g z hand h =
    (given, written_all a b p q given g z hand, h)
last_written ending.Ended i j a b heard p q given last differs g z hand h =
    (given, written_all a b p q given g z hand, h)
last_written ending.Cut i j a b heard p q given last differs g z hand h =
    (given, written_all a b p q given g z hand, h)
last_written (ending.Frame f) i j a b heard p q given last differs g z hand h =
    (given, written_all a b p q given g z hand, h)
last_written ending.Read i j a b heard p q given last differs g z hand h =
    (given, written_all a b p q given g z hand, h)

-- the client is detached, and this was written
departed : {D : Type 0} (goes : Goes D) (i j : Option (List ℕ)) (o n : Place D)
    (p : Option (List ℕ)) (told : List Exchange) (door : D) (was end : Ending) (a : Answer)
    (written : List ℕ) → Doorway goes → (c : Conversed goes i j o n was) →
    told ≡ n.told ++ Departed a ∷ [] →
    goes n.door (Departed a ∷ []) door → Appends o.contents p written →
    StandsLast i j end c.heard written (answer_frame a) →
    IsSession goes i j o.contents p o.told told o.door door end
departed goes i j o n p told door was end a written laws c t d w s =
    let before = c.heard.told ++ c.heard.stopped in
    record {
      heard = c.heard;
      farewell = a;
      added =
          t ∙ ap (λ (l : List Exchange). l ++ Departed a ∷ []) c.added
          ∙ append_assoc o.told before (Departed a ∷ []);
      went = laws.joins o.door n.door door before (Departed a ∷ []) c.went d;
      written = written;
      appended = w;
      stands = s;
    }

-- nothing more is written
pub parted : {D : Type 0} (goes : Goes D) (i j : Option (List ℕ)) (o n : Place D)
    (told : List Exchange) (door : D) (e : Ending) (a : Answer) → Doorway goes
    → Conversed goes i j o n e → o.held ≡ [] → HandedOn e n.held → told ≡ n.told ++ Departed a ∷ []
    → goes n.door (Departed a ∷ []) door → (e ≡ ending.Detached → ⊥)
    → IsSession goes i j o.contents n.contents o.told told o.door door e
parted goes i j o n told door e a laws c z hand t d differs =
    let w =
    last_written e i j o.contents n.contents c.heard o.held n.held c.given (answer_frame a)
    differs c.gained z hand c.stands in
    departed goes i j o n n.contents told door e e a w.0 laws c t d w.1 w.2

-- the farewell, behind all answers
farewell_front : (given all last front : List ℕ) → given ≡ all → IsFrontOf front last
    → IsFrontOf (given ++ front) (all ++ last)
farewell_front given all last front e h = (
  h.0,
  ap (λ (l : List ℕ). all ++ l) h.1
      ∙ sym (append_assoc all front h.0) ∙ ap (λ (l : List ℕ). (l ++ front) ++ h.0) (sym e),
)

-- the answer to the detach was sent, or a beginning of it
pub left_so : {D : Type 0} (goes : Goes D) (i j : Option (List ℕ)) (o n : Place D)
    (p : Option (List ℕ)) (held : List ℕ) (told : List Exchange) (door : D) (a : Answer)
    (e : Ending) → Doorway goes
    → Conversed goes i j o n ending.Detached → o.held ≡ [] → told ≡ n.told ++ Departed a ∷ []
    → goes n.door (Departed a ∷ []) door → IsSent n.contents p n.held held a e
    → IsSession goes i j o.contents p o.told told o.door door e
left_so goes i j o n p held told door a ending.Detached laws c z t d h =
    let all = gains_then o.contents n.contents p o.held n.held held c.given
    (answer_frame a) c.gained h.0 in
    departed goes i j o n p told door ending.Detached ending.Detached a
    (c.given ++ answer_frame a) laws c t d (written_all o.contents p o.held held
    (c.given ++ answer_frame a) all z h.1)
    (c.stands.0, c.stands.1, ap (λ (l : List ℕ). l ++ answer_frame a) c.stands.2)
left_so goes i j o n p held told door a ending.Write laws c z t d h =
    let all = gains_then o.contents n.contents p o.held n.held held c.given
    (answer_frame a) c.gained h in
    let w = written_of o.contents p o.held held (c.given ++ answer_frame a) all z in
    departed goes i j o n p told door ending.Detached ending.Write a w.0 laws c t d w.1 (
      inl c.stands.1,
      front_shorter (c.given ++ answer_frame a)
          (frames c.heard.answers ++ answer_frame a) w.0 held w.2
          (farewell_front c.given (frames c.heard.answers) (answer_frame a)
          (answer_frame a) c.stands.2 (front_of_all (answer_frame a))),
    )
left_so goes i j o n p held told door a ending.Memory laws c z t d h =
    let all = gains_then o.contents n.contents p o.held n.held held c.given h.0 c.gained h.2 in
    let w = written_of o.contents p o.held held (c.given ++ h.0) all z in
    departed goes i j o n p told door ending.Detached ending.Memory a w.0 laws c t d w.1 (
      inl c.stands.1,
      front_shorter (c.given ++ h.0) (frames c.heard.answers ++ answer_frame a) w.0
          held w.2 (farewell_front c.given (frames c.heard.answers)
          (answer_frame a) h.0 c.stands.2 h.1),
    )
left_so goes i j o n p held told door a ending.Ended laws c z t d h = absurd h
left_so goes i j o n p held told door a ending.Cut laws c z t d h = absurd h
left_so goes i j o n p held told door a (ending.Frame f) laws c z t d h = absurd h
left_so goes i j o n p held told door a ending.Read laws c z t d h = absurd h
left_so goes i j o n p held told door a ending.Stopped laws c z t d h = absurd h
