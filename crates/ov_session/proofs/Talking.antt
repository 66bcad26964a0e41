-- Requests served one after the other.
use Rattle.std.proofs.Common.{◌≡◌, ℕ, false, List, [], ◌∷◌, ◌++◌, Option, Result, Ok, Err, refl, sym, ap, subst, ◌∙◌, append_assoc, append-nil, inl, inr}
use Rattle.std.proofs.lemmas.List.Concat.{flat_map-append}
use Rattle.ov_frames.specs.Asked.{asked_of}
use Rattle.ov_frames.specs.Replies.{answer_frame}
use Rattle.ov_frames.specs.declared.answer.Answer.{Answer}
use Rattle.ov_frames.specs.declared.request.Request.{Request}
use Rattle.ov_session.specs.Devices.{Gains, IsFrontOf, IsPut, IsOutputEnd, OutputAfter, OutputAt, write_failed}
use Rattle.ov_session.specs.Doors.{Goes}
use Rattle.ov_session.specs.Serving.{Answers, Serves, frames, IsHeldBack}
use Rattle.ov_session.specs.Talks.{Place, Gained, Talked, MayBeHeldBack, Breaks, BrokeOff, HandedOn, IsHandedOn, IsServed}
use Rattle.ov_session.specs.declared.ending.Ending.{Ending}
use Rattle.ov_session.specs.declared.ending.Ending.TheVariants as ending
use Rattle.ov_session.specs.declared.exchange.Exchange.{Exchange}
use Rattle.ov_session.proofs.Gaining.{gains_nothing, gains_then, gains_last, front_of_all}

-- the laws of a door
pub record Doorway {D : Type 0} (goes : Goes D) : Type 0 where
  pub stays : (d : D) → goes d [] d
  pub joins : (a b c : D) (xs ys : List Exchange) → goes a xs b → goes b ys c → goes a (xs ++ ys) c

-- requests served, and then others
serves_join : (rs qs : List Request) (t u : List Exchange) (xs ys : List Answer) → Serves rs t xs
    → Serves qs u ys → Serves (rs ++ qs) (t ++ u) (xs ++ ys)
serves_join [] qs t u xs ys h k = subst (λ (l : List Exchange). Serves qs (l ++ u) (xs ++ ys))
    (sym h.0) (subst (λ (l : List Answer). Serves qs u (l ++ ys)) (sym h.1) k)
serves_join (r ∷ rs) qs t u xs ys h k = (
  h.0,
  h.1 ++ u,
  h.2,
  h.3 ++ ys,
  ap (λ (l : List Exchange). l ++ u) h.4
      ∙ append_assoc h.0 h.1 u,
  ap (λ (l : List Answer). l ++ ys) h.5,
  h.6,
  serves_join rs qs h.1 u h.3 ys h.7 k,
)

-- one request is served
serves_one : (r : Request) (t : List Exchange) (a : Answer) → Answers (asked_of r) t a
    → Serves (r ∷ []) t (a ∷ [])
serves_one r t a h = (t, [], a, [], sym (append-nil t), refl, h, (refl, refl))

-- the frames of one answer
frames_one : (a : Answer) → frames (a ∷ []) ≡ answer_frame a
frames_one a = append-nil (answer_frame a)

-- nothing was asked
pub talked_nothing : {D : Type 0} (goes : Goes D) (o : Place D) → Doorway goes → Talked goes o o []
talked_nothing goes o laws = record {
  told = [];
  added = sym (append-nil o.told);
  went = laws.stays o.door;
  answers = [];
  served = (refl, refl);
  gained = gains_nothing o.contents o.held;
}

-- the output handed on what it held
pub talked_on : {D : Type 0} (goes : Goes D) (o m n : Place D) (rs : List Request)
    → Talked goes o m rs → Gained m n [] → n.told ≡ m.told → n.door ≡ m.door → Talked goes o n rs
talked_on goes o m n rs h k t d = record {
  told = h.told;
  added = t ∙ h.added;
  went = subst (λ x. goes o.door h.told x) (sym d) h.went;
  answers = h.answers;
  served = h.served;
  gained = gains_last o.contents m.contents n.contents o.held m.held n.held
      (frames h.answers) h.gained k;
}

-- what was told before, and then more
told_then : (t u v xs ys : List Exchange) → u ≡ t ++ xs → v ≡ u ++ ys → v ≡ t ++ (xs ++ ys)
told_then t u v xs ys h k = k ∙ ap (λ (l : List Exchange). l ++ ys) h ∙ append_assoc t xs ys

-- requests served, and then others
pub talked_then : {D : Type 0} (goes : Goes D) (o m n : Place D) (rs qs : List Request)
    → Doorway goes → Talked goes o m rs → Talked goes m n qs → Talked goes o n (rs ++ qs)
talked_then goes o m n rs qs laws h k = record {
  told = h.told ++ k.told;
  added = told_then o.told m.told n.told h.told k.told h.added k.added;
  went = laws.joins o.door m.door n.door h.told k.told h.went k.went;
  answers = h.answers ++ k.answers;
  served = serves_join rs qs h.told k.told h.answers k.answers h.served k.served;
  gained = subst (λ (l : List ℕ). Gained o n l)
      (sym (flat_map-append answer_frame h.answers k.answers))
      (gains_then o.contents m.contents n.contents o.held m.held n.held (frames h.answers)
      (frames k.answers) h.gained k.gained);
}

-- all that was given, behind the frames of earlier answers
given_after : (given : List ℕ) (before answers : List Answer) → given ≡ frames answers
    → frames before ++ given ≡ frames (before ++ answers)
given_after given before answers h = ap (λ (l : List ℕ). frames before ++ l) h
    ∙ sym (flat_map-append answer_frame before answers)

-- a beginning of what was to be given, behind the frames of earlier answers
front_after : (given : List ℕ) (before answers : List Answer) → IsFrontOf given (frames answers)
    → IsFrontOf (frames before ++ given) (frames (before ++ answers))
front_after given before answers h = (
  h.0,
  flat_map-append answer_frame before answers ∙ ap (λ (l : List ℕ). frames before ++ l) h.1
      ∙ sym (append_assoc (frames before) given h.0),
)

-- what breaks off after answers breaks off after more of them
breaks_after : (e : Ending) (later : List Request) (stopped : List Exchange) (given : List ℕ)
    (before answers : List Answer) → Breaks e later stopped given answers
    → Breaks e later stopped (frames before ++ given) (before ++ answers)
breaks_after ending.Detached later stopped given before answers h =
    (h.0, given_after given before answers h.1, h.2)
breaks_after ending.Write later stopped given before answers h =
    (h.0, front_after given before answers h.1)
breaks_after ending.Memory later stopped given before answers h =
    (h.0, front_after given before answers h.1)
breaks_after ending.Stopped later stopped given before answers h =
    (h.0, given_after given before answers h.1)
breaks_after ending.Ended later stopped given before answers h = absurd h
breaks_after ending.Cut later stopped given before answers h = absurd h
breaks_after (ending.Frame f) later stopped given before answers h = absurd h
breaks_after ending.Read later stopped given before answers h = absurd h

-- requests served, and then others of which one was not
pub broke_then : {D : Type 0} (goes : Goes D) (o m n : Place D) (rs front later : List Request)
    (e : Ending) → Doorway goes → Talked goes o m rs → BrokeOff goes m n front later e
    → BrokeOff goes o n (rs ++ front) later e
broke_then goes o m n rs front later e laws h k = record {
  told = h.told ++ k.told;
  stopped = k.stopped;
  added = told_then o.told m.told n.told h.told (k.told ++ k.stopped) h.added k.added
      ∙ ap (λ (l : List Exchange). o.told ++ l) (sym (append_assoc h.told k.told k.stopped));
  went = subst (λ (l : List Exchange). goes o.door l n.door)
      (sym (append_assoc h.told k.told k.stopped)) (laws.joins o.door m.door n.door h.told
      (k.told ++ k.stopped) h.went k.went);
  answers = h.answers ++ k.answers;
  served = serves_join rs front h.told k.told h.answers k.answers h.served k.served;
  given = frames h.answers ++ k.given;
  gained = gains_then o.contents m.contents n.contents o.held m.held n.held
      (frames h.answers) k.given h.gained k.gained;
  how = breaks_after e later k.stopped k.given h.answers k.answers k.how;
}

-- the requests behind one that was held back
held_before : (later more : List Request) (stopped : List Exchange) → IsHeldBack later stopped
    → IsHeldBack (later ++ more) stopped
held_before later more stopped h = (
  h.0,
  h.1 ++ more,
  h.2,
  ap (λ (l : List Request). l ++ more) h.3,
  h.4,
  h.5,
)

may_before : (later more : List Request) (stopped : List Exchange) → MayBeHeldBack later stopped
    → MayBeHeldBack (later ++ more) stopped
may_before later more stopped (inl h) = inl h
may_before later more stopped (inr h) = inr (held_before later more stopped h)

-- the requests behind those that were not served
breaks_before : (e : Ending) (later more : List Request) (stopped : List Exchange) (given : List ℕ)
    (answers : List Answer) → Breaks e later stopped given answers
    → Breaks e (later ++ more) stopped given answers
breaks_before ending.Detached later more stopped given answers h =
    (h.0, h.1, (h.2.0, h.2.1 ++ more, ap (λ (l : List Request). l ++ more) h.2.2, h.2.3))
breaks_before ending.Write later more stopped given answers h =
    (may_before later more stopped h.0, h.1)
breaks_before ending.Memory later more stopped given answers h =
    (may_before later more stopped h.0, h.1)
breaks_before ending.Stopped later more stopped given answers h =
    (held_before later more stopped h.0, h.1)
breaks_before ending.Ended later more stopped given answers h = absurd h
breaks_before ending.Cut later more stopped given answers h = absurd h
breaks_before (ending.Frame f) later more stopped given answers h = absurd h
breaks_before ending.Read later more stopped given answers h = absurd h

pub broke_before : {D : Type 0} (goes : Goes D) (o n : Place D) (front later more : List Request)
    (e : Ending) → BrokeOff goes o n front later e → BrokeOff goes o n front (later ++ more) e
broke_before goes o n front later more e h = record {
  told = h.told;
  stopped = h.stopped;
  added = h.added;
  went = h.went;
  answers = h.answers;
  served = h.served;
  given = h.given;
  gained = h.gained;
  how = breaks_before e later more h.stopped h.given h.answers h.how;
}

-- ---- one request

-- a request that was not asked, or whose call the door did not make
pub one_unasked : {D : Type 0} (goes : Goes D) (o n : Place D) (r : Request)
    (stopped : List Exchange) (e : Ending)
    → n.contents ≡ o.contents → n.held ≡ o.held → n.told ≡ o.told ++ stopped
    → goes o.door stopped n.door → Breaks e (r ∷ []) stopped [] []
    → IsServed goes o n (r ∷ []) (Err e)
one_unasked goes o n r stopped e same held added went h = (
  [],
  r ∷ [],
  refl,
  record {
    told = [];
    stopped = stopped;
    added = added;
    went = went;
    answers = [];
    served = (refl, refl);
    given = [];
    gained = subst (λ (bytes : Option (List ℕ)). Gains o.contents bytes o.held n.held []) (sym same)
        (subst (λ (l : List ℕ). Gains o.contents o.contents o.held l []) (sym held)
        (gains_nothing o.contents o.held));
    how = h;
  },
)

-- an answer that the output did not take whole
put_breaks : {D : Type 0} (goes : Goes D) (o n : Place D) (one : List Exchange) (r : Request)
    (a : Answer) (e : Ending)
    → n.told ≡ o.told ++ one → goes o.door one n.door → Answers (asked_of r) one a
    → IsPut o.contents n.contents o.held n.held a (Err e) → IsServed goes o n (r ∷ []) (Err e)
put_breaks goes o n one r a ending.Write added went h p = (
  r ∷ [],
  [],
  refl,
  record {
    told = one;
    stopped = [];
    added = added ∙ ap (λ (l : List Exchange). o.told ++ l) (sym (append-nil one));
    went = subst (λ (l : List Exchange). goes o.door l n.door) (sym (append-nil one)) went;
    answers = a ∷ [];
    served = serves_one r one a h;
    given = answer_frame a;
    gained = p;
    how = (inl refl, ([], frames_one a ∙ sym (append-nil (answer_frame a))));
  },
)
put_breaks goes o n one r a ending.Memory added went h p = (
  r ∷ [],
  [],
  refl,
  record {
    told = one;
    stopped = [];
    added = added ∙ ap (λ (l : List Exchange). o.told ++ l) (sym (append-nil one));
    went = subst (λ (l : List Exchange). goes o.door l n.door) (sym (append-nil one)) went;
    answers = a ∷ [];
    served = serves_one r one a h;
    given = p.0;
    gained = p.2;
    how = (inl refl, (p.1.0, frames_one a ∙ p.1.1));
  },
)
put_breaks goes o n one r a ending.Detached added went h p = absurd p
put_breaks goes o n one r a ending.Ended added went h p = absurd p
put_breaks goes o n one r a ending.Cut added went h p = absurd p
put_breaks goes o n one r a (ending.Frame f) added went h p = absurd p
put_breaks goes o n one r a ending.Read added went h p = absurd p
put_breaks goes o n one r a ending.Stopped added went h p = absurd p

-- a request was answered, and the answer given to the output
pub one_put : {D : Type 0} (goes : Goes D) (o n : Place D) (one : List Exchange) (r : Request)
    (a : Answer) (result : Result (Unit {0}) Ending)
    → n.told ≡ o.told ++ one → goes o.door one n.door → Answers (asked_of r) one a
    → IsPut o.contents n.contents o.held n.held a result → IsServed goes o n (r ∷ []) result
one_put goes o n one r a (Ok x) added went h p = record {
  told = one;
  added = added;
  went = went;
  answers = a ∷ [];
  served = serves_one r one a h;
  gained = subst (λ (l : List ℕ). Gained o n l)
      (sym (frames_one a)) p;
}
one_put goes o n one r a (Err e) added went h p = put_breaks goes o n one r a e added went h p

-- ---- requests in order

pub regrouped : (rs a : List Request) (r : Request) (front later rest : List Request)
    → rs ≡ (a ++ r ∷ []) ++ rest → r ∷ [] ≡ front ++ later → rs ≡ (a ++ front) ++ (later ++ rest)
regrouped rs a r front later rest h k =
    h ∙ ap (λ (l : List Request). (a ++ l) ++ rest) k ∙ ap (λ (l : List Request). l ++ rest)
    (sym (append_assoc a front later)) ∙ append_assoc (a ++ front) later rest

-- ---- handing on

-- what broke off, after the output handed on what it held
pub broke_on : {D : Type 0} (goes : Goes D) (o m n : Place D) (front later : List Request)
    (e : Ending) → BrokeOff goes o m front later e → Gained m n [] → n.told ≡ m.told
    → n.door ≡ m.door → BrokeOff goes o n front later e
broke_on goes o m n front later e h k t d = record {
  told = h.told;
  stopped = h.stopped;
  added = t ∙ h.added;
  went = subst (λ x. goes o.door (h.told ++ h.stopped) x) (sym d) h.went;
  answers = h.answers;
  served = h.served;
  given = h.given;
  gained = gains_last o.contents m.contents n.contents o.held m.held n.held h.given h.gained k;
  how = h.how;
}

-- how requests were served, after the output handed on what it held
pub served_on : {D : Type 0} (goes : Goes D) (o m n : Place D) (rs : List Request)
    (result : Result (Unit {0}) Ending) → IsServed goes o m rs result → Gained m n []
    → n.told ≡ m.told → n.door ≡ m.door → IsServed goes o n rs result
served_on goes o m n rs (Ok x) h k t d = talked_on goes o m n rs h k t d
served_on goes o m n rs (Err e) h k t d = (h.0, h.1, h.2, broke_on goes o m n h.0 h.1 e h.3 k t d)

-- all of the bytes are a beginning of them
front_of_same : (given all : List ℕ) → given ≡ all → IsFrontOf given all
front_of_same given all h = ([], sym h ∙ sym (append-nil given))

-- what broke off in any way
broken_any : (e : Ending) (later : List Request) (stopped : List Exchange) (given : List ℕ)
    (answers : List Answer) → Breaks e later stopped given answers → MayBeHeldBack later stopped
    × IsFrontOf given (frames answers)
broken_any ending.Detached later stopped given answers h =
    (inl h.0, front_of_same given (frames answers) h.1)
broken_any ending.Write later stopped given answers h = h
broken_any ending.Memory later stopped given answers h = h
broken_any ending.Stopped later stopped given answers h =
    (inr h.0, front_of_same given (frames answers) h.1)
broken_any ending.Ended later stopped given answers h = absurd h
broken_any ending.Cut later stopped given answers h = absurd h
broken_any (ending.Frame f) later stopped given answers h = absurd h
broken_any ending.Read later stopped given answers h = absurd h

-- it breaks off by the output
breaks_by : (end : Ending) (later : List Request) (stopped : List Exchange) (given : List ℕ)
    (answers : List Answer) → IsOutputEnd end → MayBeHeldBack later stopped
    × IsFrontOf given (frames answers) → Breaks end later stopped given answers
breaks_by ending.Write later stopped given answers o h = h
breaks_by ending.Memory later stopped given answers o h = h
breaks_by ending.Detached later stopped given answers o h = absurd o
breaks_by ending.Ended later stopped given answers o h = absurd o
breaks_by ending.Cut later stopped given answers o h = absurd o
breaks_by (ending.Frame f) later stopped given answers o h = absurd o
breaks_by ending.Read later stopped given answers o h = absurd o
breaks_by ending.Stopped later stopped given answers o h = absurd o

-- requests that were served, and then the output failed
pub served_badly : {D : Type 0} (goes : Goes D) (o m n : Place D) (rs : List Request)
    (result : Result (Unit {0}) Ending) (end : Ending) → IsServed goes o m rs result
    → IsOutputEnd end → Gained m n [] → n.told ≡ m.told → n.door ≡ m.door
    → IsServed goes o n rs (Err end)
served_badly goes o m n rs (Ok x) end h by k t d =
    let on = talked_on goes o m n rs h k t d in (
      rs,
      [],
      sym (append-nil rs),
      record {
        told = on.told;
        stopped = [];
        added = on.added ∙ ap (λ (l : List Exchange). o.told ++ l) (sym (append-nil on.told));
        went = subst (λ (l : List Exchange). goes o.door l n.door)
            (sym (append-nil on.told)) on.went;
        answers = on.answers;
        served = on.served;
        given = frames on.answers;
        gained = on.gained;
        how = breaks_by end [] [] (frames on.answers) on.answers by
            (inl refl, front_of_all (frames on.answers));
      },
    )
served_badly goes o m n rs (Err e) end h by k t d =
    let on = broke_on goes o m n h.0 h.1 e h.3 k t d in (
      h.0,
      h.1,
      h.2,
      record {
        told = on.told;
        stopped = on.stopped;
        added = on.added;
        went = on.went;
        answers = on.answers;
        served = on.served;
        given = on.given;
        gained = on.gained;
        how = breaks_by end h.1 on.stopped on.given on.answers by
            (broken_any e h.1 on.stopped on.given on.answers on.how);
      },
    )

-- ---- how often the sink failed

-- as often as before, and then as an end tells
pub counted_at : (before between after : ℕ) (e : Ending) → between ≡ before
    → OutputAt between after e → OutputAt before after e
counted_at before between after e same h = subst (λ (n : ℕ). OutputAt n after e) same h

-- as a result tells, and then as often
pub counted_on : {A : Type 0} (before between after : ℕ) (result : Result A Ending)
    → OutputAfter before between result → after ≡ between → OutputAfter before after result
counted_on before between after result h same =
    subst (λ (n : ℕ). OutputAfter before n result) (sym same) h

-- as often as before, where nothing ended by a write
pub counted_same : {A : Type 0} {before after : ℕ} (result : Result A Ending)
    → write_failed result ≡ false → OutputAfter before after result → after ≡ before
counted_same (Ok x) other h = h
counted_same (Err ending.Write) other h = absurd cc
counted_same (Err ending.Memory) other h = h
counted_same (Err ending.Detached) other h = h
counted_same (Err ending.Ended) other h = h
counted_same (Err ending.Cut) other h = h
counted_same (Err (ending.Frame f)) other h = h
counted_same (Err ending.Read) other h = h
counted_same (Err ending.Stopped) other h = h

-- ---- what the output holds at an end

-- nothing, where nothing is held
pub ending_empty : (e : Ending) (held : List ℕ) → held ≡ [] → HandedOn e held
ending_empty ending.Detached held h = h
ending_empty ending.Ended held h = h
ending_empty ending.Cut held h = h
ending_empty (ending.Frame f) held h = h
ending_empty ending.Read held h = h
ending_empty ending.Write held h = tt
ending_empty ending.Memory held h = tt
ending_empty ending.Stopped held h = h

pub handed_empty : {A : Type 0} (result : Result A Ending) (held : List ℕ) → held ≡ [] →
    IsHandedOn result held
handed_empty (Ok x) held h = h
handed_empty (Err e) held h = ending_empty e held h

-- something, where the output failed
pub handed_badly : (end : Ending) (held : List ℕ) → IsOutputEnd end → HandedOn end held
handed_badly ending.Write held h = tt
handed_badly ending.Memory held h = tt
handed_badly ending.Detached held h = absurd h
handed_badly ending.Ended held h = absurd h
handed_badly ending.Cut held h = absurd h
handed_badly (ending.Frame f) held h = absurd h
handed_badly ending.Read held h = absurd h
handed_badly ending.Stopped held h = absurd h
