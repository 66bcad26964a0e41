-- Bytes that an output gained, step by step.
use Rattle.std.proofs.Common.{◌≡◌, ℕ, List, [], ◌++◌, take, drop, Option, Ok, Err, refl, sym, ap, subst, ◌∙◌, append_assoc, append-nil}
use Rattle.std.proofs.KnownBytes.{Appends-nil, Appends-trans, Appends-kept}
use Rattle.std.proofs.lemmas.List.{take-append-drop}
use Rattle.std.specs.Io.KnownBytes.{Appends, Keeps}
use Rattle.std.specs.Prelude.{Result, IfErr}
use Rattle.ov_frames.specs.Replies.{answer_frame}
use Rattle.ov_frames.specs.declared.answer.Answer.{Answer}
use Rattle.ov_session.specs.Devices.{Gains, IsFrontOf, IsOutputEnd, IsPut, IsSent}
use Rattle.ov_session.specs.declared.ending.Ending.{Ending}
use Rattle.ov_session.specs.declared.ending.Ending.TheVariants as ending

-- nothing was gained
pub gains_nothing : (o : Option (List ℕ)) (held : List ℕ) → Gains o o held held []
gains_nothing o held = ([], Appends-nil o, append-nil held)

-- what was gained one after the other
pub gains_then : (o m n : Option (List ℕ)) (p q r a b : List ℕ) → Gains o m p q a → Gains m n q r b
    → Gains o n p r (a ++ b)
gains_then o m n p q r a b h k = (
  h.0 ++ k.0,
  Appends-trans o m n h.0 k.0 h.1 k.1,
  sym (append_assoc p a b) ∙ ap (λ (l : List ℕ). l ++ b) h.2 ∙ append_assoc h.0 q b
      ∙ ap (λ (l : List ℕ). h.0 ++ l) k.2 ∙ sym (append_assoc h.0 k.0 r),
)

-- bytes were held
pub gains_held : (o : Option (List ℕ)) (held held' bytes : List ℕ) → held' ≡ held ++ bytes
    → Gains o o held held' bytes
gains_held o held held' bytes h = ([], Appends-nil o, sym h)

-- a front of what was held was written, and is held no more
pub gains_written : (o n : Option (List ℕ)) (held held' : List ℕ) (count : ℕ)
    → Appends o n (take count held) → held' ≡ drop count held → Gains o n held held' []
gains_written o n held held' count h k = (
  take count held,
  h,
  append-nil held ∙ sym (take-append-drop count held) ∙ ap (λ (l : List ℕ). take count held ++ l)
      (sym k),
)

-- nothing more came to what was gained
pub gains_last : (o m n : Option (List ℕ)) (p q r a : List ℕ) → Gains o m p q a → Gains m n q r []
    → Gains o n p r a
gains_last o m n p q r a h k = subst (λ (l : List ℕ). Gains o n p r l) (append-nil a)
    (gains_then o m n p q r a [] h k)

-- the sink's bytes stayed as they were
pub gains_kept : (o m n : Option (List ℕ)) (p q a : List ℕ) → Gains o m p q a → Keeps m n
    → Gains o n p q a
gains_kept o m n p q a h k = (h.0, Appends-kept o m n h.0 h.1 k, h.2)

-- the whole is a beginning of itself
pub front_of_all : (bytes : List ℕ) → IsFrontOf bytes bytes
front_of_all bytes = ([], sym (append-nil bytes))

-- nothing is a beginning
pub front_of_none : (bytes : List ℕ) → IsFrontOf [] bytes
front_of_none bytes = (bytes, refl)

-- where nothing was held before, what was written is what was gained, but for what is held
pub written_of : (o n : Option (List ℕ)) (p q a : List ℕ) → Gains o n p q a → p ≡ []
    → (written : List ℕ) × Appends o n written × (a ≡ written ++ q)
written_of o n p q a h e = (h.0, h.1, subst (λ (l : List ℕ). l ++ a ≡ h.0 ++ q) e h.2)

-- and where nothing is held after, just that
pub written_all : (o n : Option (List ℕ)) (p q a : List ℕ) → Gains o n p q a → p ≡ [] → q ≡ []
    → Appends o n a
written_all o n p q a h e k =
    let w = written_of o n p q a h e in
    subst (λ (l : List ℕ). Appends o n l)
    (sym (w.2 ∙ ap (λ (l : List ℕ). w.0 ++ l) k ∙ append-nil w.0)) w.1

-- an answer was held, and what was held was handed on, or the output failed at that
pub put_handed : (o n : Option (List ℕ)) (p q r : List ℕ) (a : Answer)
    (result : Result (Unit {0}) Ending) → q ≡ p ++ answer_frame a → Gains o n q r []
    → IfErr result IsOutputEnd → IsPut o n p r a result
put_handed o n p q r a result h k e =
    by result (gains_last o o n p q r (answer_frame a) (gains_held o p q (answer_frame a) h) k) e
  where
    by : (result : Result (Unit {0}) Ending) → Gains o n p r (answer_frame a)
        → IfErr result IsOutputEnd → IsPut o n p r a result
    by (Ok x) gained e = gained
    by (Err ending.Write) gained e = gained
    by (Err ending.Memory) gained e = (answer_frame a, front_of_all (answer_frame a), gained)
    by (Err ending.Detached) gained e = absurd e
    by (Err ending.Ended) gained e = absurd e
    by (Err ending.Cut) gained e = absurd e
    by (Err (ending.Frame f)) gained e = absurd e
    by (Err ending.Read) gained e = absurd e
    by (Err ending.Stopped) gained e = absurd e

-- an answer that was taken, and then the output failed
pub sent_badly : (o m n : Option (List ℕ)) (p q r : List ℕ) (a : Answer) (end : Ending)
    → Gains o m p q (answer_frame a) → Gains m n q r [] → IsOutputEnd end → IsSent o n p r a end
sent_badly o m n p q r a ending.Write h k e = gains_last o m n p q r (answer_frame a) h k
sent_badly o m n p q r a ending.Memory h k e = (
  answer_frame a,
  front_of_all (answer_frame a),
  gains_last o m n p q r (answer_frame a) h k,
)
sent_badly o m n p q r a ending.Detached h k e = absurd e
sent_badly o m n p q r a ending.Ended h k e = absurd e
sent_badly o m n p q r a ending.Cut h k e = absurd e
sent_badly o m n p q r a (ending.Frame f) h k e = absurd e
sent_badly o m n p q r a ending.Read h k e = absurd e
sent_badly o m n p q r a ending.Stopped h k e = absurd e
