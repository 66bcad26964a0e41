-- What one step of a client is, whatever is known of where it stands.
use Rattle.std.proofs.Common.{◌≡◌, ℕ, ◌↔◌, Bool, true, false, List, [], ◌∷◌, ◌++◌, refl, subst, sym, ◌∙◌, true≢false}
use Rattle.ov_base.specs.Calls.{Call}
use Rattle.ov_base.specs.declared.errno.Errno.TheVariants.{EINVAL}
use Rattle.ov_frames.specs.declared.answer.Answer.{Answer}
use Rattle.ov_frames.specs.declared.answer.Answer.TheVariants.{Replied, NotTaken}
use Rattle.ov_session.specs.declared.exchange.Exchange.{Exchange}
use Rattle.ov_session.specs.declared.exchange.Exchange.TheVariants.{Called, HeldBack, Departed}
use Rattle.locked_history.specs.declared.session.Refused.{Refused}
use Rattle.locked_history.specs.declared.session.Refused.TheVariants as refused
use Rattle.doors.specs.shared.GoingOn.{Does, GoesOn, IsRefusal, IsReply, IsStep, Ways, errno_of}

-- a refusal of a mount is one that a door may answer
is_refusal : (why : Refused) → IsRefusal (errno_of why)
is_refusal refused.Memory = tt
is_refusal refused.Full = tt
is_refusal refused.Session = tt
is_refusal refused.Stopped = tt

module _ {S : Type 0} (ways : Ways S) (old new : S) where
  -- one step
  pub once : (exchange : Exchange) → IsStep ways old exchange new →
      GoesOn ways old (exchange ∷ []) new
  once exchange h = (new, h, refl)

  -- a call that is refused, or held back, leaves a client where it was
  pub went_refused : (call : Call) (why : Refused) → new ≡ old →
      GoesOn ways old (Called call (NotTaken (errno_of why)) ∷ []) new
  went_refused call why same = once (Called call (NotTaken (errno_of why))) (is_refusal why, same)

  -- held back with its cause
  pub went_held : (call : Call) → ways.may_hold old → new ≡ old →
      GoesOn ways old (HeldBack call ∷ []) new
  went_held call cause same = once (HeldBack call) (cause, same)

  -- so does a detach that is refused
  pub stayed : new ≡ old → ways.detached new ≡ false →
      GoesOn ways old (Departed (NotTaken EINVAL) ∷ []) new
  stayed same attached = once (Departed (NotTaken EINVAL)) (refl, same, attached)

-- nothing is true and false
not_both : (b : Bool) → b ≡ false → b ≡ true → ⊥
not_both b off on = true≢false (sym on ∙ off)

module _ {S : Type 0} (ways : Ways S) (new : S) where
  -- a client is detached exactly where that was answered by a reply
  left_by : (between old : S) (answer : Answer) → IsStep ways old (Departed answer) between →
      new ≡ between → (ways.detached new ≡ true) ↔ IsReply answer
  left_by between old (Replied place reply) h same =
      ((λ _. tt), (λ _. subst (λ s. ways.detached s ≡ true) (sym same) h.2))
  left_by between old (NotTaken errno) h same =
      (not_both (ways.detached new) (subst (λ s. ways.detached s ≡ false) (sym same) h.2), (λ reply. absurd reply))

  -- also as the last of what passed
  pub left_last : (old : S) (xs : List Exchange) (answer : Answer) →
      GoesOn ways old (xs ++ Departed answer ∷ []) new →
      (ways.detached new ≡ true) ↔ IsReply answer
  left_last old [] answer h = left_by h.0 old answer h.1 h.2
  left_last old (x ∷ xs) answer h = left_last h.0 xs answer h.2

-- what goes on with a cause goes on where more are causes
module _ {S : Type 0} (does : Does S) (next : S → ℕ) (detached : S → Bool)
    (hold may_hold : S → Type 0) (holds : (s : S) → hold s → may_hold s) where
  abbrev few : Ways S
  few = record { does = does; next = next; detached = detached; may_hold = hold }

  abbrev many : Ways S
  many = record { does = does; next = next; detached = detached; may_hold = may_hold }

  step_with_more : (a b : S) (x : Exchange) → IsStep few a x b → IsStep many a x b
  step_with_more a b (Called call (Replied place reply)) h = h
  step_with_more a b (Called call (NotTaken errno)) h = h
  step_with_more a b (HeldBack call) h = (holds a h.0, h.1)
  step_with_more a b (Departed (Replied place reply)) h = h
  step_with_more a b (Departed (NotTaken errno)) h = h

  pub goes_with_more : (a b : S) (xs : List Exchange) → GoesOn few a xs b → GoesOn many a xs b
  goes_with_more a b [] h = h
  goes_with_more a b (x ∷ xs) h = (h.0, step_with_more a h.0 x h.1, goes_with_more h.0 b xs h.2)
