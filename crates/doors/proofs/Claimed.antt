-- What of a client's steps a receipt claims.
use Rattle.std.proofs.Common.{◌≡◌, ℕ, ◌+◌, Bool, true, List, [], ◌∷◌, ◌++◌, refl, subst}
use Rattle.ov_base.specs.Calls.{Call}
use Rattle.ov_base.specs.declared.reply.Reply.TheVariants.{Done}
use Rattle.ov_frames.specs.declared.answer.Answer.{Answer}
use Rattle.ov_frames.specs.declared.answer.Answer.TheVariants.{Replied}
use Rattle.ov_session.specs.declared.exchange.Exchange.TheVariants.{Called, Departed}
use Rattle.locked_history.specs.Claims.{Claim, IsDetachOf}
use Rattle.locked_history.specs.declared.session.Session.{Session}
use Rattle.doors.specs.shared.Advancing.{Advances, Standing, standing, ways}
use Rattle.doors.specs.shared.Claiming.{IsToldBy}
use Rattle.doors.proofs.Stepping.{once}

module _ (may_stop : ℕ → ℕ → Type 0) where
  -- a detach, which a receipt more claims
  pub departed : (s : Session) (receipts : List Claim) (before : Bool) (claim : Claim) →
      IsDetachOf claim.entry s.client s.number → claim.counted ≡ true →
      Advances may_stop (standing s receipts before) (Departed (Replied claim.place Done) ∷ [])
      (standing s (receipts ++ claim ∷ []) true)
  departed s receipts before claim of counted =
      once (ways may_stop) (standing s receipts before) (standing s (receipts ++ claim ∷ []) true)
      (Departed (Replied claim.place Done)) (
        refl,
        (
          claim,
          record {
            here = refl;
            whose = of.0;
            numbered = of.1;
            done = of.2;
            counted = counted;
          },
          refl,
        ),
        refl,
      )

  -- a call and its reply, which a receipt more claims
  pub went_called : (s next : Session) → next.client ≡ s.client → next.number ≡ s.number + 1 →
      (receipts : List Claim) (before after : Bool) (call : Call) (answer : Answer) (claim : Claim) →
      IsToldBy claim s.client s.number call answer →
      Advances may_stop (standing s receipts before) (Called call answer ∷ [])
      (standing next (receipts ++ claim ∷ []) after)
  went_called s next whose numbered receipts before after call answer claim by = rw by.1 (
      once (ways may_stop) (standing s receipts before) (standing next (receipts ++ claim ∷ []) after)
      (Called call (Replied claim.place by.0))
      (claim, by.2, rw (whose, numbered) refl))

  -- the same of a call and receipts that are told otherwise
  pub claimed_on : (s : Session) (before : Bool) (some receipts : List Claim) → some ≡ receipts →
      (asked call : Call) → asked ≡ call → (answer : Answer) (new : Standing) →
      Advances may_stop (standing s some before) (Called asked answer ∷ []) new →
      Advances may_stop (standing s receipts before) (Called call answer ∷ []) new
  claimed_on s before some receipts same asked call told answer new h =
      subst (λ (c : Call). Advances may_stop (standing s receipts before) (Called c answer ∷ []) new) told
      (subst (λ (l : List Claim). Advances may_stop (standing s l before) (Called asked answer ∷ []) new) same h)
