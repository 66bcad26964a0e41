-- What of a client's steps it has seen.
use Rattle.std.proofs.Common.{◌≡◌, ℕ, ◌+◌, Bool, true, List, [], ◌∷◌, Some, refl}
use Rattle.std.specs.Prelude.{IsSomeAnd, Option, None, slice_get}
use mathlib.Core.List.{IsPrefix}
use Rattle.ov_base.specs.Calls.{Call}
use Rattle.ov_base.specs.declared.reply.Reply.{Reply}
use Rattle.ov_base.specs.declared.reply.Reply.TheVariants.{Done}
use Rattle.ov_frames.specs.declared.answer.Answer.TheVariants.{Replied}
use Rattle.ov_session.specs.declared.exchange.Exchange.TheVariants.{Called, Departed}
use Rattle.locked_history.specs.Claims.{IsDetachOf}
use Rattle.locked_history.specs.declared.entry.Deed.TheVariants as deed
use Rattle.locked_history.specs.declared.entry.Entry.{Entry}
use Rattle.locked_history.specs.declared.session.Session.{Session}
use Rattle.doors.proofs.Stepping.{once}
use Rattle.doors.specs.endless.Advancing.{Advances, standing, ways}

-- an entry of a client's detach is this one
detach_in : (o : Option Entry) (client number : ℕ) → IsSomeAnd o (λ e. IsDetachOf e client number) →
    o ≡ Some (record { client = client; number = number; deed = deed.Detached })
detach_in None client number of = absurd of
detach_in (Some e) client number of =
    λ i. Some (record { client = of.0 i; number = of.1 i; deed = of.2 i })

module _ (may_stop : ℕ → ℕ → Type 0) where
  -- a call and its reply
  pub went_called : (s next : Session) (old new : List Entry) (before after : Bool) (place : ℕ)
      (call : Call) (reply : Reply) →
      slice_get new place ≡ Some (record { client = s.client; number = s.number; deed = deed.Called call reply }) →
      IsPrefix old new → next.client ≡ s.client → next.number ≡ s.number + 1 →
      Advances may_stop (standing s old before) (Called call (Replied place reply) ∷ [])
      (standing next new after)
  went_called s next old new before after place call reply stands seen whose numbered =
      once (ways may_stop) (standing s old before) (standing next new after)
      (Called call (Replied place reply))
      (record { stands = stands; seen = seen; whose = whose; numbered = numbered })

  -- a detach
  pub departed : (s : Session) (old new : List Entry) (before : Bool) (place : ℕ) →
      IsSomeAnd (slice_get new place) (λ e. IsDetachOf e s.client s.number) → IsPrefix old new →
      Advances may_stop (standing s old before) (Departed (Replied place Done) ∷ [])
      (standing s new true)
  departed s old new before place of seen =
      once (ways may_stop) (standing s old before) (standing s new true)
      (Departed (Replied place Done)) (
        refl,
        record {
          stands = detach_in (slice_get new place) s.client s.number of;
          seen = seen;
          whose = refl;
          numbered = refl;
        },
        refl,
      )
