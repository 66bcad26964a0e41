-- What a receipt claims of a client.
use Rattle.std.specs.Prelude.{◌≡◌, ℕ, true}
use Rattle.ov_base.specs.Calls.{Call}
use Rattle.ov_base.specs.declared.reply.Reply.{Reply}
use Rattle.ov_frames.specs.declared.answer.Answer.{Answer}
use Rattle.ov_frames.specs.declared.answer.Answer.TheVariants.{Replied}
use Rattle.locked_history.specs.Claims.{Claim}
use Rattle.locked_history.specs.declared.entry.Deed.{Deed}
use Rattle.locked_history.specs.declared.entry.Deed.TheVariants.{Called}

-- a counted receipt says that a client did this, by an entry of this number at this place
pub record Claims (claim : Claim) (place client number : ℕ) (did : Deed) : Type 0 where
  pub here : claim.place ≡ place
  pub whose : claim.entry.client ≡ client
  pub numbered : claim.entry.number ≡ number
  pub done : claim.entry.deed ≡ did
  pub counted : claim.counted ≡ true

-- a call of a client was answered by the reply in its entry, at its place, as this receipt says
abbrev pub IsToldBy : Claim → ℕ → ℕ → Call → Answer → Type 0
IsToldBy claim client number call answer =
    (reply : Reply) × (answer ≡ Replied claim.place reply)
    × Claims claim claim.place client number (Called call reply)
