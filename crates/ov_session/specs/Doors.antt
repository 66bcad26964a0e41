-- What a door does to a session.
use Rattle.std.specs.Prelude.{◌≡◌, List, [], ◌∷◌, ◌++◌}
use Rattle.ov_base.specs.Calls.{Call}
use Rattle.ov_frames.specs.declared.answer.Answer.{Answer}
use Rattle.ov_session.specs.declared.door.CallOutcome.{CallOutcome}
use Rattle.ov_session.specs.declared.door.CallOutcome.TheVariants as outcome
use Rattle.ov_session.specs.declared.exchange.Exchange.{Exchange}
use Rattle.ov_session.specs.declared.exchange.Exchange.TheVariants.{Called, HeldBack}

-- how a door goes from one state to another, as exchanges tell
abbrev pub Goes : Type 0 → Type 1
Goes D = D → List Exchange → D → Type 0

-- a call was answered, or held back, and the session tells so; where memory ran out it tells
-- nothing
abbrev pub IsAsked : {D : Type 0} → Goes D → D → D → List Exchange → List Exchange
    → Call → CallOutcome → Type 0
IsAsked goes door door' old new call outcome.Answered =
    (answer : Answer) × (new ≡ old ++ Called call answer ∷ [])
    × goes door (Called call answer ∷ []) door'
IsAsked goes door door' old new call outcome.HeldBack =
    (new ≡ old ++ HeldBack call ∷ []) × goes door (HeldBack call ∷ []) door'
IsAsked goes door door' old new call outcome.OutOfMemory = (new ≡ old) × goes door [] door'

-- the last thing told is a call
abbrev pub EndsInCall : List Exchange → Type 0
EndsInCall told =
    (before : List Exchange) × (call : Call) × (answer : Answer)
    × (told ≡ before ++ Called call answer ∷ [])

-- the answer of the last call
abbrev pub IsLastAnswer : List Exchange → Answer → Type 0
IsLastAnswer told last =
    (before : List Exchange) (call : Call) (answer : Answer)
    → told ≡ before ++ Called call answer ∷ [] → last ≡ answer
