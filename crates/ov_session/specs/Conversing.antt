-- A session from piece to piece, until its client is detached.
use Rattle.std.specs.Prelude.{◌≡◌, ℕ, ◌≤◌, Bool, true, false, List, [], ◌∷◌, ◌++◌, length, drop, Option, Result, Ok, Err, ◌⊎◌}
use Rattle.std.specs.Io.KnownBytes.{IsAtEnd}
use Rattle.ov_frames.specs.Streams.{Left, Held, Faulty, Spells}
use Rattle.ov_frames.specs.declared.fault.FrameFault.{FrameFault}
use Rattle.ov_frames.specs.declared.request.Request.{Request}
use Rattle.ov_session.specs.Devices.{IsFrontOf, OutputAfter, OutputAt}
use Rattle.ov_session.specs.Doors.{Goes}
use Rattle.ov_session.specs.Heard.{Heard}
use Rattle.ov_session.specs.Serving.{IsLeaving, IsHeldBack, frames}
use Rattle.ov_session.specs.Talks.{HandedOn, IsHandedOn, Place, Gained, Talked, IsServed, MayBeHeldBack}
use Rattle.ov_session.specs.declared.ending.Ending.{Ending}
use Rattle.ov_session.specs.declared.ending.Ending.TheVariants as ending

-- what is left of a stream is a fault, so that no more of it is read
abbrev pub is_faulty : Left → Bool
is_faulty (Held bytes) = false
is_faulty (Faulty fault) = true

-- each request was served, and the frames of all answers given to the output
abbrev pub IsAnswered : (i j : Option (List ℕ)) → Heard i j → List ℕ → Type 0
IsAnswered i j heard given =
    (heard.later ≡ []) × (heard.stopped ≡ []) × (given ≡ frames heard.answers)

-- a beginning of the frames was given to the output
abbrev pub IsBrokenOff : (i j : Option (List ℕ)) → Heard i j → List ℕ → Type 0
IsBrokenOff i j heard given =
    MayBeHeldBack heard.later heard.stopped × IsFrontOf given (frames heard.answers)

-- how things stand at each end, by the bytes that were given to the output
abbrev pub Stands : (i j : Option (List ℕ)) → Ending → Heard i j → List ℕ → Type 0
Stands i j ending.Detached heard given =
    IsLeaving heard.later × (heard.stopped ≡ []) × (given ≡ frames heard.answers)
Stands i j ending.Ended heard given =
    IsAnswered i j heard given × (heard.left ≡ Held []) × IsAtEnd j
Stands i j ending.Cut heard given =
    IsAnswered i j heard given
    × ((b : ℕ) × (bytes : List ℕ) × (heard.left ≡ Held (b ∷ bytes))) × IsAtEnd j
Stands i j (ending.Frame fault) heard given =
    IsAnswered i j heard given × (heard.left ≡ Faulty fault)
Stands i j ending.Read heard given =
    IsAnswered i j heard given × (is_faulty heard.left ≡ false)
Stands i j ending.Write heard given = IsBrokenOff i j heard given
Stands i j ending.Memory heard given = IsBrokenOff i j heard given
Stands i j ending.Stopped heard given =
    IsHeldBack heard.later heard.stopped × (given ≡ frames heard.answers)

-- a session until its end
pub record Conversed {D : Type 0} (goes : Goes D) (in_old in_new : Option (List ℕ))
    (old new : Place D) (end : Ending) : Type 0 where
  pub heard : Heard in_old in_new
  pub added : new.told ≡ old.told ++ (heard.told ++ heard.stopped)
  pub went : goes old.door (heard.told ++ heard.stopped) new.door
  pub given : List ℕ
  pub gained : Gained old new given
  pub stands : Stands in_old in_new end heard given

-- all that a conversation leaves: how often the sink failed, what is still held for it, and that the
-- door takes calls of the session still
pub record Converses {D S : Type 0} (goes : Goes D) (admits : D → S → Type 0)
    (in_old in_new : Option (List ℕ)) (end : Ending) (old new : Place D) (session : S) :
    Type 0 where
  pub conversed : Conversed goes in_old in_new old new end
  pub handed_on : HandedOn end new.held
  pub output : OutputAt old.failures new.failures end
  pub admitted : admits new.door session

-- what bytes spell was served, and the begun frame behind it stands at a place; or the session ends:
-- at a request, or at a fault behind all of them
abbrev pub IsTurn : {D : Type 0} → Goes D → List ℕ → Place D → Place D → Result ℕ Ending → Type 0
IsTurn goes bytes o n (Ok used) =
    (used ≤ length bytes)
    × ((rs : List Request) × Spells bytes rs (Held (drop used bytes)) × Talked goes o n rs)
IsTurn goes bytes o n (Err e) =
    ((rs : List Request) × (left : Left) × Spells bytes rs left × IsServed goes o n rs (Err e))
    ⊎ ((fault : FrameFault) × (rs : List Request) × Spells bytes rs (Faulty fault)
    × (e ≡ ending.Frame fault) × Talked goes o n rs)

-- all that serving bytes leaves
pub record ServesBytes {D S : Type 0} (goes : Goes D) (admits : D → S → Type 0) (bytes : List ℕ)
    (result : Result ℕ Ending) (old new : Place D) (session : S) : Type 0 where
  pub turn : IsTurn goes bytes old new result
  pub output : OutputAfter old.failures new.failures result
  pub admitted : admits new.door session

-- so where the answers are handed on
pub record Turns {D S : Type 0} (goes : Goes D) (admits : D → S → Type 0) (bytes : List ℕ)
    (result : Result ℕ Ending) (old new : Place D) (session : S) : Type 0 where
  pub serves : ServesBytes goes admits bytes result old new session
  pub handed_on : IsHandedOn result new.held
