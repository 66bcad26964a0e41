-- Bytes of a file, without frames.
use Rattle.std.specs.Prelude.{◌≡◌, ℕ, ◌<◌, ◌≤◌, ◌^◌, false, true, List, [], ◌∷◌, length, take, cond, nat_lt, Option, Some, None, Result, Ok, Err, ◌⊎◌}
use Rattle.ov_base.specs.Calls.{Call}
use Rattle.ov_base.specs.declared.call.CallOf.TheVariants as call
use Rattle.ov_base.specs.declared.reply.Reply.TheVariants as reply
use Rattle.ov_frames.specs.declared.answer.Answer.{Answer}
use Rattle.ov_frames.specs.declared.answer.Answer.TheVariants.{Replied, NotTaken}
use Rattle.ov_session.specs.declared.exchange.Exchange.TheVariants.{Called}
use Rattle.overlay_core.specs.Views.{core_finished, has_client}
use Rattle.ov_embedded.specs.Calling.{IsCopied, Makes}
use Rattle.ov_embedded.specs.Jobs.{KeepsRest}
use Rattle.ov_embedded.specs.declared.mounted.Mounted.{Mounted}
use Rattle.ov_embedded.specs.declared.outcome.Outcome.{Outcome}
use Rattle.ov_embedded.specs.declared.outcome.Outcome.TheVariants as outcome

-- why no call of a client is made, if none is
abbrev pub IsBarred : ℕ → Mounted → Option Outcome → Type 0
IsBarred client m None = (has_client m.core client ≡ true) × (core_finished m.core < 2 ^ 62)
IsBarred client m (Some outcome.NoClient) = has_client m.core client ≡ false
IsBarred client m (Some outcome.Ended) = 2 ^ 62 ≤ core_finished m.core
IsBarred client m (Some _) = ⊥

-- how many bytes of so many one call moves
abbrev pub moved : ℕ → ℕ
moved n = cond (nat_lt 65536 n) 65536 n

-- a call of a client was made and has this answer
abbrev pub IsMadeBy : ℕ → Call → Answer → Mounted → Mounted → Type 0
IsMadeBy client asked answer old new =
    Makes client old.core (Called asked answer ∷ []) new.core × KeepsRest old new

-- what is read goes into the room, which is else as it was
abbrev pub TellsRead : Answer → List ℕ → List ℕ → Result ℕ Outcome → Type 0
TellsRead (Replied place (reply.Read bytes)) before after result =
    (n : ℕ) × (result ≡ Ok n) × IsCopied bytes before after n
TellsRead (Replied place (reply.Refused errno)) before after result =
    (result ≡ Err (outcome.Refused errno)) × (after ≡ before)
TellsRead (Replied place _) before after result =
    (result ≡ Err outcome.Unwritten) × (after ≡ before)
TellsRead (NotTaken errno) before after result =
    (result ≡ Err outcome.NoMemory) × (after ≡ before)

-- THE CALL `read` of a client is made, for as many bytes as the room has, and told; or none is
abbrev pub ReadsOff : ℕ → ℕ → List ℕ → List ℕ → Mounted → Mounted → Result ℕ Outcome → Type 0
ReadsOff client descriptor before after old new result =
    ((why : Outcome) × IsBarred client old (Some why) × (result ≡ Err why) × (new ≡ old)
    × (after ≡ before))
    ⊎ ((answer : Answer)
    × IsMadeBy client (call.Read descriptor (moved (length before))) answer old new
    × TellsRead answer before after result)

-- how many bytes were written
abbrev pub TellsWritten : Answer → Result ℕ Outcome → Type 0
TellsWritten (Replied place (reply.Written n)) result = result ≡ Ok n
TellsWritten (Replied place (reply.Refused errno)) result = result ≡ Err (outcome.Refused errno)
TellsWritten (Replied place _) result = result ≡ Err outcome.Unwritten
TellsWritten (NotTaken errno) result = result ≡ Err outcome.NoMemory

-- THE CALL `write` of a client is made, of as many of the bytes as one call moves, and told; or none
-- is, also for want of memory
abbrev pub WritesOff : ℕ → ℕ → List ℕ → Mounted → Mounted → Result ℕ Outcome → Type 0
WritesOff client descriptor bytes old new result =
    ((why : Outcome) × (IsBarred client old (Some why) ⊎ (why ≡ outcome.NoMemory))
    × (result ≡ Err why) × (new ≡ old))
    ⊎ ((answer : Answer)
    × IsMadeBy client (call.Write descriptor (take (moved (length bytes)) bytes)) answer old new
    × TellsWritten answer result)
