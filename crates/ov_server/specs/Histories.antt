-- What a script answers where a history has no place, and where it has.
use Rattle.std.specs.Prelude.{◌≡◌, ℕ, Option, Some, None, Result, Ok, Err, IsOk, ◌⊎◌}
use Rattle.ov_base.specs.Calls.{Call}
use Rattle.ov_base.specs.declared.errno.Errno.{Errno}
use Rattle.ov_base.specs.declared.errno.Errno.TheVariants.{ENOMEM}
use Rattle.overlay_core.specs.Histories.{room_refusal}
use Rattle.ov_server.specs.declared.answers.Answer.{Answer}
use Rattle.ov_server.specs.declared.answers.Answer.TheVariants.{Attached, NotAttached, Replied, NotTaken, More}

-- an attach gives the next number, or is refused, or memory runs out
abbrev pub AnswersAttach : Option Errno → ℕ → Answer → Type 0
AnswersAttach refusal next (Attached client) = (refusal ≡ None) × (client ≡ next)
AnswersAttach refusal next (NotAttached errno) = (refusal ≡ Some errno) ⊎ ((refusal ≡ None) × (errno ≡ ENOMEM))
AnswersAttach refusal next _ = ⊥

-- why a call that is read so is not taken: its path text is refused, or there is no place
abbrev pub call_refusal : ℕ → Result Call Errno → Option Errno
call_refusal places (Err errno) = Some errno
call_refusal places (Ok call) = room_refusal places

-- a call has a reply, or is not taken by its refusal or because memory ran out
abbrev pub AnswersCall : Option Errno → ℕ → Answer → Type 0
AnswersCall refusal client (Replied c reply) = (refusal ≡ None) × (c ≡ client)
AnswersCall refusal client (NotTaken c errno) = ((refusal ≡ Some errno) ⊎ (errno ≡ ENOMEM)) × (c ≡ client)
AnswersCall refusal client _ = ⊥

-- steps of a call leave more to do, or answer as a call does
abbrev pub AnswersStep : Option Errno → ℕ → Answer → Type 0
AnswersStep refusal client (More c) = (refusal ≡ None) × (c ≡ client)
AnswersStep refusal client answer = AnswersCall refusal client answer

-- a start of a call that is read so is answered only where none is made: its path text is refused,
-- or memory ran out
abbrev pub AnswersStart : Result Call Errno → ℕ → Option Answer → Type 0
AnswersStart text client None = IsOk text
AnswersStart text client (Some (NotTaken c errno)) = ((text ≡ Err errno) ⊎ (errno ≡ ENOMEM)) × (c ≡ client)
AnswersStart text client (Some _) = ⊥
