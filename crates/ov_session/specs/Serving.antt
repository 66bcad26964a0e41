-- What a session asks of its door, and what it is answered.
use Rattle.std.specs.Prelude.{◌≡◌, ℕ, List, [], ◌∷◌, ◌++◌, Option, Some, None, Result, Ok, Err}
use Rattle.std.specs.List.{flat_map}
use Rattle.ov_base.specs.Calls.{Call}
use Rattle.ov_base.specs.declared.errno.Errno.{Errno}
use Rattle.ov_frames.specs.Asked.{asked_of}
use Rattle.ov_frames.specs.Replies.{answer_frame}
use Rattle.ov_frames.specs.declared.answer.Answer.{Answer}
use Rattle.ov_frames.specs.declared.answer.Answer.TheVariants.{NotTaken}
use Rattle.ov_frames.specs.declared.request.Request.{Request}
use Rattle.ov_session.specs.declared.exchange.Exchange.{Exchange}
use Rattle.ov_session.specs.declared.exchange.Exchange.TheVariants.{Called, HeldBack}

-- the frames of answers, one behind the other
abbrev pub frames : List Answer → List ℕ
frames answers = flat_map answer_frame answers

-- one request: its call is asked of the door once and has the door's answer, or its path text is
-- refused and nothing is asked
abbrev pub Answers : Option (Result Call Errno) → List Exchange → Answer → Type 0
Answers (Some (Ok call)) told answer = told ≡ Called call answer ∷ []
Answers (Some (Err errno)) told answer = (told ≡ []) × (answer ≡ NotTaken errno)
Answers None told answer = ⊥

-- EACH REQUEST ONCE AND IN ORDER, none of them a detach
abbrev pub Serves : List Request → List Exchange → List Answer → Type 0
Serves [] told answers = (told ≡ []) × (answers ≡ [])
Serves (r ∷ rs) told answers =
    (one : List Exchange) × (more : List Exchange) × (answer : Answer) × (others : List Answer)
    × (told ≡ one ++ more) × (answers ≡ answer ∷ others)
    × Answers (asked_of r) one answer × Serves rs more others

-- the first of the requests is a detach
abbrev pub IsLeaving : List Request → Type 0
IsLeaving later =
    (r : Request) × (more : List Request) × (later ≡ r ∷ more) × (asked_of r ≡ None)

-- the first of the requests asks for a call that the door held back
abbrev pub IsHeldBack : List Request → List Exchange → Type 0
IsHeldBack later told =
    (r : Request) × (more : List Request) × (call : Call)
    × (later ≡ r ∷ more) × (asked_of r ≡ Some (Ok call)) × (told ≡ HeldBack call ∷ [])
