-- What a call in steps is.
use Rattle.std.specs.Prelude.{◌≡◌, ◌≢◌, ℕ, ◌+◌, ◌≤◌, ◌^◌, true, false, List, [], length, Some, None, IsSomeAnd, Ok, Err}
use Rattle.ov_base.specs.Calls.{Call}
use Rattle.ov_base.specs.declared.errno.Errno.{Errno}
use Rattle.ov_base.specs.declared.errno.Errno.TheVariants.{ENOMEM}
use Rattle.ov_frames.specs.Asked.{asked_of}
use Rattle.ov_frames.specs.Replies.{answer_frame}
use Rattle.ov_frames.specs.Streams.{front_of}
use Rattle.ov_frames.specs.declared.answer.Answer.{Answer}
use Rattle.ov_frames.specs.declared.answer.Answer.TheVariants.{Replied, NotTaken}
use Rattle.ov_frames.specs.declared.front.Front.TheVariants.{Whole}
use Rattle.ov_frames.specs.declared.request.Request.{Request}
use Rattle.overlay_core.specs.Jobs.{Advances}
use Rattle.overlay_core.specs.Steps.{without}
use Rattle.overlay_core.specs.Views.{CoreSame, core_finished, core_work, has_client}
use Rattle.overlay_core.specs.declared.job.Job.{Job}
use Rattle.overlay_core.specs.declared.job.Standing.TheVariants as standing
use Rattle.overlay_core.specs.declared.turn.Turn.{Turn}
use Rattle.overlay_core.specs.declared.turn.Turn.TheVariants as turns
use Rattle.ov_embedded.specs.Calling.{IsFrameOf}
use Rattle.ov_embedded.specs.Jobs.{AreOthers, KeepsEachJob, KeepsJobs, KeepsOtherJobs, job_of}
use Rattle.ov_embedded.specs.declared.mounted.Mounted.{Mounted}
use Rattle.ov_embedded.specs.declared.outcome.Outcome.{Outcome}
use Rattle.ov_embedded.specs.declared.outcome.Outcome.TheVariants as outcome

-- a job is a client's call, and no step of it was made
abbrev pub IsNew : ℕ → Call → Job → Type 0
IsNew client call job =
    (job.client ≡ client) × (job.call ≡ call) × (job.standing ≡ standing.Open) × (job.steps ≡ 0)

-- a call is a job by the next number, or memory ran out and there is none
abbrev pub IsStarted : Mounted → ℕ → Call → Mounted → Outcome → ℕ → Type 0
IsStarted old client call new outcome.More number =
    (number ≡ old.begun) × (new.begun ≡ old.begun + 1)
    × IsSomeAnd (job_of new number) (IsNew client call)
    × AreOthers old new number × (new.saved ≡ old.saved)
IsStarted old client call new outcome.NoMemory number = KeepsEachJob old new
IsStarted old client call new _ number = ⊥

-- the path text of the call that the bytes spell is refused, and nothing is begun
abbrev pub IsTurnedDown : List ℕ → Mounted → Mounted → Errno → Type 0
IsTurnedDown bytes old new errno =
    ((request : Request) × IsFrameOf bytes request × (asked_of request ≡ Some (Err errno)))
    × (new.core ≡ old.core) × KeepsJobs old new

-- THE CALL THAT THE BYTES SPELL is a job by the next number, and nothing else has changed; a path
-- text that is refused is answered
abbrev pub Begins : ℕ → List ℕ → Mounted → Mounted → Outcome → ℕ → Type 0
Begins client bytes old new outcome.More number =
    (request : Request) × (call : Call) × IsFrameOf bytes request
    × (asked_of request ≡ Some (Ok call)) × (has_client old.core client ≡ true)
    × CoreSame old.core new.core × (new.reply ≡ old.reply)
    × IsStarted old client call new outcome.More number
Begins client bytes old new outcome.Done number =
    (errno : Errno) × IsTurnedDown bytes old new errno
    × (new.reply.items ≡ answer_frame (NotTaken errno))
Begins client bytes old new outcome.Unwritten number =
    (errno : Errno) × IsTurnedDown bytes old new errno × (new.reply.items ≡ [])
Begins client bytes old new outcome.NoClient number =
    (new ≡ old) × (has_client old.core client ≡ false)
Begins client bytes old new outcome.NoFrame number =
    (new ≡ old) × ((request : Request) → front_of bytes ≢ Whole request (length bytes))
Begins client bytes old new outcome.Leaves number =
    (new ≡ old) × ((request : Request) × IsFrameOf bytes request × (asked_of request ≡ None))
Begins client bytes old new outcome.Ended number = (new ≡ old) × (2 ^ 62 ≤ old.begun)
Begins client bytes old new outcome.NoMemory number =
    CoreSame old.core new.core × (new.reply ≡ old.reply) × KeepsEachJob old new
Begins client bytes old new _ number = ⊥

-- so of an outcome with the number
abbrev pub BeginsJob : ℕ → List ℕ → Mounted → Mounted → Outcome × ℕ → Type 0
BeginsJob client bytes old new told = Begins client bytes old new told.0 told.1

-- a job has steps to make, and its client is attached
abbrev pub MayStep : Mounted → Job → Type 0
MayStep m job = (job.standing ≡ standing.Open) × (has_client m.core job.client ≡ true)

-- ONE STEP OF A JOB is the core's, and the job is kept as the step left it
abbrev pub IsAdvanced : ℕ → Mounted → Mounted → Turn → Type 0
IsAdvanced number old new turn =
    (before : Job) × (after : Job) × (job_of old number ≡ Some before)
    × (job_of new number ≡ Some after) × Advances old.core before new.core after turn

-- a job is there no more, nor is anything kept of it
abbrev pub IsOver : ℕ → Mounted → Mounted → Job → Type 0
IsOver number old new job =
    CoreSame old.core new.core × (core_work new.core ≡ without (core_work old.core) job)
    × (job_of new number ≡ None) × KeepsOtherJobs old new number

-- the last step of a job was made, which gave this
abbrev pub IsEnded : ℕ → Mounted → Mounted → Turn → Type 0
IsEnded number old new turn =
    (mid : Mounted) × (before : Job) × (after : Job) × (job_of old number ≡ Some before)
    × Advances old.core before mid.core after turn × (turn ≢ turns.More)
    × CoreSame mid.core new.core × (core_work new.core ≡ without (core_work mid.core) after)
    × (job_of new number ≡ None) × KeepsOtherJobs old new number

-- the answer to a call by what its last step gave
abbrev pub answer_by : ℕ → Turn → Answer
answer_by place (turns.Done reply) = Replied place reply
answer_by place _ = NotTaken ENOMEM

-- WHAT A STEP COMES TO: more are left, or the call has its answer; a job whose client has left, or
-- that is over, goes
abbrev pub Steps : ℕ → Mounted → Mounted → Outcome → Type 0
Steps number old new outcome.More =
    IsAdvanced number old new turns.More × KeepsOtherJobs old new number × (new.reply ≡ old.reply)
Steps number old new outcome.Done =
    (turn : Turn) × IsEnded number old new turn
    × (new.reply.items ≡ answer_frame (answer_by (core_finished old.core) turn))
Steps number old new outcome.Unwritten =
    (turn : Turn) × IsEnded number old new turn × (new.reply.items ≡ [])
Steps number old new outcome.NoJob = (new ≡ old) × (job_of old number ≡ None)
Steps number old new outcome.NoClient =
    (job : Job) × (job_of old number ≡ Some job)
    × (MayStep old job → ⊥)
    × IsOver number old new job × (new.reply ≡ old.reply)
Steps number old new outcome.Ended = (new ≡ old) × (2 ^ 62 ≤ core_finished old.core)
Steps number old new _ = ⊥

-- a job is given up, if it is there
abbrev pub DropsJob : ℕ → Mounted → Mounted → Outcome → Type 0
DropsJob number old new outcome.Done =
    (job : Job) × (job_of old number ≡ Some job) × IsOver number old new job
    × (new.reply ≡ old.reply)
DropsJob number old new outcome.NoJob = (job_of old number ≡ None) × CoreSame old.core new.core
    × (job_of new number ≡ None) × KeepsOtherJobs old new number × (new.reply ≡ old.reply)
DropsJob number old new _ = ⊥
