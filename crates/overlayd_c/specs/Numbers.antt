-- What the numbers that C gets say.
use Rattle.std.specs.Prelude.{◌≡◌, ℕ, ℤ, pos, List, Option, None, Result, Ok, Err}
use Rattle.ov_base.specs.declared.place.Place.{Place}
use Rattle.ov_base.specs.Errnos as errors
use Rattle.ov_embedded.specs.Attending.{Attends, Departs}
use Rattle.ov_embedded.specs.Calling.{Comes, IsAgain, IsShown}
use Rattle.ov_embedded.specs.Mounting.{MountsInto, MountsOnInto}
use Rattle.ov_embedded.specs.Moving.{ReadsOff, WritesOff}
use Rattle.ov_embedded.specs.Naming.{TellsNames}
use Rattle.ov_embedded.specs.Placing.{Places}
use Rattle.ov_embedded.specs.Saving.{ListsLayer, Recalls, Saves}
use Rattle.ov_embedded.specs.Stepping.{BeginsJob, DropsJob, Steps}
use Rattle.ov_embedded.specs.Through.{Through}
use Rattle.ov_embedded.specs.declared.mounted.Mounted.{Mounted}
use Rattle.ov_embedded.specs.declared.outcome.Outcome.{Outcome}
use Rattle.ov_embedded.specs.declared.outcome.Outcome.TheVariants as outcome
use Rattle.ov_embedded.specs.declared.saving.Saved.{Saved}

-- the number of an outcome: `enum ovl_status`
abbrev pub number_of : Outcome → ℕ
number_of outcome.Done = 0
number_of outcome.Unwritten = 1
number_of outcome.NotMounted = 2
number_of outcome.NoClient = 3
number_of outcome.NoFrame = 4
number_of outcome.Leaves = 5
number_of outcome.Ended = 6
number_of outcome.NoMemory = 7
number_of outcome.Full = 8
number_of outcome.Fault = 9
number_of outcome.Mounted = 10
number_of outcome.More = 11
number_of outcome.NoJob = 12
number_of (outcome.Refused errno) = 13
number_of outcome.NoUpper = 14
number_of outcome.Upper = 15
number_of outcome.NoLayer = 16

-- the error number of an outcome, or 0
abbrev pub error_of : Outcome → ℕ
error_of (outcome.Refused errno) = errors.number_of errno
error_of _ = 0

-- a number is told where there is one, and else why there is none
abbrev pub Tells : Result ℕ Outcome → ℕ → ℕ → ℤ → Type 0
Tells (Ok n) old new status = (new ≡ n) × (status ≡ pos 0)
Tells (Err why) old new status = (new ≡ old) × (status ≡ pos (number_of why))

-- a mount was made, or the number says why not
abbrev pub IsMade : List ℕ → List ℕ → List ℕ → Option Mounted → Option Mounted → ℤ → Type 0
IsMade manifest blobs lengths old new status =
    (came : Outcome) × (status ≡ pos (number_of came))
    × MountsInto manifest blobs lengths old new came

-- so was one that goes on with a saved upper
abbrev pub IsMadeOn : List ℕ → List ℕ → List ℕ → List ℕ → Option Mounted → Option Mounted → ℤ →
    Type 0
IsMadeOn upper manifest blobs lengths old new status =
    (came : Outcome) × (status ≡ pos (number_of came))
    × MountsOnInto upper manifest blobs lengths old new came

-- the names of a manifest's blobs are in the room, or the number says why not
abbrev pub AreNamed : List ℕ → List ℕ → List ℕ → ℕ → ℕ → ℤ → Type 0
AreNamed manifest before after told count status =
    (came : Outcome) × (status ≡ pos (number_of came))
    × TellsNames manifest before after came told count

-- a client was attached, or detached, as the number says
abbrev pub IsAttached : Option Mounted → Option Mounted → ℕ → ℕ → ℤ → Type 0
IsAttached old new before after status =
    (told : Result ℕ Outcome) × Through (Err outcome.NotMounted) Attends old new told
    × Tells told before after status

abbrev pub IsDetached : ℕ → Option Mounted → Option Mounted → ℕ → ℕ → ℤ → Type 0
IsDetached client old new before after status =
    (told : Result ℕ Outcome) × Through (Err outcome.NotMounted) (Departs client) old new told
    × Tells told before after status

-- a call came to what the number says, and its reply is shown
abbrev pub IsCalled : ℕ → List ℕ → Option Mounted → Option Mounted → List ℕ → List ℕ → ℕ → ℤ →
    Type 0
IsCalled client bytes old new before after count status =
    (came : Outcome) × (status ≡ pos (number_of came))
    × Through outcome.NotMounted (Comes client bytes) old new came
    × IsShown came new before after count

-- the last reply is shown again
abbrev pub IsRepeated : Option Mounted → Option Mounted → List ℕ → List ℕ → ℕ → ℤ → Type 0
IsRepeated old new before after count status =
    (came : Outcome) × (status ≡ pos (number_of came))
    × Through outcome.NotMounted IsAgain old new came × IsShown came new before after count

-- a call was taken as a job, or the number says what came of it; a reply is shown
abbrev pub IsBegun : ℕ → List ℕ → Option Mounted → Option Mounted → ℕ → List ℕ → List ℕ → ℕ → ℤ →
    Type 0
IsBegun client bytes old new job before after count status =
    (came : Outcome) × (status ≡ pos (number_of came))
    × Through (outcome.NotMounted, 0) (BeginsJob client bytes) old new (came, job)
    × IsShown came new before after count

-- a step came to what the number says; a reply is shown
abbrev pub IsStepped : ℕ → Option Mounted → Option Mounted → List ℕ → List ℕ → ℕ → ℤ → Type 0
IsStepped job old new before after count status =
    (came : Outcome) × (status ≡ pos (number_of came))
    × Through outcome.NotMounted (Steps job) old new came × IsShown came new before after count

-- a job was given up, or was none
abbrev pub IsDropped : ℕ → Option Mounted → Option Mounted → ℤ → Type 0
IsDropped job old new status =
    (came : Outcome) × (status ≡ pos (number_of came))
    × Through outcome.NotMounted (DropsJob job) old new came

-- how many bytes were moved is told, or why none were
abbrev pub Counts : Result ℕ Outcome → ℕ → ℕ → ℤ → Type 0
Counts (Ok n) count error status = (count ≡ n) × (error ≡ 0) × (status ≡ pos 0)
Counts (Err why) count error status =
    (count ≡ 0) × (error ≡ error_of why) × (status ≡ pos (number_of why))

-- bytes were read into the room, or written, as the numbers say
abbrev pub IsRead : ℕ → ℕ → List ℕ → List ℕ → Option Mounted → Option Mounted → ℕ → ℕ → ℤ → Type 0
IsRead client descriptor before after old new count error status =
    (told : Result ℕ Outcome)
    × Through (Err outcome.NotMounted) (ReadsOff client descriptor before after) old new told
    × (old ≡ None → after ≡ before) × Counts told count error status

abbrev pub IsWritten : ℕ → ℕ → List ℕ → Option Mounted → Option Mounted → ℕ → ℕ → ℤ → Type 0
IsWritten client descriptor bytes old new count error status =
    (told : Result ℕ Outcome)
    × Through (Err outcome.NotMounted) (WritesOff client descriptor bytes) old new told
    × Counts told count error status

-- a place is told where there is one, and else why there is none
abbrev pub TellsPlace : Result Place Outcome → ℕ → ℕ → ℕ → ℕ → ℕ → ℤ → Type 0
TellsPlace (Ok place) layer layer' key key' error status =
    (layer' ≡ place.layer) × (key' ≡ place.key) × (error ≡ 0) × (status ≡ pos 0)
TellsPlace (Err why) layer layer' key key' error status =
    (layer' ≡ layer) × (key' ≡ key) × (error ≡ error_of why) × (status ≡ pos (number_of why))

-- what a path shows was placed, as the numbers say
abbrev pub IsPlaced : List ℕ → Option Mounted → Option Mounted → ℕ → ℕ → ℕ → ℕ → ℕ → ℤ → Type 0
IsPlaced text old new layer layer' key key' error status =
    (told : Result Place Outcome) × Through (Err outcome.NotMounted) (Places text) old new told
    × TellsPlace told layer layer' key key' error status

-- how long a saved upper is, and how much was left out, is told, or why nothing was saved
abbrev pub TellsSaved : Result Saved Outcome → ℕ → ℕ → ℤ → Type 0
TellsSaved (Ok it) length left_out status =
    (length ≡ it.length) × (left_out ≡ it.left_out) × (status ≡ pos 0)
TellsSaved (Err why) length left_out status =
    (length ≡ 0) × (left_out ≡ 0) × (status ≡ pos (number_of why))

-- the upper was saved, as the numbers say
abbrev pub IsSaved : Option Mounted → Option Mounted → ℕ → ℕ → ℤ → Type 0
IsSaved old new length left_out status =
    (told : Result Saved Outcome) × Through (Err outcome.NotMounted) Saves old new told
    × TellsSaved told length left_out status

-- how many bytes are there is told, or why none are
abbrev pub TellsCount : Result ℕ Outcome → ℕ → ℤ → Type 0
TellsCount (Ok n) count status = (count ≡ n) × (status ≡ pos 0)
TellsCount (Err why) count status = (count ≡ 0) × (status ≡ pos (number_of why))

-- a piece of what was saved last is in the room, as the numbers say
abbrev pub IsRecalled : ℕ → List ℕ → List ℕ → Option Mounted → Option Mounted → ℕ → ℤ → Type 0
IsRecalled at before after old new count status =
    (told : Result ℕ Outcome)
    × Through (Err outcome.NotMounted) (Recalls at before after) old new told
    × (old ≡ None → after ≡ before) × TellsCount told count status

-- the lines of a layer are kept, as the numbers say
abbrev pub IsListed : ℕ → Option Mounted → Option Mounted → ℕ → ℤ → Type 0
IsListed layer old new length status =
    (told : Result ℕ Outcome)
    × Through (Err outcome.NotMounted) (ListsLayer layer) old new told
    × TellsCount told length status
