-- The open jobs by their numbers.
use Rattle.std.specs.Prelude.{◌≡◌, ◌≢◌, ◌<◌, ℕ, Bool, false, cond, length, List, Option, Some, None, is_some, option_map, unwrap_or, nat_eq, slice_get, slice_set, IsSomeAnd}
use Rattle.work_dir.specs.declared.table.OpenJob.{OpenJob}
use Rattle.work_dir.specs.Beginnings.{longer_beginning, Beginning, IsBeginning}

-- the open job under a number
abbrev pub job_at : List (Option OpenJob) → ℕ → Option OpenJob
job_at work n = unwrap_or (slice_get work n) None

-- the temp of an open job
abbrev pub temp_of : Option OpenJob → Option Beginning
temp_of (Some o) = o.temp
temp_of None = None

-- the temp under a number
abbrev pub temp_at : List (Option OpenJob) → ℕ → Option Beginning
temp_at work n = temp_of (job_at work n)

-- whether there is a temp
abbrev pub has_temp : Option OpenJob → Bool
has_temp o = is_some (temp_of o)

-- whether it is a client's job
abbrev pub is_of : ℕ → Option OpenJob → Bool
is_of client (Some o) = nat_eq o.client client
is_of client None = false

-- a job, where it is the client's
abbrev pub of_client : ℕ → Option OpenJob → Option OpenJob
of_client client o = cond (is_of client o) o None

-- a job, where it is not the client's
abbrev pub unless_of : ℕ → Option OpenJob → Option OpenJob
unless_of client o = cond (is_of client o) None o

-- a job whose temp has one chunk more of its file
abbrev pub with_chunk : Option OpenJob → Option OpenJob
with_chunk (Some o) = Some (record o { temp = option_map longer_beginning o.temp })
with_chunk None = None

-- the job has a temp, which is a beginning of its file and has not all of its bytes
abbrev pub LacksBytes : Option OpenJob → Type 0
LacksBytes o = IsSomeAnd (temp_of o) (λ t. IsBeginning t × (length t.bytes < length t.whole))

-- the number is in the table, and no job stands under it
abbrev pub IsFree : List (Option OpenJob) → ℕ → Type 0
IsFree work n = slice_get work n ≡ Some None

-- no number in the table is free
abbrev pub IsFull : List (Option OpenJob) → Type 0
IsFull work = (n : ℕ) → slice_get work n ≢ Some None

-- under each number stands what stood there
abbrev pub Same : List (Option OpenJob) → List (Option OpenJob) → Type 0
Same old new = (n : ℕ) → job_at new n ≡ job_at old n

-- under this number stands now this, and under every other what stood there
pub record Changes (old new : List (Option OpenJob)) (n : ℕ) (x : Option OpenJob) : Type 0 where
  pub here : job_at new n ≡ x
  pub others : (m : ℕ) → m ≢ n → job_at new m ≡ job_at old m

-- the open jobs without the one under a number, where that is the client's
abbrev pub closed : List (Option OpenJob) → ℕ → ℕ → List (Option OpenJob)
closed work n client = slice_set work n (unless_of client (job_at work n))

-- the same for a job that may have no number
abbrev pub closed_any : List (Option OpenJob) → Option ℕ → ℕ → List (Option OpenJob)
closed_any work (Some n) client = closed work n client
closed_any work None client = work

-- a temp, where it has so many chunks
abbrev pub of_chunks : ℕ → Option Beginning → Option Beginning
of_chunks chunks (Some t) = cond (nat_eq t.chunks chunks) (Some t) None
of_chunks chunks None = None

-- The temp that a job holds: the one under its number, where that is its client's and has as many
-- chunks as the job counts.
abbrev pub held : List (Option OpenJob) → Option ℕ → ℕ → ℕ → Option Beginning
held work (Some n) client chunks = of_chunks chunks (temp_of (of_client client (job_at work n)))
held work None client chunks = None
