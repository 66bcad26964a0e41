-- The jobs of a mount: the calls that are made in steps.
use Rattle.std.specs.Prelude.{◌≡◌, ◌≢◌, ℕ, Option}
use Rattle.std.specs.BTreeMap.{get}
use Rattle.std.specs.Ordering.{nat_cmp}
use Rattle.overlay_core.specs.declared.job.Job.{Job}
use Rattle.ov_embedded.specs.declared.mounted.Mounted.{Mounted}

-- the job of a number
abbrev pub job_of : Mounted → ℕ → Option Job
job_of m number = get nat_cmp m.jobs number

-- the jobs are the same, and the text that was saved last
abbrev pub KeepsJobs : Mounted → Mounted → Type 0
KeepsJobs old new =
    (new.jobs ≡ old.jobs) × (new.begun ≡ old.begun) × (new.saved ≡ old.saved)

-- each number has the same job
abbrev pub KeepsEachJob : Mounted → Mounted → Type 0
KeepsEachJob old new =
    ((n : ℕ) → job_of new n ≡ job_of old n) × (new.begun ≡ old.begun) × (new.saved ≡ old.saved)

-- each but one has
abbrev pub AreOthers : Mounted → Mounted → ℕ → Type 0
AreOthers old new number = (n : ℕ) → n ≢ number → job_of new n ≡ job_of old n

abbrev pub KeepsOtherJobs : Mounted → Mounted → ℕ → Type 0
KeepsOtherJobs old new number =
    AreOthers old new number × (new.begun ≡ old.begun) × (new.saved ≡ old.saved)

-- all but the core is the same
abbrev pub KeepsRest : Mounted → Mounted → Type 0
KeepsRest old new = (new.reply ≡ old.reply) × KeepsJobs old new
