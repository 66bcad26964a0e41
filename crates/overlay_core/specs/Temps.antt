-- The temps of the open jobs: each is a beginning of a lower file.
use Rattle.std.specs.Prelude.{◌≡◌, ℕ, List, Option, Some}
use Rattle.std.specs.Option.{ForSome}
use Rattle.plain_model.specs.Layers.{Layer}
use Rattle.work_dir.specs.Beginnings.{Beginning, IsBeginning}
use Rattle.work_dir.specs.OpenJobs.{temp_at}
use Rattle.work_dir.specs.declared.table.OpenJob.{OpenJob}
use Rattle.mount_calls.specs.Lacks.{bytes_at}

-- it shares the bytes of its file, and has the first of them, as many as its chunks hold
abbrev pub IsTemp : List Layer → Beginning → Type 0
IsTemp lowers t = (bytes_at lowers t.source ≡ Some t.whole) × IsBeginning t

-- each temp of an open job is one
abbrev pub AreTemps : List Layer → List (Option OpenJob) → Type 0
AreTemps lowers work = (n : ℕ) → ForSome (temp_at work n) (IsTemp lowers)
