-- The open whose file is copied, kept from step to step.
use Rattle.std.specs.Prelude.{◌≡◌, List, None, reverse, slice_get}
use Rattle.std.specs.Option.{ForSome}
use Rattle.ov_base.specs.Calls.{Call}
use Rattle.ov_base.specs.declared.call.CallOf.TheVariants.{Open}
use Rattle.plain_model.specs.Machine.{State}
use Rattle.plain_model.specs.Refusals.{refusal}
use Rattle.merged_lookup.specs.Merged.{upper_of, lowers_of}
use Rattle.work_dir.specs.declared.next.Lack.TheVariants.{File}
use Rattle.mount_calls.specs.Lacks.{lack_of, lack_size}
use Rattle.mount_calls.specs.States.{IsStateOf}
use Rattle.mount_calls.specs.declared.mount.Mount.{Mount}
use Rattle.overlay_core.specs.declared.job.Job.{Job}
use Rattle.overlay_core.specs.declared.waiting.Waiting.{Waiting}

-- its call
abbrev pub waiting_call : Waiting → Call
waiting_call w = Open (reverse w.names.items) w.flags w.mode

-- it is the call of a job
abbrev pub IsFor : Job → Waiting → Type 0
IsFor j w = (j.client ≡ w.client) × (j.call ≡ waiting_call w)

-- on this mount it isn't refused, and lacks the bytes of a file, so many, and nothing else
abbrev pub WaitsFor : Mount → Waiting → Type 0
WaitsFor m w =
    ((s : State) → IsStateOf m s → refusal s w.client (waiting_call w) ≡ None)
    × (lack_of (upper_of m.layers) (lowers_of m.layers) m.metacopy (waiting_call w) ≡ File w.source)
    × (lack_size (lowers_of m.layers) (File w.source) ≡ w.size)

-- so does the first of those that are kept, if there is one
abbrev pub WaitsForAny : Mount → List Waiting → Type 0
WaitsForAny m waiting = ForSome (slice_get waiting 0) (WaitsFor m)
