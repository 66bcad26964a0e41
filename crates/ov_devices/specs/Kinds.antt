-- What the errors of the host are.
use Rattle.std.specs.Prelude.{◌≡◌, ◌≢◌, ◌⊎◌}
use Rattle.std.specs.declared.io.ErrorKind.{ErrorKind}
use Rattle.std.specs.declared.io.ErrorKind.TheVariants as kinds
use Rattle.ov_devices.specs.declared.fault.Fault.{Fault}
use Rattle.ov_devices.specs.declared.fault.Fault.TheVariants as faults

-- only an error of that kind is want of memory; each other one is a failure
abbrev pub IsFaultOf : ErrorKind → Fault → Type 0
IsFaultOf kind fault =
    ((kind ≡ kinds.OutOfMemory) × (fault ≡ faults.Memory))
    ⊎ ((kind ≢ kinds.OutOfMemory) × (fault ≡ faults.Failed))
