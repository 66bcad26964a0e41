-- What devices leave: how often they have failed.
use Rattle.std.specs.Prelude.{◌≡◌, ℕ, ◌<◌, Result, Ok, Err, ◌⊎◌}
use Rattle.ov_server.specs.declared.fault.DeviceFault.{DeviceFault}
use Rattle.ov_server.specs.declared.fault.DeviceFault.TheVariants.{Stream, Memory}

-- how often a device has failed before and after a fault; an allocation failure is none
abbrev pub Notes : ℕ → ℕ → DeviceFault → Type 0
Notes before after Stream = 0 < after
Notes before after Memory = after ≡ before

-- the same of a call
abbrev pub Marks : {T : Type 0} → ℕ → ℕ → Result T DeviceFault → Type 0
Marks before after (Ok x) = after ≡ before
Marks before after (Err fault) = Notes before after fault

-- a stream is told at fault only where a device has failed
abbrev pub IsToldBy : ℕ → DeviceFault → Type 0
IsToldBy failures Stream = 0 < failures
IsToldBy failures Memory = Unit {0}

-- a read fails by its stream only where the input has failed, or no read is left
abbrev pub IsInputFault : ℕ → ℕ → ℕ → DeviceFault → Type 0
IsInputFault failures reads most Stream = (0 < failures) ⊎ (reads ≡ most)
IsInputFault failures reads most Memory = Unit {0}
