-- The faults of the program.
use Rattle.std.specs.Prelude.{◌≡◌, ℕ, ◌<◌, pred, cond, List, Result, Ok, Err}
use Rattle.toml.specs.Data.{Members}
use Rattle.ov_wire.specs.Manifests.{has_upper, layer_count}
use Rattle.ov_wire.specs.ManifestLayers.{manifest_of}
use Rattle.ov_wire.specs.declared.manifest.fault.ManifestFault.{ManifestFault}
use Rattle.ov_wire.specs.declared.manifest.fault.ManifestFault.TheVariants as manifest
use Rattle.ov_server.specs.Rosters.{Layering}
use Rattle.ov_server.specs.declared.fault.DeviceFault.{DeviceFault}
use Rattle.ov_server.specs.declared.fault.DeviceFault.TheVariants as device
use Rattle.ov_server.specs.declared.fault.Fault.{Fault}
use Rattle.ov_server.specs.declared.fault.Fault.TheVariants.{CannotReadManifest, CannotReadBlob, Manifest, Stream, Socket, BadCommand, Memory}
use Rattle.ov_server.specs.declared.fault.Fault.TheVariants.{SaveWithoutEnd, HistoryOfNone, NoUpper, CannotSave, CannotWriteStatus, LeftOut}
use Rattle.ov_server.specs.declared.fault.Fault.TheVariants.{CannotReadScript, CannotReadUpper, InputTwice, Upper}

-- the exit status of a fault
abbrev pub status_of : Fault → ℕ
status_of CannotReadManifest = 1
status_of (CannotReadBlob blob) = 1
status_of (Manifest fault) = 1
status_of CannotReadScript = 1
status_of CannotReadUpper = 1
status_of (Upper fault) = 1
status_of Stream = 1
status_of Socket = 1
status_of SaveWithoutEnd = 2
status_of HistoryOfNone = 2
status_of InputTwice = 2
status_of NoUpper = 1
status_of CannotSave = 1
status_of CannotWriteStatus = 1
status_of (LeftOut objects) = 1
status_of (BadCommand line) = 2
status_of Memory = 3

-- the fault of a device
abbrev pub device_fault : DeviceFault → Fault
device_fault device.Stream = Stream
device_fault device.Memory = Memory

-- the fault of a manifest
abbrev pub manifest_fault : ManifestFault → Fault
manifest_fault (manifest.Memory error) = Memory
manifest_fault fault = Manifest fault

-- an allocation failure
abbrev pub memory : Fault
memory = Memory

abbrev pub no_memory : DeviceFault
no_memory = device.Memory

-- the layers of a manifest
abbrev pub layering_of : Members → Layering
layering_of m = (has_upper m, cond (has_upper m) (pred (layer_count m)) (layer_count m))

-- a run ends by this fault of its manifest, unless memory ran out
abbrev pub EndsByManifest : {T : Type 0} → Result T Fault → ManifestFault → Type 0
EndsByManifest (Ok x) wanted = ⊥
EndsByManifest (Err Memory) wanted = Unit {0}
EndsByManifest (Err fault) wanted = fault ≡ Manifest wanted

-- a run tells no fault of its manifest, whose blobs have these bytes, but the first, and ends by it where there is one, unless memory ran out
pub record AnswersManifest {T : Type 0} (blobs : List (List ℕ)) (m : Members) (result : Result T Fault) : Type 0 where
  pub told : (f : ManifestFault) → result ≡ Err (Manifest f) → manifest_of blobs m ≡ Err f
  pub ends : (f : ManifestFault) → manifest_of blobs m ≡ Err f → EndsByManifest result f

-- how the reading of a manifest ends early
abbrev pub IsManifestFault : Fault → Type 0
IsManifestFault (Manifest fault) = Unit {0}
IsManifestFault Memory = Unit {0}
IsManifestFault _ = ⊥

-- how `show` ends early: also by its output, where that has failed
abbrev pub IsShowFault : ℕ → Fault → Type 0
IsShowFault failures Stream = 0 < failures
IsShowFault failures fault = IsManifestFault fault
