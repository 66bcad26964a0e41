-- What is asked of a mount through a handle, which holds one or none.
use Rattle.std.specs.Prelude.{◌≡◌, Option}
use Rattle.std.specs.declared.option.Option.TheVariants.{None, Some}
use Rattle.ov_embedded.specs.declared.mounted.Mounted.{Mounted}

-- A HANDLE HOLDS ITS MOUNT STILL, to which this was done; where it holds none it holds none, and
-- this is answered
abbrev pub Through : {R : Type 0} → R → (Mounted → Mounted → R → Type 0) →
    Option Mounted → Option Mounted → R → Type 0
Through none Does None new result = (new ≡ None) × (result ≡ none)
Through none Does (Some old) new result =
    (after : Mounted) × (new ≡ Some after) × Does old after result
