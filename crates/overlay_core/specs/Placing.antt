-- What placing a parent for a call does to a mount.
use Rattle.std.specs.Prelude.{◌≡◌, ℕ, Bool, IfSome}
use Rattle.ov_base.specs.Calls.{Call}
use Rattle.copy_up.specs.Needs.{first_names}
use Rattle.copy_up.specs.Showing.{GainsParent, StaysThin}
use Rattle.mount_calls.specs.Keeping.{KeepsLayers}
use Rattle.mount_calls.specs.Lacks.{path_of_call}
use Rattle.mount_calls.specs.Living.{StaysLive}
use Rattle.mount_calls.specs.States.{StaysState}
use Rattle.mount_calls.specs.declared.mount.Mount.{Mount}

-- The directory at so many names of a path of the call comes up where it was placed, and nothing else
-- changes; the mount stands for the states of before.
pub record PlacesFor (old new : Mount) (call : Call) (second : Bool) (count : ℕ) (IsPlaced : Type 0) : Type 0 where
  pub stays : StaysState old new
  pub live : StaysLive old.layers new.layers
  pub placed : IsPlaced → IfSome (path_of_call call second) (λ p. GainsParent old.layers new.layers (first_names count p))
  pub layers : KeepsLayers call old.layers new.layers
  pub lowers : new.layers.lowers ≡ old.layers.lowers
  pub thin : StaysThin old.layers new.layers
  pub only : new ≡ record old { layers = new.layers }
