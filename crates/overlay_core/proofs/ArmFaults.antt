-- Why an arm is refused where its path can't be walked.
use Rattle.std.proofs.Common.{◌≡◌, ℕ, not, ◌&&◌, List, Some, ap}
use Rattle.ov_base.specs.declared.errno.Errno.{Errno}
use Rattle.ov_base.specs.declared.errno.Errno.TheVariants.{ELOOP, ENOTDIR}
use Rattle.plain_model.specs.Layers.{Layer, Path, is_directory, shows}
use Rattle.plain_model.specs.Refusals.{when}
use Rattle.plain_model.specs.Watching.{ONLYDIR, has_bit}
use Rattle.mount_laws.specs.Looks.{or_else, shows_link, walk_fault}
use Rattle.overlay_core.specs.PathFaults.{arm_fault}

-- the walk comes first
pub walk-arm : (Ls : List Layer) (p : Path) (mask : ℕ) (e : Errno) → walk_fault Ls p ≡ Some e →
    arm_fault Ls p mask ≡ Some e
walk-arm Ls p mask e h =
    ap (λ w. or_else (or_else w (when (shows_link (shows 0 Ls p)) ELOOP))
    (when (has_bit mask ONLYDIR && not (is_directory (shows 0 Ls p))) ENOTDIR)) h
