-- Why an arm is refused for its path.
use Rattle.std.specs.Prelude.{ℕ, not, ◌&&◌, List, Option}
use Rattle.ov_base.specs.declared.errno.Errno.{Errno}
use Rattle.ov_base.specs.declared.errno.Errno.TheVariants.{ENOTDIR}
use Rattle.plain_model.specs.Layers.{Layer, Path, is_directory, shows}
use Rattle.plain_model.specs.Refusals.{when}
use Rattle.plain_model.specs.Watching.{ONLYDIR, has_bit}
use Rattle.mount_laws.specs.Attributes.{chown_fault}
use Rattle.mount_laws.specs.Looks.{or_else}

-- the walk, then a symbolic link, and last what is no directory where one is asked for
abbrev pub arm_fault : List Layer → Path → ℕ → Option Errno
arm_fault Ls p mask = or_else (chown_fault Ls p) (when (has_bit mask ONLYDIR && not (is_directory (shows 0 Ls p))) ENOTDIR)
