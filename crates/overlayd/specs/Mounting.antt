-- The core of a mount that is to be served.
use Rattle.std.specs.Prelude.{Bool, true, false}
use Rattle.overlay_core.specs.declared.mounted.Core.{Core}
use Rattle.locked_history.specs.Names as kept
use Rattle.endless_mount.specs.Names as endless
use Rattle.overlayd.specs.declared.mounting.Mounting.{Mounting}
use Rattle.overlayd.specs.declared.mounting.Mounting.TheVariants.{Kept, Endless}
use Rattle.watch_table.specs.declared.hook.Callback.{Ghosts as Callback}
use Rattle.watch_table.specs.declared.hook.Rule.{Ghosts as Rule}

module _ {F G : Type 0} {asks : Callback F} {rule : Rule G} where
  -- its core
  abbrev pub core_in : Mounting F G asks rule → Core F G asks rule
  core_in (Kept blank) = kept.blank_core blank
  core_in (Endless blank) = endless.blank_core blank

  -- whether its history is kept nowhere
  abbrev pub is_endless : Mounting F G asks rule → Bool
  is_endless (Kept blank) = false
  is_endless (Endless blank) = true
