-- Which marks, redirects and whiteouts a call leaves in the upper (overlayfs.rst, "whiteouts and opaque directories" and
-- "redirect_dir").
use Rattle.std.specs.Prelude.{◌≡◌, true, false, None, Result, IfOk}
use Rattle.std.specs.declared.alloc.AllocError.{AllocError}
use Rattle.ov_base.specs.Calls.{Call}
use Rattle.ov_base.specs.declared.call.CallOf.TheVariants as call
use Rattle.ov_base.specs.declared.reply.Reply.{Reply}
use Rattle.ov_base.specs.declared.reply.Reply.TheVariants.{Done}
use Rattle.plain_model.specs.Layers.{Path, held, shows, is_directory}
use Rattle.layer_tree.specs.Tree.{layer_of}
use Rattle.merged_lookup.specs.declared.layers.Layers.{Layers}
use Rattle.merged_lookup.specs.Merged.{layers_of}
use Rattle.mount_laws.specs.Renaming.{is_one}
use Rattle.make_remove.specs.Making.{shown_under}
use Rattle.make_remove.specs.Removing.{left_at}
use Rattle.rename_redirect.specs.Renaming.{HasMarks, MovesMarks}

-- the name p went from the upper: a whiteout stands there exactly where the lower layers show something, else nothing
abbrev pub LeavesName : Layers → Layers → Path → Type 0
LeavesName old new p = held (layer_of new.upper) p ≡ left_at old p

-- What p showed moved to q. A directory that moved has these marks: a base one is not opaque, and its redirect is the absolute path by
-- which the layer below finds its old path; any other is opaque exactly where the lower layers show a directory at q, and has no redirect.
pub record LeavesMoved (old new : Layers) (p q : Path) : Type 0 where
  pub left : LeavesName old new p
  pub marks : is_directory (shows 0 (layers_of old) p) ≡ true → MovesMarks old new p q

-- WHAT A CALL LEAVES THAT IS DONE. A directory that was made is opaque exactly where the lower layers show a directory at its path, and
-- has no redirect. A name that was removed leaves a whiteout exactly where they show something there. A rename does so with its old path,
-- and a directory that moved has the marks of its new place; one of two names of one object changes nothing (KeepsLayers).
abbrev pub LeavesMarks : Call → Layers → Layers → Type 0
LeavesMarks (call.Mkdir p mode) old new = HasMarks (layer_of new.upper) p (shown_under old p) None
LeavesMarks (call.Unlink p) old new = LeavesName old new p
LeavesMarks (call.Rmdir p) old new = LeavesName old new p
LeavesMarks (call.Rename p q) old new = is_one (layer_of old.upper) p q ≡ false → LeavesMoved old new p q
LeavesMarks _ old new = Unit {0}

-- so it is where the call was answered that it is done
abbrev pub MarksIfDone : Call → Layers → Layers → Result Reply AllocError → Type 0
MarksIfDone k old new result = IfOk result (λ r. r ≡ Done → LeavesMarks k old new)
