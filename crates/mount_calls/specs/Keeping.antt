-- What calls leave alone.
use Rattle.std.specs.Prelude.{◌≡◌, ◌≢◌, ◌⊎◌, Bool, true, false, cond, ◌||◌, ◌&&◌, ◌∷◌, ◌++◌}
use Rattle.std.specs.Prelude.{Option, None, Some, is_none}
use Rattle.ov_base.specs.Calls.{Call}
use Rattle.ov_base.specs.declared.call.CallOf.TheVariants as call
use Rattle.plain_model.specs.Layers.{Name, Path, held, holds_directory, shows, AreLayers}
use Rattle.plain_model.specs.Laws.{IsOutside}
use Rattle.mount_laws.specs.Moving.{Follows}
use Rattle.layer_tree.specs.Tree.{layer_of, SameObjects}
use Rattle.merged_lookup.specs.declared.layers.Layers.{Layers}
use Rattle.merged_lookup.specs.Merged.{layers_of}
use Rattle.copy_up.specs.Showing.{is_object, KeepsPath}
use Rattle.copy_up.specs.Texts.{KeepsTexts}
use Rattle.rename_redirect.specs.Renaming.{is_one, KeepsMoved}
use Rattle.mount_calls.specs.Living.{KeepsPaths}

-- the calls that take no memory, and so never want it
abbrev pub takes_no_memory : Call → Bool
takes_no_memory (call.Stat p) = true
takes_no_memory (call.Seek d offset whence) = true
takes_no_memory (call.Close d) = true
takes_no_memory (call.Disarm watch) = true
takes_no_memory _ = false

-- the upper holds at x what it held, or nothing where at most a whiteout was
abbrev pub LosesNoObject : Layers → Layers → Path → Type 0
LosesNoObject old new x =
    (held (layer_of new.upper) x ≡ held (layer_of old.upper) x)
    ⊎ ((is_object (held (layer_of old.upper) x) ≡ false) × (held (layer_of new.upper) x ≡ None))

-- Outside of p the upper holds what it held, but for missing parents of p that it gained, each as
-- it was shown. Below p it gains nothing, and loses whiteouts at most.
pub record KeepsAround (old new : Layers) (p : Path) : Type 0 where
  pub outside : (x : Path) → IsOutside p x → KeepsPath old new p x
  pub below : (n : Name) (r : Path) → LosesNoObject old new (n ∷ r ++ p)

-- the upper holds no directory at p
abbrev pub HoldsNoDirectory : Layers → Path → Type 0
HoldsNoDirectory l p = holds_directory (held (layer_of l.upper) p) ≡ false

-- So it is around p, and at p the upper holds what it held, or no directory.
pub record BringsNone (old new : Layers) (p : Path) : Type 0 where
  pub around : KeepsAround old new p
  pub here :
      (held (layer_of new.upper) p ≡ held (layer_of old.upper) p) ⊎ HoldsNoDirectory new p

-- the upper holds at x what it held, or x is a missing parent of p, or of q, that it gained
abbrev pub KeepsEither : Layers → Layers → Path → Path → Path → Type 0
KeepsEither old new p q x = KeepsPath old new p x ⊎ KeepsPath old new q x

-- At every path but p and q the upper holds what it held, but for missing parents of the two that
-- it gained, each as it was shown. So it is at p and q too, or it holds no directory there.
pub record KeepsBut (old new : Layers) (p q : Path) : Type 0 where
  pub others : (x : Path) → x ≢ p → x ≢ q → KeepsEither old new p q x
  pub ends :
      ((x : Path) → KeepsEither old new p q x)
      ⊎ (AreLayers (layers_of old) → HoldsNoDirectory new p × HoldsNoDirectory new q)

-- What the upper held at a path other than p, it holds at the path that follows it where p moves to
-- q, but for missing parents of the two that it gained, each as it was shown. It holds no directory
-- at p then.
pub record MovesAlong (old new : Layers) (p q : Path) : Type 0 where
  pub along : (x y : Path) → Follows p q x y → x ≢ p → KeepsMoved old new p q x y
  pub left : HoldsNoDirectory new p

-- Where p and q are one object, the layers stay the very same. Else what the upper held below p went
-- along to q, and all else stayed, but for missing parents that it gained; or it gained these alone.
pub record KeepsRenamed (old new : Layers) (p q : Path) : Type 0 where
  pub one : is_one (layer_of old.upper) p q ≡ true → new ≡ old
  pub paths : MovesAlong old new p q ⊎ ((x : Path) → KeepsMoved old new p q x x)

-- What a call leaves of what the upper holds at its paths. One that changes something at a path leaves what the upper holds
-- around it, but for missing parents of the path that it gained; so does an open that writes, or that
-- makes the file where nothing is shown. A link does so with its two paths, and a rename too, but what
-- the upper holds below the old path goes along. Where the call's own object is no directory that
-- stays, none comes at its path. A write and a truncate leave what every path holds, and a close may
-- free a file without a name. Every other call leaves the layers the very same.
abbrev pub LeavesPaths : Call → Layers → Layers → Type 0
LeavesPaths (call.Chmod p mode) old new = KeepsAround old new p
LeavesPaths (call.Chown p uid gid) old new = KeepsAround old new p
LeavesPaths (call.SetAttribute p n v) old new = KeepsAround old new p
LeavesPaths (call.DeleteAttribute p n) old new = KeepsAround old new p
LeavesPaths (call.Mkdir p mode) old new = KeepsAround old new p
LeavesPaths (call.Symlink target p) old new = BringsNone old new p
LeavesPaths (call.Unlink p) old new = BringsNone old new p
LeavesPaths (call.Rmdir p) old new = BringsNone old new p
LeavesPaths (call.Hardlink p q) old new = KeepsBut old new p q
LeavesPaths (call.Rename p q) old new = KeepsRenamed old new p q
LeavesPaths (call.Open p f mode) old new =
    cond (f.writes || (f.create && is_none (shows 0 (layers_of old) p)))
    (BringsNone old new p) (new ≡ old)
LeavesPaths (call.Write d bytes) old new = SameObjects (layer_of old.upper) (layer_of new.upper)
LeavesPaths (call.Truncate d size) old new = SameObjects (layer_of old.upper) (layer_of new.upper)
LeavesPaths (call.Close d) old new = KeepsPaths old new
LeavesPaths _ old new = new ≡ old

-- the path at which a call may mark a file, so that its bytes stay in the lower layers: the first
-- of those calls that change attributes, or give or change a name
abbrev pub marked_path : Call → Option Path
marked_path (call.Chmod p mode) = Some p
marked_path (call.Chown p uid gid) = Some p
marked_path (call.SetAttribute p n v) = Some p
marked_path (call.DeleteAttribute p n) = Some p
marked_path (call.Hardlink p q) = Some p
marked_path (call.Rename p q) = Some p
marked_path _ = None

-- WHAT A CALL LEAVES OF THE LAYERS: of what the upper holds at its paths, and of the marks of files.
-- Each mark of the upper is one that its inode had, or the spelling that the call's old path had for
-- the layers below.
pub record KeepsLayers (call : Call) (old new : Layers) : Type 0 where
  pub paths : LeavesPaths call old new
  pub texts : KeepsTexts old new (marked_path call)
