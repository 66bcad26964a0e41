-- Which step is next.
use Rattle.std.proofs.Common.{◌≡◌, ℕ, Bool, true, false, List, Option, None, Some, refl}
use Rattle.ov_base.specs.Calls.{Call}
use Rattle.ov_base.specs.declared.call.CallOf.TheVariants as call
use Rattle.ov_base.specs.declared.errno.Errno.{Errno}
use Rattle.plain_model.specs.Layers.{Layer}
use Rattle.work_dir.specs.Beginnings.{Beginning}
use Rattle.work_dir.specs.NextSteps.{next_of}
use Rattle.work_dir.specs.declared.next.Lack.{Lack}
use Rattle.work_dir.specs.declared.next.Lack.TheVariants.{Nothing}
use Rattle.work_dir.specs.declared.next.Next.TheVariants.{Finish}
use Rattle.mount_calls.specs.Keeping.{takes_no_memory}
use Rattle.mount_calls.specs.Lacks.{lack_of, may_lack}

-- a call that lacks nothing unless it is refused finishes
pub next-ready : (refused : Option Errno) (l : Lack) (p b : ℕ) (t : Option Beginning) (size : ℕ) →
    (refused ≡ None → l ≡ Nothing) → next_of refused l p b t size ≡ Finish
next-ready (Some e) l p b t size ready = refl
next-ready None l p b t size ready = let e : l ≡ Nothing = ready refl in rw e refl

-- a call that may lack nothing does
pub plain-lacks : (U : Layer) (lowers : List Layer) (metacopy : Bool) (k : Call) (b : Bool) → b ≡ may_lack k → b ≡ false →
    lack_of U lowers metacopy k ≡ Nothing
plain-lacks U lowers metacopy (call.Chmod p mode) b is h = cc
plain-lacks U lowers metacopy (call.Chown p uid gid) b is h = cc
plain-lacks U lowers metacopy (call.SetAttribute p n v) b is h = cc
plain-lacks U lowers metacopy (call.DeleteAttribute p n) b is h = cc
plain-lacks U lowers metacopy (call.Mkdir p mode) b is h = cc
plain-lacks U lowers metacopy (call.Symlink target p) b is h = cc
plain-lacks U lowers metacopy (call.Open p f mode) b is h = cc
plain-lacks U lowers metacopy (call.Unlink p) b is h = cc
plain-lacks U lowers metacopy (call.Rmdir p) b is h = cc
plain-lacks U lowers metacopy (call.Hardlink p q) b is h = cc
plain-lacks U lowers metacopy (call.Rename p q) b is h = cc
plain-lacks U lowers metacopy (call.Stat p) b is h = refl
plain-lacks U lowers metacopy (call.Readlink p) b is h = refl
plain-lacks U lowers metacopy (call.GetAttribute p n) b is h = refl
plain-lacks U lowers metacopy (call.ListAttributes p) b is h = refl
plain-lacks U lowers metacopy (call.Read d n) b is h = refl
plain-lacks U lowers metacopy (call.Write d bytes) b is h = refl
plain-lacks U lowers metacopy (call.Seek d offset whence) b is h = refl
plain-lacks U lowers metacopy (call.Truncate d size) b is h = refl
plain-lacks U lowers metacopy (call.Fstat d) b is h = refl
plain-lacks U lowers metacopy (call.ListNames d n) b is h = refl
plain-lacks U lowers metacopy (call.Close d) b is h = refl
plain-lacks U lowers metacopy (call.Arm slot p mask) b is h = refl
plain-lacks U lowers metacopy (call.Disarm watch) b is h = refl
plain-lacks U lowers metacopy (call.TakeNotices n) b is h = refl

-- what takes no memory may lack nothing
pub plain-memory : (k : Call) → takes_no_memory k ≡ true → may_lack k ≡ false
plain-memory (call.Stat p) h = refl
plain-memory (call.Seek d offset whence) h = refl
plain-memory (call.Close d) h = refl
plain-memory (call.Disarm watch) h = refl
plain-memory (call.Chmod p mode) h = cc
plain-memory (call.Chown p uid gid) h = cc
plain-memory (call.SetAttribute p n v) h = cc
plain-memory (call.DeleteAttribute p n) h = cc
plain-memory (call.Mkdir p mode) h = cc
plain-memory (call.Symlink target p) h = cc
plain-memory (call.Open p f mode) h = cc
plain-memory (call.Unlink p) h = cc
plain-memory (call.Rmdir p) h = cc
plain-memory (call.Hardlink p q) h = cc
plain-memory (call.Rename p q) h = cc
plain-memory (call.Readlink p) h = refl
plain-memory (call.GetAttribute p n) h = refl
plain-memory (call.ListAttributes p) h = refl
plain-memory (call.Read d n) h = refl
plain-memory (call.Write d bytes) h = refl
plain-memory (call.Truncate d size) h = refl
plain-memory (call.Fstat d) h = refl
plain-memory (call.ListNames d n) h = refl
plain-memory (call.Arm slot p mask) h = refl
plain-memory (call.TakeNotices n) h = refl
