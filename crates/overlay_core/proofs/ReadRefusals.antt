-- Why a call is refused where nothing may be written: for what would refuse it else, and then for EROFS.
use Rattle.std.proofs.Common.{◌≡◌, ℕ, Bool, true, false, ◌&&◌, Option, None, Some, refl, sym, ap, ◌∙◌}
use Rattle.ov_base.specs.Calls.{Call}
use Rattle.ov_base.specs.declared.call.CallOf.TheVariants.{Stat, Readlink, Chmod, Chown}
use Rattle.ov_base.specs.declared.call.CallOf.TheVariants.{SetAttribute, GetAttribute}
use Rattle.ov_base.specs.declared.call.CallOf.TheVariants.{DeleteAttribute, ListAttributes, Mkdir}
use Rattle.ov_base.specs.declared.call.CallOf.TheVariants.{Symlink, Open, Unlink, Rmdir, Hardlink}
use Rattle.ov_base.specs.declared.call.CallOf.TheVariants.{Rename, Read, Write, Seek, Truncate}
use Rattle.ov_base.specs.declared.call.CallOf.TheVariants.{Fstat, ListNames, Close, Arm, Disarm}
use Rattle.ov_base.specs.declared.call.CallOf.TheVariants.{TakeNotices}
use Rattle.ov_base.specs.declared.errno.Errno.{Errno}
use Rattle.ov_base.specs.declared.errno.Errno.TheVariants.{EROFS}
use Rattle.plain_model.specs.Machine.{State, writable}
use Rattle.plain_model.specs.Refusals.{◌or_else◌, refusal, when, writable_refusal, writes}
use Rattle.plain_model.proofs.Looking.{refusal-reading, refusal-writable}

-- a call writes, and is refused for another reason, as where all may be written
pub same-writes : (s : State) (k : Call) → writes (writable s) k ≡ writes s k
same-writes s (Stat p) = refl
same-writes s (Readlink p) = refl
same-writes s (Chmod p mode) = refl
same-writes s (Chown p uid gid) = refl
same-writes s (SetAttribute p n v) = refl
same-writes s (GetAttribute p n) = refl
same-writes s (DeleteAttribute p n) = refl
same-writes s (ListAttributes p) = refl
same-writes s (Mkdir p mode) = refl
same-writes s (Symlink target p) = refl
same-writes s (Open p f mode) = refl
same-writes s (Unlink p) = refl
same-writes s (Rmdir p) = refl
same-writes s (Hardlink old new) = refl
same-writes s (Rename old new) = refl
same-writes s (Read fd n) = refl
same-writes s (Write fd bytes) = refl
same-writes s (Seek fd offset whence) = refl
same-writes s (Truncate fd size) = refl
same-writes s (Fstat fd) = refl
same-writes s (ListNames fd n) = refl
same-writes s (Close fd) = refl
same-writes s (Arm slot p mask) = refl
same-writes s (Disarm number) = refl
same-writes s (TakeNotices n) = refl

same-refusal : (s : State) (c : ℕ) (k : Call) → writable_refusal (writable s) c k ≡ writable_refusal s c k
same-refusal s c (Stat p) = refl
same-refusal s c (Readlink p) = refl
same-refusal s c (Chmod p mode) = refl
same-refusal s c (Chown p uid gid) = refl
same-refusal s c (SetAttribute p n v) = refl
same-refusal s c (GetAttribute p n) = refl
same-refusal s c (DeleteAttribute p n) = refl
same-refusal s c (ListAttributes p) = refl
same-refusal s c (Mkdir p mode) = refl
same-refusal s c (Symlink target p) = refl
same-refusal s c (Open p f mode) = refl
same-refusal s c (Unlink p) = refl
same-refusal s c (Rmdir p) = refl
same-refusal s c (Hardlink old new) = refl
same-refusal s c (Rename old new) = refl
same-refusal s c (Read fd n) = refl
same-refusal s c (Write fd bytes) = refl
same-refusal s c (Seek fd offset whence) = refl
same-refusal s c (Truncate fd size) = refl
same-refusal s c (Fstat fd) = refl
same-refusal s c (ListNames fd n) = refl
same-refusal s c (Close fd) = refl
same-refusal s c (Arm slot p mask) = refl
same-refusal s c (Disarm number) = refl
same-refusal s c (TakeNotices n) = refl

module _ (s : State) (c : ℕ) (k : Call) where
  other-reason : (o : Option Errno) → refusal (writable s) c k ≡ o → writable_refusal s c k ≡ o
  other-reason o is = sym (refusal-writable (writable s) c k refl ∙ same-refusal s c k) ∙ is

  -- what refuses it else comes first
  pub refused-first : (e : Errno) → refusal (writable s) c k ≡ Some e → refusal s c k ≡ Some e
  refused-first e is = ap (λ o. o or_else when (writes s k && s.options.read_only) EROFS) (other-reason (Some e) is)

  -- and EROFS where it writes
  pub refused-last : refusal (writable s) c k ≡ None → writes (writable s) k ≡ true → s.options.read_only ≡ true → refusal s c k ≡ Some EROFS
  refused-last none does only =
      ap (λ o. o or_else when (writes s k && s.options.read_only) EROFS) (other-reason None none)
      ∙ ap (λ b. when (b && s.options.read_only) EROFS) (sym (same-writes s k) ∙ does)
      ∙ ap (λ b. when b EROFS) only

  -- one that writes nothing where nothing may be written is refused as where all may be
  pub refused-as : (b : Bool) → s.options.read_only ≡ b → (b ≡ true → writes s k ≡ false) →
      refusal s c k ≡ refusal (writable s) c k
  refused-as true only never =
      refusal-reading s c k (never refl) ∙ other-reason (refusal (writable s) c k) refl
  refused-as false all never =
      refusal-writable s c k all ∙ other-reason (refusal (writable s) c k) refl
