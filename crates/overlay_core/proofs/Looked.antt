-- Which calls have paths that are looked at before they are planned.
use Rattle.std.proofs.Common.{◌≡◌, Bool, true, false, List, [], ◌∷◌, refl, sym, ap, ◌∙◌}
use Rattle.ov_base.specs.Calls.{Call}
use Rattle.ov_base.specs.declared.call.CallOf.TheVariants as call
use Rattle.plain_model.specs.Layers.{Path}
use Rattle.mount_calls.specs.Lacks.{may_lack}
use Rattle.mount_calls.specs.Looking.{looked_paths}

abbrev has_some : List Path → Bool
has_some [] = false
has_some (p ∷ ps) = true

-- those that may lack something
may-looked : (k : Call) → may_lack k ≡ has_some (looked_paths k)
may-looked (call.Chmod p mode) = refl
may-looked (call.Chown p uid gid) = refl
may-looked (call.SetAttribute p n v) = refl
may-looked (call.DeleteAttribute p n) = refl
may-looked (call.Mkdir p mode) = refl
may-looked (call.Symlink target p) = refl
may-looked (call.Open p f mode) = refl
may-looked (call.Unlink p) = refl
may-looked (call.Rmdir p) = refl
may-looked (call.Hardlink p q) = refl
may-looked (call.Rename p q) = refl
may-looked (call.Stat p) = refl
may-looked (call.Readlink p) = refl
may-looked (call.GetAttribute p n) = refl
may-looked (call.ListAttributes p) = refl
may-looked (call.Read d n) = refl
may-looked (call.Write d bytes) = refl
may-looked (call.Seek d offset whence) = refl
may-looked (call.Truncate d size) = refl
may-looked (call.Fstat d) = refl
may-looked (call.ListNames d n) = refl
may-looked (call.Close d) = refl
may-looked (call.Arm slot p mask) = refl
may-looked (call.Disarm watch) = refl
may-looked (call.TakeNotices n) = refl

-- a call without such paths may lack nothing
pub none-looked : (k : Call) → [] ≡ looked_paths k → may_lack k ≡ false
none-looked k is = may-looked k ∙ ap has_some (sym is)

-- and one that has some may
pub some-looked : (k : Call) (p : Path) (ps : List Path) → p ∷ ps ≡ looked_paths k →
    may_lack k ≡ true
some-looked k p ps is = may-looked k ∙ ap has_some (sym is)
