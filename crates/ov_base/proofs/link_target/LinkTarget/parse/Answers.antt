use Rattle.std.proofs.Common.{◌≡◌, ℕ, List, Some, Result, Ok, Err, sym}
use Rattle.std.specs.Result.{result_err}
use Rattle.ov_base.specs.Targets.{target_of}
use Rattle.ov_base.specs.declared.errno.Errno.{Errno}
use Rattle.ov_base.proofs.link_target.LinkTarget.parse.Goals as goal

-- a result with an error is the error
error-told : (r : Result (List ℕ) Errno) (e : Errno) → result_err r ≡ Some e → Err e ≡ r
error-told (Ok x) e h = cc
error-told (Err x) e h = cc

pub returns-in-Some-clause-told : goal.returns-in-Some-clause-told
returns-in-Some-clause-told c = error-told (target_of c.args.bytes) c.in-Some.errno (rw c.as_slice.ensures at (sym c.in-Some.ensures))
