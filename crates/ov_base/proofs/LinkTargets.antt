-- What a target is, told by its test.
use Rattle.std.proofs.Common.{◌≡◌, ℕ, Bool, true, false, List, Ok, Err, cond, refl}
use Rattle.std.specs.Prelude.{IsTrue}
use Rattle.std.proofs.lemmas.Bool.{false≢true}
use Rattle.ov_base.specs.Targets.{is_target, target_fault, target_of}

-- bytes that pass the test are the target of these bytes
pub target-is : (target : List ℕ) → IsTrue (is_target target) → target_of target ≡ Ok target
target-is target h = of (is_target target) h
  where
    of : (b : Bool) → IsTrue b → cond b (Ok target) (Err (target_fault target)) ≡ Ok target
    of true h = refl
    of false h = absurd (false≢true h)
