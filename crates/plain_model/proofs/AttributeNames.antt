-- What is no user attribute's name is refused as the calls are that give it.
use Rattle.std.proofs.Common.{◌≡◌, ℕ, Bool, true, false, cond, List, Ok, Err, refl}
use Rattle.std.specs.Result.{result_err}
use Rattle.ov_base.specs.AttributeNames.{is_malformed, is_foreign, attribute_of}
use Rattle.ov_base.specs.declared.errno.Errno.TheVariants.{EINVAL, EOPNOTSUPP}
use Rattle.plain_model.specs.Refusals.{◌or_else◌, when, bad_attribute}

-- the faults of a name in their order
two-faults : (m f : Bool) (n : List ℕ) → result_err (cond m (Err EINVAL) (cond f (Err EOPNOTSUPP) (Ok n))) ≡ (when m EINVAL or_else when f EOPNOTSUPP)
two-faults true f n = refl
two-faults false true n = refl
two-faults false false n = refl

-- the fault of an attribute's name is the refusal
pub name-fault : (n : List ℕ) → result_err (attribute_of n) ≡ bad_attribute n
name-fault n = two-faults (is_malformed n) (is_foreign n) n
