-- What is no mode is refused as the calls are that give it.
use Rattle.std.proofs.Common.{◌≡◌, ℕ, None, Some, Ok, Err, arith}
use Rattle.mount_calls.proofs.Words.{Errno}
use Rattle.ov_base.specs.Modes.{mode_of}
use Rattle.plain_model.specs.Refusals.{bad_mode}

-- a mode of more than twelve bits
pub mode-fault : (mode : ℕ) (e : Errno) → Err e ≡ mode_of mode → bad_mode mode ≡ Some e
mode-fault mode e h = grind arith

-- and one of twelve
pub mode-fine : (mode m : ℕ) → Ok m ≡ mode_of mode → bad_mode mode ≡ None
mode-fine mode m h = grind arith
