-- Whether a byte is in a range.
use Rattle.std.proofs.Common.{◌≡◌, ℕ, ◌<◌, ◌≤◌, ◌&&◌, false, true, nat_le, refl}
use Rattle.std.proofs.lemmas.Bool.{and_right, le-leb, lt-leb}

-- it is
pub within : (least most b : ℕ) → least ≤ b → b ≤ most → (nat_le least b && nat_le b most) ≡ true
within least most b low high = rw (le-leb least b low, le-leb b most high) refl

-- it is too small
pub below : (least most b : ℕ) → b < least → (nat_le least b && nat_le b most) ≡ false
below least most b low = rw (lt-leb least b low) refl

-- it is too great
pub above : (least most b : ℕ) → most < b → (nat_le least b && nat_le b most) ≡ false
above least most b high = and_right (nat_le least b) (nat_le b most) (lt-leb b most high)
