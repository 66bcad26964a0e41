-- What the parts of a decoder do with a piece of a stream.
use Rattle.std.specs.Prelude.{◌≡◌, ℕ, ◌-◌, ◌≤◌, List, ◌++◌, length, take, drop, min}
use Rattle.ov_frames.specs.Streams.{Left, Spells, front_of, left_of}
use Rattle.ov_frames.specs.declared.feeding.Apart.{Apart}
use Rattle.ov_frames.specs.declared.front.Front.{Front}
use Rattle.ov_frames.specs.declared.front.Front.TheVariants.{Begun, Whole}
use Rattle.ov_frames.specs.declared.request.Request.{Request}

-- the requests that bytes spell stand behind those that were there, and this is left
pub record Adds (before after : List Request) (bytes : List ℕ) (left : Left) : Type 0 where
  pub added : List Request
  pub requests : after ≡ before ++ added
  pub spells : Spells bytes added left

-- so are those of bytes whose good frames end at a place
pub record IsApart (before after : List Request) (bytes : List ℕ) (apart : Apart) : Type 0 where
  pub adds : Adds before after bytes (left_of apart.fault (drop apart.used bytes))
  pub within : apart.used ≤ length bytes

-- so many bytes of a piece were added: those that lacked until an end, or all
pub record IsFilled (old : List ℕ) (end : ℕ) (piece new : List ℕ) (count : ℕ) : Type 0 where
  pub lacking : count ≡ min (end - length old) (length piece)
  pub added : new ≡ old ++ take count piece

-- so many bytes of a piece were added to a begun frame, and this stands there then: a frame that is
-- begun still, where the piece is used up; or a whole one, and nothing behind it; or a fault
pub record IsCompleted (old piece new : List ℕ) (front : Front) (used : ℕ) : Type 0 where
  pub within : used ≤ length piece
  pub added : new ≡ old ++ take used piece
  pub stands : front_of new ≡ front
  pub begun : front ≡ Begun → used ≡ length piece
  pub whole : (r : Request) (len : ℕ) → front ≡ Whole r len → len ≡ length new
