-- What holds of a session between two pieces.
use Rattle.std.specs.Prelude.{List, ℕ, Option}
use Rattle.std.specs.Io.KnownBytes.{Consumes}
use Rattle.ov_frames.specs.Streams.{Left, Spells}
use Rattle.ov_frames.specs.declared.request.Request.{Request}
use Rattle.ov_session.specs.Doors.{Goes}
use Rattle.ov_session.specs.Talks.{Place, Talked}

-- so far: the bytes read spell these requests, and each was served
pub record SoFar {D : Type 0} (goes : Goes D) (in_old in_new : Option (List ℕ)) (old new : Place D)
    (left : Left) : Type 0 where
  pub taken : List ℕ
  pub consumed : Consumes in_old in_new taken
  pub requests : List Request
  pub spelled : Spells taken requests left
  pub talked : Talked goes old new requests
