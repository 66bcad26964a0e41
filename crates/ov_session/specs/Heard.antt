-- What was read of a session's stream, and what of it was served.
use Rattle.std.specs.Prelude.{◌≡◌, ℕ, List, ◌++◌, Option}
use Rattle.std.specs.Io.KnownBytes.{Consumes}
use Rattle.ov_frames.specs.Streams.{Left, Spells}
use Rattle.ov_frames.specs.declared.answer.Answer.{Answer}
use Rattle.ov_frames.specs.declared.request.Request.{Request}
use Rattle.ov_session.specs.Serving.{Serves}
use Rattle.ov_session.specs.declared.exchange.Exchange.{Exchange}

-- what was read spells the requests; a front of them was served, and perhaps a call behind them
-- held back
pub record Heard (in_old in_new : Option (List ℕ)) : Type 0 where
  pub taken : List ℕ
  pub consumed : Consumes in_old in_new taken
  pub requests : List Request
  pub left : Left
  pub spelled : Spells taken requests left
  pub front : List Request
  pub later : List Request
  pub parts : requests ≡ front ++ later
  pub told : List Exchange
  pub answers : List Answer
  pub served : Serves front told answers
  pub stopped : List Exchange
