-- What passed between a session and its door, as a list.
use Rattle.std.specs.Prelude.{List, [], ◌∷◌, ◌++◌}
use Rattle.ov_frames.specs.declared.answer.Answer.{Answer}
use Rattle.ov_session.specs.declared.exchange.Exchange.{Exchange}
use Rattle.ov_session.specs.declared.exchange.Exchange.TheVariants as exchange
use Rattle.doors.specs.declared.shared.session.ClientSession.{ClientSession}
use Rattle.doors.specs.declared.shared.session.Told.{Told, Nothing, Called', HeldBack', Departed'}

-- in order, where this is the answer of which something is kept
abbrev pub exchanges : {A : Type 0} → (A → Answer) → Told A → List Exchange
exchanges kept Nothing = []
exchanges kept (Called' marker before call answer) =
    exchanges kept before ++ exchange.Called call.value (kept answer) ∷ []
exchanges kept (HeldBack' marker before call) =
    exchanges kept before ++ exchange.HeldBack call.value ∷ []
exchanges kept (Departed' marker before answer) =
    exchanges kept before ++ exchange.Departed answer.value ∷ []

abbrev pub told_in : {A : Type 0} → (A → Answer) → ClientSession A → List Exchange
told_in kept session = exchanges kept session.told
