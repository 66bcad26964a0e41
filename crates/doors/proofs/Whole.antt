-- What a whole session leaves.
use Rattle.std.proofs.Common.{◌≡◌, ℕ, false, List, [], ◌∷◌, ◌++◌, Option, is_some, sym, ap, subst}
use Rattle.ov_frames.specs.declared.answer.Answer.{Answer}
use Rattle.ov_session.specs.Sessions.{IsSession}
use Rattle.ov_session.specs.declared.ending.Ending.{Ending}
use Rattle.ov_session.specs.declared.exchange.Exchange.{Exchange}
use Rattle.ov_session.specs.declared.exchange.Exchange.TheVariants.{Departed}
use Rattle.overlay_core.specs.Views.{CoreKeeps, has_client}
use Rattle.overlay_core.proofs.Driving.{kept-on, kept-same}
use Rattle.overlay_core.specs.declared.mounted.Core.{Core}
use Rattle.watch_table.specs.declared.hook.Callback.{Ghosts as Callback}
use Rattle.watch_table.specs.declared.hook.Rule.{Ghosts as Rule}
use Rattle.doors.specs.owned.Rooms.{AreSteps, IsServed}
use Rattle.doors.specs.declared.owned.door.CoreDoor.{CoreDoor}

module _ {F G : Type 0} {asks : Callback F} {rule : Rule G} where
  -- how a door over a core goes on
  abbrev pub Leads : CoreDoor F G asks rule → List Exchange → CoreDoor F G asks rule → Type 0
  Leads d told e = (e.client ≡ d.client) × IsServed d.client d.core told e.core

  -- what a door's way is of the cores behind it
  served_by : (client : ℕ) (core after : Core F G asks rule) (a b : CoreDoor F G asks rule)
      (told : List Exchange) → (a.core ≡ core) × (a.client ≡ client) → after ≡ b.core →
      Leads a told b → IsServed client core told after
  served_by client core after a b told first last h =
      subst (λ x. IsServed client core told x) (sym last)
      (subst (λ x. IsServed client x told b.core) first.0
      (subst (λ n. IsServed n a.core told b.core) first.1 h.1))

  -- a session over a door is one over the cores behind it
  pub whole : {i j o n : Option (List ℕ)} {told more : List Exchange} {end : Ending}
      (client : ℕ) (core after : Core F G asks rule) (a b : CoreDoor F G asks rule) →
      (a.core ≡ core) × (a.client ≡ client) → after ≡ b.core →
      IsSession Leads i j o n told more a b end →
      IsSession (IsServed client) i j o n told more core after end
  whole client core after a b first last s = record {
    heard = s.heard;
    farewell = s.farewell;
    added = s.added;
    went =
        served_by client core after a b
        ((s.heard.told ++ s.heard.stopped) ++ Departed s.farewell ∷ []) first last s.went;
    written = s.written;
    appended = s.appended;
    stands = s.stands;
  }

  -- after a detach the client isn't attached
  parted : (client : ℕ) (a b : Core F G asks rule) (xs : List Exchange) (answer : Answer) →
      AreSteps client a (xs ++ Departed answer ∷ []) b → has_client b client ≡ false
  parted client a b [] answer h =
      subst (λ m. has_client m client ≡ false) (sym h.2) (ap is_some h.1.clients.gone)
  parted client a b (x ∷ xs) answer h = parted client h.0 b xs answer h.2

  -- nor is it after a session
  pub left : {i j o n : Option (List ℕ)} {told more : List Exchange} {end : Ending}
      (client : ℕ) (core after : Core F G asks rule) →
      IsSession (IsServed client) i j o n told more core after end →
      has_client after client ≡ false
  left client core after s =
      parted client core after (s.heard.told ++ s.heard.stopped) s.farewell s.went.1

  -- what each step keeps all of them keep
  all_kept : (client : ℕ) (a b : Core F G asks rule) (xs : List Exchange) →
      AreSteps client a xs b → CoreKeeps a b
  all_kept client a b [] h = subst (λ m. CoreKeeps a m) (sym h) (kept-same a)
  all_kept client a b (x ∷ xs) h =
      kept-on a h.0 b h.1.kept (all_kept client h.0 b xs h.2)

  -- so does a session
  pub keeps : {i j o n : Option (List ℕ)} {told more : List Exchange} {end : Ending}
      (client : ℕ) (core after : Core F G asks rule) →
      IsSession (IsServed client) i j o n told more core after end →
      CoreKeeps core after
  keeps client core after s =
      all_kept client core after ((s.heard.told ++ s.heard.stopped) ++ Departed s.farewell ∷ []) s.went.1
