-- What the clients of a mount saw whose history is kept nowhere.
use Rattle.std.specs.Prelude.{◌≡◌, ℕ, ◌<◌, Bool, true, false, List, [], ◌∷◌, ◌++◌, All, AllPairs, IsSomeAnd, length, refl, slice_get}
use Rattle.std.proofs.lemmas.List.Elements.{All-weaker}
use mathlib.Core.List.{IsPrefix}
use Rattle.ov_frames.specs.declared.answer.Answer.{Answer}
use Rattle.ov_session.specs.declared.exchange.Exchange.{Exchange}
use Rattle.ov_session.specs.declared.exchange.Exchange.TheVariants.{Departed}
use Rattle.locked_history.specs.Claims.{IsAttachOf}
use Rattle.locked_history.specs.declared.entry.Entry.{Entry}
use Rattle.doors.specs.shared.GoingOn.{IsReply}
use Rattle.doors.specs.endless.Advancing.{Advances, Standing}
use Rattle.socket_server.specs.Clients.{MayStop}

-- where a client stands that was just attached
abbrev pub beginning : ℕ → List Entry → Standing
beginning client seen = record {
  client = client;
  number = 2;
  seen = seen;
  detached = false;
}

-- a client was just attached with hooks of these tags, at this place, and saw that
pub record IsNew (tags : List ℕ) (client number place : ℕ) (seen : List Entry) : Type 0 where
  pub next : number ≡ 2
  pub attached : IsSomeAnd (slice_get seen place) (λ entry. IsAttachOf entry client tags)

-- THE CLIENT OF A CONNECTION was attached with hooks of these tags, at this place, and saw that; it
-- went on as its exchanges tell, of which the detach is the last, and so it stood then; where it is
-- known to have left, the detach was answered by a reply. No call was held back where nothing closes
-- the server
pub record IsClient (tags : List ℕ) (closes gone : Bool) (place : ℕ) (left : Standing) : Type 0 where
  pub client : ℕ
  pub first : List Entry
  pub attached : IsSomeAnd (slice_get first place) (λ entry. IsAttachOf entry client tags)
  pub told : List Exchange
  pub farewell : Answer
  pub went : Advances (MayStop closes) (beginning client first) (told ++ Departed farewell ∷ []) left
  pub detached : gone ≡ true → IsReply farewell

-- a client that was attached at a place of this front, and what it saw begins that
pub record IsClientIn (tags : List ℕ) (closes gone : Bool) (front : List Entry) (c : ℕ × Standing) : Type 0 where
  pub client : IsClient tags closes gone c.0 c.1
  pub within : c.0 < length front
  pub saw : IsPrefix c.1.seen front

-- so many clients were attached with hooks of these tags, EACH AT A PLACE OF ITS OWN of this front,
-- one after the other, and what each saw begins it
pub record AreClientsIn (tags : List ℕ) (closes gone : Bool) (count : ℕ) (front : List Entry) : Type 0 where
  pub clients : List (ℕ × Standing)
  pub many : length clients ≡ count
  pub each : All (IsClientIn tags closes gone front) clients
  pub apart : AllPairs (λ a b. a.0 < b.0) clients

-- a client of whom it is known that it left is one of whom it isn't
pub of_any_guest : (tags : List ℕ) (closes gone : Bool) (place : ℕ) (left : Standing) →
    IsClient tags closes true place left → IsClient tags closes gone place left
of_any_guest tags closes gone place left c = record {
  client = c.client;
  first = c.first;
  attached = c.attached;
  told = c.told;
  farewell = c.farewell;
  went = c.went;
  detached = λ _. c.detached refl;
}

-- so of all
pub of_any_guests : (tags : List ℕ) (closes : Bool) (count : ℕ) (front : List Entry) →
    AreClientsIn tags closes true count front → AreClientsIn tags closes false count front
of_any_guests tags closes count front were = record {
  clients = were.clients;
  many = were.many;
  each = All-weaker (IsClientIn tags closes true front) (IsClientIn tags closes false front)
      (λ c is. record { client = of_any_guest tags closes false c.0 c.1 is.client; within = is.within; saw = is.saw })
      were.clients were.each;
  apart = were.apart;
}
