-- What the clients of a mount did, as receipts claim it.
use Rattle.std.specs.Prelude.{◌≡◌, ℕ, Bool, true, false, List, [], ◌∷◌, ◌++◌, All, length, refl}
use Rattle.std.specs.Global.{Vec}
use Rattle.std.proofs.lemmas.List.Elements.{All-weaker}
use Rattle.ov_frames.specs.declared.answer.Answer.{Answer}
use Rattle.ov_session.specs.declared.exchange.Exchange.{Exchange}
use Rattle.ov_session.specs.declared.exchange.Exchange.TheVariants.{Departed}
use Rattle.locked_history.specs.Claims.{Claim, IsAttachOf}
use Rattle.doors.specs.shared.Advancing.{Advances, Standing}
use Rattle.doors.specs.shared.GoingOn.{IsReply}

-- a call of a client may be stopped only where something may close the server
abbrev pub MayStop : Bool → ℕ → ℕ → Type 0
MayStop closes client step = closes ≡ true

-- where a client stands that was just attached
abbrev pub beginning : ℕ → Claim → Standing
beginning client came = record {
  client = client;
  number = 2;
  receipts = came ∷ [];
  detached = false;
}

-- a client was just attached with hooks of these tags, and has the receipt of that
pub record IsNew (tags : List ℕ) (client number : ℕ) (receipts : List Claim) : Type 0 where
  pub next : number ≡ 2
  pub came : Claim
  pub only : receipts ≡ came ∷ []
  pub attached : IsAttachOf came.entry client tags
  pub counted : came.counted ≡ true

-- THE CLIENT OF A CONNECTION was attached with hooks of these tags, and went on as its exchanges
-- tell, of which the detach is the last; where it is known to have left, that was answered by a
-- reply. These are the receipts of all that it did. No call was held back where nothing closes the
-- server
pub record IsClient (tags : List ℕ) (closes gone : Bool) (receipts : List Claim) : Type 0 where
  pub client : ℕ
  pub came : Claim
  pub attached : IsAttachOf came.entry client tags
  pub counted : came.counted ≡ true
  pub told : List Exchange
  pub farewell : Answer
  pub left : Standing
  pub went : Advances (MayStop closes) (beginning client came) (told ++ Departed farewell ∷ []) left
  pub detached : gone ≡ true → IsReply farewell
  pub all : left.receipts ≡ receipts

-- these are the receipts of so many clients, which were attached with hooks of these tags
pub record AreClients (tags : List ℕ) (closes gone : Bool) (count : ℕ) (clients : Vec (Vec Claim)) : Type 0 where
  pub many : length clients.items ≡ count
  pub each : All (λ receipts. IsClient tags closes gone receipts.items) clients.items

-- a client of whom it is known that it left is one of whom it isn't
pub of_any_client : (tags : List ℕ) (closes gone : Bool) (receipts : List Claim) →
    IsClient tags closes true receipts → IsClient tags closes gone receipts
of_any_client tags closes gone receipts c = record {
  client = c.client;
  came = c.came;
  attached = c.attached;
  counted = c.counted;
  told = c.told;
  farewell = c.farewell;
  left = c.left;
  went = c.went;
  detached = λ _. c.detached refl;
  all = c.all;
}

-- so of all
pub of_any_clients : (tags : List ℕ) (closes : Bool) (count : ℕ) (clients : Vec (Vec Claim)) →
    AreClients tags closes true count clients → AreClients tags closes false count clients
of_any_clients tags closes count clients were = record {
  many = were.many;
  each = All-weaker (λ r. IsClient tags closes true r.items) (λ r. IsClient tags closes false r.items)
      (λ r. of_any_client tags closes false r.items) clients.items were.each;
}
