-- What is kept of one client more.
use Rattle.std.specs.Prelude.{IsSomeAnd, slice_get}
use Rattle.std.proofs.Common.{◌≡◌, ◌∙◌, ◌+◌, ◌<◌, ◌≤◌, arith, zero, suc, ℕ, Bool, true, false, not, List, [], ◌∷◌, ◌++◌, length, ap, refl, length-append}
use Rattle.std.specs.Global.{Vec}
use Rattle.std.proofs.lemmas.List.Elements.{All-nil, All-push, All-weaker, All-same}
use Rattle.std.proofs.lemmas.List.Quantifiers.{all_pairs_push}
use mathlib.Core.List.{IsPrefix}
use Rattle.locked_history.specs.Claims.{Claim}
use Rattle.locked_history.specs.declared.entry.Entry.{Entry}
use Rattle.doors.specs.endless.Advancing.{Standing}
use Rattle.endless_mount.proofs.Fronts.{prefix_length, prefix_trans}
use Rattle.socket_server.specs.Clients.{AreClients, IsClient, of_any_client}
use Rattle.socket_server.specs.EndlessClients as endless
use Rattle.socket_server.specs.EndlessClients.{AreClientsIn, IsClientIn, of_any_guest}

-- what isn't untrue is true
pub not_not : (b : Bool) → not (not b) ≡ b
not_not true = refl
not_not false = refl

-- what is there in a list stands within it
pub some_within : {A : Type 0} (P : A → Type 0) (xs : List A) (i : ℕ) → IsSomeAnd (slice_get xs i) P → i < length xs
some_within P [] i h = absurd h
some_within P (x ∷ xs) zero h = omega arith
some_within P (x ∷ xs) (suc i) h = omega (arith, some_within P xs i h)

-- no client has no receipts
pub no_clients : (tags : List ℕ) (closes : Bool) (kept : Vec (Vec Claim)) → kept.items ≡ [] →
    AreClients tags closes true 0 kept
no_clients tags closes kept none = record {
  many = ap length none;
  each = All-same (λ receipts. IsClient tags closes true receipts.items) kept.items [] none
      (All-nil (λ receipts. IsClient tags closes true receipts.items));
}

-- the receipts of the same clients
pub same_clients : (tags : List ℕ) (closes gone : Bool) (count : ℕ) (old new : Vec (Vec Claim)) →
    new.items ≡ old.items → AreClients tags closes gone count old → AreClients tags closes gone count new
same_clients tags closes gone count old new same were = record {
  many = ap length same ∙ were.many;
  each = All-same (λ receipts. IsClient tags closes gone receipts.items) new.items old.items same were.each;
}

-- one client more, and whether it left
pub one_client_more : (tags : List ℕ) (closes gone : Bool) (count : ℕ) (old new : Vec (Vec Claim))
    (receipts : Vec Claim) → new.items ≡ old.items ++ receipts ∷ [] →
    IsClient tags closes gone receipts.items → AreClients tags closes true count old →
    AreClients tags closes gone (count + 1) new
one_client_more tags closes gone count old new receipts is client were = record {
  many = ap length is ∙ (length-append old.items (receipts ∷ []) ∙ ap (λ n. n + 1) were.many);
  each = All-same (λ r. IsClient tags closes gone r.items) new.items (old.items ++ receipts ∷ []) is
      (All-push (λ r. IsClient tags closes gone r.items) old.items receipts
      (All-weaker (λ r. IsClient tags closes true r.items) (λ r. IsClient tags closes gone r.items)
      (λ r. of_any_client tags closes gone r.items) old.items were.each) client);
}

-- no client saw anything
pub no_guests : (tags : List ℕ) (closes : Bool) (front : List Entry) → AreClientsIn tags closes true 0 front
no_guests tags closes front = record {
  clients = [];
  many = refl;
  each = All-nil (IsClientIn tags closes true front);
  apart = λ i j d _ lt. absurd (omega (arith, lt));
}

-- whom a longer front has, too, whether it is known that the client left or isn't
is_client_in : (tags : List ℕ) (closes gone : Bool) (old new : List Entry) → IsPrefix old new →
    (c : ℕ × Standing) → IsClientIn tags closes true old c → IsClientIn tags closes gone new c
is_client_in tags closes gone old new longer c is = record {
  client = of_any_guest tags closes gone c.0 c.1 is.client;
  within = omega (arith, is.within, prefix_length old new longer);
  saw = prefix_trans c.1.seen old new is.saw longer;
}

-- one client more, at a place behind the front that was kept, which the one that is kept then has
pub one_guest_more : (tags : List ℕ) (closes gone : Bool) (count : ℕ) (old new : List Entry)
    (place : ℕ) (left : Standing) → IsPrefix old new → length old ≤ place → place < length new →
    IsPrefix left.seen new → endless.IsClient tags closes gone place left →
    AreClientsIn tags closes true count old → AreClientsIn tags closes gone (count + 1) new
one_guest_more tags closes gone count old new place left longer later within saw client were = record {
  clients = were.clients ++ (place, left) ∷ [];
  many = length-append were.clients ((place, left) ∷ []) ∙ ap (λ n. n + 1) were.many;
  each = All-push (IsClientIn tags closes gone new) were.clients (place, left)
      (All-weaker (IsClientIn tags closes true old) (IsClientIn tags closes gone new)
      (is_client_in tags closes gone old new longer) were.clients were.each)
      (record { client = client; within = within; saw = saw });
  apart = all_pairs_push (λ a b. a.0 < b.0) were.clients (place, left) were.apart
      (λ k d lt. omega (arith, (were.each k d lt).within, later));
}
