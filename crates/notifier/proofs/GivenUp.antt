-- A rename that was prepared is given up: what is tracked was tracked before, where it was.
use Rattle.std.proofs.Common.{
  ◌≡◌,
  ◌∷◌,
  ◌+◌,
  ◌⊎◌,
  inl,
  inr,
  ℕ,
  [],
  Option,
  None,
  Some,
  IsSome,
  is_some,
  true,
  false,
  nat_eq,
  refl,
  sym,
  ap,
  ◌∙◌,
}
use Rattle.std.proofs.lemmas.Bool.{cases_Bool, false≢true, eqb-true, eq-eqb, both_ways}
use Rattle.plain_model.specs.Layers.{Path}
use Rattle.object_table.specs.Objects.{At, Holds, Spot, Objects, holders_of, spot_of}
use Rattle.open_handles.specs.TrackedHandles.{uses}
use Rattle.notice_laws.specs.Notified.{Notified}
use Rattle.notice_laws.specs.Opens.{AreFewer}
use Rattle.notifier.specs.Moving.{IsHeldFor, LetsGo, MayHold}
use Rattle.notifier.specs.Notifying.{AreCounted, pinned_times, watchers}
use Rattle.notifier.specs.Opening.{AreHeld}

-- WHAT IS LET GO: as many hold each object where no rename holds any
same-holders : (old new : Notified) → new ≡ record old { objects = new.objects; pinned = None } →
    old.pinned ≡ None →
    AreCounted old → AreCounted new → (n : ℕ) → holders_of new.objects n ≡ holders_of old.objects n
same-holders old new rest first was is n =
    is n
    ∙ ap (λ (k : Notified). uses k.handles n + watchers k.instances n + pinned_times k.pinned n)
    rest
    ∙ ap (λ pin. uses old.handles n + watchers old.instances n + pinned_times pin n) (sym first)
    ∙ sym (was n)

-- so what is tracked then was tracked before
was-tracked : (old new : Notified) → new ≡ record old { objects = new.objects; pinned = None } →
    old.pinned ≡ None →
    AreCounted old → AreCounted new → AreHeld old.objects → AreHeld new.objects → (n : ℕ) →
    IsSome (spot_of new.objects n) →
    IsSome (spot_of old.objects n)
was-tracked old new rest first was is held holds n there = by (spot_of old.objects n) refl
  where
    by : (o : Option Spot) → spot_of old.objects n ≡ o → is_some o ≡ true
    by (Some x) at = refl
    by None at =
        let gone = (holds n).1 (same-holders old new rest first was is n ∙ (held n).0 at) in
        absurd (false≢true (sym (ap is_some gone) ∙ there))

-- what was tracked is where it was, where one more holds an object
held-back : (old held : Objects) (p : Path) (m : ℕ) → Holds old held (At p) m → (n : ℕ) (spot : Spot) →
    spot_of held n ≡ Some spot → IsSome (spot_of old n) → spot_of old n ≡ Some spot
held-back old held p m h n spot is was = by (cases_Bool (nat_eq n m))
  where
    same : n ≡ m → spot_of old n ≡ Some spot
    same e = elim h.was [
      | inl known ↦ ap (spot_of old) e ∙ known ∙ sym h.sets.here ∙ ap (spot_of held) (sym e) ∙ is
      | inr new ↦ absurd (false≢true (sym (ap is_some (ap (spot_of old) e ∙ new.1)) ∙ was))
    ]

    by : (nat_eq n m ≡ true) ⊎ (nat_eq n m ≡ false) → spot_of old n ≡ Some spot
    by (inl y) = same (eqb-true n m y)
    by (inr f) = sym (h.sets.other_spots n (λ e. both_ways (nat_eq n m) f (eq-eqb n m e))) ∙ is

-- so given up, a rename leaves what is tracked where it was
taken-back : (old mid new : Objects) (q : Path) → MayHold old mid q → AreFewer mid new →
    ((n : ℕ) → IsSome (spot_of new n) → IsSome (spot_of old n)) → AreFewer old new
taken-back old mid new [] few last was n spot is = few n spot (last n spot is)
taken-back old mid new (x ∷ q) (inl few) last was n spot is = few n spot (last n spot is)
taken-back old mid new (x ∷ q) (inr h) last was n spot is =
    held-back old h.held q h.number h.holds n spot (h.fewer n spot (last n spot is)) (was n (ap is_some is))

-- GIVEN UP, a rename that was prepared leaves no more than one that was let go before it was
pub given-up : (from ready to : Notified) (q : Path) → IsHeldFor from ready q → LetsGo ready to →
    AreCounted to → AreHeld to.objects → LetsGo from to
given-up from ready to q h g counted held =
    let rest : to ≡ record h.mid { objects = to.objects; pinned = None } =
    g.rest ∙ ap (λ (k : Notified). record k { objects = to.objects; pinned = None }) h.rest in
    let back =
    taken-back h.mid.objects ready.objects to.objects q h.holds g.fewer
    (was-tracked h.mid to rest (ap (λ (k : Notified). k.pinned) h.dropped.rest) h.counted counted
    h.held held) in
    record {
      fewer = λ n spot is. h.dropped.fewer n spot (back n spot is);
      rest = rest ∙ ap (λ (k : Notified). record k { objects = to.objects; pinned = None })
          h.dropped.rest;
    }
