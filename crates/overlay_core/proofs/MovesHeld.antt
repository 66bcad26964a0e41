-- What is kept for watches where a rename is prepared, and where what it held beforehand is let go.
use Rattle.std.proofs.Common.{◌≡◌, ◌∷◌, ◌*◌, ◌<◌, ◌^◌, inl, inr, ℕ, List, [], Option, None, length, refl, sym, ap, subst, ◌∙◌, arith}
use Rattle.std.proofs.lemmas.List.{length-map}
use Rattle.plain_model.specs.Layers.{Layer, Path, shows}
use Rattle.plain_model.specs.Machine.{State, Table}
use Rattle.plain_model.specs.Settling as settling
use Rattle.plain_model.specs.Settling.{IsSettled}
use Rattle.plain_model.specs.Alike.{AreAllAlike}
use Rattle.mount_laws.specs.Looks.{IsMountOf}
use Rattle.object_table.specs.Objects.{At}
use Rattle.open_handles.specs.TrackedHandles.{clients_of}
use Rattle.notice_laws.specs.declared.object.Object.TheVariants as object
use Rattle.notice_laws.specs.declared.pin.Pin.{Pin}
use Rattle.notice_laws.specs.Notified.{AreKnown, Notified, Tracks, stands_for}
use Rattle.notice_laws.specs.Objects.{IsShownIn}
use Rattle.notice_laws.specs.Opens.{AreFewer}
use Rattle.notice_laws.proofs.FewerObjects.{fewer-borne, kept-slots, known-tracks}
use Rattle.notice_laws.proofs.GivenNumbers.{law_of_held_number}
use Rattle.notifier.specs.Moving.{IsHeldFor, LetsGo, MayHold}
use Rattle.overlay_core.proofs.Shown.{directory-no-link}

-- all is the same, but perhaps for what is tracked and what a rename holds
record IsSameBut (old new : Notified) : Type 0 where
  pub handles : new.handles ≡ old.handles
  pub instances : new.instances ≡ old.instances
  pub renames : new.renames ≡ old.renames

-- so it is after a step that changes no more
rest-same : (old new : Notified) (pin : Option Pin) → new ≡ record old { objects = new.objects; pinned = pin } → IsSameBut old new
rest-same old new pin rest = record {
  handles = ap (λ (k : Notified). k.handles) rest;
  instances = ap (λ (k : Notified). k.instances) rest;
  renames = ap (λ (k : Notified). k.renames) rest;
}

-- where fewer objects are tracked, all is right still
fewer-tracks : (U : Layer) (s : State) (old new : Notified) → IsSameBut old new → AreFewer old.objects new.objects → AreKnown new →
    Tracks U s old → Tracks U s new
fewer-tracks U s old new same few known t =
    known-tracks U s old new t.bearers known
    (fewer-borne U U s.tree s.serial old.objects new.objects t.bearers (λ d key q live at. live) few t.borne)
    (ap clients_of same.handles ∙ t.clients) (kept-slots U s old new t same.handles)
    (subst (λ es. AreAllAlike (stands_for old.objects t.bearers) es s.instances) (sym same.instances) t.heard)
    (same.renames ∙ t.renames)

-- WHAT A RENAME HOLDS BEFOREHAND leaves what is kept for watches right, where the new directory is shown
held-tracks : (U : Layer) (lowers : List Layer) (s : State) → IsMountOf U lowers s → (old new : Notified) → IsSameBut old new →
    AreKnown new → (q : Path) → IsShownIn U lowers q → MayHold old.objects new.objects q → Tracks U s old → Tracks U s new
held-tracks U lowers s m old new same known [] shown few t = fewer-tracks U s old new same few known t
held-tracks U lowers s m old new same known (n ∷ q) shown (inl few) t = fewer-tracks U s old new same few known t
held-tracks U lowers s m old new same known (n ∷ q) shown (inr h) t =
    fewer-tracks U s (record old { objects = h.held }) new
    (record { handles = same.handles; instances = same.instances; renames = same.renames }) h.fewer known
    (law_of_held_number U lowers s m old t q object.Directory (At q) shown (directory-no-link (shows 0 (U ∷ lowers) q) shown) refl
    h.held h.number h.holds)

-- LET GO, what is kept for watches is right still
pub gone-tracks : (U : Layer) (s : State) (old new : Notified) → LetsGo old new → AreKnown new → Tracks U s old → Tracks U s new
gone-tracks U s old new g known t = fewer-tracks U s old new (rest-same old new None g.rest) g.fewer known t

-- and prepared for a rename, where the new directory is shown
pub ready-tracks : (U : Layer) (lowers : List Layer) (s : State) → IsMountOf U lowers s → (from ready : Notified) (q : Path) →
    IsHeldFor from ready q → IsShownIn U lowers q → AreKnown ready → Tracks U s from → Tracks U s ready
ready-tracks U lowers s m from ready q h shown known t =
    held-tracks U lowers s m h.mid ready (rest-same h.mid ready ready.pinned h.rest) known q shown h.holds
    (gone-tracks U s from h.mid h.dropped h.known t)

-- so many handles can be counted, of as many clients as a state has
pub few-clients : (s : State) → IsSettled s → (n : ℕ) → n ≡ length (settling.clients_of s.tables) → 64 * n < 2 ^ 64
few-clients s x n same =
    let e = length-map s.tables (λ (k : Table). k.client) in
    let few = x.few in
    omega arith
