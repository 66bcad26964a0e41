-- Handles by client and descriptor, as they are set, opened and moved, and the nodes that they are on.
use Rattle.std.proofs.Common.{◌≡◌, ℕ, zero, suc, ◌<◌, Bool, true, false, cond, ◌||◌, [], ◌∷◌, List, Option, None, Some, refl, sym, ap, ap₂, ◌∙◌, ◌⊎◌, inl, inr, nat_eq, length, arith}
use Rattle.std.specs.Option.{unwrap_or}
use Rattle.std.specs.Prelude.{slice_get, slice_set}
use Rattle.std.specs.List.{IsDistinct, AllByRecursion}
use Rattle.std.proofs.lemmas.Bool.{cases_Bool, false≢true, both_ways, eqb-true, eq-eqb}
use Rattle.std.proofs.lemmas.List.Quantifiers.{position-Some}
use Rattle.std.proofs.lemmas.Map.Keys.{IsDistinct-head, IsDistinct-tail}
use Rattle.ov_base.specs.declared.node_id.NodeId.{NodeId}
use Rattle.plain_model.specs.Machine.{DESCRIPTORS_MAX, Handle, Table, handles_of, held_in, handle_of}
use Rattle.plain_model.specs.Changes.{is_held, with_handle, new_handle, opens, way_of}
use Rattle.plain_model.specs.Tree.{same_id, node_at, node_of}
use Rattle.plain_model.specs.Settling.{clients_of}
use Rattle.plain_model.proofs.Held.{is_on, with-handles}
use Rattle.plain_model.proofs.Paths.{ids_tell}
use Rattle.mount_laws.specs.Handling.{HasHandle, LawOfHeld, LawOfSetHandle, LawOfNewHandle, LawOfWays}
use Rattle.mount_laws.proofs.Handles.{held-by}
use Rattle.mount_laws.proofs.RenamedHandles.{way-handle}

-- a descriptor that is on the node
pub record IsOpenIn (hs : List (Option Handle)) (d : NodeId) : Type 0 where
  pub at : ℕ
  pub handle : Handle
  pub is : held_in (slice_get hs at) ≡ Some handle
  pub on : handle.node ≡ d

-- so it is where the descriptors are on the node
on-open : (d : NodeId) (hs : List (Option Handle)) → is_on d hs ≡ true → IsOpenIn hs d
on-open d [] h = absurd (false≢true h)
on-open d (None ∷ hs) h = let r = on-open d hs h in record { at = suc r.at; handle = r.handle; is = r.is; on = r.on }
on-open d (Some g ∷ hs) h = elim (cases_Bool (same_id d g.node)) [
  | inl y ↦ record { at = zero; handle = g; is = refl; on = sym ((ids_tell d g.node).0 y) }
  | inr n ↦ (let r = on-open d hs (ap (λ b. b || is_on d hs) (sym n) ∙ h) in record { at = suc r.at; handle = r.handle; is = r.is; on = r.on })
]

-- a client with an open handle is none of the others
not-among : (n : ℕ) (ks : List Table) → AllByRecursion (λ y. nat_eq n y ≡ false) (clients_of ks) → (c fd : ℕ) (h : Handle) → handle_of ks c fd ≡ Some h → nat_eq n c ≡ false
not-among n [] a c fd h e = cc
not-among n (k ∷ ks) a c fd h e = by (nat_eq k.client c) refl (not-among n ks a.1 c fd h) e
  where
    by : (b : Bool) → nat_eq k.client c ≡ b → (handle_of ks c fd ≡ Some h → nat_eq n c ≡ false) → held_in (slice_get (cond b k.handles (handles_of ks c)) fd) ≡ Some h → nat_eq n c ≡ false
    by true same rest e = ap (nat_eq n) (sym (eqb-true k.client c same)) ∙ a.0
    by false other rest e = rest e

-- a node that is held has a handle
held-open : (ks : List Table) (d : NodeId) → IsDistinct nat_eq (clients_of ks) → is_held ks d ≡ true → HasHandle ks d
held-open [] d apart h = absurd (false≢true h)
held-open (k ∷ ks) d apart h = elim (cases_Bool (is_on d k.handles)) [
  | inl y ↦
      (let r = on-open d k.handles y in
      record {
        client = k.client;
        descriptor = r.at;
        handle = r.handle;
        is_open = ap (λ b. held_in (slice_get (cond b k.handles (handles_of ks k.client)) r.at)) (eq-eqb k.client k.client refl) ∙ r.is;
        on = r.on;
      })
  | inr n ↦
      (let r = held-open ks d (IsDistinct-tail nat_eq k.client (clients_of ks) apart) (ap (λ b. b || is_held ks d) (sym n) ∙ h) in
      record {
        client = r.client;
        descriptor = r.descriptor;
        handle = r.handle;
        is_open =
            ap (λ b. held_in (slice_get (cond b k.handles (handles_of ks r.client)) r.descriptor))
            (not-among k.client ks (IsDistinct-head nat_eq k.client (clients_of ks) apart) r.client r.descriptor r.handle r.is_open)
            ∙ r.is_open;
        on = r.on;
      })
]

-- a node is held exactly where it has a handle
pub law_of_held : LawOfHeld
law_of_held ks d apart = (
  held-open ks d apart,
  λ r. ap (is_held ks) (sym r.on) ∙ held-by ks r.client r.descriptor r.handle r.is_open,
)

-- an element is what it is set to
set-here : (hs : List (Option Handle)) (fd : ℕ) (h : Option Handle) → fd < length hs → slice_get (slice_set hs fd h) fd ≡ Some h
set-here [] fd h l = absurd (omega arith)
set-here (g ∷ hs) zero h l = refl
set-here (g ∷ hs) (suc fd) h l = set-here hs fd h (omega arith)

-- and the others stay
set-other : (hs : List (Option Handle)) (fd : ℕ) (h : Option Handle) (i : ℕ) → (i ≡ fd → ⊥) → slice_get (slice_set hs fd h) i ≡ slice_get hs i
set-other [] fd h i n = refl
set-other (g ∷ hs) zero h zero n = absurd (n refl)
set-other (g ∷ hs) zero h (suc i) n = refl
set-other (g ∷ hs) (suc fd) h zero n = refl
set-other (g ∷ hs) (suc fd) h (suc i) n = set-other hs fd h i (λ e. n (ap suc e))

-- another client's handles stay
with-others : (ks : List Table) (c fd : ℕ) (h : Option Handle) (k : ℕ) → (k ≡ c → ⊥) → handles_of (with_handle ks c fd h) k ≡ handles_of ks k
with-others [] c fd h k n = refl
with-others (j ∷ ks) c fd h k n = by (nat_eq j.client c) refl (with-others ks c fd h k n)
  where
    differs : nat_eq j.client c ≡ true → nat_eq j.client k ≡ false
    differs y = elim (cases_Bool (nat_eq j.client k)) [
      | inl z ↦ absurd (n (sym (eqb-true j.client k z) ∙ eqb-true j.client c y))
      | inr z ↦ z
    ]

    by :
        (b : Bool) → nat_eq j.client c ≡ b → handles_of (with_handle ks c fd h) k ≡ handles_of ks k →
        handles_of (cond b (record j { handles = slice_set j.handles fd h }) j ∷ with_handle ks c fd h) k ≡ handles_of (j ∷ ks) k
    by true y rest = ap₂ (λ b hs. cond b (slice_set j.handles fd h) hs) (differs y) rest ∙ sym (ap (λ b. cond b j.handles (handles_of ks k)) (differs y))
    by false y rest = ap (λ hs. cond (nat_eq j.client k) j.handles hs) rest

-- a descriptor that is set
pub law_of_set_handle : LawOfSetHandle
law_of_set_handle ks c fd h = record {
  here = λ l. ap (λ hs. held_in (slice_get hs fd)) (with-handles ks c fd h) ∙ ap held_in (set-here (handles_of ks c) fd h l) ∙ held h;
  others = λ k i apart. by k i apart (cases_Bool (nat_eq k c));
}
  where
    held : (h : Option Handle) → held_in (Some h) ≡ h
    held None = refl
    held (Some g) = refl

    by : (k i : ℕ) → ((k ≡ c) × (i ≡ fd) → ⊥) → (nat_eq k c ≡ true) ⊎ (nat_eq k c ≡ false) → handle_of (with_handle ks c fd h) k i ≡ handle_of ks k i
    by k i apart (inl y) =
        let same = eqb-true k c y in
        ap (λ z. held_in (slice_get (handles_of (with_handle ks c fd h) z) i)) same
        ∙ ap (λ hs. held_in (slice_get hs i)) (with-handles ks c fd h)
        ∙ ap held_in (set-other (handles_of ks c) fd h i (λ e. apart (same, e)))
        ∙ sym (ap (λ z. held_in (slice_get (handles_of ks z) i)) same)
    by k i apart (inr f) = ap (λ hs. held_in (slice_get hs i)) (with-others ks c fd h k (λ e. both_ways (nat_eq k c) f (eq-eqb k c e)))

-- the new handle of an open
pub law_of_new_handle : LawOfNewHandle
law_of_new_handle s c p f mode fd free =
    ap (λ o. handle_of (with_handle s.tables c (unwrap_or o DESCRIPTORS_MAX) h) c fd) free
    ∙ (law_of_set_handle s.tables c fd h).here (position-Some _ (handles_of s.tables c) fd None free).0
  where
    h : Option Handle
    h = Some (new_handle f (opens (node_at s.tree p) s.serial) (way_of s.tree p) (node_of s.tree (node_at s.tree p)))

-- a rename's handles
pub law_of_ways : LawOfWays
law_of_ways ks d old new c fd = way-handle d old new ks c fd
