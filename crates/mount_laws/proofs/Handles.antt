-- Tests of identities, and that a node which a handle is open on is held.
use Rattle.std.proofs.Common.{◌≡◌, ℕ, zero, suc, Bool, true, false, ◌≢◌, ◌||◌, List, [], ◌∷◌, Option, None, Some, refl, ap, ◌∙◌, cond, inl, inr}
use Rattle.std.proofs.lemmas.Bool.{cases_Bool}
use Rattle.ov_base.specs.declared.node_id.NodeId.{NodeId}
use Rattle.plain_model.specs.Tree.{same_id}
use Rattle.std.specs.Prelude.{nat_eq, slice_get}
use Rattle.std.specs.List.{list_any}
use Rattle.plain_model.specs.Machine.{Handle, Table, handles_of, held_in, handle_of}
use Rattle.plain_model.specs.Changes.{holds, is_held}
use Rattle.plain_model.proofs.Paths.{ids_tell}

-- two identities that differ are told apart
pub not-same : (x y : NodeId) → x ≢ y → same_id x y ≡ false
not-same x y h = elim (cases_Bool (same_id x y)) [ inl s ↦ absurd (h ((ids_tell x y).0 s)) | inr s ↦ s ]

or-true : (b : Bool) → b || true ≡ true
or-true true = refl
or-true false = refl

-- a test that an element passes is passed in the list
any-at : {X : Type 0} (f : X → Bool) (xs : List X) (i : ℕ) (x : X) → slice_get xs i ≡ Some x → f x ≡ true → list_any f xs ≡ true
any-at f [] i x h g = cc
any-at f (y ∷ ys) zero x h g = let e : y ≡ x = cc in ap (λ b. b || list_any f ys) (ap f e ∙ g)
any-at f (y ∷ ys) (suc i) x h g = ap (λ b. f y || b) (any-at f ys i x h g) ∙ or-true (f y)

-- a node that a handle is open on is held
pub held-by : (ks : List Table) (c fd : ℕ) (h : Handle) → handle_of ks c fd ≡ Some h → is_held ks h.node ≡ true
held-by [] c fd h on = cc
held-by (k ∷ ks) c fd h on = by (nat_eq k.client c) (held-by ks c fd h) on
  where
    in-table : (o : Option (Option Handle)) → slice_get k.handles fd ≡ o → held_in o ≡ Some h → list_any (holds h.node) k.handles ≡ true
    in-table None e on = cc
    in-table (Some None) e on = cc
    in-table (Some (Some g)) e on = let same : g ≡ h = cc in any-at (holds h.node) k.handles fd (Some g) e (ap (λ g. holds h.node (Some g)) same ∙ (ids_tell h.node h.node).1 refl)

    by : (b : Bool) → (handle_of ks c fd ≡ Some h → is_held ks h.node ≡ true) → held_in (slice_get (cond b k.handles (handles_of ks c)) fd) ≡ Some h → is_held (k ∷ ks) h.node ≡ true
    by true rest on = ap (λ b. b || is_held ks h.node) (in-table (slice_get k.handles fd) refl on)
    by false rest on = ap (λ b. list_any (holds h.node) k.handles || b) (rest on) ∙ or-true (list_any (holds h.node) k.handles)
