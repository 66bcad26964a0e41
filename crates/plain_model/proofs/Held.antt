-- Which nodes have an open handle, after the changes of the descriptors.
use Rattle.std.proofs.Common.{◌≡◌, ℕ, zero, suc, Bool, true, false, not, cond, ◌||◌, List, [], ◌∷◌, ◌++◌, Option, None, Some, refl, sym, ap, subst, ◌∙◌, length, map, filter, replicate, nat_eq, is_none, get_or}
use Rattle.std.specs.Prelude.{slice_get, slice_set}
use Rattle.std.specs.Option.{unwrap_or}
use Rattle.std.specs.List.{list_any, IsDistinct, AllByRecursion}
use Rattle.std.proofs.lemmas.Bool.{false≢true, eqb-true, eqb-false, ne_eqb}
use Rattle.std.proofs.lemmas.List.{length-set}
use Rattle.std.proofs.lemmas.List.Folds.{list_any-append}
use Rattle.std.proofs.lemmas.List.Quantifiers.{position-Some}
use Rattle.std.proofs.lemmas.Option.{slice_get-get_or}
use Rattle.std.proofs.lemmas.Map.Keys.{IsDistinct-head, IsDistinct-tail}
use Rattle.ov_base.specs.declared.node_id.NodeId.{NodeId}
use Rattle.plain_model.specs.Layers.{Name}
use Rattle.plain_model.specs.Machine.{Handle, Table, free_table, handles_of, held_in, handle_of, lowest_free, DESCRIPTORS_MAX}
use Rattle.plain_model.specs.Changes.{holds, is_held, with_handle, re_way, re_ways}
use Rattle.plain_model.specs.Settling.{clients_of}

-- whether one of some descriptors is on a node
abbrev pub is_on : NodeId → List (Option Handle) → Bool
is_on d hs = list_any (holds d) hs

-- a fact of tables that no change of their handles touches, as long as they are as many
abbrev pub IsFixed : {B : Type 0} → (Table → B) → Type 0
IsFixed f = (k : Table) (hs : List (Option Handle)) → length hs ≡ length k.handles → f (record k { handles = hs }) ≡ f k

-- a change of one descriptor leaves such a fact
pub fixed-with : {B : Type 0} (f : Table → B) → IsFixed f → (ks : List Table) (c fd : ℕ) (h : Option Handle) → map f (with_handle ks c fd h) ≡ map f ks
fixed-with f fixed [] c fd h = refl
fixed-with f fixed (k ∷ ks) c fd h = by (nat_eq k.client c) (fixed-with f fixed ks c fd h)
  where
    by : (b : Bool) → map f (with_handle ks c fd h) ≡ map f ks → f (cond b (record k { handles = slice_set k.handles fd h }) k) ∷ map f (with_handle ks c fd h) ≡ f k ∷ map f ks
    by true rest = λ i. fixed k (slice_set k.handles fd h) (length-set k.handles fd h) i ∷ rest i
    by false rest = ap (λ z. f k ∷ z) rest

-- and so does a rename of what handles are on
length-ways : (d : Option NodeId) (old new : Option (NodeId × Name)) (hs : List (Option Handle)) → length (map (re_way d old new) hs) ≡ length hs
length-ways d old new [] = refl
length-ways d old new (h ∷ hs) = ap suc (length-ways d old new hs)

pub fixed-ways : {B : Type 0} (f : Table → B) → IsFixed f → (ks : List Table) (d : Option NodeId) (old new : Option (NodeId × Name)) → map f (re_ways ks d old new) ≡ map f ks
fixed-ways f fixed [] d old new = refl
fixed-ways f fixed (k ∷ ks) d old new = λ i. fixed k (map (re_way d old new) k.handles) (length-ways d old new k.handles) i ∷ fixed-ways f fixed ks d old new i

-- a handle keeps its node as its way in changes
way-holds : (x : NodeId) (d : Option NodeId) (old new : Option (NodeId × Name)) (h : Option Handle) → holds x (re_way d old new h) ≡ holds x h
way-holds x None old new h = refl
way-holds x (Some d) old new None = refl
way-holds x (Some d) old new (Some h) = by _
  where
    by : (b : Bool) → holds x (Some (cond b (record h { way = new }) h)) ≡ holds x (Some h)
    by true = refl
    by false = refl

-- so the handles of a table are on the same nodes
ways-on : (x : NodeId) (d : Option NodeId) (old new : Option (NodeId × Name)) (hs : List (Option Handle)) → is_on x (map (re_way d old new) hs) ≡ is_on x hs
ways-on x d old new [] = refl
ways-on x d old new (h ∷ hs) = λ i. way-holds x d old new h i || ways-on x d old new hs i

-- and those of all tables
pub ways-held : (ks : List Table) (d : Option NodeId) (old new : Option (NodeId × Name)) (x : NodeId) → is_held (re_ways ks d old new) x ≡ is_held ks x
ways-held [] d old new x = refl
ways-held (k ∷ ks) d old new x = λ i. ways-on x d old new k.handles i || ways-held ks d old new x i

-- a descriptor that changes from one handle to another that is on the node, or neither is
set-on : (x : NodeId) (hs : List (Option Handle)) (fd : ℕ) (h : Option Handle) → holds x h ≡ holds x (held_in (slice_get hs fd)) → is_on x (slice_set hs fd h) ≡ is_on x hs
set-on x [] fd h e = refl
set-on x (None ∷ hs) zero h e = ap (λ b. b || is_on x hs) e
set-on x (Some g ∷ hs) zero h e = ap (λ b. b || is_on x hs) e
set-on x (g ∷ hs) (suc fd) h e = ap (λ b. holds x g || b) (set-on x hs fd h e)

-- numbers that differ do so from the other side
pub flipped : (a b : ℕ) → nat_eq a b ≡ false → nat_eq b a ≡ false
flipped a b e = ne_eqb b a (λ f. eqb-false a b e (sym f))

-- tables of other clients don't change
others-with : (c : ℕ) (ks : List Table) (fd : ℕ) (h : Option Handle) → AllByRecursion (λ y. nat_eq c y ≡ false) (clients_of ks) → with_handle ks c fd h ≡ ks
others-with c [] fd h a = refl
others-with c (k ∷ ks) fd h a = λ i. cond (flipped c k.client a.0 i) (record k { handles = slice_set k.handles fd h }) k ∷ others-with c ks fd h a.1 i

-- a client's descriptor changes from one handle to another that is on the node, or neither is
pub with-held : (ks : List Table) (c fd : ℕ) (h : Option Handle) (x : NodeId) → IsDistinct nat_eq (clients_of ks) → holds x h ≡ holds x (handle_of ks c fd) → is_held (with_handle ks c fd h) x ≡ is_held ks x
with-held [] c fd h x apart e = refl
with-held (k ∷ ks) c fd h x apart e = by (nat_eq k.client c) refl e (with-held ks c fd h x (IsDistinct-tail nat_eq k.client (clients_of ks) apart))
  where
    by : (b : Bool) → nat_eq k.client c ≡ b → holds x h ≡ holds x (held_in (slice_get (cond b k.handles (handles_of ks c)) fd)) → (holds x h ≡ holds x (handle_of ks c fd) → is_held (with_handle ks c fd h) x ≡ is_held ks x) → is_on x (cond b (record k { handles = slice_set k.handles fd h }) k).handles || is_held (with_handle ks c fd h) x ≡ is_on x k.handles || is_held ks x
    by true same e rest =
        let z : with_handle ks c fd h ≡ ks = others-with c ks fd h (subst (λ n. AllByRecursion (λ y. nat_eq n y ≡ false) (clients_of ks)) (eqb-true k.client c same) (IsDistinct-head nat_eq k.client (clients_of ks) apart)) in
        λ i. set-on x k.handles fd h e i || is_held (z i) x
    by false other e rest = ap (λ b. is_on x k.handles || b) (rest e)

-- a test of two, of which the second passes
or-true : (b : Bool) → b || true ≡ true
or-true true = refl
or-true false = refl

-- a node that a descriptor is on
on-at : (x : NodeId) (hs : List (Option Handle)) (fd : ℕ) → holds x (held_in (slice_get hs fd)) ≡ true → is_on x hs ≡ true
on-at x [] fd e = absurd (false≢true e)
on-at x (None ∷ hs) zero e = absurd (false≢true e)
on-at x (Some g ∷ hs) zero e = ap (λ b. b || is_on x hs) e
on-at x (g ∷ hs) (suc fd) e = ap (λ b. holds x g || b) (on-at x hs fd e) ∙ or-true (holds x g)

-- a node with an open handle of a client is held
pub held-by : (ks : List Table) (c fd : ℕ) (x : NodeId) → holds x (handle_of ks c fd) ≡ true → is_held ks x ≡ true
held-by [] c fd x e = absurd (false≢true e)
held-by (k ∷ ks) c fd x e = by (nat_eq k.client c) e (held-by ks c fd x)
  where
    by : (b : Bool) → holds x (held_in (slice_get (cond b k.handles (handles_of ks c)) fd)) ≡ true → (holds x (handle_of ks c fd) ≡ true → is_held ks x ≡ true) → is_on x k.handles || is_held ks x ≡ true
    by true e rest = ap (λ b. b || is_held ks x) (on-at x k.handles fd e)
    by false e rest = ap (λ b. is_on x k.handles || b) (rest e) ∙ or-true (is_on x k.handles)

-- the lowest free descriptor is free, where there is one
pub lowest-none : (ks : List Table) (c : ℕ) → is_none (lowest_free ks c) ≡ false → handle_of ks c (unwrap_or (lowest_free ks c) DESCRIPTORS_MAX) ≡ None
lowest-none ks c e = by (lowest_free ks c) refl e
  where
    free : (o : Option (Option Handle)) → ((x : Option Handle) → o ≡ Some x → is_none x ≡ true) → held_in o ≡ None
    free None f = refl
    free (Some None) f = refl
    free (Some (Some x)) f = absurd (false≢true (f (Some x) refl))

    by : (o : Option ℕ) → lowest_free ks c ≡ o → is_none o ≡ false → handle_of ks c (unwrap_or o DESCRIPTORS_MAX) ≡ None
    by None f e = absurd (false≢true (sym e))
    by (Some i) f e =
        let p = position-Some is_none (handles_of ks c) i None f in
        ap held_in (slice_get-get_or (handles_of ks c) i None p.0) ∙ free (Some (get_or (handles_of ks c) i None)) (λ x g. ap is_none (let s : get_or (handles_of ks c) i None ≡ x = cc in sym s) ∙ p.1)

-- a client's descriptors after one of them changes
pub with-handles : (ks : List Table) (c fd : ℕ) (h : Option Handle) → handles_of (with_handle ks c fd h) c ≡ slice_set (handles_of ks c) fd h
with-handles [] c fd h = refl
with-handles (k ∷ ks) c fd h = by (nat_eq k.client c) refl (with-handles ks c fd h)
  where
    by : (b : Bool) → nat_eq k.client c ≡ b → handles_of (with_handle ks c fd h) c ≡ slice_set (handles_of ks c) fd h → cond (nat_eq (cond b (record k { handles = slice_set k.handles fd h }) k).client c) (cond b (record k { handles = slice_set k.handles fd h }) k).handles (handles_of (with_handle ks c fd h) c) ≡ slice_set (cond b k.handles (handles_of ks c)) fd h
    by true e rest = ap (λ b. cond b (slice_set k.handles fd h) (handles_of (with_handle ks c fd h) c)) e
    by false e rest = ap (λ b. cond b k.handles (handles_of (with_handle ks c fd h) c)) e ∙ rest

-- free descriptors are on no node
free-on : (x : NodeId) (n : ℕ) → is_on x (replicate n None) ≡ false
free-on x zero = refl
free-on x (suc n) = free-on x n

-- a client comes
pub joined-held : (ks : List Table) (c : ℕ) (x : NodeId) → is_held (ks ++ free_table c ∷ []) x ≡ is_held ks x
joined-held ks c x = list_any-append (λ (k : Table). is_on x k.handles) ks (free_table c ∷ []) ∙ ap (λ b. is_held ks x || (b || false)) (free-on x DESCRIPTORS_MAX) ∙ or-false (is_held ks x)
  where
    or-false : (b : Bool) → b || (false || false) ≡ b
    or-false true = refl
    or-false false = refl

-- the tables but a client's
abbrev pub left_by : ℕ → List Table → List Table
left_by c ks = filter {X = Table} (λ k. not (nat_eq k.client c)) ks

-- where it has none, they are all of them
others-left : (c : ℕ) (ks : List Table) → AllByRecursion (λ y. nat_eq c y ≡ false) (clients_of ks) → left_by c ks ≡ ks
others-left c [] a = refl
others-left c (k ∷ ks) a = λ i. cond (not (flipped c k.client a.0 i)) (k ∷ others-left c ks a.1 i) (others-left c ks a.1 i)

-- a client goes whose descriptors are on no node
pub left-held : (ks : List Table) (c : ℕ) (x : NodeId) → IsDistinct nat_eq (clients_of ks) → is_on x (handles_of ks c) ≡ false → is_held (left_by c ks) x ≡ is_held ks x
left-held [] c x apart e = refl
left-held (k ∷ ks) c x apart e = by (nat_eq k.client c) refl e (left-held ks c x (IsDistinct-tail nat_eq k.client (clients_of ks) apart))
  where
    by : (b : Bool) → nat_eq k.client c ≡ b → is_on x (cond b k.handles (handles_of ks c)) ≡ false → (is_on x (handles_of ks c) ≡ false → is_held (left_by c ks) x ≡ is_held ks x) → is_held (cond (not b) (k ∷ left_by c ks) (left_by c ks)) x ≡ is_on x k.handles || is_held ks x
    by true same e rest =
        let z : left_by c ks ≡ ks = others-left c ks (subst (λ n. AllByRecursion (λ y. nat_eq n y ≡ false) (clients_of ks)) (eqb-true k.client c same) (IsDistinct-head nat_eq k.client (clients_of ks) apart)) in
        ap (λ ls. is_held ls x) z ∙ ap (λ b. b || is_held ks x) (sym e)
    by false other e rest = ap (λ b. is_on x k.handles || b) (rest e)
