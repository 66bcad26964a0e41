-- What descriptors lead to as clients come and go.
use Rattle.std.proofs.Common.{◌≡◌, ℕ, zero, suc, Bool, true, false, not, cond, List, [], ◌∷◌, ◌++◌, Option, None, refl, sym, ap, ◌∙◌, slice_get, replicate, nat_eq}
use Rattle.std.proofs.lemmas.Bool.{false≢true, eqb-true}
use Rattle.plain_model.specs.Machine.{DESCRIPTORS_MAX, Handle, Table, free_table, handles_of, held_in, handle_of}
use Rattle.plain_model.proofs.Held.{left_by}

-- a free descriptor leads to nothing
free-none : (n i : ℕ) → held_in (slice_get (replicate {A = Option Handle} n None) i) ≡ None
free-none zero i = refl
free-none (suc n) zero = refl
free-none (suc n) (suc i) = free-none n i

-- a client comes, and descriptors lead to what they led to
pub joined-handle : (ks : List Table) (c k i : ℕ) → handle_of (ks ++ free_table c ∷ []) k i ≡ handle_of ks k i
joined-handle [] c k i = by (nat_eq c k)
  where
    by : (b : Bool) → held_in (slice_get (cond b (free_table c).handles []) i) ≡ None
    by true = free-none DESCRIPTORS_MAX i
    by false = refl
joined-handle (x ∷ ks) c k i = by (nat_eq x.client k) (joined-handle ks c k i)
  where
    by : (b : Bool) → handle_of (ks ++ free_table c ∷ []) k i ≡ handle_of ks k i →
        held_in (slice_get (cond b x.handles (handles_of (ks ++ free_table c ∷ []) k)) i)
        ≡ held_in (slice_get (cond b x.handles (handles_of ks k)) i)
    by true rest = refl
    by false rest = rest

-- without a client the others have the handles that they had
others-handles : (c b : ℕ) (ks : List Table) → nat_eq b c ≡ false → handles_of (left_by c ks) b ≡ handles_of ks b
others-handles c b [] other = refl
others-handles c b (k ∷ ks) other = by (nat_eq k.client c) (nat_eq k.client b) refl refl (others-handles c b ks other)
  where
    by : (p q : Bool) → nat_eq k.client c ≡ p → nat_eq k.client b ≡ q → handles_of (left_by c ks) b ≡ handles_of ks b →
        handles_of (cond (not p) (k ∷ left_by c ks) (left_by c ks)) b ≡ cond q k.handles (handles_of ks b)
    by true true gone here rest =
        absurd (false≢true (sym other ∙ ap (λ n. nat_eq n c) (sym (eqb-true k.client b here)) ∙ gone))
    by true false gone here rest = rest
    by false q stays here rest = ap (λ x. cond x k.handles (handles_of (left_by c ks) b)) here ∙ ap (cond q k.handles) rest

-- and the client has none
gone-handles : (c : ℕ) (ks : List Table) → handles_of (left_by c ks) c ≡ []
gone-handles c [] = refl
gone-handles c (k ∷ ks) = by (nat_eq k.client c) refl (gone-handles c ks)
  where
    by : (b : Bool) → nat_eq k.client c ≡ b → handles_of (left_by c ks) c ≡ [] →
        handles_of (cond (not b) (k ∷ left_by c ks) (left_by c ks)) c ≡ []
    by true gone rest = rest
    by false stays rest = ap (λ x. cond x k.handles (handles_of (left_by c ks) c)) stays ∙ rest

-- a client goes that has nothing open, and descriptors lead to what they led to
pub left-handle : (ks : List Table) (c : ℕ) → ((i : ℕ) → handle_of ks c i ≡ None) → (k i : ℕ) →
    handle_of (left_by c ks) k i ≡ handle_of ks k i
left-handle ks c bare k i = by (nat_eq k c) refl
  where
    by : (b : Bool) → nat_eq k c ≡ b → handle_of (left_by c ks) k i ≡ handle_of ks k i
    by true same =
        ap (λ n. handle_of (left_by c ks) n i) (eqb-true k c same) ∙ ap (λ hs. held_in (slice_get hs i)) (gone-handles c ks)
        ∙ sym (bare i) ∙ ap (λ n. handle_of ks n i) (sym (eqb-true k c same))
    by false other = ap (λ hs. held_in (slice_get hs i)) (others-handles c k ks other)
