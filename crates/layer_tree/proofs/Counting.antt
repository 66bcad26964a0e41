-- How a change of one name changes the places where a key stands.
use Rattle.std.proofs.Common.{◌≡◌, ◌≢◌, ◌⊎◌, ℕ, suc, List, [], ◌∷◌, length, Option, Some, refl, sym, ap, subst, ◌∙◌, inl, inr}
use Rattle.plain_model.proofs.Paths.{cases_pair}
use Rattle.layer_tree.specs.Walk.{Rebinds}
use Rattle.layer_tree.specs.Places.{Listed, Apart, StandsAt, HasNames}

-- the rest alone where the place is the one, and else the place before it
abbrev pub dropped : {A B : Type 0} (p : ℕ × List ℕ) (ps rest : List (ℕ × List ℕ)) → A ⊎ B → List (ℕ × List ℕ)
dropped p ps rest (inl same) = ps
dropped p ps rest (inr differs) = p ∷ rest

-- without one place
abbrev pub without : ℕ → List ℕ → List (ℕ × List ℕ) → List (ℕ × List ℕ)
without d n [] = []
without d n (p ∷ ps) = dropped p ps (without d n ps) (cases_pair p.0 d p.1 n)

module _ (old new : ℕ → List ℕ → Option ℕ) (dir : ℕ) (name : List ℕ) where
  pub StandsAt-bound : (key : ℕ) (places : List (ℕ × List ℕ)) → Rebinds old new dir name (Some key) → old dir name ≢ Some key → StandsAt old key places → StandsAt new key ((dir, name) ∷ places)
  StandsAt-bound key places binds absent stands =
      let fresh : Listed dir name places → ⊥ = λ l. absent (stands.found dir name l) in
      record {
        found = λ d n l. elim l [
          | inl here ↦ ap (λ (x : ℕ). new x n) here.0 ∙ ap (λ x. new dir x) here.1 ∙ binds.at
          | inr there ↦ binds.others d n (λ e f. fresh (subst (λ (x : ℕ). Listed x name places) e (subst (λ (x : List ℕ). Listed d x places) f there))) ∙ stands.found d n there
        ];
        all = λ d n e. elim (cases_pair d dir n name) [
          | inl both ↦ inl both
          | inr off ↦ inr (stands.all d n (sym (binds.others d n off) ∙ e))
        ];
        apart = (fresh, stands.apart);
      }

  -- another key keeps its places, whatever the name is bound to
  pub StandsAt-other : (key : ℕ) (to : Option ℕ) (places : List (ℕ × List ℕ)) → Rebinds old new dir name to → to ≢ Some key → old dir name ≢ Some key → StandsAt old key places → StandsAt new key places
  StandsAt-other key to places binds off_new off_old stands =
      record {
        found = λ d n l.
            let was = stands.found d n l in
            binds.others d n (λ e f. off_old (ap (λ (x : ℕ). old x name) (sym e) ∙ ap (λ x. old d x) (sym f) ∙ was)) ∙ was;
        all = λ d n e. elim (cases_pair d dir n name) [
          | inl both ↦ absurd (off_new (sym binds.at ∙ ap (λ (x : ℕ). new x name) (sym both.0) ∙ ap (λ x. new d x) (sym both.1) ∙ e))
          | inr off ↦ stands.all d n (sym (binds.others d n off) ∙ e)
        ];
        apart = stands.apart;
      }

  pub length_without : (places : List (ℕ × List ℕ)) → Listed dir name places → length places ≡ suc (length (without dir name places))
  length_without [] l = absurd l
  length_without (p ∷ ps) l = kept p ps (cases_pair p.0 dir p.1 name) l (length_without ps)
    where
      kept : (p : ℕ × List ℕ) (ps : List (ℕ × List ℕ)) (c : ((p.0 ≡ dir) × (p.1 ≡ name)) ⊎ ((p.0 ≡ dir) → (p.1 ≡ name) → ⊥)) → Listed dir name (p ∷ ps) → (Listed dir name ps → length ps ≡ suc (length (without dir name ps))) → suc (length ps) ≡ suc (length (dropped p ps (without dir name ps) c))
      kept p ps (inl same) l rest = refl
      kept p ps (inr differs) l rest = ap suc (rest (elim l [ inl e ↦ absurd (differs (sym e.0) (sym e.1)) | inr there ↦ there ]))

  -- what is listed without the place is listed, and is another place
  pub listed_without : (places : List (ℕ × List ℕ)) → Apart places → (d : ℕ) (n : List ℕ) → Listed d n (without dir name places) → Listed d n places × ((d ≡ dir) → (n ≡ name) → ⊥)
  listed_without [] apart d n l = absurd l
  listed_without (p ∷ ps) apart d n l = split p ps (cases_pair p.0 dir p.1 name) apart d n l (listed_without ps apart.1 d n)
    where
      split : (p : ℕ × List ℕ) (ps : List (ℕ × List ℕ)) (c : ((p.0 ≡ dir) × (p.1 ≡ name)) ⊎ ((p.0 ≡ dir) → (p.1 ≡ name) → ⊥)) → Apart (p ∷ ps) → (d : ℕ) (n : List ℕ) → Listed d n (dropped p ps (without dir name ps) c) → (Listed d n (without dir name ps) → Listed d n ps × ((d ≡ dir) → (n ≡ name) → ⊥)) → Listed d n (p ∷ ps) × ((d ≡ dir) → (n ≡ name) → ⊥)
      split p ps (inl same) apart d n l rest = (inr l, λ e f. apart.0 (subst (λ (x : ℕ). Listed x p.1 ps) (e ∙ sym same.0) (subst (λ (x : List ℕ). Listed d x ps) (f ∙ sym same.1) l)))
      split p ps (inr differs) apart d n (inl here) rest = (inl here, λ e f. differs (sym here.0 ∙ e) (sym here.1 ∙ f))
      split p ps (inr differs) apart d n (inr there) rest = (inr (rest there).0, (rest there).1)

  -- every other place stays listed
  pub listed_still : (places : List (ℕ × List ℕ)) (d : ℕ) (n : List ℕ) → Listed d n places → ((d ≡ dir) → (n ≡ name) → ⊥) → Listed d n (without dir name places)
  listed_still [] d n l off = absurd l
  listed_still (p ∷ ps) d n l off = stay p ps (cases_pair p.0 dir p.1 name) d n l off (λ m. listed_still ps d n m off)
    where
      stay : (p : ℕ × List ℕ) (ps : List (ℕ × List ℕ)) (c : ((p.0 ≡ dir) × (p.1 ≡ name)) ⊎ ((p.0 ≡ dir) → (p.1 ≡ name) → ⊥)) (d : ℕ) (n : List ℕ) → Listed d n (p ∷ ps) → ((d ≡ dir) → (n ≡ name) → ⊥) → (Listed d n ps → Listed d n (without dir name ps)) → Listed d n (dropped p ps (without dir name ps) c)
      stay p ps (inl same) d n (inl here) off rest = absurd (off (here.0 ∙ same.0) (here.1 ∙ same.1))
      stay p ps (inl same) d n (inr there) off rest = there
      stay p ps (inr differs) d n (inl here) off rest = inl here
      stay p ps (inr differs) d n (inr there) off rest = inr (rest there)

  apart_without : (places : List (ℕ × List ℕ)) → Apart places → Apart (without dir name places)
  apart_without [] apart = tt
  apart_without (p ∷ ps) apart = keep p ps (cases_pair p.0 dir p.1 name) apart (apart_without ps apart.1) (λ d n l. (listed_without ps apart.1 d n l).0)
    where
      keep : (p : ℕ × List ℕ) (ps : List (ℕ × List ℕ)) (c : ((p.0 ≡ dir) × (p.1 ≡ name)) ⊎ ((p.0 ≡ dir) → (p.1 ≡ name) → ⊥)) → Apart (p ∷ ps) → Apart (without dir name ps) → ((d : ℕ) (n : List ℕ) → Listed d n (without dir name ps) → Listed d n ps) → Apart (dropped p ps (without dir name ps) c)
      keep p ps (inl same) apart rest was = apart.1
      keep p ps (inr differs) apart rest was = (λ l. apart.0 (was p.0 p.1 l), rest)

  -- a name that goes, or leads to another key, takes its one place from the key's list
  pub StandsAt-unbound : (key : ℕ) (to : Option ℕ) (places : List (ℕ × List ℕ)) → Rebinds old new dir name to → to ≢ Some key → StandsAt old key places → StandsAt new key (without dir name places)
  StandsAt-unbound key to places binds off_new stands =
      record {
        found = λ d n l.
            let was = listed_without places stands.apart d n l in
            binds.others d n was.1 ∙ stands.found d n was.0;
        all = λ d n e. elim (cases_pair d dir n name) [
          | inl both ↦ absurd (off_new (sym (ap (λ (x : ℕ). new x n) both.0 ∙ ap (λ x. new dir x) both.1 ∙ binds.at) ∙ e))
          | inr off ↦ listed_still places d n (stands.all d n (sym (binds.others d n off) ∙ e)) off
        ];
        apart = apart_without places stands.apart;
      }

-- steps that lead alike lead to a key by the same names
pub HasNames-alike : (old new : ℕ → List ℕ → Option ℕ) → ((d : ℕ) (n : List ℕ) → new d n ≡ old d n) → (key count : ℕ) → HasNames old key count → HasNames new key count
HasNames-alike old new same key count names =
    record {
      places = names.places;
      stands = record {
        found = λ d n l. same d n ∙ names.stands.found d n l;
        all = λ d n e. names.stands.all d n (sym (same d n) ∙ e);
        apart = names.stands.apart;
      };
      counted = names.counted;
    }
