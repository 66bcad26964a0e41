-- User attributes that are read from arrays of two texts, one after the other.
use Rattle.std.proofs.Common.{◌≡◌, ℕ, ◌+◌, ◌<◌, ◌≤◌, Bool, true, false, cond, not, ◌&&◌, List, [], ◌∷◌, ◌++◌, length, get_or, drop, Some, None, is_some, is_ok, nat_le, nat_lt, bytes_eq, Result, Ok, Err, refl, sym, ap, ◌∙◌, true≢false}
use Rattle.std.proofs.lemmas.List.{drop_all}
use Rattle.toml.specs.View.{view, items_view}
use Rattle.toml.specs.declared.value.Value.{Value}
use Rattle.ov_base.specs.AttributeNames.{attribute_of}
use Rattle.ov_base.specs.UserValues.{value_of, set_value}
use Rattle.ov_wire.specs.ManifestEntries.{and_then, pair_in, pair_of, is_settable, with_attribute, attributes_from}
use Rattle.ov_wire.specs.declared.manifest.fault.EntryFault.{EntryFault}
use Rattle.ov_wire.specs.declared.manifest.fault.EntryFault.TheVariants as fault
use Rattle.ov_wire.proofs.Reading.{left}

-- more than two values are no pair
pub past-pair : (xs rest more : List Value) (x y : Value) → xs ≡ x ∷ rest → rest ≡ y ∷ more → (more ≡ [] → ⊥) → None ≡ pair_in (items_view xs)
past-pair xs rest [] x y e f some = absurd (some refl)
past-pair xs rest (z ∷ more) x y e f some = ap (λ (vs : List Value). pair_in (items_view vs)) (sym (e ∙ ap (λ (vs : List Value). x ∷ vs) f))

-- a name that isn't there goes last
set-last : (xs : List (List ℕ × List ℕ)) (n v : List ℕ) → is_some (value_of xs n) ≡ false → xs ++ (n, v) ∷ [] ≡ set_value xs n v
set-last [] n v h = refl
set-last (x ∷ xs) n v h = of (bytes_eq x.0 n) (set-last xs n v) h
  where
    of : (b : Bool) → (is_some (value_of xs n) ≡ false → xs ++ (n, v) ∷ [] ≡ set_value xs n v) → is_some (cond b (Some x.1) (value_of xs n)) ≡ false → x ∷ (xs ++ (n, v) ∷ []) ≡ cond b ((n, v) ∷ xs) (x ∷ set_value xs n v)
    of true later h = absurd (true≢false h)
    of false later h = ap (λ (ys : List (List ℕ × List ℕ)). x ∷ ys) (later h)

-- what may be set is a name, of a short value, beside fewer than 64, and not there
pub record IsSettable (before : List (List ℕ × List ℕ)) (x : List ℕ × List ℕ) : Type 0 where
  pub name : is_ok (attribute_of x.0) ≡ true
  pub value : nat_le (length x.1) 1024 ≡ true
  pub few : nat_lt (length before) 64 ≡ true
  pub new : is_some (value_of before x.0) ≡ false

pub settable : (before : List (List ℕ × List ℕ)) (x : List ℕ × List ℕ) → is_settable before x ≡ true → IsSettable before x
settable before x e = of (is_ok (attribute_of x.0)) (nat_le (length x.1) 1024) (nat_lt (length before) 64) (is_some (value_of before x.0)) refl refl refl refl e
  where
    of : (a b c d : Bool) → is_ok (attribute_of x.0) ≡ a → nat_le (length x.1) 1024 ≡ b → nat_lt (length before) 64 ≡ c → is_some (value_of before x.0) ≡ d → (a && b && c && not d) ≡ true → IsSettable before x
    of true true true false name value few new e = record { name = name; value = value; few = few; new = new }
    of true true true true name value few new e = absurd (true≢false (sym e))
    of true true false d name value few new e = absurd (true≢false (sym e))
    of true false c d name value few new e = absurd (true≢false (sym e))
    of false b c d name value few new e = absurd (true≢false (sym e))

-- setting it is adding it
pub set-settable : (before : List (List ℕ × List ℕ)) (n v : List ℕ) → is_settable before (n, v) ≡ true → with_attribute before (Some (n, v)) ≡ Ok (set_value before n v)
set-settable before n v e =
    ap (λ (b : Bool). cond b (Ok (before ++ (n, v) ∷ [])) (Err fault.Value)) e
    ∙ ap (λ (xs : List (List ℕ × List ℕ)). Ok xs) (set-last before n v (settable before (n, v) e).new)

module _ (xs : List Value) (i : ℕ) (before : List (List ℕ × List ℕ)) where
  -- one attribute on
  pub attribute-on : (x : Value) (after : List (List ℕ × List ℕ)) → i < length xs → x ≡ get_or xs i x → with_attribute before (pair_of (view x)) ≡ Ok after → attributes_from before (items_view (drop i xs)) ≡ attributes_from after (items_view (drop (i + 1) xs))
  attribute-on x after within is w =
      ap (λ ys. attributes_from before (items_view ys)) (left xs i x within is)
      ∙ ap (λ r. and_then r (λ more. attributes_from more (items_view (drop (i + 1) xs)))) w

  -- an attribute at fault
  pub attribute-fault : (x : Value) (f : EntryFault) → i < length xs → x ≡ get_or xs i x → with_attribute before (pair_of (view x)) ≡ Err f → attributes_from before (items_view (drop i xs)) ≡ Err f
  attribute-fault x f within is w =
      ap (λ ys. attributes_from before (items_view ys)) (left xs i x within is)
      ∙ ap (λ r. and_then r (λ more. attributes_from more (items_view (drop (i + 1) xs)))) w

  -- no attribute is left
  pub attributes-end : length xs ≤ i → attributes_from before (items_view (drop i xs)) ≡ Ok before
  attributes-end past = ap (λ ys. attributes_from before (items_view ys)) (drop_all i xs past)

abbrev said : List (List ℕ × List ℕ) → Result (List (List ℕ × List ℕ)) EntryFault
said xs = Ok xs

pub set-ok : (xs ys : List (List ℕ × List ℕ)) → xs ≡ ys → said xs ≡ Ok ys
set-ok xs ys e = ap (λ (zs : List (List ℕ × List ℕ)). Ok zs) e
