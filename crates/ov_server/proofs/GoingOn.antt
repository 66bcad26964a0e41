-- Members of a table with another value at a key.
use Rattle.std.proofs.Common.{◌≡◌, ◌∙◌, ◌<◌, ℕ, Bool, true, false, List, [], ◌∷◌, Option, Some, None, option_map, length}
use Rattle.std.proofs.Common.{String, BTreeMap, Global, Ordering, Less, Equal, Greater, string_bytes, nat_cmp}
use Rattle.std.proofs.Common.{codes, refl, ap, ap₂, arith}
use Rattle.std.proofs.lemmas.Cmp.{nat_list_cmp_total}
use Rattle.std.specs.BTreeMap.{get, insert_entry}
use Rattle.std.specs.Cmp.{tied_itself}
use Rattle.std.specs.Cmp.Lexicographic.{slice_cmp}
use Rattle.std.specs.List.{insert, remove, slice_index_or}
use Rattle.std.specs.Ordering.{match_ordering}
use Rattle.std.specs.String.{string_cmp}
use Rattle.toml.specs.Data.{Data, array, boolean, Items, item, Members, no_members, member, get_member}
use Rattle.toml.specs.View.{items_view, view, members_view, table_view}
use Rattle.toml.specs.declared.value.Value.{Value}
use Rattle.toml.proofs.Views.{view-lookup}
use Rattle.ov_wire.specs.Manifests.{has_upper}
use Rattle.ov_wire.specs.ManifestLayers.{layer_items}
use Rattle.ov_server.specs.GoingOn.{alone, going_on, layer_alone, layer_in, lowers_in, with_member}

abbrev Entry : Type 0
Entry = String Global × Value

inserted : (o : Ordering) (k : String Global) (v : Value) (e : Entry) (es : List Entry)
    → members_view (insert_entry string_cmp es k v) ≡ with_member (string_bytes k) (view v) (members_view es)
    → members_view (match_ordering o ((k, v) ∷ e ∷ es) ((e.0, v) ∷ es) (e ∷ insert_entry string_cmp es k v))
    ≡ match_ordering o (member (string_bytes k) (view v) (members_view (e ∷ es)))
    (member (string_bytes e.0) (view v) (members_view es))
    (member (string_bytes e.0) (view e.1) (with_member (string_bytes k) (view v) (members_view es)))
inserted Less k v e es ih = refl
inserted Equal k v e es ih = refl
inserted Greater k v e es ih = ap (member (string_bytes e.0) (view e.1)) ih

-- an insert into the map of a table puts the value at its key
pub insert_view : (k : String Global) (v : Value) (es : List Entry)
    → members_view (insert_entry string_cmp es k v) ≡ with_member (string_bytes k) (view v) (members_view es)
insert_view k v [] = refl
insert_view k v (e ∷ es) = inserted (string_cmp k e.0) k v e es (insert_view k v es)

again : (o : Ordering) (k : List ℕ) (a b : Data) (l : List ℕ) (d : Data) (rest : Members)
    → slice_cmp nat_cmp k l ≡ o → with_member k a (with_member k b rest) ≡ with_member k a rest
    → with_member k a (match_ordering o (member k b (member l d rest)) (member l b rest)
    (member l d (with_member k b rest)))
    ≡ match_ordering o (member k a (member l d rest)) (member l a rest) (member l d (with_member k a rest))
again Less k a b l d rest is ih = rw (tied_itself nat_list_cmp_total k) refl
again Equal k a b l d rest is ih = rw is refl
again Greater k a b l d rest is ih = rw is (ap (member l d) ih)

-- a value that is put twice is put once
pub put_twice : (k : List ℕ) (a b : Data) (m : Members) → with_member k a (with_member k b m) ≡ with_member k a m
put_twice k a b no_members = rw (tied_itself nat_list_cmp_total k) refl
put_twice k a b (member l d rest) = again (slice_cmp nat_cmp k l) k a b l d rest refl (put_twice k a b rest)

-- what was put is at its key
pub put_view : (old new : BTreeMap (String Global) Value) (key : String Global) (name : List ℕ) (v : Value)
    → new.entries ≡ insert_entry string_cmp old.entries key v → string_bytes key ≡ name
    → table_view new ≡ with_member name (view v) (table_view old)
put_view old new key name v is same =
    ap members_view is ∙ insert_view key v old.entries
    ∙ ap (λ (n : List ℕ). with_member n (view v) (members_view old.entries)) same

-- what was there before is what the key had
pub before_view : (old : BTreeMap (String Global) Value) (key : String Global) (name : List ℕ) (before : Option Value)
    → before ≡ get string_cmp old key → string_bytes key ≡ name
    → option_map view before ≡ get_member name (table_view old)
before_view old key name before is same =
    ap (option_map view) is ∙ view-lookup (string_bytes key) old.entries
    ∙ ap (λ (n : List ℕ). get_member n (members_view old.entries)) same

-- a manifest whose layers were taken, and put again below an upper
pub joined_view : (old taken put joined : Members) (d a b u : Data) (items layers : Items) (upper : Bool)
    → taken ≡ with_member (codes "layer") d old → put ≡ with_member (codes "layer") a taken
    → joined ≡ with_member (codes "upper") b put → a ≡ array items → b ≡ boolean true
    → items ≡ item u (lowers_in upper layers) → layers ≡ layer_items old → upper ≡ has_upper old
    → joined ≡ going_on u old
joined_view old taken put joined d a b u items layers upper first second third is_array is_true has own there =
    let under : a ≡ array (item u (lowers_in (has_upper old) (layer_items old))) =
    is_array ∙ ap array (has ∙ ap (item u) (ap₂ lowers_in there own)) in
    let over : put ≡ with_member (codes "layer") (array (item u (lowers_in (has_upper old) (layer_items old)))) old =
    second ∙ ap (with_member (codes "layer") a) first ∙ put_twice (codes "layer") a d old
    ∙ ap (λ (x : Data). with_member (codes "layer") x old) under in
    third ∙ ap₂ (with_member (codes "upper")) is_true over

-- entries of which one is left when the first is gone, or none, or more
pub none_alone : (old : List Entry) → length old ≡ 0 → layer_alone (members_view old) ≡ None
none_alone [] none = refl
none_alone (e ∷ rest) none = absurd (omega arith)

pub one_alone : (old : List Entry) (first : Entry) (rest : List Entry) → old ≡ first ∷ rest → length rest ≡ 0
    → layer_alone (members_view old) ≡ layer_in (string_bytes first.0) (view first.1)
one_alone old first [] is none = rw is refl
one_alone old first (e ∷ rest) is none = absurd (omega arith)

pub more_alone : (old : List Entry) (first : Entry) (rest : List Entry) → old ≡ first ∷ rest
    → (length rest ≡ 0 → ⊥) → layer_alone (members_view old) ≡ None
more_alone old first [] is some = absurd (some refl)
more_alone old first (e ∷ rest) is some = rw is refl

-- the one of some values, and none of more or less
pub one_value : (values : List Value) (v : Value) → length values ≡ 1 → v ≡ slice_index_or values 0 v
    → Some (view v) ≡ alone (items_view values)
one_value [] v one is = absurd (omega arith)
one_value (x ∷ []) v one is = ap (λ (y : Value). Some (view y)) is
one_value (x ∷ y ∷ rest) v one is = absurd (omega arith)

pub no_value : (values : List Value) → (length values ≡ 1 → ⊥) → None ≡ alone (items_view values)
no_value [] other = refl
no_value (x ∷ []) other = absurd (other refl)
no_value (x ∷ y ∷ rest) other = refl

-- the lower ones of layers whose first is gone, or of which none is an upper
pub without_first : (layers : List Value) → 0 < length layers
    → items_view (remove layers 0) ≡ lowers_in true (items_view layers)
without_first [] some = absurd (omega arith)
without_first (x ∷ rest) some = refl

pub with_none : (upper : Bool) (layers : List Value) → (upper ≡ true → 0 < length layers → ⊥)
    → items_view layers ≡ lowers_in upper (items_view layers)
with_none true [] none = refl
with_none true (x ∷ rest) none = absurd (none refl (omega arith))
with_none false layers none = refl

-- layers under an upper
pub under_upper : (u : Value) (layers : List Value) → items_view (insert layers 0 u) ≡ item (view u) (items_view layers)
under_upper u [] = refl
under_upper u (x ∷ rest) = refl
