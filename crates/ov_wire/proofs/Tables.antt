-- What holds of each key of a table holds of each of its members.
use Rattle.std.proofs.Common.{◌≡◌, ℕ, Bool, ◌&&◌, List, [], ◌∷◌, Global, String, string_bytes, length, refl, ap, arith}
use Rattle.std.specs.List.{list_all}
use Rattle.toml.specs.Data.{Data}
use Rattle.toml.specs.View.{view, items_view, members_view}
use Rattle.toml.specs.declared.value.Value.{Value}
use Rattle.ov_wire.specs.ManifestEntries.{members_all, items_all}
use Rattle.ov_wire.specs.Manifests.{items_len}

pub members_all-view : (test : List ℕ → Data → Bool) (entries : List (String Global × Value)) → members_all test (members_view entries) ≡ list_all (λ e. test (string_bytes e.0) (view e.1)) entries
members_all-view test [] = refl
members_all-view test (e ∷ entries) = ap (λ b. test (string_bytes e.0) (view e.1) && b) (members_all-view test entries)

pub items_all-view : (test : Data → Bool) (values : List Value) → items_all test (items_view values) ≡ list_all (λ v. test (view v)) values
items_all-view test [] = refl
items_all-view test (v ∷ values) = ap (λ b. test (view v) && b) (items_all-view test values)

pub items_len-view : (values : List Value) → items_len (items_view values) ≡ length values
items_len-view [] = refl
items_len-view (v ∷ values) = grind (arith, items_len-view values)
