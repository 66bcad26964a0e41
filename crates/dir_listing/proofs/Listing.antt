-- A name that is shown is one that a layer has.
use Rattle.std.proofs.Common.{◌≡◌, ℕ, Bool, true, ◌||◌, List, [], ◌∷◌, Option, None, Some, refl, is_some, slice_get}
use Rattle.std.proofs.lemmas.Bool.{false≢true}
use Rattle.std.proofs.lemmas.Slice.Eq.{bytes_eq-Decides}
use Rattle.std.specs.List.{list_any}
use Rattle.std.specs.Option.{option_and_then}
use Rattle.std.specs.Str.{bytes_eq}
use Rattle.layer_tree.specs.Tree.{Tree, entry, seen_entry}
use Rattle.layer_tree.specs.declared.name_table.Entry.{Entry}
use Rattle.ov_base.specs.declared.place.Place.{Place}
use Rattle.merged_lookup.specs.Descent.{first, topmost, topmost_in}
use Rattle.dir_listing.specs.Bound.{is_bound}

bound-entry : (t : Tree) (e : Option Entry) (i : ℕ) (s : Option Place) (b : Bool) → (is_some s ≡ true → b ≡ true) → is_some (topmost (option_and_then (seen_entry t) e) i s) ≡ true → (is_some e || b) ≡ true
bound-entry t None i s b rest h = rest h
bound-entry t (Some e) i s b rest h = refl

bound-step : (x : Option Tree) (d : Place) (n : List ℕ) (s : Option Place) (b : Bool) → (is_some s ≡ true → b ≡ true) → is_some (topmost_in x d n s) ≡ true → (is_some (option_and_then (λ t. entry t d.key n) x) || b) ≡ true
bound-step None d n s b rest h = absurd (false≢true h)
bound-step (Some t) d n s b rest h = bound-entry t (entry t d.key n) d.layer s b rest h

-- a name that shows something is one that a layer has
pub shown-bound : (ts : List Tree) (ds : List Place) (n : List ℕ) → is_some (first ts ds n) ≡ true → list_any (is_bound ts n) ds ≡ true
shown-bound ts [] n h = absurd (false≢true h)
shown-bound ts (d ∷ ds) n h = bound-step (slice_get ts d.layer) d n (first ts ds n) (list_any (is_bound ts n) ds) (shown-bound ts ds n) h

pub same-name : (m n : List ℕ) → bytes_eq m n ≡ true → m ≡ n
same-name m n h = (bytes_eq-Decides m n).0 h
