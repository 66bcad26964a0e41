-- Whether one of the names that the layers of a directory have is shown.
use Rattle.std.proofs.Common.{◌≡◌, ℕ, ◌+◌, ◌<◌, Bool, true, false, ◌||◌, List, [], ◌∷◌, Option, None, Some, refl, sym, ap, ◌∙◌, is_some, take, length, get_or}
use Rattle.std.proofs.lemmas.Bool.{false≢true}
use Rattle.std.proofs.lemmas.List.Folds.{list_any_more, Any-from_list_any}
use Rattle.std.specs.List.{list_any}
use Rattle.std.specs.Str.{bytes_eq}
use Rattle.plain_model.specs.Layers.{Name, Path, shows}
use Rattle.mount_laws.specs.Removals.{ShowsNoName}
use Rattle.layer_tree.specs.Tree.{Tree}
use Rattle.ov_base.specs.declared.place.Place.{Place}
use Rattle.merged_lookup.specs.declared.layers.Layers.{Layers}
use Rattle.merged_lookup.specs.Merged.{trees, layers_of, places_at}
use Rattle.merged_lookup.specs.Descent.{first}
use Rattle.merged_lookup.proofs.Filled.{same-some}
use Rattle.merged_lookup.proofs.Looking.{shows-some}
use Rattle.dir_listing.specs.Bound.{is_bound}
use Rattle.dir_listing.proofs.Listing.{shown-bound, same-name}

none-of : {A : Type 0} (o : Option A) → is_some o ≡ false → o ≡ None
none-of None h = refl
none-of (Some x) h = absurd (false≢true (sym h))

hidden : (a b : Bool) → (a ≡ true → b ≡ true) → (b ≡ true → a ≡ false) → a ≡ false
hidden false b f g = refl
hidden true b f g = g (f refl)

-- whether a name is shown, from the places of its directory
pub some-shown : (l : Layers) (ds : List Place) (p : Path) (n : Name) → ds ≡ places_at 0 (layers_of l) p → is_some (first (trees l) ds n) ≡ is_some (shows 0 (layers_of l) (n ∷ p))
some-shown l ds p n is = shows-some (trees l) ds p n is ∙ sym (same-some l (n ∷ p))

-- where none of the names that the layers have is shown, no name is
pub no-name-shown : (l : Layers) (ds : List Place) (p : Path) → ds ≡ places_at 0 (layers_of l) p → ((n : Name) → list_any (is_bound (trees l) n) ds ≡ true → is_some (first (trees l) ds n) ≡ false) → ShowsNoName (layers_of l) p
no-name-shown l ds p is unshown n = none-of (shows 0 (layers_of l) (n ∷ p)) (sym (some-shown l ds p n is) ∙ hidden (is_some (first (trees l) ds n)) (list_any (is_bound (trees l) n) ds) (shown-bound (trees l) ds n) (unshown n))

-- where one of some names is shown, there is a name shown
pub some-name-shown : (l : Layers) (ds : List Place) (p : Path) → ds ≡ places_at 0 (layers_of l) p → (names : List Name) → list_any (λ n. is_some (first (trees l) ds n)) names ≡ true → (n : Name) × (is_some (shows 0 (layers_of l) (n ∷ p)) ≡ true)
some-name-shown l ds p is names h =
    let one = Any-from_list_any (λ n. is_some (first (trees l) ds n)) names h in
    (one.1, sym (some-shown l ds p one.1 is) ∙ one.4)

either : (a b c : Bool) → (a ≡ true → c ≡ false) → (b ≡ true → c ≡ false) → (a || b) ≡ true → c ≡ false
either true b c f g h = f refl
either false b c f g h = g h

unshown-step : (shown : Name → Bool) (m n : Name) (ms : List Name) (s : Bool) (same : Bool) → (same ≡ true → n ≡ m) → shown m ≡ s → (s || list_any shown ms) ≡ false → (list_any shown ms ≡ false → list_any (bytes_eq n) ms ≡ true → shown n ≡ false) → (same || list_any (bytes_eq n) ms) ≡ true → shown n ≡ false
unshown-step shown m n ms true same is at h rest e = absurd (false≢true (sym h))
unshown-step shown m n ms false true is at h rest e = ap shown (is refl) ∙ at
unshown-step shown m n ms false false is at h rest e = rest h e

-- where none of some names is shown, none that is among them is
pub names-unshown : (shown : Name → Bool) (names : List Name) → list_any shown names ≡ false → (n : Name) → list_any (bytes_eq n) names ≡ true → shown n ≡ false
names-unshown shown [] h n e = absurd (false≢true e)
names-unshown shown (m ∷ ms) h n e = unshown-step shown m n ms (shown m) (bytes_eq n m) (same-name n m) refl h (λ z. names-unshown shown ms z n) e

-- one place more of which no name is shown
pub unshown-more : (shown : Name → Bool) (ts : List Tree) (ds : List Place) (i : ℕ) (d : Place) → i < length ds → ((n : Name) → list_any (is_bound ts n) (take i ds) ≡ true → shown n ≡ false) → (names : List Name) → ((n : Name) → list_any (bytes_eq n) names ≡ is_bound ts n (get_or ds i d)) → list_any shown names ≡ false → (n : Name) → list_any (is_bound ts n) (take (i + 1) ds) ≡ true → shown n ≡ false
unshown-more shown ts ds i d within before names exact none n h =
    either (list_any (is_bound ts n) (take i ds)) (is_bound ts n (get_or ds i d)) (shown n) (before n)
    (λ bound. names-unshown shown names none n (exact n ∙ bound))
    (sym (list_any_more (is_bound ts n) ds i d within) ∙ h)
