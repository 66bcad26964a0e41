-- What is found first at a name, where bindings are joined, sorted and freed of repeated names.
use Rattle.std.proofs.Common.{◌≡◌, ℕ, Bool, true, false, not, cond, ◌||◌, ◌&&◌, List, [], ◌∷◌, ◌++◌, Option, None, Some, IsSome, refl, sym, ap, ◌∙◌, is_some, map, option_map}
use Rattle.std.proofs.lemmas.Bool.{false≢true, true≢false}
use Rattle.std.proofs.lemmas.Cmp.{nat_list_cmp_total}
use Rattle.std.proofs.lemmas.List.Folds.{Any-from_list_any}
use Rattle.std.proofs.lemmas.List.Sorted.{list_any-IsPermutation}
use Rattle.std.proofs.lemmas.Map.Text.{is_eq-slice_cmp}
use Rattle.std.specs.List.{list_any, filter, dedup, dedup_from, AllByRecursion}
use Rattle.std.specs.List.Sorted.{IsPermutation, IsStrictlySortedBy, ties}
use Rattle.std.specs.Option.{option_and_then}
use Rattle.std.specs.Str.{bytes_eq}
use Rattle.std.specs.Ordering.{nat_cmp, is_eq, is_lt, ordering_reverse}
use Rattle.std.specs.Cmp.Lexicographic.{slice_cmp}
use Rattle.std.specs.declared.cmp.Ordering.{Ordering}
use Rattle.std.specs.declared.cmp.Ordering.TheVariants.{Less, Equal, Greater}
use Rattle.slab.specs.Slab.{get}
use Rattle.layer_tree.specs.Table.{object_key}
use Rattle.layer_tree.specs.Tree.{Tree, IsTree, entry, seen, seen_entry}
use Rattle.layer_tree.specs.declared.node.Node.{Node}
use Rattle.layer_tree.specs.declared.node.Node.TheVariants as node
use Rattle.layer_tree.specs.declared.name_table.Entry.{Entry}
use Rattle.layer_tree.specs.declared.name_table.Entry.TheVariants.{Object, Whiteout}
use Rattle.ov_base.specs.declared.place.Place.{Place}
use Rattle.merged_lookup.specs.Descent.{topmost}
use Rattle.dir_listing.specs.declared.bound.Bound.{Bound}
use Rattle.dir_listing.specs.Bound.{by_name, found, shows_or, is_object}
use Rattle.dir_listing.proofs.Listing.{same-name}

-- whether two bindings have one name
abbrev pub same_behind : Bound → Bound → Bool
same_behind a b = bytes_eq a.name.now b.name.now

pub map-same : {A : Type 0} (xs : List A) → map (λ x. x) xs ≡ xs
map-same [] = refl
map-same (x ∷ xs) = ap (λ ys. x ∷ ys) (map-same xs)

shown-node : (k i : ℕ) (s : Option Place) (o : Option Node) → IsSome o → is_some (topmost (option_map (seen k) o) i s) ≡ true
shown-node k i s None there = absurd (false≢true there)
shown-node k i s (Some (node.Directory d)) there = refl
shown-node k i s (Some (node.Inode f)) there = refl

shown-entry : (t : Tree) (e : Option Entry) (i : ℕ) (s : Option Place) → ((k : ℕ) → e ≡ Some (Object k) → IsSome (get t k)) → is_some (topmost (option_and_then (seen_entry t) e) i s) ≡ shows_or e (is_some s)
shown-entry t None i s there = refl
shown-entry t (Some Whiteout) i s there = refl
shown-entry t (Some (Object k)) i s there = shown-node k i s (get t k) (there k refl)

-- what a directory has at a name decides, since names lead to objects that are there
pub entry-decides : (t : Tree) (tree : IsTree t) (dir i : ℕ) (n : List ℕ) (s : Option Place) → is_some (topmost (option_and_then (seen_entry t) (entry t dir n)) i s) ≡ shows_or (entry t dir n) (is_some s)
entry-decides t tree dir i n s = shown-entry t (entry t dir n) i s (λ k e. tree.present dir n k (ap (option_and_then object_key) e))

decided : (hit : Bool) (e : Entry) (u v : Option Entry) (b c : Bool) → shows_or u b ≡ shows_or v c → shows_or (cond hit (Some e) u) b ≡ shows_or (cond hit (Some e) v) c
decided false e u v b c h = h
decided true (Object k) u v b c h = refl
decided true Whiteout u v b c h = refl

-- what is found first of two lists
pub found-append : (n : List ℕ) (xs ys : List Bound) (b : Bool) → shows_or (found n (xs ++ ys)) b ≡ shows_or (found n xs) (shows_or (found n ys) b)
found-append n [] ys b = refl
found-append n (x ∷ xs) ys b = decided (bytes_eq n x.name.now) x.entry.now (found n (xs ++ ys)) (found n xs) b (shows_or (found n ys) b) (found-append n xs ys b)

by-order : (o p : Ordering) → p ≡ ordering_reverse o → (not (is_lt o) && not (is_lt p)) ≡ is_eq o
by-order Less p e = refl
by-order Equal p e = ap (λ q. not (is_lt q)) e
by-order Greater p e = ap (λ q. not (is_lt q)) e

-- bindings tie where they have one name
tied : (x y : Bound) → ties (λ a b. is_lt (by_name a b)) x y ≡ same_behind x y
tied x y = by-order (by_name x y) (by_name y x) (nat_list_cmp_total.antisymm y.name.now x.name.now) ∙ is_eq-slice_cmp x.name.now y.name.now

-- what the first of these has
first_entry : List Bound → Option Entry
first_entry [] = None
first_entry (x ∷ xs) = Some x.entry.now

first-step : (hit : Bool) (y : Bound) (zs : List Bound) (u : Option Entry) → u ≡ first_entry zs → cond hit (Some y.entry.now) u ≡ first_entry (cond hit (y ∷ zs) zs)
unfolding first_entry
first-step true y zs u h = refl
first-step false y zs u h = h

found-tied : (x : Bound) (xs : List Bound) → found x.name.now xs ≡ first_entry (filter (ties (λ a b. is_lt (by_name a b)) x) xs)
unfolding first_entry
found-tied x [] = refl
found-tied x (y ∷ ys) =
    ap (λ hit. cond hit (Some y.entry.now) (found x.name.now ys)) (sym (tied x y))
    ∙ first-step (ties (λ a b. is_lt (by_name a b)) x y) y (filter (ties (λ a b. is_lt (by_name a b)) x) ys) (found x.name.now ys) (found-tied x ys)

none-step : (hit b : Bool) (e : Entry) (u : Option Entry) → (b ≡ false → u ≡ None) → (hit || b) ≡ false → cond hit (Some e) u ≡ None
none-step true b e u rest h = absurd (true≢false h)
none-step false b e u rest h = rest h

found-none : (n : List ℕ) (xs : List Bound) → list_any (λ y. bytes_eq n y.name.now) xs ≡ false → found n xs ≡ None
found-none n [] h = refl
found-none n (x ∷ xs) h = none-step (bytes_eq n x.name.now) (list_any (λ y. bytes_eq n y.name.now) xs) x.entry.now (found n xs) (found-none n xs) h

-- a stable sort by names leaves what is found first
pub found-sorted : (xs ys : List Bound) → IsPermutation xs ys → ((x : Bound) → filter (ties (λ a b. is_lt (by_name a b)) x) ys ≡ filter (ties (λ a b. is_lt (by_name a b)) x) xs) → (n : List ℕ) → found n ys ≡ found n xs
found-sorted xs ys moved stable n = of (list_any has xs) refl
  where
    has : Bound → Bool
    has y = bytes_eq n y.name.now

    of : (b : Bool) → list_any (λ (y : Bound). bytes_eq n y.name.now) xs ≡ b → found n ys ≡ found n xs
    of false e = found-none n ys (sym (list_any-IsPermutation (λ (y : Bound). bytes_eq n y.name.now) xs ys moved) ∙ e) ∙ sym (found-none n xs e)
    of true e =
        let one = Any-from_list_any (λ (y : Bound). bytes_eq n y.name.now) xs e in
        let is : n ≡ one.1.name.now = same-name n one.1.name.now one.4 in
        ap (λ m. found m ys) is
        ∙ found-tied one.1 ys
        ∙ ap first_entry (stable one.1)
        ∙ sym (found-tied one.1 xs)
        ∙ ap (λ m. found m xs) (sym is)

again : (hit : Bool) (other : Bool) (e f : Entry) (u : Option Entry) → other ≡ hit → cond hit (Some e) u ≡ cond hit (Some e) (cond other (Some f) u)
again true other e f u same = refl
again false other e f u same = ap (λ b. cond b (Some f) u) (sym same)

dedup-step : (n : List ℕ) (k x : Bound) (xs : List Bound) (same : Bool) → same_behind x k ≡ same → ((m : Bound) → found n (dedup_from same_behind m xs) ≡ found n (m ∷ xs)) → found n (cond same (dedup_from same_behind k xs) (k ∷ dedup_from same_behind x xs)) ≡ found n (k ∷ (x ∷ xs))
dedup-step n k x xs true is rest =
    rest k ∙ again (bytes_eq n k.name.now) (bytes_eq n x.name.now) k.entry.now x.entry.now (found n xs) (ap (bytes_eq n) (same-name x.name.now k.name.now is))
dedup-step n k x xs false is rest = ap (λ u. cond (bytes_eq n k.name.now) (Some k.entry.now) u) (rest x)

found-dedup_from : (n : List ℕ) (k : Bound) (xs : List Bound) → found n (dedup_from same_behind k xs) ≡ found n (k ∷ xs)
found-dedup_from n k [] = refl
found-dedup_from n k (x ∷ xs) = dedup-step n k x xs (same_behind x k) refl (λ m. found-dedup_from n m xs)

-- to leave out repeated names leaves what is found first
pub found-dedup : (n : List ℕ) (xs : List Bound) → found n (dedup same_behind xs) ≡ found n xs
found-dedup n [] = refl
found-dedup n (x ∷ xs) = found-dedup_from n x xs

all-behind : (m : List ℕ) (xs : List Bound) → AllByRecursion (λ (y : Bound). slice_cmp nat_cmp m y.name.now ≡ Less) xs → AllByRecursion (λ y. slice_cmp nat_cmp m y ≡ Less) (map (λ b. b.name.now) xs)
all-behind m [] h = h
all-behind m (x ∷ xs) h = (h.0, all-behind m xs h.1)

-- names rise as the bindings do
pub names-rise : (xs : List Bound) → IsStrictlySortedBy by_name xs → IsStrictlySortedBy (slice_cmp nat_cmp) (map (λ b. b.name.now) xs)
unfolding IsStrictlySortedBy
names-rise [] h = h
names-rise (x ∷ xs) h = (all-behind x.name.now xs h.0, names-rise xs h.1)

-- no name of bindings that are above another one's is that one's
pub found-above : (m : List ℕ) (xs : List Bound) → AllByRecursion (λ (y : Bound). slice_cmp nat_cmp m y.name.now ≡ Less) xs → found m xs ≡ None
found-above m [] h = refl
found-above m (x ∷ xs) h =
    ap (λ hit. cond hit (Some x.entry.now) (found m xs)) (sym (is_eq-slice_cmp m x.name.now) ∙ ap is_eq h.0) ∙ found-above m xs h.1

listed-step : (n : List ℕ) (z : Bound) (zs : List Bound) (hit object : Bool) → bytes_eq n z.name.now ≡ hit → is_object z ≡ object → (hit ≡ true → found n zs ≡ None) → list_any (bytes_eq n) (map (λ b. b.name.now) (filter is_object zs)) ≡ shows_or (found n zs) false → list_any (bytes_eq n) (map (λ b. b.name.now) (cond object (z ∷ filter is_object zs) (filter is_object zs))) ≡ shows_or (cond hit (Some z.entry.now) (found n zs)) false
listed-step n z zs true true has is apart rest = ap (λ b. b || list_any (bytes_eq n) (map (λ b. b.name.now) (filter is_object zs))) has ∙ sym is
listed-step n z zs true false has is apart rest = rest ∙ ap (λ u. shows_or u false) (apart refl) ∙ sym is
listed-step n z zs false true has is apart rest = ap (λ b. b || list_any (bytes_eq n) (map (λ b. b.name.now) (filter is_object zs))) has ∙ rest
listed-step n z zs false false has is apart rest = rest

-- of bindings whose names rise, the objects' names are those that show something
pub objects-listed : (n : List ℕ) (zs : List Bound) → IsStrictlySortedBy by_name zs → list_any (bytes_eq n) (map (λ b. b.name.now) (filter is_object zs)) ≡ shows_or (found n zs) false
unfolding IsStrictlySortedBy
objects-listed n [] rise = refl
objects-listed n (z ∷ zs) rise =
    listed-step n z zs (bytes_eq n z.name.now) (is_object z) refl refl (λ has. ap (λ m. found m zs) (same-name n z.name.now has) ∙ found-above z.name.now zs rise.0) (objects-listed n zs rise.1)
