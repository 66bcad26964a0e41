-- Two runs of bindings whose names rise, taken together.
use Rattle.std.proofs.Common.{◌≡◌, Bool, true, false, cond, List, [], ◌∷◌, ◌++◌, Option, None, Some, IsSome, is_some, slice_get, map, refl, sym, ap, subst, ◌∙◌, ℕ, ◌+◌, ◌<◌, ◌≤◌, ◌-◌, length, length-drop, take, drop, get_or, zero, suc, add-one, arith, append_assoc}
use Rattle.std.proofs.Math.Seq.{drop-cons}
use Rattle.std.proofs.lemmas.List.{drop_all, take_all}
use Rattle.std.proofs.lemmas.Cmp.{nat_list_cmp_total}
use Rattle.std.proofs.lemmas.Map.Text.{is_eq-slice_cmp}
use Rattle.std.specs.List.{AllByRecursion}
use Rattle.std.specs.List.Sorted.{IsStrictlySortedBy}
use Rattle.std.specs.Str.{bytes_eq}
use Rattle.std.specs.Ordering.{is_eq, ordering_reverse}
use Rattle.std.specs.declared.cmp.Ordering.TheVariants.{Less, Equal, Greater}
use Rattle.plain_model.specs.Layers as layers
use Rattle.plain_model.specs.Layers.{Layer, Object, Path, held, cuts, below}
use Rattle.layer_tree.specs.Tree.{Tree, layer_of}
use Rattle.layer_tree.specs.declared.name_table.Entry.{Entry}
use Rattle.layer_tree.specs.declared.name_table.Entry.TheVariants as bound
use Rattle.ov_base.specs.declared.place.Place.{Place}
use Rattle.merged_lookup.specs.Merged.{level, unless_cut, places_at}
use Rattle.merged_lookup.specs.Descent.{first, topmost_in}
use Rattle.dir_listing.specs.declared.bound.Bound.{Bound}
use Rattle.dir_listing.specs.Bound.{by_name, found, shows_or, first_over, AreThere}
use Rattle.dir_listing.proofs.Listing.{same-name}
use Rattle.dir_listing.proofs.Merging.{found-append, found-above}

pub none-rise : IsStrictlySortedBy by_name []
unfolding IsStrictlySortedBy
none-rise = tt

-- what is below the first of some bindings that rise is below all of them
all-above : (z y : Bound) (ys : List Bound) → by_name z y ≡ Less → AllByRecursion (λ w. by_name y w ≡ Less) ys → AllByRecursion (λ w. by_name z w ≡ Less) ys
all-above z y [] less h = h
all-above z y (w ∷ ws) less h = (nat_list_cmp_total.trans z.name.now y.name.now w.name.now less h.0, all-above z y ws less h.1)

all-insert : (x z : Bound) (xs zs ws : List Bound) → AllByRecursion (λ w. by_name x w ≡ Less) (xs ++ (z ∷ zs)) → AllByRecursion (λ w. by_name x w ≡ Less) (xs ++ ws) → AllByRecursion (λ w. by_name x w ≡ Less) ((xs ++ (z ∷ [])) ++ ws)
all-insert x z [] zs ws h k = (h.0, k)
all-insert x z (y ∷ ys) zs ws h k = (h.0, all-insert x z ys zs ws h.1 k.1)

-- a binding goes before others that are above it
pub rise-insert : (xs : List Bound) (z y : Bound) (zs ys : List Bound) → by_name z y ≡ Less → IsStrictlySortedBy by_name (xs ++ (z ∷ zs)) → IsStrictlySortedBy by_name (xs ++ (y ∷ ys)) → IsStrictlySortedBy by_name ((xs ++ (z ∷ [])) ++ (y ∷ ys))
unfolding IsStrictlySortedBy
rise-insert [] z y zs ys less h k = ((less, all-above z y ys less k.0), k)
rise-insert (x ∷ xs) z y zs ys less h k = (all-insert x z xs zs (y ∷ ys) h.0 k.0, rise-insert xs z y zs ys less h.1 k.1)

all-drop : (x y : Bound) (xs ys : List Bound) → AllByRecursion (λ w. by_name x w ≡ Less) (xs ++ (y ∷ ys)) → AllByRecursion (λ w. by_name x w ≡ Less) (xs ++ ys)
all-drop x y [] ys h = h.1
all-drop x y (z ∷ zs) ys h = (h.0, all-drop x y zs ys h.1)

-- bindings rise without one of them
pub rise-drop : (xs : List Bound) (y : Bound) (ys : List Bound) → IsStrictlySortedBy by_name (xs ++ (y ∷ ys)) → IsStrictlySortedBy by_name (xs ++ ys)
unfolding IsStrictlySortedBy
rise-drop [] y ys h = h.1
rise-drop (x ∷ xs) y ys h = (all-drop x y xs ys h.0, rise-drop xs y ys h.1)

-- the first of the second list goes to the end of the first
pub rise-move : (xs : List Bound) (y : Bound) (ys : List Bound) → IsStrictlySortedBy by_name (xs ++ (y ∷ ys)) → IsStrictlySortedBy by_name ((xs ++ (y ∷ [])) ++ ys)
rise-move xs y ys h = subst (IsStrictlySortedBy by_name) (sym (append_assoc xs (y ∷ []) ys)) h

rise-rest : (xs ys : List Bound) → IsStrictlySortedBy by_name (xs ++ ys) → IsStrictlySortedBy by_name ys
unfolding IsStrictlySortedBy
rise-rest [] ys h = h
rise-rest (x ∷ xs) ys h = rise-rest xs ys h.1

pub after : (x y : Bound) → by_name x y ≡ Greater → by_name y x ≡ Less
after x y h = nat_list_cmp_total.antisymm y.name.now x.name.now ∙ ap ordering_reverse h

above-none : (n : List ℕ) (z y : Bound) (xs ys : List Bound) → by_name z y ≡ Less → IsStrictlySortedBy by_name (xs ++ (y ∷ ys)) → bytes_eq n z.name.now ≡ true → found n (y ∷ ys) ≡ None
unfolding IsStrictlySortedBy
above-none n z y xs ys less h hit =
    let rest = rise-rest xs (y ∷ ys) h in
    ap (λ m. found m (y ∷ ys)) (same-name n z.name.now hit) ∙ found-above z.name.now (y ∷ ys) (less, all-above z y ys less rest.0)

-- the upper run's first binding goes over
pub found-push : (n : List ℕ) (xs : List Bound) (z : Bound) (zs : List Bound) (b : Bool) → shows_or (found n (xs ++ (z ∷ []))) (shows_or (found n zs) b) ≡ shows_or (found n xs) (shows_or (found n (z ∷ zs)) b)
found-push n xs z zs b =
    found-append n xs (z ∷ []) (shows_or (found n zs) b) ∙ ap (shows_or (found n xs)) (sym (found-append n (z ∷ []) zs b))

entry-alone : (e : Entry) (a b : Bool) → shows_or (Some e) a ≡ shows_or (Some e) b
entry-alone (bound.Object k) a b = refl
entry-alone bound.Whiteout a b = refl

swap-step : (hit : Bool) (e : Entry) (u : Option Entry) (b : Bool) → (hit ≡ true → u ≡ None) → shows_or (cond hit (Some e) None) (shows_or u b) ≡ shows_or u (shows_or (cond hit (Some e) None) b)
swap-step false e u b none = refl
swap-step true e u b none = entry-alone e (shows_or u b) b ∙ ap (λ v. shows_or v (shows_or (Some e) b)) (sym (none refl))

-- the lower run's first binding goes over before all of the upper run
pub found-lower : (n : List ℕ) (xs : List Bound) (z y : Bound) (zs ys : List Bound) (b : Bool) → by_name z y ≡ Less → IsStrictlySortedBy by_name (xs ++ (y ∷ ys)) → shows_or (found n (xs ++ (z ∷ []))) (shows_or (found n (y ∷ ys)) (shows_or (found n zs) b)) ≡ shows_or (found n xs) (shows_or (found n (y ∷ ys)) (shows_or (found n (z ∷ zs)) b))
found-lower n xs z y zs ys b less h =
    found-append n xs (z ∷ []) (shows_or (found n (y ∷ ys)) (shows_or (found n zs) b))
    ∙ ap (shows_or (found n xs)) (swap-step (bytes_eq n z.name.now) z.entry.now (found n (y ∷ ys)) (shows_or (found n zs) b) (above-none n z y xs ys less h) ∙ ap (shows_or (found n (y ∷ ys))) (sym (found-append n (z ∷ []) zs b)))

same-step : (hit other : Bool) (e f : Entry) (u v : Option Entry) (b : Bool) → other ≡ hit → shows_or (cond hit (Some e) u) (shows_or v b) ≡ shows_or (cond hit (Some e) u) (shows_or (cond other (Some f) v) b)
same-step true other e f u v b same = entry-alone e (shows_or v b) (shows_or (cond other (Some f) v) b)
same-step false other e f u v b same = ap (λ o. shows_or u (shows_or (cond o (Some f) v) b)) (sym same)

-- the lower run's first binding has the name of the upper run's, and is left out
pub found-same : (n : List ℕ) (xs : List Bound) (z y : Bound) (zs ys : List Bound) (b : Bool) → by_name z y ≡ Equal → shows_or (found n xs) (shows_or (found n (y ∷ ys)) (shows_or (found n zs) b)) ≡ shows_or (found n xs) (shows_or (found n (y ∷ ys)) (shows_or (found n (z ∷ zs)) b))
found-same n xs z y zs ys b equal =
    let same : z.name.now ≡ y.name.now = same-name z.name.now y.name.now (sym (is_eq-slice_cmp z.name.now y.name.now) ∙ ap is_eq equal) in
    ap (shows_or (found n xs)) (same-step (bytes_eq n y.name.now) (bytes_eq n z.name.now) y.entry.now z.entry.now (found n ys) (found n zs) b (ap (bytes_eq n) same))

-- so many bindings of two runs were gone through, and these are those of them that stay
pub record IsMerging (upper lower all : List Bound) (first second : ℕ) : Type 0 where
  pub over : IsStrictlySortedBy by_name (all ++ drop first upper)
  pub under : IsStrictlySortedBy by_name (all ++ drop second lower)
  pub same : (n : List ℕ) (b : Bool) → shows_or (found n all) (shows_or (found n (drop first upper)) (shows_or (found n (drop second lower)) b)) ≡ shows_or (found n upper) (shows_or (found n lower) b)
  pub in_upper : first ≤ length upper
  pub in_lower : second ≤ length lower

next : (xs : List Bound) (i : ℕ) (x : Bound) → i < length xs → x ≡ get_or xs i x → drop i xs ≡ x ∷ drop (i + 1) xs
next xs i x within is = rw add-one (drop-cons xs i x within ∙ ap (λ y. y ∷ drop (suc i) xs) (sym is))

-- the lower run's next binding goes over
pub merge-lower : (upper lower all more : List Bound) (first second : ℕ) (z y : Bound) → IsMerging upper lower all first second → first < length upper → second < length lower → z ≡ get_or lower second z → y ≡ get_or upper first y → by_name z y ≡ Less → more ≡ all ++ (z ∷ []) → IsMerging upper lower more first (second + 1)
merge-lower upper lower all more first second z y m in_upper in_lower isz isy less is =
    let low : drop second lower ≡ z ∷ drop (second + 1) lower = next lower second z in_lower isz in
    let high : drop first upper ≡ y ∷ drop (first + 1) upper = next upper first y in_upper isy in
    let Rises : List Bound → Type 0 = λ xs. IsStrictlySortedBy by_name xs in
    let over : Rises (all ++ (y ∷ drop (first + 1) upper)) = subst (λ xs. Rises (all ++ xs)) high m.over in
    let under : Rises (all ++ (z ∷ drop (second + 1) lower)) = subst (λ xs. Rises (all ++ xs)) low m.under in
    record {
      over = subst (λ xs. Rises (xs ++ drop first upper)) (sym is) (subst (λ xs. Rises ((all ++ (z ∷ [])) ++ xs)) (sym high) (rise-insert all z y (drop (second + 1) lower) (drop (first + 1) upper) less under over));
      under = subst (λ xs. Rises (xs ++ drop (second + 1) lower)) (sym is) (rise-move all z (drop (second + 1) lower) under);
      same = λ n b.
          ap (λ xs. shows_or (found n xs) (shows_or (found n (drop first upper)) (shows_or (found n (drop (second + 1) lower)) b))) is
          ∙ ap (λ xs. shows_or (found n (all ++ (z ∷ []))) (shows_or (found n xs) (shows_or (found n (drop (second + 1) lower)) b))) high
          ∙ found-lower n all z y (drop (second + 1) lower) (drop (first + 1) upper) b less over
          ∙ ap (λ xs. shows_or (found n all) (shows_or (found n xs) (shows_or (found n (z ∷ drop (second + 1) lower)) b))) (sym high)
          ∙ ap (λ xs. shows_or (found n all) (shows_or (found n (drop first upper)) (shows_or (found n xs) b))) (sym low)
          ∙ m.same n b;
      in_upper = m.in_upper;
      in_lower = omega arith;
    }

-- the lower run's next binding is left out
pub merge-same : (upper lower all : List Bound) (first second : ℕ) (z y : Bound) → IsMerging upper lower all first second → first < length upper → second < length lower → z ≡ get_or lower second z → y ≡ get_or upper first y → by_name z y ≡ Equal → IsMerging upper lower all first (second + 1)
merge-same upper lower all first second z y m in_upper in_lower isz isy equal =
    let low : drop second lower ≡ z ∷ drop (second + 1) lower = next lower second z in_lower isz in
    let high : drop first upper ≡ y ∷ drop (first + 1) upper = next upper first y in_upper isy in
    let Rises : List Bound → Type 0 = λ xs. IsStrictlySortedBy by_name xs in
    record {
      over = m.over;
      under = rise-drop all z (drop (second + 1) lower) (subst (λ xs. Rises (all ++ xs)) low m.under);
      same = λ n b.
          ap (λ xs. shows_or (found n all) (shows_or (found n xs) (shows_or (found n (drop (second + 1) lower)) b))) high
          ∙ found-same n all z y (drop (second + 1) lower) (drop (first + 1) upper) b equal
          ∙ ap (λ xs. shows_or (found n all) (shows_or (found n xs) (shows_or (found n (z ∷ drop (second + 1) lower)) b))) (sym high)
          ∙ ap (λ xs. shows_or (found n all) (shows_or (found n (drop first upper)) (shows_or (found n xs) b))) (sym low)
          ∙ m.same n b;
      in_upper = m.in_upper;
      in_lower = omega arith;
    }

-- the upper run's next binding goes over
pub merge-upper : (upper lower all more : List Bound) (first second : ℕ) (z y : Bound) → IsMerging upper lower all first second → first < length upper → second < length lower → z ≡ get_or lower second z → y ≡ get_or upper first y → by_name z y ≡ Greater → more ≡ all ++ (y ∷ []) → IsMerging upper lower more (first + 1) second
merge-upper upper lower all more first second z y m in_upper in_lower isz isy greater is =
    let low : drop second lower ≡ z ∷ drop (second + 1) lower = next lower second z in_lower isz in
    let high : drop first upper ≡ y ∷ drop (first + 1) upper = next upper first y in_upper isy in
    let Rises : List Bound → Type 0 = λ xs. IsStrictlySortedBy by_name xs in
    let over : Rises (all ++ (y ∷ drop (first + 1) upper)) = subst (λ xs. Rises (all ++ xs)) high m.over in
    let under : Rises (all ++ (z ∷ drop (second + 1) lower)) = subst (λ xs. Rises (all ++ xs)) low m.under in
    record {
      over = subst (λ xs. Rises (xs ++ drop (first + 1) upper)) (sym is) (rise-move all y (drop (first + 1) upper) over);
      under = subst (λ xs. Rises (xs ++ drop second lower)) (sym is) (subst (λ xs. Rises ((all ++ (y ∷ [])) ++ xs)) (sym low) (rise-insert all y z (drop (first + 1) upper) (drop (second + 1) lower) (after z y greater) over under));
      same = λ n b.
          ap (λ xs. shows_or (found n xs) (shows_or (found n (drop (first + 1) upper)) (shows_or (found n (drop second lower)) b))) is
          ∙ found-push n all y (drop (first + 1) upper) (shows_or (found n (drop second lower)) b)
          ∙ ap (λ xs. shows_or (found n all) (shows_or (found n xs) (shows_or (found n (drop second lower)) b))) (sym high)
          ∙ m.same n b;
      in_upper = omega arith;
      in_lower = m.in_lower;
    }

whole : (xs : List Bound) (i : ℕ) → take (length xs - i) (drop i xs) ≡ drop i xs
whole xs i = take_all (length xs - i) (drop i xs) (omega (arith, length-drop i xs))

-- where nothing is left of the lower run, what is left of the upper goes over
pub merged-upper : (upper lower all more : List Bound) (first second : ℕ) → IsMerging upper lower all first second → length lower ≤ second → more ≡ all ++ take (length upper - first) (drop first upper) → (n : List ℕ) (b : Bool) → shows_or (found n more) b ≡ shows_or (found n upper) (shows_or (found n lower) b)
merged-upper upper lower all more first second m all_lower is n b =
    ap (λ xs. shows_or (found n xs) b) (is ∙ ap (λ xs. all ++ xs) (whole upper first))
    ∙ found-append n all (drop first upper) b
    ∙ ap (λ xs. shows_or (found n all) (shows_or (found n (drop first upper)) (shows_or (found n xs) b))) (sym (drop_all second lower all_lower))
    ∙ m.same n b

-- where nothing is left of the upper run, what is left of the lower goes over
pub merged-lower : (upper lower all more : List Bound) (first second : ℕ) → IsMerging upper lower all first second → length upper ≤ first → more ≡ all ++ take (length lower - second) (drop second lower) → (n : List ℕ) (b : Bool) → shows_or (found n more) b ≡ shows_or (found n upper) (shows_or (found n lower) b)
merged-lower upper lower all more first second m all_upper is n b =
    ap (λ xs. shows_or (found n xs) b) (is ∙ ap (λ xs. all ++ xs) (whole lower second))
    ∙ found-append n all (drop second lower) b
    ∙ ap (λ xs. shows_or (found n all) (shows_or (found n xs) (shows_or (found n (drop second lower)) b))) (sym (drop_all first upper all_upper))
    ∙ m.same n b

-- what is found in places that were split
pub first_over-append : (ts : List Tree) (ds es : List Place) (n : List ℕ) (s : Option Place) → first_over ts (ds ++ es) n s ≡ first_over ts ds n (first_over ts es n s)
first_over-append ts [] es n s = refl
first_over-append ts (d ∷ ds) es n s = ap (topmost_in (slice_get ts d.layer) d n) (first_over-append ts ds es n s)

-- with nothing below, it is what the places show
pub first_over-first : (ts : List Tree) (ds : List Place) (n : List ℕ) → first_over ts ds n None ≡ first ts ds n
first_over-first ts [] n = refl
first_over-first ts (d ∷ ds) n = ap (topmost_in (slice_get ts d.layer) d n) (first_over-first ts ds n)

there-append : (ts : List Tree) (ds es : List Place) → AreThere ts (ds ++ es) → AreThere ts ds × AreThere ts es
there-append ts [] es h = (tt, h)
there-append ts (d ∷ ds) es h = let rest = there-append ts ds es h.1 in ((h.0, rest.0), rest.1)

-- two parts of places joined
pub found-parts : (ts : List Tree) (ds es all : List Place) (upper lower joined : List Bound) (n : List ℕ) (s : Option Place) → ds ++ es ≡ all → AreThere ts all → (AreThere ts ds → (o : Option Place) → shows_or (found n upper) (is_some o) ≡ is_some (first_over ts ds n o)) → (AreThere ts es → (o : Option Place) → shows_or (found n lower) (is_some o) ≡ is_some (first_over ts es n o)) → ((b : Bool) → shows_or (found n joined) b ≡ shows_or (found n upper) (shows_or (found n lower) b)) → shows_or (found n joined) (is_some s) ≡ is_some (first_over ts all n s)
found-parts ts ds es all upper lower joined n s is there over under both =
    let parts = there-append ts ds es (subst (AreThere ts) (sym is) there) in
    both (is_some s)
    ∙ ap (shows_or (found n upper)) (under parts.1 s)
    ∙ over parts.0 (first_over ts es n s)
    ∙ ap is_some (sym (first_over-append ts ds es n s))
    ∙ ap (λ xs. is_some (first_over ts xs n s)) is

there-level : (ts : List Tree) (i : ℕ) (o : Option Object) (ds : List Place) → IsSome (slice_get ts i) → AreThere ts ds → AreThere ts (level i o ds)
there-level ts i None ds h rest = rest
there-level ts i (Some layers.Whiteout) ds h rest = rest
there-level ts i (Some (layers.Named k)) ds h rest = rest
there-level ts i (Some (layers.Directory k a o r)) ds h rest = (h, rest)

there-cut : (ts : List Tree) (c : Bool) (ds : List Place) → AreThere ts ds → AreThere ts (unless_cut c ds)
there-cut ts true ds h = tt
there-cut ts false ds h = h

there-from : (ts : List Tree) (i : ℕ) (Ls : List Layer) (p : Path) → ((k : ℕ) → i ≤ k → k < i + length Ls → IsSome (slice_get ts k)) → AreThere ts (places_at i Ls p)
there-from ts i [] p h = tt
there-from ts i (L ∷ Ls) p h =
    there-level ts i (held L p) (unless_cut (cuts L p) (places_at (suc i) Ls (below L p))) (h i (omega arith) (omega arith)) (there-cut ts (cuts L p) (places_at (suc i) Ls (below L p)) (there-from ts (suc i) Ls (below L p) (λ k low high. h k (omega arith) (omega arith))))

some-get : (ts : List Tree) (k : ℕ) → k < length ts → IsSome (slice_get ts k)
some-get [] k h = absurd (omega arith)
some-get (t ∷ ts) zero h = refl
some-get (t ∷ ts) (suc k) h = some-get ts k (omega arith)

map-length : (ts : List Tree) → length (map layer_of ts) ≡ length ts
map-length [] = refl
map-length (t ∷ ts) = ap suc (map-length ts)

-- the places of a stack are in layers that are there
pub stack-there : (ts : List Tree) (ds : List Place) (p : Path) → ds ≡ places_at 0 (map layer_of ts) p → AreThere ts ds
stack-there ts ds p is = subst (AreThere ts) (sym is) (there-from ts 0 (map layer_of ts) p (λ k low high. some-get ts k (omega (arith, map-length ts))))
