-- What the upper hands down, and what is kept for it.
use Rattle.std.proofs.Common.{IfSome, ◌≡◌, ℕ, ◌+◌, ◌<◌, ◌++◌, Bool, true, false, not, List, [], ◌∷◌, Option, None, Some, refl, sym, ap, ◌∙◌, subst, inl, inr, ◌⊎◌, ◌==◌, Contains, Result, Ok, Err, OnOk, OnErr, slice_get, is_some, length, drop, map, take, reverse, arith, nat_eq, get_or}
use Rattle.std.proofs.lemmas.Bool.{false≢true}
use Rattle.std.proofs.lemmas.List.{length-map}
use Rattle.std.specs.Option.{option_map}
use Rattle.std.specs.Cmp.Lexicographic.{pointwise}
use Rattle.std.specs.Global.{Vec}
use Rattle.lru.specs.LruCache.{LruCache, lru_cache, promoted, put_entries}
use Rattle.lru.proofs.CallerLemmas.{IsPut, Contains-promoted, Contains-put_entries}
use Rattle.lru.proofs.Splits.{Contains-head, Contains-tail}
use Rattle.ov_base.specs.declared.attributes.Attributes.{Attributes}
use Rattle.ov_base.specs.declared.errno.Errno.{Errno}
use Rattle.plain_model.specs.Layers.{Name, Path, Object, Directory, Named, Whiteout, Inode, Layer, held, below, cuts, cut, spell, Shown, over, unless, shows, holds_directory, is_directory}
use Rattle.layer_tree.specs.Tree.{Tree, layer_of, key_at}
use Rattle.merged_lookup.specs.declared.found.Topmost.{Topmost}
use Rattle.merged_lookup.specs.declared.found.Topmost.TheVariants as shown
use Rattle.merged_lookup.specs.declared.kept.Kept.{Kept}
use Rattle.merged_lookup.specs.declared.layers.Layers.{Layers}
use Rattle.ov_base.specs.declared.place.Place.{Place}
use Rattle.merged_lookup.specs.Merged.{trees, upper_of, layers_of, lowers_of, parent, place_in, unless_cut, places_at, way_fault, IsTopmost}
use Rattle.merged_lookup.specs.Descent.{holds_in, places_from, descend, first, place_shown, leads, without_upper}
use Rattle.merged_lookup.specs.Locating.{place_of}
use Rattle.merged_lookup.specs.Passing.{directory_key, holds_under}
use Rattle.merged_lookup.specs.Kept.{ShowsTopmost, IsKept, AllKept, HandsDown, topmost_over}
use Rattle.merged_lookup.proofs.Descending.{held-in, key-of, parent-held, reverse-more, first-places, descend-places, length-places, top-shown, shown-inode, shown-none}
use Rattle.merged_lookup.proofs.Looking.{reverse-parts, directory-top, shown-folder, without-is}
use Rattle.merged_lookup.proofs.Passing.{held-under}
use Rattle.merged_lookup.proofs.Trails.{names-decide}
use Rattle.merged_lookup.proofs.Ways.{reached-way}
use Rattle.merged_lookup.proofs.Walking.{level-place}

-- the upper has a directory without marks at the end of a path that it hands down as it is
pub record IsPlain (t : Tree) (p : Path) (k : ℕ) : Type 0 where
  pub held : (a : Attributes) × (held (layer_of t) p ≡ Some (Directory k a false None))
  pub uncut : cuts (layer_of t) p ≡ false
  pub spelling : below (layer_of t) p ≡ p

pub plain-root : (t : Tree) → IsPlain t [] 0
plain-root t = record { held = ((layer_of t).root, refl); uncut = refl; spelling = refl }

-- one directory without marks on
pub plain-on : (t : Tree) (p : Path) (n : Name) (k j : ℕ) → IsPlain t p k →
    (a : Attributes) × (holds_in t k n ≡ Some (Directory j a false None)) → IsPlain t (n ∷ p) j
plain-on t p n k j at next =
    let key : key_at t p ≡ Some k = key-of t p k at.held.0 false None at.held.1 in
    let here : held (layer_of t) (n ∷ p) ≡ Some (Directory j next.0 false None) = held-in t p k n key ∙ next.1 in
    record {
      held = (next.0, here);
      uncut = ap (λ o. cut o (cuts (layer_of t) p)) here ∙ at.uncut;
      spelling = ap (λ o. spell o n (below (layer_of t) p)) here ∙ ap (λ q. n ∷ q) at.spelling;
    }

-- the upper has nothing at a path that it hands down as it is
pub record IsMissing (t : Tree) (p : Path) : Type 0 where
  pub held : held (layer_of t) p ≡ None
  pub uncut : cuts (layer_of t) p ≡ false
  pub spelling : below (layer_of t) p ≡ p

missing-first : (t : Tree) (p : Path) (n : Name) (k : ℕ) → IsPlain t p k → holds_in t k n ≡ None → IsMissing t (n ∷ p)
missing-first t p n k at none =
    let key : key_at t p ≡ Some k = key-of t p k at.held.0 false None at.held.1 in
    let here : held (layer_of t) (n ∷ p) ≡ None = held-in t p k n key ∙ none in
    record {
      held = here;
      uncut = ap (λ o. cut o (cuts (layer_of t) p)) here ∙ at.uncut;
      spelling = ap (λ o. spell o n (below (layer_of t) p)) here ∙ ap (λ q. n ∷ q) at.spelling;
    }

none-below : (o : Option Object) (u : Option Object) → (is_some o ≡ true → holds_directory u ≡ true) → u ≡ None → o ≡ None
none-below None u h e = refl
none-below (Some x) u h e = absurd (false≢true (sym (ap holds_directory e) ∙ h refl))

missing-on : (t : Tree) (r p : Path) → IsMissing t p → IsMissing t (r ++ p)
missing-on t [] p at = at
missing-on t (m ∷ r) p at =
    let q : Path = r ++ p in
    let up : IsMissing t q = missing-on t r p at in
    let here : held (layer_of t) (m ∷ q) ≡ None = none-below (held (layer_of t) (m ∷ q)) (held (layer_of t) q) (parent-held t q m) up.held in
    record {
      held = here;
      uncut = ap (λ o. cut o (cuts (layer_of t) q)) here ∙ up.uncut;
      spelling = ap (λ o. spell o m (below (layer_of t) q)) here ∙ ap (λ x. m ∷ x) up.spelling;
    }

-- the upper has nothing from the name at i on
pub missing-hands : (t : Tree) (names : List Name) (i : ℕ) (n : Name) (k : ℕ) → i < length names → n ≡ get_or names i n →
    IsPlain t (reverse (take i names)) k → holds_in t k n ≡ None → HandsDown t (reverse names) None
missing-hands t names i n k within is at none =
    let r : Path = reverse (drop (i + 1) names) in
    let p : Path = n ∷ reverse (take i names) in
    let whole : reverse names ≡ r ++ p = reverse-parts names (i + 1) ∙ ap (λ q. r ++ q) (reverse-more names i n within is) in
    let m : IsMissing t (reverse names) = subst (IsMissing t) (sym whole) (missing-on t r p (missing-first t (reverse (take i names)) n k at none)) in
    record { dir = sym (ap directory_key m.held); uncut = m.uncut; spelling = m.spelling }

-- where there is an answer, the upper hands the path down
pub some-hands : (t : Tree) (p : Path) (o : Option (Option ℕ)) → is_some o ≡ true → IfSome o (HandsDown t p) → (dir : Option ℕ) × HandsDown t p dir
some-hands t p None h e = absurd (false≢true h)
some-hands t p (Some dir) h e = (dir, e)

-- what stands at the topmost place is what is shown
topmost-by : (Ls : List Layer) (q : Path) (o : Option Topmost) → leads o ≡ is_directory (shows 1 Ls q) → option_map place_shown o ≡ place_of (shows 1 Ls q) → ShowsTopmost Ls q o
topmost-by Ls q None b e = shown-none (shows 1 Ls q) (sym e)
topmost-by Ls q (Some (shown.Directory d)) b e = shown-folder (shows 1 Ls q) d (sym b) (sym e)
topmost-by Ls q (Some (shown.Inode d)) b e = shown-inode (shows 1 Ls q) d (sym b) (sym e)

-- the topmost object that the lower layers show at a name in these places
pub lower-topmost : (t : Tree) (us : List Tree) (p : Path) (n : Name) (s : List Place) (o : Option Topmost) → s ≡ places_from 1 (t ∷ us) p →
    option_map place_shown o ≡ first (t ∷ us) s n → leads o ≡ not (nat_eq (length (descend (t ∷ us) s n)) 0) → ShowsTopmost (map layer_of us) (n ∷ p) o
lower-topmost t us p n s o is place directory =
    let ts : List Tree = t ∷ us in
    let lowers : List Layer = map layer_of us in
    let q : Path = n ∷ p in
    topmost-by lowers q o
    (directory ∙ ap (λ z. not (nat_eq (length (descend ts z n)) 0)) is ∙ ap (λ z. not (nat_eq (length z) 0)) (descend-places 1 ts us refl p n)
    ∙ directory-top (places_at 1 lowers q) (shows 1 lowers q) (top-shown 1 lowers q))
    (place ∙ ap (λ z. first ts z n) is ∙ first-places 1 ts us refl p n)

-- what was found in the lower layers may be kept
pub kept-right : (l : Layers) (p : Path) (n : Name) (k : Kept) → k.directory.items ≡ places_from 1 (trees l) p →
    option_map place_shown k.shown ≡ first (trees l) k.directory.items n → leads k.shown ≡ not (nat_eq (length (descend (trees l) k.directory.items n)) 0) →
    IsKept (lowers_of l) (n ∷ p) k
kept-right l p n k is place directory =
    record { directory = is; shown = lower-topmost l.upper l.lowers.items p n k.directory.items k.shown is place directory }

-- the places of a directory that the upper hands down
pub kept-places : (l : Layers) (p : Path) (dir : Option ℕ) → HandsDown l.upper p dir →
    places_at 0 (layers_of l) p ≡ place_in 0 dir ++ places_at 1 (lowers_of l) p
kept-places l p dir down =
    let U : Layer = layer_of l.upper in
    level-place 0 (held U p) (unless_cut (cuts U p) (places_at 1 (lowers_of l) (below U p)))
    ∙ ap (λ d. place_in 0 d ++ unless_cut (cuts U p) (places_at 1 (lowers_of l) (below U p))) (sym down.dir)
    ∙ ap (λ c. place_in 0 dir ++ unless_cut c (places_at 1 (lowers_of l) (below U p))) down.uncut
    ∙ ap (λ q. place_in 0 dir ++ places_at 1 (lowers_of l) q) down.spelling

-- what a name shows, by what the upper has there and what is kept
topmost-of : (l : Layers) (p : Path) (o : Option Object) (t : Option Topmost) → ShowsTopmost (lowers_of l) p t →
    shows 0 (layers_of l) p ≡ over 0 (upper_of l).inodes o (shows 1 (lowers_of l) p) → IsTopmost l p (topmost_over o t)
topmost-of l p None None h e = record { shown = e ∙ h }
topmost-of l p None (Some (shown.Directory d)) h e = (h.0, e ∙ h.1)
topmost-of l p None (Some (shown.Inode d)) h e = record { inode = h.0; shown = e ∙ h.1 }
topmost-of l p (Some Whiteout) t h e = record { shown = e }
topmost-of l p (Some (Directory k a b r)) t h e = (a, e)
topmost-of l p (Some (Named k)) t h e = record { inode = (upper_of l).inodes k; shown = e }

-- where the upper has something, what the layers below show doesn't count
over-some : (i : ℕ) (inodes : ℕ → Option Inode) (o : Option Object) (x y : Option Shown) → (o ≡ None → x ≡ y) → over i inodes o x ≡ over i inodes o y
over-some i inodes None x y h = h refl
over-some i inodes (Some Whiteout) x y h = refl
over-some i inodes (Some (Directory k a b r)) x y h = refl
over-some i inodes (Some (Named k)) x y h = refl

pub kept-topmost : (l : Layers) (p : Path) (n : Name) (dir : Option ℕ) (o : Option Object) (k : Kept) → HandsDown l.upper p dir →
    held (layer_of l.upper) (n ∷ p) ≡ o → IsKept (lowers_of l) (n ∷ p) k → IsTopmost l (n ∷ p) (topmost_over o k.shown)
kept-topmost l p n dir o k down here kept =
    let U : Layer = layer_of l.upper in
    let Ls : List Layer = lowers_of l in
    let lower : Option Object → Option Shown = λ x. unless (cut x (cuts U p)) (shows 1 Ls (spell x n (below U p))) in
    topmost-of l (n ∷ p) o k.shown kept.shown
    (ap (λ x. over 0 (upper_of l).inodes x (lower x)) here
    ∙ over-some 0 (upper_of l).inodes o (lower o) (shows 1 Ls (n ∷ p))
    (λ none. ap lower none ∙ ap (λ c. unless c (shows 1 Ls (n ∷ below U p))) down.uncut ∙ ap (λ q. shows 1 Ls (n ∷ q)) down.spelling))

-- what is kept stays right where another look-up is the most recently used
pub promoted-right : (Ls : List Layer) (test : Vec Name → Bool) (old new : LruCache (Vec Name) Kept) →
    new ≡ lru_cache (promoted test old.entries) old.cap → AllKept Ls old.entries → AllKept Ls new.entries
promoted-right Ls test old new is right = λ key k d.
    right key k (Contains-promoted test old.entries (key, k) (subst (λ m. Contains m.entries (key, k)) is d))

-- and where another is kept, or there is no memory for it
put-entry : (Ls : List Layer) (eq : Vec Name → Vec Name → Bool) (old : LruCache (Vec Name) Kept) (names : Vec Name) (kept : Kept) →
    AllKept Ls old.entries → IsKept Ls (reverse names.items) kept → ((j : Vec Name) → eq names j ≡ true → names.items ≡ j.items) →
    (key : Vec Name) (k : Kept) → Contains old.entries (key, k) ⊎ IsPut eq old names kept (key, k) → IsKept Ls (reverse key.items) k
put-entry Ls eq old names kept right new laws key k (inl was) = right key k was
put-entry Ls eq old names kept right new laws key k (inr (is, inl same)) =
    subst (IsKept Ls (reverse key.items)) (sym is) (subst (λ j. IsKept Ls (reverse j.items) kept) (sym same) new)
put-entry Ls eq old names kept right new laws key k (inr (is, inr there)) =
    subst (IsKept Ls (reverse key.items)) (sym is) (subst (λ ns. IsKept Ls (reverse ns) kept) (laws key there.2) new)

pub put-right : {E : Type 0} (Ls : List Layer) (eq : Vec Name → Vec Name → Bool) (old new : LruCache (Vec Name) Kept) (names : Vec Name) (kept : Kept)
    (r : Result (Option Kept) E) → OnOk r (new ≡ lru_cache (put_entries eq old names kept) old.cap) → OnErr r (new ≡ old) →
    AllKept Ls old.entries → IsKept Ls (reverse names.items) kept → ((j : Vec Name) → eq names j ≡ true → names.items ≡ j.items) → AllKept Ls new.entries
put-right Ls eq old new names kept (Ok was) put none right one laws = λ key k d.
    put-entry Ls eq old names kept right one laws key k (Contains-put_entries eq old names kept (key, k) (subst (λ m. Contains m.entries (key, k)) put d))
put-right Ls eq old new names kept (Err e) put none right one laws = subst (λ m. AllKept Ls m.entries) (sym none) right

-- what the most recently used look-up shows
pub kept-first : (Ls : List Layer) (entries : List (Vec Name × Kept)) (key : Vec Name) (k : Kept) (names : List Name) →
    Some (key, k) ≡ slice_get entries 0 → key.items ≡ names → AllKept Ls entries → IsKept Ls (reverse names) k
kept-first Ls [] key k names e same right = cc
kept-first Ls (f ∷ entries) key k names e same right =
    let one : f ≡ (key, k) = cc in
    subst (λ ns. IsKept Ls (reverse ns) k) same (right key k (subst (Contains (f ∷ entries)) one (Contains-head f entries)))

-- the one before the most recently used is kept
pub second-there : (entries : List (Vec Name × Kept)) (f d : Vec Name × Kept)
    (rest : List (Vec Name × Kept)) → entries ≡ f ∷ d ∷ rest → Contains entries d
second-there entries f d rest e =
    subst (λ es. Contains es d) (sym e) (Contains-tail f (d ∷ rest) d (Contains-head d rest))

-- and what it shows
pub kept-second : (Ls : List Layer) (entries : List (Vec Name × Kept)) (f : Vec Name × Kept) (key : Vec Name) (k : Kept) (rest : List (Vec Name × Kept)) (names : List Name) →
    entries ≡ f ∷ (key, k) ∷ rest → key.items ≡ names → AllKept Ls entries → IsKept Ls (reverse names) k
kept-second Ls entries f key k rest names e same right =
    subst (λ ns. IsKept Ls (reverse ns) k) same
    (right key k (second-there entries f (key, k) rest e))

-- a key that is equal has the same names
pub names-of : (names : List Name) (j : Vec Name) → pointwise (pointwise ◌==◌) names j.items ≡ true → names ≡ j.items
names-of names j e = (names-decide names j.items).0 e

-- the places of a merged directory by those of the lower layers
pub stack-over : (l : Layers) (p : Path) (dir : Option ℕ) (s places : List Place) →
    HandsDown l.upper p dir → s ≡ places_at 1 (lowers_of l) p →
    places ≡ place_in 0 dir ++ s → places ≡ places_at 0 (layers_of l) p
stack-over l p dir s places down below is =
    is ∙ ap (λ x. place_in 0 dir ++ x) below ∙ sym (kept-places l p dir down)

-- and by what is kept for a name in it
pub kept-stack : (l : Layers) (p : Path) (n : Name) (dir : Option ℕ) (k : Kept) (places : List Place) → HandsDown l.upper p dir → IsKept (lowers_of l) (n ∷ p) k →
    places ≡ place_in 0 dir ++ k.directory.items → places ≡ places_at 0 (layers_of l) p
kept-stack l p n dir k places down kept is =
    stack-over l p dir k.directory.items places down kept.directory is

-- what is kept of a name in a directory has the directories of the lower layers there
pub kept-beside : (Ls : List Layer) (entries : List (Vec Name × Kept)) (key : Vec Name) (k : Kept)
    (n : Name) (p : Path) → AllKept Ls entries → Contains entries (key, k) →
    reverse key.items ≡ n ∷ p → k.directory.items ≡ places_at 1 Ls p
kept-beside Ls entries key k n p right there is =
    (right key k there).directory ∙ ap (λ q. places_at 1 Ls (parent q)) is

-- there is no fault on the way to it, where it has places
pub kept-way : (l : Layers) (p : Path) (places : List Place) → places ≡ places_at 0 (layers_of l) p → 0 < length places → way_fault (layers_of l) p ≡ None
kept-way l p places is some = reached-way l p (λ none. omega (arith, some, ap length (is ∙ none)))

-- what a path shows, by what is kept for it
pub kept-shown : (l : Layers) (p : Path) (n : Name) (dir : Option ℕ) (k : Kept) → HandsDown l.upper p dir → IsKept (lowers_of l) (n ∷ p) k →
    IsTopmost l (n ∷ p) (topmost_over (holds_under l.upper dir n) k.shown)
kept-shown l p n dir k down kept =
    kept-topmost l p n dir (holds_under l.upper dir n) k down (held-under l.upper p n ∙ ap (λ d. holds_under l.upper d n) (sym down.dir)) kept

-- there are places where the lower layers have some, and where the upper has a directory
pub some-lower : (dir : Option ℕ) (s : List Place) → 0 < length s → 0 < length (place_in 0 dir ++ s)
some-lower None s h = h
some-lower (Some k) s h = omega arith

pub some-upper : (dir : Option ℕ) (s : List Place) → is_some dir ≡ true → 0 < length (place_in 0 dir ++ s)
some-upper None s h = absurd (false≢true h)
some-upper (Some k) s h = omega arith

-- few directories of the lower layers stand at a path
pub few-below : (l : Layers) (p : Path) (s : List Place) → s ≡ places_at 1 (lowers_of l) p →
    length s < 17
few-below l p s is =
    omega (
      arith,
      ap length is,
      length-places 1 (lowers_of l) p,
      length-map l.lowers.items layer_of,
      l.few_lowers,
      l.lowers.ok.0,
    )

-- so few are kept
pub kept-few : (l : Layers) (p : Path) (n : Name) (k : Kept) → IsKept (lowers_of l) (n ∷ p) k → length k.directory.items < 17
kept-few l p n k kept = few-below l p k.directory.items kept.directory

-- the places of the lower layers among those of a directory that the upper hands down
pub handed-places : (l : Layers) (p : Path) (dir : Option ℕ) (s : List Place) → HandsDown l.upper p dir → s ≡ places_at 0 (layers_of l) p →
    without_upper s ≡ places_at 1 (lowers_of l) p
handed-places l p dir s down is =
    without-is l.upper l.lowers.items s p is
    ∙ ap (λ c. unless_cut c (places_at 1 (lowers_of l) (below (layer_of l.upper) p))) down.uncut
    ∙ ap (λ q. places_at 1 (lowers_of l) q) down.spelling

-- a path on which there is a fault has no places
no-places : (l : Layers) (p : Path) (e : Errno) (s : List Place) → s ≡ places_at 0 (layers_of l) p → way_fault (layers_of l) p ≡ Some e → s ≡ []
no-places l p e [] is fault = refl
no-places l p e (d ∷ s) is fault =
    let none : way_fault (layers_of l) p ≡ None = reached-way l p (λ empty. omega (arith, ap length (is ∙ empty))) in
    cc

-- nor has it in the lower layers
pub no-handed-places : (l : Layers) (p : Path) (dir : Option ℕ) (e : Errno) → HandsDown l.upper p dir → way_fault (layers_of l) p ≡ Some e →
    [] ≡ places_at 1 (lowers_of l) p
no-handed-places l p dir e down fault =
    handed-places l p dir [] down (sym (no-places l p e (places_at 0 (layers_of l) p) refl fault))
