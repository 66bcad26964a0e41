-- The descent by keys leads from the places of a directory to those of a name in it.
use Rattle.std.proofs.Common.{◌≡◌, ℕ, zero, suc, ◌≤◌, ◌<◌, ◌+◌, Bool, true, false, List, [], ◌∷◌, Option, None, Some, refl, sym, ap, ◌∙◌, add-one, is_some, length, drop, arith, map, slice_get, ◌++◌, ◌-◌, append_assoc, length-drop, take, reverse, get_or}
use Rattle.std.proofs.lemmas.Bool.{false≢true}
use Rattle.std.proofs.lemmas.List.{take_more, reverse-append, length-map}
use Rattle.std.specs.Option.{option_and_then, option_map}
use Rattle.slab.specs.Slab.{get}
use Rattle.ov_base.specs.declared.attributes.Attributes.{Attributes}
use Rattle.ov_base.specs.declared.redirect.Redirect.{Redirect}
use Rattle.ov_base.specs.declared.redirect.Redirect.TheVariants as redirect
use Rattle.plain_model.specs.Layers.{Name, Path, Object, Directory, Named, Whiteout, Inode, Layer, held, spell, below, cut, cuts, Shown, Folder, Contents, over, unless, shows, holds_directory, is_directory}
use Rattle.plain_model.proofs.LookUp.{hides, hides-cuts}
use Rattle.layer_tree.specs.Table.{entry_in, object_key}
use Rattle.layer_tree.specs.Tree.{Tree, ROOT, layer_of, table_of, key_at, entry_at, entry, child, seen, seen_entry}
use Rattle.layer_tree.specs.declared.name_table.Entry.{Entry}
use Rattle.layer_tree.specs.declared.name_table.Entry.TheVariants as bound
use Rattle.layer_tree.specs.declared.node.Node.{Node}
use Rattle.layer_tree.specs.declared.node.Node.TheVariants as node
use Rattle.ov_base.specs.declared.place.Place.{Place}
use Rattle.merged_lookup.specs.Merged.{level, unless_cut, places_at}
use Rattle.merged_lookup.specs.Locating.{place_of}
use Rattle.merged_lookup.specs.Descent.{holds_in, places_from, onward, topmost, anew, onward_in, descend, topmost_in, first}

-- a list cut at i begins with its element at i
pub drop-get : {A : Type 0} (xs : List A) (i : ℕ) (y : A) (ys : List A) → drop i xs ≡ y ∷ ys → (slice_get xs i ≡ Some y) × (drop (suc i) xs ≡ ys)
drop-get [] zero y ys e = cc
drop-get [] (suc i) y ys e = cc
drop-get (x ∷ xs) zero y ys e = (cc, cc)
drop-get (x ∷ xs) (suc i) y ys e = drop-get xs i y ys e

-- where an object's layer holds a directory, the object is that directory
seen-key : (j : ℕ) (x : Option Node) (k : ℕ) (a : Attributes) (o : Bool) (r : Option Redirect) → option_map (seen j) x ≡ Some (Directory k a o r) → j ≡ k
seen-key j None k a o r h = cc
seen-key j (Some (node.Directory d)) k a o r h = cc
seen-key j (Some (node.Inode i)) k a o r h = cc

entry-key : (t : Tree) (e : Option Entry) (k : ℕ) (a : Attributes) (o : Bool) (r : Option Redirect) → option_and_then (seen_entry t) e ≡ Some (Directory k a o r) → option_and_then object_key e ≡ Some k
entry-key t None k a o r h = cc
entry-key t (Some bound.Whiteout) k a o r h = cc
entry-key t (Some (bound.Object j)) k a o r h = ap Some (seen-key j (get t j) k a o r h)

step-key : (t : Tree) (x : Option ℕ) (n : Name) (k : ℕ) (a : Attributes) (o : Bool) (r : Option Redirect) → option_and_then (seen_entry t) (option_and_then (λ key. entry t key n) x) ≡ Some (Directory k a o r) → option_and_then (λ key. child t key n) x ≡ Some k
step-key t None n k a o r h = cc
step-key t (Some j) n k a o r h = entry-key t (entry t j n) k a o r h

-- the key at the path of a directory
pub key-of : (t : Tree) (p : Path) (k : ℕ) (a : Attributes) (o : Bool) (r : Option Redirect) → held (layer_of t) p ≡ Some (Directory k a o r) → key_at t p ≡ Some k
key-of t [] k a o r h = let e : ROOT ≡ k = cc in ap Some e
key-of t (n ∷ p) k a o r h = step-key t (key_at t p) n k a o r h

-- in a directory under a key the layer holds what the key's directory has
pub held-in : (t : Tree) (p : Path) (k : ℕ) (n : Name) → key_at t p ≡ Some k → held (layer_of t) (n ∷ p) ≡ holds_in t k n
held-in t p k n h = ap (λ x. option_and_then (seen_entry t) (option_and_then (λ key. entry t key n) x)) h

-- what has a table is held as a directory
table-held : (j : ℕ) (x : Option Node) (n : Name) → is_some (option_and_then (λ table. entry_in table n) (option_and_then table_of x)) ≡ true → holds_directory (option_map (seen j) x) ≡ true
table-held j None n h = absurd (false≢true h)
table-held j (Some (node.Directory d)) n h = refl
table-held j (Some (node.Inode i)) n h = absurd (false≢true h)

some-first : {A B : Type 0} (f : A → Option B) (x : Option A) → is_some (option_and_then f x) ≡ true → is_some x ≡ true
some-first f None h = h
some-first f (Some y) h = refl

entry-held : (t : Tree) (e : Option Entry) (n : Name) → is_some (option_and_then (λ key. entry t key n) (option_and_then object_key e)) ≡ true → holds_directory (option_and_then (seen_entry t) e) ≡ true
entry-held t None n h = absurd (false≢true h)
entry-held t (Some bound.Whiteout) n h = absurd (false≢true h)
entry-held t (Some (bound.Object j)) n h = table-held j (get t j) n h

step-held : (t : Tree) (x : Option ℕ) (m n : Name) → is_some (option_and_then (λ key. entry t key n) (option_and_then (λ key. child t key m) x)) ≡ true → holds_directory (option_and_then (seen_entry t) (option_and_then (λ key. entry t key m) x)) ≡ true
step-held t None m n h = absurd (false≢true h)
step-held t (Some j) m n h = entry-held t (entry t j m) n h

-- what is held stands in a directory
pub parent-held : (t : Tree) (p : Path) (n : Name) → is_some (held (layer_of t) (n ∷ p)) ≡ true → holds_directory (held (layer_of t) p) ≡ true
parent-held t [] n h = refl
parent-held t (m ∷ p) n h = step-held t (key_at t p) m n (some-first (seen_entry t) (entry_at t (n ∷ m ∷ p)) h)

-- places by the cut of the layer above them
pub descend-unless : (ts : List Tree) (c : Bool) (s : List Place) (n : Name) → descend ts (unless_cut c s) n ≡ unless_cut c (descend ts s n)
descend-unless ts true s n = refl
descend-unless ts false s n = refl

-- one name on at layer i, where o is held at the name and q is the directory's spelling
onward-level : (i : ℕ) (Ls : List Layer) (q : Path) (n : Name) (c : Bool) (o : Option Object) (rest : Name → List Place) → ((m : Name) → rest m ≡ unless_cut c (places_at (suc i) Ls (m ∷ q))) → onward o i n rest (places_at (suc i) Ls) ≡ level i o (unless_cut (cut o c) (places_at (suc i) Ls (spell o n q)))
onward-level i Ls q n c None rest h = h n
onward-level i Ls q n c (Some Whiteout) rest h = refl
onward-level i Ls q n c (Some (Named k)) rest h = refl
onward-level i Ls q n c (Some (Directory k a true None)) rest h = refl
onward-level i Ls q n c (Some (Directory k a true (Some (redirect.Single m)))) rest h = refl
onward-level i Ls q n c (Some (Directory k a true (Some (redirect.Absolute r)))) rest h = refl
onward-level i Ls q n c (Some (Directory k a false None)) rest h = ap (λ z. record { layer = i; key = k } ∷ z) (h n)
onward-level i Ls q n c (Some (Directory k a false (Some (redirect.Single m)))) rest h = ap (λ z. record { layer = i; key = k } ∷ z) (h m)
onward-level i Ls q n c (Some (Directory k a false (Some (redirect.Absolute r)))) rest h = refl

module _ (i : ℕ) (ts : List Tree) (t : Tree) (us : List Tree) (at : slice_get ts i ≡ Some t) (past : drop (suc i) ts ≡ us) (p q : Path) (n : Name) (c : Bool) (rest : (m : Name) → descend ts (places_at (suc i) (map layer_of us) q) m ≡ places_at (suc i) (map layer_of us) (m ∷ q)) where
  -- from the directory of this layer
  descend-here : (k : ℕ) (o : Option Object) → holds_in t k n ≡ o → descend ts (record { layer = i; key = k } ∷ unless_cut c (places_at (suc i) (map layer_of us) q)) n ≡ level i o (unless_cut (cut o c) (places_at (suc i) (map layer_of us) (spell o n q)))
  descend-here k o e =
      let rests : Name → List Place = λ m. descend ts (unless_cut c (places_at (suc i) (map layer_of us) q)) m in
      ap (λ x. onward_in x ts (record { layer = i; key = k }) n rests) at
      ∙ ap (λ x. onward x i n rests (anew ts i)) e
      ∙ ap (λ j. onward o i n rests (places_from j ts)) (add-one i)
      ∙ ap (λ vs. onward o i n rests (λ r. places_at (suc i) (map layer_of vs) r)) past
      ∙ onward-level i (map layer_of us) q n c o rests (λ m. descend-unless ts c (places_at (suc i) (map layer_of us) q) m ∙ ap (unless_cut c) (rest m))

  -- u is held at p and o at n in p
  descend-level : (u o : Option Object) → (is_some o ≡ true → holds_directory u ≡ true) → (hides u ≡ true → c ≡ true) → ((k : ℕ) (a : Attributes) (b : Bool) (r : Option Redirect) → u ≡ Some (Directory k a b r) → holds_in t k n ≡ o) → descend ts (level i u (unless_cut c (places_at (suc i) (map layer_of us) q))) n ≡ level i o (unless_cut (cut o c) (places_at (suc i) (map layer_of us) (spell o n q)))
  descend-level (Some (Directory k a b r)) o up hidden is = descend-here k o (is k a b r refl)
  descend-level None None up hidden is = descend-unless ts c (places_at (suc i) (map layer_of us) q) n ∙ ap (unless_cut c) (rest n)
  descend-level (Some (Named k)) None up hidden is = descend-unless ts c (places_at (suc i) (map layer_of us) q) n ∙ ap (unless_cut c) (rest n)
  descend-level (Some Whiteout) None up hidden is = descend-unless ts c (places_at (suc i) (map layer_of us) q) n ∙ ap (unless_cut c) (rest n)
  descend-level None (Some x) up hidden is = absurd (false≢true (up refl))
  descend-level (Some (Named k)) (Some x) up hidden is = absurd (false≢true (up refl))
  descend-level (Some Whiteout) (Some x) up hidden is = absurd (false≢true (up refl))

-- the descent from the places of a directory leads to those of a name in it
pub descend-places : (i : ℕ) (ts us : List Tree) → drop i ts ≡ us → (p : Path) (n : Name) → descend ts (places_at i (map layer_of us) p) n ≡ places_at i (map layer_of us) (n ∷ p)
descend-places i ts [] e p n = refl
descend-places i ts (t ∷ us) e p n =
    let d : (slice_get ts i ≡ Some t) × (drop (suc i) ts ≡ us) = drop-get ts i t us e in
    descend-level i ts t us d.0 d.1 p (below (layer_of t) p) n (cuts (layer_of t) p)
    (λ m. descend-places (suc i) ts us d.1 (below (layer_of t) p) m)
    (held (layer_of t) p) (held (layer_of t) (n ∷ p)) (parent-held t p n) (hides-cuts (layer_of t) p)
    (λ k a b r h. sym (held-in t p k n (key-of t p k a b r h)))

length-level : (i : ℕ) (o : Option Object) (c : Bool) (s : List Place) (m : ℕ) → length s ≤ m → length (level i o (unless_cut c s)) ≤ suc m
length-level i o c s m h = grind arith

-- a path reaches at most one directory of each layer
pub length-places : (i : ℕ) (Ls : List Layer) (p : Path) → length (places_at i Ls p) ≤ length Ls
length-places i [] p = omega arith
length-places i (L ∷ Ls) p = length-level i (held L p) (cuts L p) (places_at (suc i) Ls (below L p)) (length Ls) (length-places (suc i) Ls (below L p))

-- the topmost of these places is the directory shown, and without a place no directory is
abbrev pub IsTop : List Place → Option Shown → Type 0
IsTop [] x = is_directory x ≡ false
IsTop (d ∷ ds) x = (a : Attributes) × (x ≡ Some (Folder d.layer d.key a))

top-level : (i : ℕ) (inodes : ℕ → Option Inode) (o : Option Object) (c : Bool) (s : List Place) (x : Option Shown) → (hides o ≡ true → c ≡ true) → IsTop s x → IsTop (level i o (unless_cut c s)) (over i inodes o (unless c x))
top-level i inodes (Some (Directory k a b r)) c s x hidden h = (a, refl)
top-level i inodes None true s x hidden h = refl
top-level i inodes None false s x hidden h = h
top-level i inodes (Some (Named k)) true s x hidden h = refl
top-level i inodes (Some Whiteout) true s x hidden h = refl
top-level i inodes (Some (Named k)) false s x hidden h = absurd (false≢true (hidden refl))
top-level i inodes (Some Whiteout) false s x hidden h = absurd (false≢true (hidden refl))

-- a path shows the directory at the top of those that it reaches
pub top-shown : (i : ℕ) (Ls : List Layer) (p : Path) → IsTop (places_at i Ls p) (shows i Ls p)
top-shown i [] p = refl
top-shown i (L ∷ Ls) p = top-level i L.inodes (held L p) (cuts L p) (places_at (suc i) Ls (below L p)) (shows (suc i) Ls (below L p)) (hides-cuts L p) (top-shown (suc i) Ls (below L p))

-- the topmost object from places by the cut of the layer above them
pub first-unless : (ts : List Tree) (c : Bool) (s : List Place) (n : Name) (x : Option Shown) → first ts s n ≡ place_of x → first ts (unless_cut c s) n ≡ place_of (unless c x)
first-unless ts true s n x h = refl
first-unless ts false s n x h = h

topmost-over : (i : ℕ) (inodes : ℕ → Option Inode) (o : Option Object) (s : Option Place) (x : Option Shown) → (o ≡ None → s ≡ place_of x) → topmost o i s ≡ place_of (over i inodes o x)
topmost-over i inodes None s x h = h refl
topmost-over i inodes (Some Whiteout) s x h = refl
topmost-over i inodes (Some (Named k)) s x h = refl
topmost-over i inodes (Some (Directory k a b r)) s x h = refl

module _ (i : ℕ) (ts : List Tree) (t : Tree) (at : slice_get ts i ≡ Some t) (s : List Place) (n : Name) (inodes : ℕ → Option Inode) (x : Option Shown) where
  -- u is held in this layer at a path, and o at n in it
  first-level : (u o : Option Object) → (is_some o ≡ true → holds_directory u ≡ true) → ((k : ℕ) (a : Attributes) (b : Bool) (r : Option Redirect) → u ≡ Some (Directory k a b r) → holds_in t k n ≡ o) → (o ≡ None → first ts s n ≡ place_of x) → first ts (level i u s) n ≡ place_of (over i inodes o x)
  first-level (Some (Directory k a b r)) o up is h = ap (λ z. topmost_in z (record { layer = i; key = k }) n (first ts s n)) at ∙ ap (λ z. topmost z i (first ts s n)) (is k a b r refl) ∙ topmost-over i inodes o (first ts s n) x h
  first-level None None up is h = h refl
  first-level (Some (Named k)) None up is h = h refl
  first-level (Some Whiteout) None up is h = h refl
  first-level None (Some y) up is h = absurd (false≢true (up refl))
  first-level (Some (Named k)) (Some y) up is h = absurd (false≢true (up refl))
  first-level (Some Whiteout) (Some y) up is h = absurd (false≢true (up refl))

-- the topmost object at a name in a directory is what the name shows
pub first-places : (i : ℕ) (ts us : List Tree) → drop i ts ≡ us → (p : Path) (n : Name) → first ts (places_at i (map layer_of us) p) n ≡ place_of (shows i (map layer_of us) (n ∷ p))
first-places i ts [] e p n = refl
first-places i ts (t ∷ us) e p n =
    let L : Layer = layer_of t in
    let d : (slice_get ts i ≡ Some t) × (drop (suc i) ts ≡ us) = drop-get ts i t us e in
    let below_shows : Option Object → Option Shown = λ o. unless (cut o (cuts L p)) (shows (suc i) (map layer_of us) (spell o n (below L p))) in
    first-level i ts t d.0 (unless_cut (cuts L p) (places_at (suc i) (map layer_of us) (below L p))) n L.inodes (below_shows (held L (n ∷ p)))
    (held L p) (held L (n ∷ p)) (parent-held t p n)
    (λ k a b r h. sym (held-in t p k n (key-of t p k a b r h)))
    (λ none. first-unless ts (cuts L p) (places_at (suc i) (map layer_of us) (below L p)) n (shows (suc i) (map layer_of us) (n ∷ below L p)) (first-places (suc i) ts us d.1 (below L p) n) ∙ sym (ap (λ o. place_of (below_shows o)) none))

-- what is shown and no directory is the inode at its place
pub shown-inode : (x : Option Shown) (d : Place) → is_directory x ≡ false → place_of x ≡ Some d → (i : Option Inode) × (x ≡ Some (Contents d.layer d.key i))
shown-inode None d f h = absurd (cc)
shown-inode (Some (Folder i k a)) d f h = absurd (false≢true (sym f))
shown-inode (Some (Contents i k x)) d f h = (x, cc)

pub shown-none : (x : Option Shown) → place_of x ≡ None → x ≡ None
shown-none None h = refl
shown-none (Some (Folder i k a)) h = cc
shown-none (Some (Contents i k x)) h = cc

drop-some : {A : Type 0} (xs : List A) (i : ℕ) → i < length xs → (x : A) × (drop i xs ≡ x ∷ drop (suc i) xs)
drop-some [] i h = absurd (omega (arith, h))
drop-some (x ∷ xs) zero h = (x, refl)
drop-some (x ∷ xs) (suc i) h = drop-some xs i (omega (arith, h))

-- the roots of the layers from i on, where the places before them are those done
pub roots-step : (i : ℕ) (ts : List Tree) (done all : List Place) → i < length ts → done ++ places_from i ts [] ≡ all → (done ++ record { layer = i; key = 0 } ∷ []) ++ places_from (i + 1) ts [] ≡ all
roots-step i ts done all h e =
    let d : (t : Tree) × (drop i ts ≡ t ∷ drop (suc i) ts) = drop-some ts i h in
    let rest : List Place = places_at (suc i) (map layer_of (drop (suc i) ts)) [] in
    ap (λ j. (done ++ record { layer = i; key = 0 } ∷ []) ++ places_from j ts []) (add-one i)
    ∙ append_assoc done (record { layer = i; key = 0 } ∷ []) rest
    ∙ sym (ap (λ us. done ++ places_at i (map layer_of us) []) d.1)
    ∙ e

-- one name of a path on, in the layers from i on
pub walk-step : (i : ℕ) (ts : List Tree) (s : List Place) (p : Path) (n : Name) → length ts ≤ 17 → s ≡ places_from i ts p → (length (descend ts s n) ≤ 17) × (descend ts s n ≡ places_from i ts (n ∷ p))
walk-step i ts s p n few e =
    let next : descend ts s n ≡ places_from i ts (n ∷ p) = ap (λ s. descend ts s n) e ∙ descend-places i ts (drop i ts) refl p n in
    let short : length (places_at i (map layer_of (drop i ts)) (n ∷ p)) ≤ length (map layer_of (drop i ts)) = length-places i (map layer_of (drop i ts)) (n ∷ p) in
    let same : length (map layer_of (drop i ts)) ≡ length (drop i ts) = simp length-map in
    let fewer : length (drop i ts) ≡ length ts - i = length-drop i ts in
    let e_len : length (descend ts s n) ≡ length (places_at i (map layer_of (drop i ts)) (n ∷ p)) = ap length next in
    (omega arith, next)

-- the names up to one more, last first
pub reverse-more : (names : List Name) (i : ℕ) (n : Name) → i < length names → n ≡ get_or names i n → reverse (take (i + 1) names) ≡ n ∷ reverse (take i names)
reverse-more names i n h e = ap reverse (take_more names i n h ∙ ap (λ x. take i names ++ x ∷ []) (sym e)) ∙ reverse-append (take i names) (n ∷ [])
