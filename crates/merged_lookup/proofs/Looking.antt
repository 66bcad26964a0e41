-- What one step, and a walk of several, show.
use Rattle.std.proofs.Common.{◌≡◌, ℕ, suc, ◌<◌, ◌≤◌, ◌+◌, ◌++◌, Bool, true, false, not, List, [], ◌∷◌, Option, None, Some, refl, sym, ap, ◌∙◌, subst, is_some, length, map, slice_get, drop, take, reverse, arith, nat_eq, cond, get_or}
use Rattle.std.proofs.lemmas.Bool.{false≢true}
use Rattle.std.proofs.lemmas.List.{reverse-append, take-append-drop}
use Rattle.std.specs.Option.{option_and_then, option_map}
use Rattle.slab.specs.Slab.{get}
use Rattle.ov_base.specs.declared.attributes.Attributes.{Attributes}
use Rattle.ov_base.specs.declared.errno.Errno.{Errno}
use Rattle.ov_base.specs.declared.errno.Errno.TheVariants as errno
use Rattle.plain_model.specs.Layers.{Name, Path, Object, Directory, Named, Whiteout, Inode, Layer, held, below, cuts, Shown, Folder, Contents, over, unless, shows, through, under, base, is_directory}
use Rattle.plain_model.proofs.LookUp.{base-through}
use Rattle.layer_tree.specs.Tree.{Tree, layer_of, inode_at, inode_of}
use Rattle.ov_base.specs.declared.place.Place.{Place}
use Rattle.merged_lookup.specs.declared.stack.Stack.{Stack}
use Rattle.merged_lookup.specs.declared.layers.Layers.{Layers}
use Rattle.merged_lookup.specs.declared.found.Topmost.{Topmost}
use Rattle.merged_lookup.specs.declared.found.Topmost.TheVariants as shown
use Rattle.merged_lookup.specs.Merged.{trees, lowers_of, layers_of, fill_at, IsStackOf, ShowsDirectory, ShowsInode, ShowsNothing, IsTopmost, level, unless_cut, places_at, top_of, fault, or_else, way_fault, inode_fault, node_in, place_fault}
use Rattle.merged_lookup.specs.Descent.{places_from, descend, first, place_shown, leads, without_upper}
use Rattle.merged_lookup.specs.Locating.{place_of}
use Rattle.merged_lookup.proofs.Filled.{same-place, folder-filled, nothing-filled, inode-filled, IsInodeOf, raw-inode, same-fault}
use Rattle.merged_lookup.proofs.Descending.{IsTop, top-shown, first-places, first-unless, shown-inode, shown-none, walk-step, descend-places, descend-unless, drop-get, reverse-more}

-- the first of some places is the directory shown
pub top-of : (s : List Place) (x : Option Shown) → 0 < length s → IsTop s x → (a : Attributes) × (x ≡ Some (Folder (top_of s).layer (top_of s).key a))
top-of [] x h t = absurd (omega (arith, h))
top-of (d ∷ ds) x h t = t

-- without a place none is
pub no-top : (s : List Place) (x : Option Shown) → length s ≡ 0 → IsTop s x → is_directory x ≡ false
no-top [] x h t = t
no-top (d ∷ ds) x h t = absurd (omega (arith, h))

empty : (s : List Place) → length s ≡ 0 → s ≡ []
empty [] h = refl
empty (d ∷ ds) h = absurd (omega (arith, h))

-- the answers that a step is put together of
module _ (ts : List Tree) (s : List Place) (p : Path) (n : Name) (few : length ts ≤ 17) (is : s ≡ places_at 0 (map layer_of ts) p) (reached : List Place) (exact : length (descend ts s n) ≤ 17 → reached ≡ descend ts s n) where
  reached-is : reached ≡ places_at 0 (map layer_of ts) (n ∷ p)
  reached-is = let w : (length (descend ts s n) ≤ 17) × (descend ts s n ≡ places_from 0 ts (n ∷ p)) = walk-step 0 ts s p n few is in exact w.0 ∙ w.1

  top-is : IsTop reached (shows 0 (map layer_of ts) (n ∷ p))
  top-is = let P : List Place → Type 0 = λ z. IsTop z (shows 0 (map layer_of ts) (n ∷ p)) in subst P (sym reached-is) (top-shown 0 (map layer_of ts) (n ∷ p))

  first-is : first ts s n ≡ place_of (shows 0 (map layer_of ts) (n ∷ p))
  first-is = ap (λ z. first ts z n) is ∙ first-places 0 ts ts refl p n

  -- where directories are reached, the first is shown
  step-top : 0 < length reached → (a : Attributes) × (shows 0 (map layer_of ts) (n ∷ p) ≡ Some (Folder (top_of reached).layer (top_of reached).key a))
  step-top h = top-of reached (shows 0 (map layer_of ts) (n ∷ p)) h top-is

  -- where none is, the topmost object is an inode, and nothing is shown without one
  step-first : (d : Place) → length reached ≡ 0 → first ts s n ≡ Some d → (i : Option Inode) × (shows 0 (map layer_of ts) (n ∷ p) ≡ Some (Contents d.layer d.key i))
  step-first d h e = shown-inode (shows 0 (map layer_of ts) (n ∷ p)) d (no-top reached (shows 0 (map layer_of ts) (n ∷ p)) h top-is) (sym first-is ∙ e)

  step-nothing : first ts s n ≡ None → shows 0 (map layer_of ts) (n ∷ p) ≡ None
  step-nothing e = shown-none (shows 0 (map layer_of ts) (n ∷ p)) (sym first-is ∙ e)

module _ (l : Layers) (s : List Place) (n : Name) (few : length (trees l) ≤ 17) (reached : List Place) (exact : length (descend (trees l) s n) ≤ 17 → reached ≡ descend (trees l) s n) (p : Path) (is : s ≡ places_at 0 (layers_of l) p) where
  pub step-directory : 0 < length reached → ShowsDirectory l (n ∷ p) reached
  step-directory h =
      let t : (a : Attributes) × (shows 0 (map layer_of (trees l)) (n ∷ p) ≡ Some (Folder (top_of reached).layer (top_of reached).key a)) = step-top (trees l) s p n few is reached exact h in
      record { attributes = t.0; shown = folder-filled l (n ∷ p) (top_of reached).layer (top_of reached).key t.0 t.1; places = reached-is (trees l) s p n few is reached exact }

  -- an inode where no directory is reached
  reached-none : (o : Option Place) → length reached ≡ 0 → (length (descend (trees l) s n) ≤ 17 → reached ≡ [] → o ≡ first (trees l) s n) → o ≡ first (trees l) s n
  reached-none o h e = e (walk-step 0 (trees l) s p n few is).0 (empty reached h)

  pub step-inode : (d : Place) (o : Option Place) → o ≡ Some d → length reached ≡ 0 → (length (descend (trees l) s n) ≤ 17 → reached ≡ [] → o ≡ first (trees l) s n) → ShowsInode l (n ∷ p) d
  step-inode d o is_d h e =
      let t : (i : Option Inode) × (shows 0 (map layer_of (trees l)) (n ∷ p) ≡ Some (Contents d.layer d.key i)) = step-first (trees l) s p n few is reached exact d h (sym (reached-none o h e) ∙ is_d) in
      record { inode = fill_at d.layer (lowers_of l) t.0; shown = inode-filled l (n ∷ p) d.layer d.key t.0 t.1 }

  pub step-none : (o : Option Place) → o ≡ None → length reached ≡ 0 → (length (descend (trees l) s n) ≤ 17 → reached ≡ [] → o ≡ first (trees l) s n) → ShowsNothing l (n ∷ p)
  step-none o none h e = record { shown = nothing-filled l (n ∷ p) (step-nothing (trees l) s p n few is reached exact (sym (reached-none o h e) ∙ none)) }

-- what is shown is the directory at its place
pub shown-folder : (x : Option Shown) (d : Place) → is_directory x ≡ true → place_of x ≡ Some d → (a : Attributes) × (x ≡ Some (Folder d.layer d.key a))
shown-folder None d f h = absurd (cc)
shown-folder (Some (Folder i k a)) d f h = (a, cc)
shown-folder (Some (Contents i k x)) d f h = absurd (false≢true f)

topmost-by : (l : Layers) (p : Path) (o : Option Topmost) → leads o ≡ is_directory (shows 0 (layers_of l) p) → option_map place_shown o ≡ place_of (shows 0 (layers_of l) p) → IsTopmost l p o
topmost-by l p None b e = record { shown = shown-none (shows 0 (layers_of l) p) (sym e) }
topmost-by l p (Some (shown.Directory d)) b e = shown-folder (shows 0 (layers_of l) p) d (sym b) (sym e)
topmost-by l p (Some (shown.Inode d)) b e =
    let t : (i : Option Inode) × (shows 0 (layers_of l) p ≡ Some (Contents d.layer d.key i)) = shown-inode (shows 0 (layers_of l) p) d (sym b) (sym e) in
    record { inode = t.0; shown = t.1 }

pub is_some-shown : (o : Option Topmost) → is_some o ≡ is_some (option_map place_shown o)
is_some-shown None = refl
is_some-shown (Some t) = refl

is_some-place : (x : Option Shown) → is_some (place_of x) ≡ is_some x
is_some-place None = refl
is_some-place (Some (Folder i k a)) = refl
is_some-place (Some (Contents i k x)) = refl

-- whether a name shows something
pub shows-some : (ts : List Tree) (s : List Place) (p : Path) (n : Name) → s ≡ places_at 0 (map layer_of ts) p → is_some (first ts s n) ≡ is_some (shows 0 (map layer_of ts) (n ∷ p))
shows-some ts s p n e = ap (λ z. is_some (first ts z n)) e ∙ ap is_some (first-places 0 ts ts refl p n) ∙ is_some-place (shows 0 (map layer_of ts) (n ∷ p))

-- the inode at a place
abbrev pub inode_in : List Tree → ℕ → ℕ → Option Inode
inode_in ts j k = option_and_then inode_of (node_in ts (record { layer = j; key = k }))

inode-here : (x : Option Tree) (t : Tree) (k : ℕ) → x ≡ Some t → option_and_then inode_of (option_and_then (λ t. get t k) x) ≡ inode_at t k
inode-here x t k e = ap (λ z. option_and_then inode_of (option_and_then (λ t. get t k) z)) e

over-inode : (i : ℕ) (ts : List Tree) (t : Tree) (j k : ℕ) (x : Option Inode) (o : Option Object) (c : Bool) (y : Option Shown) → slice_get ts i ≡ Some t → (y ≡ Some (Contents j k x) → inode_in ts j k ≡ x) → over i (inode_at t) o (unless c y) ≡ Some (Contents j k x) → inode_in ts j k ≡ x
over-inode i ts t j k x None true y at rest h = cc
over-inode i ts t j k x None false y at rest h = rest h
over-inode i ts t j k x (Some Whiteout) c y at rest h = cc
over-inode i ts t j k x (Some (Directory m a b r)) c y at rest h = cc
over-inode i ts t j k x (Some (Named m)) c y at rest h =
    let ij : i ≡ j = cc in
    let mk : m ≡ k = cc in
    let ix : inode_at t m ≡ x = cc in
    sym (ap (λ z. inode_in ts z k) ij) ∙ inode-here (slice_get ts i) t k at ∙ sym (ap (inode_at t) mk) ∙ ix

-- an inode that is shown is the one at its place
pub inode-shown : (i : ℕ) (ts us : List Tree) → drop i ts ≡ us → (p : Path) (j k : ℕ) (x : Option Inode) → shows i (map layer_of us) p ≡ Some (Contents j k x) → inode_in ts j k ≡ x
inode-shown i ts [] e p j k x h = cc
inode-shown i ts (t ∷ us) e p j k x h =
    let d : (slice_get ts i ≡ Some t) × (drop (suc i) ts ≡ us) = drop-get ts i t us e in
    over-inode i ts t j k x (held (layer_of t) p) (cuts (layer_of t) p) (shows (suc i) (map layer_of us) (below (layer_of t) p)) d.0 (inode-shown (suc i) ts us d.1 (below (layer_of t) p) j k x) h

-- the first fault of a way is that of each longer one
pub way-more : (Ls : List Layer) (r p : Path) (e : Errno) → way_fault Ls p ≡ Some e → way_fault Ls (r ++ p) ≡ Some e
way-more Ls [] p e h = h
way-more Ls (n ∷ r) p e h = ap (λ z. or_else z (fault (shows 0 Ls (n ∷ (r ++ p))))) (way-more Ls r p e h)

-- one name on from a way without fault
pub way-next : (Ls : List Layer) (p : Path) (n : Name) (e : Option Errno) → way_fault Ls p ≡ None → fault (shows 0 Ls (n ∷ p)) ≡ e → way_fault Ls (n ∷ p) ≡ e
way-next Ls p n e h f = ap (λ z. or_else z (fault (shows 0 Ls (n ∷ p)))) h ∙ f

-- the names after some of them, before those, last first
pub reverse-parts : (names : List Name) (i : ℕ) → reverse names ≡ reverse (drop i names) ++ reverse (take i names)
reverse-parts names i = ap reverse (sym (take-append-drop i names)) ∙ reverse-append (take i names) (drop i names)

-- the topmost of these places, if there is one, is of layer i or below it
abbrev pub HeadFrom : ℕ → List Place → Type 0
HeadFrom i [] = Unit {0}
HeadFrom i (d ∷ ds) = i ≤ d.layer

head-level : (i : ℕ) (o : Option Object) (c : Bool) (s : List Place) → HeadFrom (suc i) s → HeadFrom i (level i o (unless_cut c s))
head-level i (Some (Directory k a b r)) c s h = omega arith
head-level i None true s h = tt
head-level i None false [] h = tt
head-level i None false (d ∷ ds) h = omega (arith, h)
head-level i (Some (Named k)) true s h = tt
head-level i (Some (Named k)) false [] h = tt
head-level i (Some (Named k)) false (d ∷ ds) h = omega (arith, h)
head-level i (Some Whiteout) true s h = tt
head-level i (Some Whiteout) false [] h = tt
head-level i (Some Whiteout) false (d ∷ ds) h = omega (arith, h)

pub head-places : (i : ℕ) (Ls : List Layer) (p : Path) → HeadFrom i (places_at i Ls p)
head-places i [] p = tt
head-places i (L ∷ Ls) p = head-level i (held L p) (cuts L p) (places_at (suc i) Ls (below L p)) (head-places (suc i) Ls (below L p))

without-lowers : (s : List Place) → HeadFrom 1 s → without_upper s ≡ s
without-lowers [] h = refl
without-lowers (d ∷ ds) h = let e : nat_eq d.layer 0 ≡ false = grind (arith, h) in ap (λ b. cond b ds (d ∷ ds)) e

pub head-unless : (c : Bool) (s : List Place) → HeadFrom 1 s → HeadFrom 1 (unless_cut c s)
head-unless true s h = tt
head-unless false s h = h

without-level : (o : Option Object) (s : List Place) → HeadFrom 1 s → without_upper (level 0 o s) ≡ s
without-level (Some (Directory k a b r)) s h = refl
without-level None s h = without-lowers s h
without-level (Some (Named k)) s h = without-lowers s h
without-level (Some Whiteout) s h = without-lowers s h

top-unless : (c : Bool) (s : List Place) (x : Option Shown) → IsTop s x → IsTop (unless_cut c s) (unless c x)
top-unless true s x h = refl
top-unless false s x h = h

suc-not-zero : (k : ℕ) → nat_eq (suc k) 0 ≡ false
suc-not-zero k = grind arith

pub directory-top : (s : List Place) (x : Option Shown) → IsTop s x → not (nat_eq (length s) 0) ≡ is_directory x
directory-top [] x h = sym h
directory-top (d ∷ ds) x h = ap not (suc-not-zero (length ds)) ∙ sym (ap is_directory h.1)

-- the topmost object that a name leads to from the places of a merged directory is what it shows there
pub topmost-shown : (l : Layers) (s : List Place) (n : Name) → length (trees l) ≤ 17 → (p : Path) → s ≡ places_at 0 (layers_of l) p → (o : Option Topmost) → option_map place_shown o ≡ first (trees l) s n → leads o ≡ not (nat_eq (length (descend (trees l) s n)) 0) → IsTopmost l (n ∷ p) o
topmost-shown l s n few p is o e b =
    let next : (length (descend (trees l) s n) ≤ 17) × (descend (trees l) s n ≡ places_from 0 (trees l) (n ∷ p)) = walk-step 0 (trees l) s p n few is in
    topmost-by l (n ∷ p) o
    (b ∙ ap (λ z. not (nat_eq (length z) 0)) next.1 ∙ directory-top (places_from 0 (trees l) (n ∷ p)) (shows 0 (layers_of l) (n ∷ p)) (top-shown 0 (layers_of l) (n ∷ p)))
    (e ∙ ap (λ z. first (trees l) z n) is ∙ first-places 0 (trees l) (trees l) refl p n ∙ sym (same-place l (n ∷ p)))

-- the places below the upper are those that are reached in the lower layers
pub without-is : (t : Tree) (us : List Tree) (s : List Place) (p : Path) → s ≡ places_at 0 (map layer_of (t ∷ us)) p → without_upper s ≡ unless_cut (cuts (layer_of t) p) (places_at 1 (map layer_of us) (below (layer_of t) p))
without-is t us s p is =
    let lower : List Place = unless_cut (cuts (layer_of t) p) (places_at 1 (map layer_of us) (below (layer_of t) p)) in
    ap without_upper is ∙ without-level (held (layer_of t) p) lower (head-unless (cuts (layer_of t) p) (places_at 1 (map layer_of us) (below (layer_of t) p)) (head-places 1 (map layer_of us) (below (layer_of t) p)))

-- there are some exactly where the directory is base
pub base-places : (t : Tree) (us : List Tree) (s : List Place) (p : Path) → s ≡ places_at 0 (map layer_of (t ∷ us)) p → not (nat_eq (length (without_upper s)) 0) ≡ base (layer_of t) (map layer_of us) p
base-places t us s p is =
    ap (λ z. not (nat_eq (length z) 0)) (without-is t us s p is)
    ∙ directory-top (unless_cut (cuts (layer_of t) p) (places_at 1 (map layer_of us) (below (layer_of t) p))) (through (layer_of t) (map layer_of us) p)
    (top-unless (cuts (layer_of t) p) (places_at 1 (map layer_of us) (below (layer_of t) p)) (shows 1 (map layer_of us) (below (layer_of t) p)) (top-shown 1 (map layer_of us) (below (layer_of t) p)))
    ∙ sym (base-through (layer_of t) (map layer_of us) p)

-- what the lower layers show under a name is asked from the places below the upper
module _ (t : Tree) (us : List Tree) (s : List Place) (p : Path) (n : Name) (is : s ≡ places_at 0 (map layer_of (t ∷ us)) p) where
  under-is : descend (t ∷ us) (without_upper s) n ≡ unless_cut (cuts (layer_of t) p) (places_at 1 (map layer_of us) (n ∷ below (layer_of t) p))
  under-is =
      ap (λ z. descend (t ∷ us) z n) (without-is t us s p is)
      ∙ descend-unless (t ∷ us) (cuts (layer_of t) p) (places_at 1 (map layer_of us) (below (layer_of t) p)) n
      ∙ ap (unless_cut (cuts (layer_of t) p)) (descend-places 1 (t ∷ us) us refl (below (layer_of t) p) n)

  pub under-directory : (o : Option Topmost) → leads o ≡ not (nat_eq (length (descend (t ∷ us) (without_upper s) n)) 0) → leads o ≡ is_directory (under (layer_of t) (map layer_of us) n p)
  under-directory o b =
      b
      ∙ ap (λ z. not (nat_eq (length z) 0)) under-is
      ∙ directory-top (unless_cut (cuts (layer_of t) p) (places_at 1 (map layer_of us) (n ∷ below (layer_of t) p))) (unless (cuts (layer_of t) p) (shows 1 (map layer_of us) (n ∷ below (layer_of t) p)))
      (top-unless (cuts (layer_of t) p) (places_at 1 (map layer_of us) (n ∷ below (layer_of t) p)) (shows 1 (map layer_of us) (n ∷ below (layer_of t) p)) (top-shown 1 (map layer_of us) (n ∷ below (layer_of t) p)))

-- whether the lower layers show something at a name, from the places below the upper
pub under-some : (t : Tree) (us : List Tree) (s : List Place) (p : Path) (n : Name) → s ≡ places_at 0 (map layer_of (t ∷ us)) p → is_some (first (t ∷ us) (without_upper s) n) ≡ is_some (under (layer_of t) (map layer_of us) n p)
under-some t us s p n is =
    let spelled : Path = below (layer_of t) p in
    ap (λ z. is_some (first (t ∷ us) z n)) (without-is t us s p is)
    ∙ ap is_some (first-unless (t ∷ us) (cuts (layer_of t) p) (places_at 1 (map layer_of us) spelled) n (shows 1 (map layer_of us) (n ∷ spelled)) (first-places 1 (t ∷ us) us refl spelled n))
    ∙ is_some-place (under (layer_of t) (map layer_of us) n p)

-- the fault of what is shown
pub nothing-fault : (l : Layers) (p : Path) → ShowsNothing l p → fault (shows 0 (layers_of l) p) ≡ Some errno.ENOENT
nothing-fault l p h = ap fault h.shown

pub inode-fault : (l : Layers) (p : Path) (d : Place) → ShowsInode l p d → fault (shows 0 (layers_of l) p) ≡ Some (inode_fault (option_and_then inode_of (node_in (trees l) d)))
inode-fault l p d h =
    let r : IsInodeOf (lowers_of l) (shows 0 (map layer_of (trees l)) p) d.layer d.key h.inode = raw-inode l p d.layer d.key h.inode h.shown in
    ap fault h.shown ∙ ap Some (same-fault (lowers_of l) d.layer r.raw h.inode r.same ∙ ap inode_fault (sym (inode-shown 0 (trees l) (trees l) refl p d.layer d.key r.raw r.is)))

-- why a name leads to no directory
pub step-fault : (l : Layers) (s : List Place) (n : Name) → length (trees l) ≤ 17 → (reached : List Place) → (length (descend (trees l) s n) ≤ 17 → reached ≡ descend (trees l) s n) → (p : Path) → s ≡ places_at 0 (layers_of l) p → (o : Option Place) → length reached ≡ 0 → (length (descend (trees l) s n) ≤ 17 → reached ≡ [] → o ≡ first (trees l) s n) → fault (shows 0 (layers_of l) (n ∷ p)) ≡ Some (place_fault (trees l) o)
step-fault l s n few reached exact p is None h e = nothing-fault l (n ∷ p) (step-none l s n few reached exact p is None refl h e)
step-fault l s n few reached exact p is (Some d) h e = inode-fault l (n ∷ p) d (step-inode l s n few reached exact p is d (Some d) refl h e)

pub directory-fault : (l : Layers) (p : Path) (s : List Place) → ShowsDirectory l p s → fault (shows 0 (layers_of l) p) ≡ None
directory-fault l p s h = ap fault h.shown

-- a fault at one of the names is that of them all
pub fault-at : (l : Layers) (names : List Name) (i : ℕ) (n : Name) (e : Errno) → i < length names → n ≡ get_or names i n → way_fault (layers_of l) (reverse (take i names)) ≡ None → fault (shows 0 (layers_of l) (n ∷ reverse (take i names))) ≡ Some e → way_fault (layers_of l) (reverse names) ≡ Some e
fault-at l names i n e h is none here =
    let next : way_fault (layers_of l) (reverse (take (i + 1) names)) ≡ Some e = ap (way_fault (layers_of l)) (reverse-more names i n h is) ∙ way-next (layers_of l) (reverse (take i names)) n (Some e) none here in
    ap (way_fault (layers_of l)) (reverse-parts names (i + 1)) ∙ way-more (layers_of l) (reverse (drop (i + 1) names)) (reverse (take (i + 1) names)) e next

-- one directory on in a way without fault
pub fault-next : (l : Layers) (names : List Name) (i : ℕ) (n : Name) (s : List Place) → i < length names → n ≡ get_or names i n → way_fault (layers_of l) (reverse (take i names)) ≡ None → ShowsDirectory l (n ∷ reverse (take i names)) s → way_fault (layers_of l) (reverse (take (i + 1) names)) ≡ None
fault-next l names i n s h is none d = ap (way_fault (layers_of l)) (reverse-more names i n h is) ∙ way-next (layers_of l) (reverse (take i names)) n None none (directory-fault l (n ∷ reverse (take i names)) s d)

-- the root is shown as a directory
pub root-shown : (l : Layers) (s : Stack) → IsStackOf l [] s → ShowsDirectory l [] s.places.items
root-shown l s is =
    record {
      attributes = (layer_of l.upper).root;
      shown = ap (λ z. Some (Folder (top_of z).layer (top_of z).key (layer_of l.upper).root)) (sym is.places);
      places = is.places;
    }
