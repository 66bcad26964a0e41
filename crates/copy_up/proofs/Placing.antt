-- What a new directory of the upper does to what is shown.
use Rattle.std.proofs.Common.{◌≡◌, ◌≢◌, ℕ, suc, ◌<◌, Bool, true, false, List, [], ◌∷◌, ◌++◌, Option, None, Some, refl, sym, ap, ◌∙◌, subst, is_some, length, map, inl, inr, arith}
use Rattle.std.proofs.lemmas.Bool.{false≢true, cases_Bool, both_ways}
use Rattle.ov_base.specs.declared.attributes.Attributes.{Attributes}
use Rattle.ov_base.specs.declared.redirect.Redirect.{Redirect}
use Rattle.plain_model.specs.Layers.{Name, Path, Object, Directory, Named, Whiteout, Inode, Layer, held, spell, below, cut, cuts, Shown, Folder, over, unless, shows, through, is_directory, holds_directory, same_path}
use Rattle.plain_model.specs.Tree.{merged}
use Rattle.plain_model.proofs.LookUp.{hides, hides-cuts}
use Rattle.plain_model.proofs.Paths.{paths_tell}
use Rattle.plain_model.proofs.Uppers.{meld, merged-meld, AgreeTo, agree-step, through-agree, merged-agree, dead-step}
use Rattle.layer_tree.specs.Tree.{Tree, layer_of, SetsPath}
use Rattle.ov_base.specs.declared.place.Place.{Place}
use Rattle.merged_lookup.specs.declared.layers.Layers.{Layers}
use Rattle.merged_lookup.specs.Merged.{upper_of, lowers_of, layers_of, level, top_of}
use Rattle.merged_lookup.proofs.Descending.{parent-held}
use Rattle.merged_lookup.proofs.Looking.{HeadFrom}
use Rattle.copy_up.specs.Showing.{is_object}

-- two objects that pass on alike
pub record Alike (o u : Option Object) : Type 0 where
  pub spelled : (n : Name) (s : Path) → spell o n s ≡ spell u n s
  pub cut_alike : (c : Bool) → cut o c ≡ cut u c

-- a directory without marks passes on what nothing does
pub unmarked-alike : (k : ℕ) (a : Attributes) → Alike (Some (Directory k a false None)) None
unmarked-alike k a = record { spelled = λ n s. refl; cut_alike = λ c. refl }

-- uppers that hold the same but at p, where they hold alike, agree everywhere
module _ (U V : Layer) (p : Path) (alike : Alike (held V p) (held U p)) (same : (x : Path) → x ≢ p → held V x ≡ held U x) where
  alike-step : (k : Name) (x : Path) → Alike (held V (k ∷ x)) (held U (k ∷ x)) → AgreeTo U V x → AgreeTo U V (k ∷ x)
  alike-step k x a e =
      record {
        cut_alike = a.cut_alike (cuts V x) ∙ ap (cut (held U (k ∷ x))) e.cut_alike;
        spelled = a.spelled k (below V x) ∙ ap (spell (held U (k ∷ x)) k) e.spelled;
      }

  pub agree-all : (x : Path) → AgreeTo U V x
  agree-all [] = record { cut_alike = refl; spelled = refl }
  agree-all (k ∷ x) = elim (cases_Bool (same_path (k ∷ x) p)) [
    | inl h ↦ alike-step k x (subst (λ (z : Path). Alike (held V z) (held U z)) (sym ((paths_tell (k ∷ x) p).0 h)) alike) (agree-all x)
    | inr h ↦ agree-step U V k x (same (k ∷ x) (λ e. both_ways (same_path (k ∷ x) p) h ((paths_tell (k ∷ x) p).1 e))) (agree-all x)
  ]

over-none : (i : ℕ) (inodes : ℕ → Option Inode) (o : Option Object) (s x : Option Shown) → o ≡ None → over i inodes o s ≡ x → s ≡ x
over-none i inodes o s x e h = sym (ap (λ z. over i inodes z s) e) ∙ h

meld-folder : (inodes : ℕ → Option Inode) (k : ℕ) (a : Attributes) (s : Option Shown) (i m : ℕ) → s ≡ Some (Folder i m a) → meld inodes (Some (Directory k a false None)) s ≡ meld inodes None s
meld-folder inodes k a s i m e = ap (meld inodes (Some (Directory k a false None))) e ∙ sym (ap (meld inodes None) e)

pub some-not-none : {A : Type 0} (x : A) → Some x ≡ None → ⊥
some-not-none x e = cc

-- two uppers that hold the same at a path and agree there show the same
pub shows-agree : (U V : Layer) (lowers : List Layer) (x : Path) → V.inodes ≡ U.inodes → held V x ≡ held U x → AgreeTo U V x → shows 0 (V ∷ lowers) x ≡ shows 0 (U ∷ lowers) x
shows-agree U V lowers x i h e j = over 0 (i j) (h j) (through-agree U V lowers x e j)

-- a directory placed where the upper holds nothing, with the attributes that are shown
module _ (U V : Layer) (lowers : List Layer) (p : Path) (key : ℕ) (a : Attributes) (none : held U p ≡ None) (sets : SetsPath U V p (Directory key a false None)) (inodes : V.inodes ≡ U.inodes) where
  pub agree-placed : (x : Path) → AgreeTo U V x
  agree-placed = agree-all U V p (subst (λ (o : Option Object). Alike o (held U p)) (sym sets.there) (subst (λ (u : Option Object). Alike (Some (Directory key a false None)) u) (sym none) (unmarked-alike key a))) sets.elsewhere

  placed-here : (i m : ℕ) → shows 0 (U ∷ lowers) p ≡ Some (Folder i m a) → merged V lowers p ≡ merged U lowers p
  placed-here i m h =
      let low : through U lowers p ≡ Some (Folder i m a) = over-none 0 U.inodes (held U p) (through U lowers p) (Some (Folder i m a)) none h in
      merged-meld V lowers p
      ∙ (λ j. meld (inodes j) (sets.there j) (through-agree U V lowers p (agree-placed p) j))
      ∙ meld-folder U.inodes key a (through U lowers p) i m low
      ∙ sym (ap (λ o. meld U.inodes o (through U lowers p)) none)
      ∙ sym (merged-meld U lowers p)

  -- shows nothing where nothing was shown
  pub placed-absent : (i m : ℕ) → shows 0 (U ∷ lowers) p ≡ Some (Folder i m a) → (x : Path) → shows 0 (U ∷ lowers) x ≡ None → shows 0 (V ∷ lowers) x ≡ None
  placed-absent i m h x e = elim (cases_Bool (same_path x p)) [
    | inl is ↦ absurd (some-not-none (Folder i m a) (sym h ∙ ap (shows 0 (U ∷ lowers)) (sym ((paths_tell x p).0 is)) ∙ e))
    | inr is ↦ shows-agree U V lowers x inodes (sets.elsewhere x (λ q. both_ways (same_path x p) is ((paths_tell x p).1 q))) (agree-placed x) ∙ e
  ]

  -- leaves what is shown
  pub placed-same : (i m : ℕ) → shows 0 (U ∷ lowers) p ≡ Some (Folder i m a) → (x : Path) → merged V lowers x ≡ merged U lowers x
  placed-same i m h x = elim (cases_Bool (same_path x p)) [
    | inl e ↦ subst (λ (z : Path). merged V lowers z ≡ merged U lowers z) (sym ((paths_tell x p).0 e)) (placed-here i m h)
    | inr e ↦ merged-agree U V lowers x inodes (sets.elsewhere x (λ q. both_ways (same_path x p) e ((paths_tell x p).1 q))) (agree-placed x)
  ]

parent-step : (i : ℕ) (inodes : ℕ → Option Inode) (o u : Option Object) (n : Name) (c : Bool) (q : Path) (s : Path → Option Shown) → (is_some o ≡ true → holds_directory u ≡ true) → (hides u ≡ true → c ≡ true) → (is_some (s (n ∷ q)) ≡ true → is_directory (s q) ≡ true) → is_some (over i inodes o (unless (cut o c) (s (spell o n q)))) ≡ true → is_directory (over i inodes u (unless c (s q))) ≡ true
parent-step i inodes o u n c q s held_up reached rest e = grind arith

-- where n in p shows something, p shows a directory
pub parents-shown : (i : ℕ) (ts : List Tree) (n : Name) (p : Path) → is_some (shows i (map layer_of ts) (n ∷ p)) ≡ true → is_directory (shows i (map layer_of ts) p) ≡ true
parents-shown i [] n p h = absurd (false≢true h)
parents-shown i (t ∷ ts) n p h = parent-step i (layer_of t).inodes (held (layer_of t) (n ∷ p)) (held (layer_of t) p) n (cuts (layer_of t) p) (below (layer_of t) p) (shows (suc i) (map layer_of ts)) (parent-held t p n) (hides-cuts (layer_of t) p) (parents-shown (suc i) ts n (below (layer_of t) p)) h

-- and so it is where the layers of a mount show it
pub mount-parents : (l : Layers) (n : Name) (p : Path) → is_some (shows 0 (layers_of l) (n ∷ p)) ≡ true → is_directory (shows 0 (layers_of l) p) ≡ true
mount-parents l n p h =
    let U : Layer = upper_of l in
    parent-step 0 U.inodes (held U (n ∷ p)) (held U p) n (cuts U p) (below U p) (shows 1 (lowers_of l)) (parent-held l.upper p n) (hides-cuts U p) (parents-shown 1 l.lowers.items n (below U p)) h

not-some : (o : Option Object) (u : Option Object) → (is_some o ≡ true → holds_directory u ≡ true) → holds_directory u ≡ false → o ≡ None
not-some None u up h = refl
not-some (Some x) u up h = absurd (false≢true (sym h ∙ up refl))

-- below what is no directory nothing is held
pub nothing-held : (t : Tree) (p : Path) → holds_directory (held (layer_of t) p) ≡ false → (k : Name) (r : Path) → held (layer_of t) (k ∷ r ++ p) ≡ None
nothing-held t p h k [] = not-some (held (layer_of t) (k ∷ p)) (held (layer_of t) p) (parent-held t p k) h
nothing-held t p h k (m ∷ r) = not-some (held (layer_of t) (k ∷ m ∷ r ++ p)) (held (layer_of t) (m ∷ r ++ p)) (parent-held t (m ∷ r ++ p) k) (ap holds_directory (nothing-held t p h m r))

-- where no directory comes through and nothing is held below, nothing is shown below
module _ (V : Layer) (ts : List Tree) (p : Path) (closed : is_directory (through V (map layer_of ts) p) ≡ false) (bare : (k : Name) (r : Path) → held V (k ∷ r ++ p) ≡ None) where
  nothing-through : (k : Name) (r : Path) → through V (map layer_of ts) (k ∷ r ++ p) ≡ None
  nothing-through k [] = rw (bare k []) (dead-step (shows 1 (map layer_of ts)) (parents-shown 1 ts) (cuts V p) (below V p) k closed)
  nothing-through k (m ∷ r) = rw (bare k (m ∷ r)) (dead-step (shows 1 (map layer_of ts)) (parents-shown 1 ts) (cuts V (m ∷ r ++ p)) (below V (m ∷ r ++ p)) k (ap is_directory (nothing-through m r)))

  pub nothing-below : (k : Name) (r : Path) → merged V (map layer_of ts) (k ∷ r ++ p) ≡ None
  nothing-below k r = merged-meld V (map layer_of ts) (k ∷ r ++ p) ∙ (λ j. meld V.inodes (bare k r j) (nothing-through k r j))

-- this directory is held, with some attributes and marks
pub record IsHeldDirectory (o : Option Object) (k : ℕ) : Type 0 where
  pub attributes : Attributes
  pub opaque : Bool
  pub redirect : Option Redirect
  pub is : o ≡ Some (Directory k attributes opaque redirect)

no-upper : (rest s : List Place) → s ≡ rest → HeadFrom 1 rest → 0 < length s → (top_of s).layer ≡ 0 → ⊥
no-upper [] s e h some top = absurd (omega (arith, ap length e))
no-upper (d ∷ ds) s e h some top = absurd (omega (arith, h, ap (λ z. (top_of z).layer) e))

-- where the topmost place is of the upper, the upper holds its directory
pub top-held : (o : Option Object) (rest s : List Place) → s ≡ level 0 o rest → HeadFrom 1 rest → 0 < length s → (top_of s).layer ≡ 0 → IsHeldDirectory o (top_of s).key
top-held (Some (Directory k a b r)) rest s e h some top = record { attributes = a; opaque = b; redirect = r; is = ap (λ z. Some (Directory z a b r)) (sym (ap (λ z. (top_of z).key) e)) }
top-held None rest s e h some top = absurd (no-upper rest s e h some top)
top-held (Some (Named k)) rest s e h some top = absurd (no-upper rest s e h some top)
top-held (Some Whiteout) rest s e h some top = absurd (no-upper rest s e h some top)

pub free-folder : (inodes : ℕ → Option Inode) (o : Option Object) (s : Option Shown) (j k : ℕ) (a : Attributes) → over 0 inodes o s ≡ Some (Folder j k a) → j ≢ 0 → o ≡ None
free-folder inodes None s j k a h ne = refl
free-folder inodes (Some Whiteout) s j k a h ne = cc
free-folder inodes (Some (Named m)) s j k a h ne = cc
free-folder inodes (Some (Directory m b u r)) s j k a h ne = let e : j ≡ 0 = cc in absurd (ne e)

pub free-absent : (inodes : ℕ → Option Inode) (o : Option Object) (s : Option Shown) → over 0 inodes o s ≡ None → is_object o ≡ false
free-absent inodes o s h = grind arith

-- what is no object is no directory
pub free-directory : (o : Option Object) → is_object o ≡ false → holds_directory o ≡ false
free-directory o f = grind arith
