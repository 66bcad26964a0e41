-- The merge that the definitions compute is a merge of the layers.
use Rattle.std.proofs.Common.{◌≡◌, ℕ, zero, suc, Bool, true, false, cond, ◌||◌, ◌&&◌, List, [], ◌∷◌, ◌++◌, Option, None, Some, refl, sym, ap, ap₂, ◌∙◌, is_some, ◌⊎◌, inl, inr}
use Rattle.std.proofs.lemmas.Bool.{cases_Bool, false≢true, both_ways}
use Rattle.std.specs.List.{list_any}
use Rattle.std.proofs.lemmas.List.Folds.{list_any-append}
use Rattle.std.specs.Cmp.Lexicographic.{slice_cmp, texts_ties, nat_list_cmp_total}
use Rattle.std.specs.Ordering.{nat_cmp}
use Rattle.std.specs.FinMap as fin
use Rattle.ov_base.specs.declared.node_id.NodeId.{NodeId}
use Rattle.ov_base.specs.declared.node_id.NodeId.TheVariants.{At, New}
use Rattle.plain_model.specs.Layers.{Name, Path, Object, Named, Inode, Layer, held, cuts, below, cut, spell, Shown, Folder, Contents, base, unless, over, shows, through, is_directory, AreLayers, same_name, same_path}
use Rattle.plain_model.specs.Tree.{Names, Tree, Own, Untouched, names_of, entry, node_at, node_of, face, Sight, SeenBranch, SeenLeaf, see, see_inode, merged, sight_at, AreLinked}
use Rattle.plain_model.specs.Merging.{leader, last_names, entries_of, names_shown, node_seen, merge_tree, HaveAllPaths, LawOfPaths}
use Rattle.plain_model.proofs.Paths.{names_tell, paths_tell}
use Rattle.plain_model.proofs.Leaders.{leader-of, own-way, leader-leader}
use Rattle.plain_model.proofs.Uppers.{meld, merged-meld}
use Rattle.plain_model.proofs.LookUp.{parent-shown}

key-name : (n : Name) (p : Path) (ps : List Path) → list_any (same_path (n ∷ p)) ps ≡ true → list_any (same_name n) (last_names ps) ≡ true
key-name n p [] h = absurd (false≢true h)
key-name n p (x ∷ ps) h = by x (key-name n p ps) (cases_Bool (same_path (n ∷ p) x)) h
  where
    more : (x : Path) → list_any (same_name n) (last_names ps) ≡ true → list_any (same_name n) (last_names (x ∷ ps)) ≡ true
    more [] g = g
    more (m ∷ q) g = ap (λ b. same_name n m || b) g ∙ or-true (same_name n m)
      where
        or-true : (b : Bool) → b || true ≡ true
        or-true true = refl
        or-true false = refl

    here : (x : Path) → n ∷ p ≡ x → list_any (same_name n) (last_names (x ∷ ps)) ≡ true
    here [] e = cc
    here (m ∷ q) e = ap (λ b. b || list_any (same_name n) (last_names ps)) ((names_tell n m).1 cc)

    by : (x : Path) → (list_any (same_path (n ∷ p)) ps ≡ true → list_any (same_name n) (last_names ps) ≡ true) → (same_path (n ∷ p) x ≡ true) ⊎ (same_path (n ∷ p) x ≡ false) → same_path (n ∷ p) x || list_any (same_path (n ∷ p)) ps ≡ true → list_any (same_name n) (last_names (x ∷ ps)) ≡ true
    by x rest (inl y) h = here x ((paths_tell (n ∷ p) x).0 y)
    by x rest (inr f) h = more x (rest (ap (λ b. b || list_any (same_path (n ∷ p)) ps) (sym f) ∙ h))

-- a shown name is the last name of a held path
shown-name : (ps : List Path) (i : ℕ) (Ls : List Layer) → HaveAllPaths Ls ps → (n : Name) (p : Path) → is_some (shows i Ls (n ∷ p)) ≡ true → list_any (same_name n) (last_names ps) ≡ true
shown-name ps i [] have n p h = absurd (false≢true h)
shown-name ps i (L ∷ Ls) have n p h = by (λ s. shown-name ps (suc i) Ls have.1 n s) (held L (n ∷ p)) refl h
  where
    by : ((s : Path) → is_some (shows (suc i) Ls (n ∷ s)) ≡ true → list_any (same_name n) (last_names ps) ≡ true) → (o : Option Object) → held L (n ∷ p) ≡ o → is_some (over i L.inodes o (unless (cut o (cuts L p)) (shows (suc i) Ls (spell o n (below L p))))) ≡ true → list_any (same_name n) (last_names ps) ≡ true
    by low (Some o) e h = key-name n p ps (have.0 (n ∷ p) (ap is_some e))
    by low None e h = low (below L p) (uncut (cuts L p) h)
      where
        uncut : (c : Bool) → is_some (unless c (shows (suc i) Ls (n ∷ below L p))) ≡ true → is_some (shows (suc i) Ls (n ∷ below L p)) ≡ true
        uncut true h = absurd (false≢true h)
        uncut false h = h

find-entries : (f : Name → Bool) (g : Name → NodeId) (ns : List Name) (q : Name) → fin.find (slice_cmp nat_cmp) q (entries_of f g ns) ≡ cond (list_any (same_name q) ns && f q) (Some (g q)) None
find-entries f g [] q = refl
find-entries f g (n ∷ ns) q = by (find-entries f g ns q) (cases_Bool (f n)) (cases_Bool (same_name q n))
  where
    by : fin.find (slice_cmp nat_cmp) q (entries_of f g ns) ≡ cond (list_any (same_name q) ns && f q) (Some (g q)) None → (f n ≡ true) ⊎ (f n ≡ false) → (same_name q n ≡ true) ⊎ (same_name q n ≡ false) → fin.find (slice_cmp nat_cmp) q (cond (f n) ((n, g n) ∷ entries_of f g ns) (entries_of f g ns)) ≡ cond ((same_name q n || list_any (same_name q) ns) && f q) (Some (g q)) None
    by rest (inl h) (inl y) =
        let s : q ≡ n = (names_tell q n).0 y in
        ap (λ b. fin.find (slice_cmp nat_cmp) q (cond b ((n, g n) ∷ entries_of f g ns) (entries_of f g ns))) h
        ∙ ap (λ b. cond b (Some (g n)) (fin.find (slice_cmp nat_cmp) q (entries_of f g ns))) (sym (texts_ties q n) ∙ y)
        ∙ ap (λ z. Some (g z)) (sym s)
        ∙ sym (ap₂ (λ b c. cond ((b || list_any (same_name q) ns) && c) (Some (g q)) None) y (ap f s ∙ h))
    by rest (inl h) (inr o) =
        ap (λ b. fin.find (slice_cmp nat_cmp) q (cond b ((n, g n) ∷ entries_of f g ns) (entries_of f g ns))) h
        ∙ ap (λ b. cond b (Some (g n)) (fin.find (slice_cmp nat_cmp) q (entries_of f g ns))) (sym (texts_ties q n) ∙ o)
        ∙ rest ∙ sym (ap (λ b. cond ((b || list_any (same_name q) ns) && f q) (Some (g q)) None) o)
    by rest (inr h) (inl y) =
        let no_q : f q ≡ false = ap f ((names_tell q n).0 y) ∙ h in
        ap (λ b. fin.find (slice_cmp nat_cmp) q (cond b ((n, g n) ∷ entries_of f g ns) (entries_of f g ns))) h
        ∙ rest ∙ ap (λ c. cond (list_any (same_name q) ns && c) (Some (g q)) None) no_q ∙ none (list_any (same_name q) ns)
        ∙ sym (ap (λ c. cond ((same_name q n || list_any (same_name q) ns) && c) (Some (g q)) None) no_q ∙ none (same_name q n || list_any (same_name q) ns))
      where
        none : (b : Bool) → cond (b && false) (Some (g q)) None ≡ None
        none true = refl
        none false = refl
    by rest (inr h) (inr o) =
        ap (λ b. fin.find (slice_cmp nat_cmp) q (cond b ((n, g n) ∷ entries_of f g ns) (entries_of f g ns))) h
        ∙ rest ∙ sym (ap (λ b. cond ((b || list_any (same_name q) ns) && f q) (Some (g q)) None) o)

-- what is seen at a path below one
abbrev pub seen_dir : Option Sight → Bool
seen_dir (Some (SeenBranch a b)) = true
seen_dir _ = false

inode-dir : (j : ℕ) (i : Option Inode) → seen_dir (see_inode j i) ≡ false
inode-dir j None = refl
inode-dir j (Some i) = refl

pub see-dir : (b : Bool) (o : Option Shown) → seen_dir (see b o) ≡ is_directory o
see-dir b None = refl
see-dir b (Some (Folder j k a)) = refl
see-dir b (Some (Contents j k i)) = inode-dir j i

pub see-some : (b : Bool) (o : Option Shown) → is_some (see b o) ≡ true → is_some o ≡ true
see-some b None h = h
see-some b (Some (Folder j k a)) h = refl
see-some b (Some (Contents j k i)) h = refl

pub named-seen : (U : Layer) (lowers : List Layer) (p : Path) (k : ℕ) → held U p ≡ Some (Named k) → merged U lowers p ≡ see_inode 0 (U.inodes k)
named-seen U lowers p k h = merged-meld U lowers p ∙ ap (λ o. meld U.inodes o (through U lowers p)) h

face-seen : (b : Bool) (o : Option Shown) (names : Names) → face (node_seen (see b o) names) ≡ see b o
face-seen b None names = refl
face-seen b (Some (Folder j k a)) names = refl
face-seen b (Some (Contents j k None)) names = refl
face-seen b (Some (Contents zero k (Some i))) names = refl
face-seen b (Some (Contents (suc j) k (Some i))) names = refl

module _ (ps : List Path) (U : Layer) (lowers : List Layer) (trees : AreLayers (U ∷ lowers)) (have : HaveAllPaths (U ∷ lowers) ps) where
  abbrev pub t : Tree
  t = merge_tree ps U lowers

  abbrev pub seen : Path → Option Sight
  seen p = merged U lowers p

  pub merged-leader : (p : Path) → seen (leader ps U p) ≡ seen p
  merged-leader p = elim (own-way ps U have.0 p) [
    | inl n ↦ let l = leader-of ps U have.0 p n.0 n.1 in ap seen l.is ∙ named-seen U lowers l.path n.0 l.named ∙ sym (named-seen U lowers p n.0 n.1)
    | inr e ↦ ap seen e
  ]

  pub below-dir : (n : Name) (p : Path) → is_some (seen (n ∷ p)) ≡ true → seen_dir (seen p) ≡ true
  below-dir n p h =
      see-dir (base U lowers p) (shows 0 (U ∷ lowers) p)
      ∙ parent-shown 0 (U ∷ lowers) trees n p (see-some (base U lowers (n ∷ p)) (shows 0 (U ∷ lowers) (n ∷ p)) h)

  not-below : (n : Name) (p : Path) → seen_dir (seen p) ≡ false → is_some (seen (n ∷ p)) ≡ false
  not-below n p h = elim (cases_Bool (is_some (seen (n ∷ p)))) [
    | inl y ↦ absurd (both_ways (seen_dir (seen p)) h (below-dir n p y))
    | inr f ↦ f
  ]

  abbrev pub named : Path → Option NodeId
  named p = cond (is_some (seen p)) (Some (At (leader ps U p))) None

  -- the names of a merged directory
  pub names-in : (p : Path) (n : Name) → fin.get (names_shown ps U lowers p) n ≡ named (n ∷ p)
  names-in p n =
      fin.get-from_entries nat_list_cmp_total (entries_of (λ m. is_some (seen (m ∷ p))) (λ m. At (leader ps U (m ∷ p))) (last_names ps)) n
      ∙ find-entries (λ m. is_some (seen (m ∷ p))) (λ m. At (leader ps U (m ∷ p))) (last_names ps) n
      ∙ by (list_any (same_name n) (last_names ps)) (is_some (seen (n ∷ p))) (λ h. shown-name ps 0 (U ∷ lowers) have n p (see-some (base U lowers (n ∷ p)) (shows 0 (U ∷ lowers) (n ∷ p)) h))
    where
      by : (a b : Bool) → (b ≡ true → a ≡ true) → cond (a && b) (Some (At (leader ps U (n ∷ p)))) None ≡ cond b (Some (At (leader ps U (n ∷ p)))) None
      by true b h = refl
      by false true h = absurd (false≢true (h refl))
      by false false h = refl

  -- the node of a leader
  pub at-leader : (p : Path) → t (At (leader ps U p)) ≡ node_seen (seen p) (names_shown ps U lowers (leader ps U p))
  at-leader p =
      ap (λ b. cond b (node_seen (seen (leader ps U p)) (names_shown ps U lowers (leader ps U p))) None) ((paths_tell (leader ps U (leader ps U p)) (leader ps U p)).1 (leader-leader ps U have.0 p))
      ∙ ap (λ s. node_seen s (names_shown ps U lowers (leader ps U p))) (merged-leader p)

  pub dir-leads : (p : Path) → seen_dir (seen p) ≡ true → leader ps U p ≡ p
  dir-leads p h = elim (own-way ps U have.0 p) [
    | inl n ↦ absurd (false≢true (sym (ap seen_dir (named-seen U lowers p n.0 n.1) ∙ inode-dir 0 (U.inodes n.0)) ∙ h))
    | inr e ↦ e
  ]

  step : (n : Name) (p : Path) → entry t (named p) n ≡ named (n ∷ p)
  step n p = by (seen p) refl
    where
      away : seen_dir (seen p) ≡ false → None ≡ named (n ∷ p)
      away h = sym (ap (λ b. cond b (Some (At (leader ps U (n ∷ p)))) None) (not-below n p h))

      by : (s : Option Sight) → seen p ≡ s → entry t (cond (is_some s) (Some (At (leader ps U p))) None) n ≡ named (n ∷ p)
      by None e = away (ap seen_dir e)
      by (Some (SeenLeaf k a (Own z) l)) e = ap (λ o. names_of o n) (at-leader p ∙ ap (λ s. node_seen s (names_shown ps U lowers (leader ps U p))) e) ∙ away (ap seen_dir e)
      by (Some (SeenLeaf k a (Untouched m) l)) e = ap (λ o. names_of o n) (at-leader p ∙ ap (λ s. node_seen s (names_shown ps U lowers (leader ps U p))) e) ∙ away (ap seen_dir e)
      by (Some (SeenBranch a b)) e =
          ap (λ o. names_of o n) (at-leader p ∙ ap (λ s. node_seen s (names_shown ps U lowers (leader ps U p))) e)
          ∙ ap (λ x. fin.get (names_shown ps U lowers x) n) (dir-leads p (ap seen_dir e)) ∙ names-in p n

  pub merge-names : (p : Path) → node_at t p ≡ named p
  merge-names [] = refl
  merge-names (n ∷ p) = ap (λ o. entry t o n) (merge-names p) ∙ step n p

  pub merge-sights : (p : Path) → sight_at t p ≡ seen p
  merge-sights p = ap (λ o. face (node_of t o)) (merge-names p) ∙ by (seen p) refl
    where
      by : (s : Option Sight) → seen p ≡ s → face (node_of t (cond (is_some s) (Some (At (leader ps U p))) None)) ≡ seen p
      by None e = sym e
      by (Some s) e = ap face (at-leader p) ∙ face-seen (base U lowers p) (shows 0 (U ∷ lowers) p) (names_shown ps U lowers (leader ps U p))

  pub some-named : (p : Path) (d : NodeId) → named p ≡ Some d → d ≡ At (leader ps U p)
  some-named p d h = by (is_some (seen p)) h
    where
      by : (b : Bool) → cond b (Some (At (leader ps U p))) None ≡ Some d → d ≡ At (leader ps U p)
      by true h = cc
      by false h = cc

  pub merge-shared : (p q : Path) → AreLinked U p q → node_at t p ≡ node_at t q
  merge-shared p q l =
      let f = leader-of ps U have.0 p l.number l.first in
      merge-names p
      ∙ ap₂ (λ s x. cond (is_some s) (Some (At x)) None) (named-seen U lowers p l.number l.first ∙ sym (named-seen U lowers q l.number l.second)) (f.is ∙ sym (f.alike q l.second))
      ∙ sym (merge-names q)

  pub merge-no_more : (d : NodeId) → is_some (t d) ≡ true → (p : Path) × (node_at t p ≡ Some d)
  merge-no_more (New i) h = absurd (false≢true h)
  merge-no_more (At p) h = (p, merge-names p ∙ by (same_path (leader ps U p) p) (seen p) refl h)
    where
      by : (b : Bool) (s : Option Sight) → same_path (leader ps U p) p ≡ b → is_some (cond b (node_seen s (names_shown ps U lowers p)) None) ≡ true → cond (is_some s) (Some (At (leader ps U p))) None ≡ Some (At p)
      by false s e h = absurd (false≢true h)
      by true None e h = absurd (false≢true h)
      by true (Some s) e h = ap (λ x. Some (At x)) ((paths_tell (leader ps U p) p).0 e)

-- the paths that layers hold, one after another
abbrev all_paths : (Ls : List Layer) → AreLayers Ls → List Path
all_paths [] a = []
all_paths (L ∷ Ls) a = a.0.paths ++ all_paths Ls a.1

any-first : (f : Path → Bool) (xs ys : List Path) → list_any f xs ≡ true → list_any f (xs ++ ys) ≡ true
any-first f xs ys h = list_any-append f xs ys ∙ ap (λ b. b || list_any f ys) h

any-second : (f : Path → Bool) (xs ys : List Path) → list_any f ys ≡ true → list_any f (xs ++ ys) ≡ true
any-second f [] ys h = h
any-second f (x ∷ xs) ys h = ap (λ b. f x || b) (any-second f xs ys h) ∙ or-true (f x)
  where
    or-true : (b : Bool) → b || true ≡ true
    or-true true = refl
    or-true false = refl

-- more paths are all paths too
have-more : (Ls : List Layer) (xs ys : List Path) → HaveAllPaths Ls ys → HaveAllPaths Ls (xs ++ ys)
have-more [] xs ys h = tt
have-more (L ∷ Ls) xs ys h = (λ p i. any-second (same_path p) xs ys (h.0 p i), have-more Ls xs ys h.1)

have-all : (Ls : List Layer) (a : AreLayers Ls) → HaveAllPaths Ls (all_paths Ls a)
have-all [] a = tt
have-all (L ∷ Ls) a = (λ p i. any-first (same_path p) a.0.paths (all_paths Ls a.1) (a.0.finite p i), have-more Ls a.0.paths (all_paths Ls a.1) (have-all Ls a.1))

-- some list has every path that layers hold
pub law_of_paths : LawOfPaths
law_of_paths Ls a = (all_paths Ls a, have-all Ls a)
