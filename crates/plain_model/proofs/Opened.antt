-- The merge that the definitions compute is a merge of the layers, and its nodes have as many names as they say.
use Rattle.std.proofs.Common.{◌≡◌, ℕ, zero, suc, ◌≤◌, Bool, true, false, cond, ◌||◌, ◌&&◌, List, [], ◌∷◌, Option, None, Some, refl, sym, ap, ap₂, ◌∙◌, is_some, length, map, inl, inr, arith}
use Rattle.std.proofs.lemmas.Bool.{false≢true, both_ways}
use Rattle.std.proofs.lemmas.List.{length-map}
use Rattle.std.specs.List.{list_any, IsDistinct, AllByRecursion}
use Rattle.ov_base.specs.declared.attributes.Attributes.{Attributes}
use Rattle.ov_base.specs.declared.bytes.Content.{Content}
use Rattle.ov_base.specs.declared.node_id.NodeId.{NodeId}
use Rattle.ov_base.specs.declared.node_id.NodeId.TheVariants.{At, New}
use Rattle.plain_model.specs.Layers.{Name, Path, Object, Directory, Named, Whiteout, Inode, Layer, held, cuts, below, Shown, Folder, Contents, unless, over, shows, through, is_directory, AreLayers, AreLinks, same_name, same_path}
use Rattle.plain_model.specs.Tree.{Tree, Own, Untouched, root, names_of, entry, node_at, Sight, SeenBranch, SeenLeaf, see, see_inode, merged, count_of, is_untouched, same_entry, AreNames, IsKept}
use Rattle.plain_model.specs.Merging.{IsMerge, leader, names_shown, node_seen, merge_tree, HaveAllPaths, LawOfMerge}
use Rattle.plain_model.proofs.Paths.{paths_tell}
use Rattle.plain_model.proofs.Leaders.{leader-of, own-way, leader-leads, leader-leader}
use Rattle.plain_model.proofs.Uppers.{meld, merged-meld}
use Rattle.plain_model.proofs.Merged.{seen_dir, named-seen, below-dir, dir-leads, names-in, merge-names, merge-sights, some-named, merge-shared, merge-no_more, merged-leader}

-- what comes from a lower layer is none of the upper's inodes
abbrev is_upper : Option Shown → Bool
is_upper (Some (Contents zero k i)) = true
is_upper _ = false

lower-step : (i : ℕ) (inodes : ℕ → Option Inode) (o : Option Object) (c : Bool) (s : Option Shown) → is_upper s ≡ false → is_upper (over (suc i) inodes o (unless c s)) ≡ false
lower-step i inodes None true s h = refl
lower-step i inodes None false s h = h
lower-step i inodes (Some Whiteout) c s h = refl
lower-step i inodes (Some (Directory k a o r)) c s h = refl
lower-step i inodes (Some (Named k)) c s h = refl

lower-shows : (i : ℕ) (Ls : List Layer) (p : Path) → is_upper (shows (suc i) Ls p) ≡ false
lower-shows i [] p = refl
lower-shows i (L ∷ Ls) p = lower-step i L.inodes (held L p) (cuts L p) (shows (suc (suc i)) Ls (below L p)) (lower-shows (suc i) Ls (below L p))

-- a file or link of the upper, as it is seen
pub record IsUpper (U : Layer) (p : Path) (links : ℕ) : Type 0 where
  pub number : ℕ
  pub named : held U p ≡ Some (Named number)
  pub inode : Inode
  pub stands : U.inodes number ≡ Some inode
  pub counted : links ≡ inode.links

abbrev is_own : Option Sight → Bool
is_own (Some (SeenLeaf content a (Own m) l)) = true
is_own _ = false

-- what comes through is seen as untouched
through-own : (b : Bool) (s : Option Shown) → is_upper s ≡ false → is_own (see b s) ≡ false
through-own b None h = refl
through-own b (Some (Folder j k a)) h = refl
through-own b (Some (Contents zero k i)) h = absurd (false≢true (sym h))
through-own b (Some (Contents (suc j) k None)) h = refl
through-own b (Some (Contents (suc j) k (Some i))) h = refl

upper-leaf : (U : Layer) (lowers : List Layer) (p : Path) (content : Content) (a : Attributes) (m : Bool) (l : ℕ) → merged U lowers p ≡ Some (SeenLeaf content a (Own m) l) → IsUpper U p l
upper-leaf U lowers p content a m l h = by (held U p) refl (sym (merged-meld U lowers p) ∙ h)
  where
    unless-upper : (c : Bool) → is_upper (unless c (shows 1 lowers (below U p))) ≡ false
    unless-upper true = refl
    unless-upper false = lower-shows 0 lowers (below U p)

    inode : (k : ℕ) → held U p ≡ Some (Named k) → (i : Option Inode) → U.inodes k ≡ i → see_inode 0 i ≡ Some (SeenLeaf content a (Own m) l) → IsUpper U p l
    inode k e None g h = cc
    inode k e (Some i) g h = record { number = k; named = e; inode = i; stands = g; counted = cc }

    by : (o : Option Object) → held U p ≡ o → meld U.inodes o (through U lowers p) ≡ Some (SeenLeaf content a (Own m) l) → IsUpper U p l
    by None e h = absurd (false≢true (sym (through-own (is_directory (through U lowers p)) (through U lowers p) (unless-upper (cuts U p))) ∙ ap is_own h))
    by (Some Whiteout) e h = cc
    by (Some (Directory k b o r)) e h = let z : Some (SeenBranch b (is_directory (through U lowers p))) ≡ Some (SeenLeaf content a (Own m) l) = h in absurd (false≢true (ap is_own z))
    by (Some (Named k)) e h = inode k e (U.inodes k) refl h

-- the entry of a path
abbrev entry_of : Path → NodeId × Name
entry_of [] = (New 0, [])
entry_of (n ∷ p) = (At p, n)

alike : (p q : Path) → same_entry (entry_of p) (entry_of q) ≡ same_path p q
alike [] [] = refl
alike [] (m ∷ q) = refl
alike (n ∷ p) [] = refl
alike (n ∷ p) (m ∷ q) = by (same_path p q) (same_name n m)
  where
    by : (a b : Bool) → a && b ≡ b && a
    by true true = refl
    by true false = refl
    by false true = refl
    by false false = refl

any-entry : (p : Path) (ps : List Path) → list_any (same_entry (entry_of p)) (map entry_of ps) ≡ list_any (same_path p) ps
any-entry p [] = refl
any-entry p (q ∷ ps) = ap₂ (λ a b. a || b) (alike p q) (any-entry p ps)

apart-entries : (p : Path) (ps : List Path) → AllByRecursion (λ q. same_path p q ≡ false) ps → AllByRecursion (λ w. same_entry (entry_of p) w ≡ false) (map entry_of ps)
apart-entries p [] h = tt
apart-entries p (q ∷ ps) h = (alike p q ∙ h.0, apart-entries p ps h.1)

once-entries : (ps : List Path) → IsDistinct same_path ps → IsDistinct same_entry (map entry_of ps)
unfolding IsDistinct
once-entries [] h = tt
once-entries (p ∷ ps) h = (apart-entries p ps h.0, once-entries ps h.1)

-- an entry of a made node is none of a path's, but for the root
made-entry : (j : ℕ) (m : Name) (ps : List Path) → list_any (same_entry (New j, m)) (map entry_of ps) ≡ true → list_any (same_path []) ps ≡ true
made-entry j m [] h = h
made-entry j m ([] ∷ ps) h = refl
made-entry j m ((n ∷ p) ∷ ps) h = made-entry j m ps h

once-one : (w : NodeId × Name) → IsDistinct same_entry (w ∷ [])
unfolding IsDistinct
once-one w = (tt, tt)

once-none : IsDistinct same_entry []
unfolding IsDistinct
once-none = tt

module _ (ps : List Path) (U : Layer) (lowers : List Layer) (trees : AreLayers (U ∷ lowers)) (have : HaveAllPaths (U ∷ lowers) ps) where
  abbrev t : Tree
  t = merge_tree ps U lowers

  abbrev seen : Path → Option Sight
  seen p = merged U lowers p

  abbrev named : Path → Option NodeId
  named p = cond (is_some (seen p)) (Some (At (leader ps U p))) None

  -- what an entry of the merge says
  record Says (d : NodeId) (m : Name) (x : NodeId) : Type 0 where
    pub path : Path
    pub is : d ≡ At path
    pub shown : is_some (seen (m ∷ path)) ≡ true
    pub leads : x ≡ At (leader ps U (m ∷ path))

  says : (d : NodeId) (m : Name) (x : NodeId) → names_of (t d) m ≡ Some x → Says d m x
  says (New i) m x h = cc
  says (At p) m x h = by (same_path (leader ps U p) p) (seen p) h
    where
      split : (b : Bool) → is_some (seen (m ∷ p)) ≡ b → cond b (Some (At (leader ps U (m ∷ p)))) None ≡ Some x → Says (At p) m x
      split true e h = record { path = p; is = refl; shown = e; leads = cc }
      split false e h = cc

      by : (b : Bool) (s : Option Sight) → names_of (cond b (node_seen s (names_shown ps U lowers p)) None) m ≡ Some x → Says (At p) m x
      by false s h = cc
      by true None h = cc
      by true (Some (SeenLeaf content a (Own m) l)) h = cc
      by true (Some (SeenLeaf content a (Untouched k) l)) h = cc
      by true (Some (SeenBranch a b)) h = split (is_some (seen (m ∷ p))) refl (sym (names-in ps U lowers trees have p m) ∙ h)

  -- a shown path is an entry
  dir-some : (s : Option Sight) → seen_dir s ≡ true → is_some s ≡ true
  dir-some None h = h
  dir-some (Some s) h = refl

  shown-entry : (m : Name) (p : Path) → is_some (seen (m ∷ p)) ≡ true → names_of (t (At p)) m ≡ Some (At (leader ps U (m ∷ p)))
  shown-entry m p h =
      let d = below-dir ps U lowers trees have m p h in
      let at_p : node_at t p ≡ Some (At p) = merge-names ps U lowers trees have p ∙ ap (λ b. cond b (Some (At (leader ps U p))) None) (dir-some (seen p) d) ∙ ap (λ z. Some (At z)) (dir-leads ps U lowers trees have p d) in
      sym (ap (λ o. entry t o m) at_p) ∙ merge-names ps U lowers trees have (m ∷ p) ∙ ap (λ b. cond b (Some (At (leader ps U (m ∷ p)))) None) h

  -- a leader of a path with a name has a name
  root-leads : (m : Name) (p : Path) → leader ps U (m ∷ p) ≡ [] → ⊥
  root-leads m p e = elim (own-way ps U have.0 (m ∷ p)) [
    | inl n ↦ let l = leader-of ps U have.0 (m ∷ p) n.0 n.1 in let z : held U [] ≡ Some (Named n.0) = ap (held U) (sym e ∙ l.is) ∙ l.named in cc
    | inr h ↦ let z : m ∷ p ≡ [] = sym h ∙ e in cc
  ]

  root-names : AreNames t root 1
  root-names = record {
    entries = [];
    once = once-none;
    exact = λ w. ((λ h. absurd (false≢true h)), (λ h. let s = says w.0 w.1 root h in absurd (root-leads w.1 s.path (let z : At [] ≡ At (leader ps U (w.1 ∷ s.path)) = s.leads in cc))));
    counted = refl;
  }

  no-entries : (x : NodeId) → ((p : Path) (m : Name) → is_some (seen (m ∷ p)) ≡ true → x ≡ At (leader ps U (m ∷ p)) → ⊥) → (w : NodeId × Name) → names_of (t w.0) w.1 ≡ Some x → ⊥
  no-entries x h w e = let s = says w.0 w.1 x e in h s.path w.1 s.shown s.leads

  made-names : (i : ℕ) → AreNames t (New i) 0
  made-names i = record {
    entries = [];
    once = once-none;
    exact = λ w. ((λ h. absurd (false≢true h)), (λ h. absurd (no-entries (New i) (λ p m a b. cc) w h)));
    counted = refl;
  }

  -- a path that leads no node has no names
  absent-names : (n : Name) (q : Path) → ((p : Path) (m : Name) → is_some (seen (m ∷ p)) ≡ true → leader ps U (m ∷ p) ≡ n ∷ q → ⊥) → AreNames t (At (n ∷ q)) 0
  absent-names n q h = record {
    entries = [];
    once = once-none;
    exact = λ w. ((λ g. absurd (false≢true g)), (λ g. absurd (no-entries (At (n ∷ q)) (λ p m a b. h p m a (let z : n ∷ q ≡ leader ps U (m ∷ p) = cc in sym z)) w g)));
    counted = refl;
  }

  -- a node that is no inode of the upper has the name of its path alone
  one-name : (n : Name) (q : Path) → leader ps U (n ∷ q) ≡ n ∷ q → is_some (seen (n ∷ q)) ≡ true → ((k : ℕ) → held U (n ∷ q) ≡ Some (Named k) → ⊥) → AreNames t (At (n ∷ q)) 1
  one-name n q lead shown alone = record {
    entries = (At q, n) ∷ [];
    once = once-one (At q, n);
    exact = λ w. (there w, back w);
    counted = refl;
  }
    where
      there : (w : NodeId × Name) → same_entry w (At q, n) || false ≡ true → names_of (t w.0) w.1 ≡ Some (At (n ∷ q))
      there (New j, m) h = absurd (false≢true h)
      there (At p, m) h =
          let z : same_path (m ∷ p) (n ∷ q) ≡ true = sym (alike (m ∷ p) (n ∷ q)) ∙ or-false (same_path p q && same_name m n) h in
          let e : m ∷ p ≡ n ∷ q = (paths_tell (m ∷ p) (n ∷ q)).0 z in
          shown-entry m p (ap (λ x. is_some (seen x)) e ∙ shown) ∙ ap (λ x. Some (At (leader ps U x))) e ∙ ap (λ x. Some (At x)) lead
        where
          or-false : (b : Bool) → b || false ≡ true → b ≡ true
          or-false true h = refl
          or-false false h = h

      same : (p : Path) (m : Name) → n ∷ q ≡ leader ps U (m ∷ p) → m ∷ p ≡ n ∷ q
      same p m e = elim (own-way ps U have.0 (m ∷ p)) [
        | inl k ↦ let l = leader-of ps U have.0 (m ∷ p) k.0 k.1 in absurd (alone k.0 (ap (held U) (e ∙ l.is) ∙ l.named))
        | inr h ↦ sym (e ∙ h)
      ]

      back : (w : NodeId × Name) → names_of (t w.0) w.1 ≡ Some (At (n ∷ q)) → same_entry w (At q, n) || false ≡ true
      back w h =
          let s = says w.0 w.1 (At (n ∷ q)) h in
          let e : w.1 ∷ s.path ≡ n ∷ q = same s.path w.1 (let z : n ∷ q ≡ leader ps U (w.1 ∷ s.path) = (let y = s.leads in cc) in z) in
          ap (λ d. same_entry (d, w.1) (At q, n) || false) s.is
          ∙ ap (λ b. b || false) (alike (w.1 ∷ s.path) (n ∷ q) ∙ (paths_tell (w.1 ∷ s.path) (n ∷ q)).1 e)

  -- a node of an upper inode has the names of the inode
  inode-names : (n : Name) (q : Path) (l : ℕ) → leader ps U (n ∷ q) ≡ n ∷ q → IsUpper U (n ∷ q) l → AreNames t (At (n ∷ q)) l
  inode-names n q l lead u =
      let a = trees.0.links u.number u.inode u.stands in
      record {
        entries = map entry_of a.paths;
        once = once-entries a.paths a.once;
        exact = λ w. (there a w, back a w);
        counted = let e : l ≡ length (map entry_of a.paths) = u.counted ∙ a.counted ∙ sym (length-map a.paths entry_of) in omega arith;
      }
    where
      there : (a : AreLinks U u.number u.inode.links) (w : NodeId × Name) → list_any (same_entry w) (map entry_of a.paths) ≡ true → names_of (t w.0) w.1 ≡ Some (At (n ∷ q))
      there a (New j, m) h = let z : held U [] ≡ Some (Named u.number) = (a.exact []).0 (made-entry j m a.paths h) in cc
      there a (At p, m) h =
          let g : held U (m ∷ p) ≡ Some (Named u.number) = (a.exact (m ∷ p)).0 (sym (any-entry (m ∷ p) a.paths) ∙ h) in
          let r = leader-of ps U have.0 (n ∷ q) u.number u.named in
          let shown : is_some (seen (m ∷ p)) ≡ true = ap is_some (named-seen U lowers (m ∷ p) u.number g ∙ ap (see_inode 0) u.stands) in
          shown-entry m p shown ∙ ap (λ x. Some (At x)) (r.alike (m ∷ p) g ∙ sym r.is ∙ lead)

      back : (a : AreLinks U u.number u.inode.links) (w : NodeId × Name) → names_of (t w.0) w.1 ≡ Some (At (n ∷ q)) → list_any (same_entry w) (map entry_of a.paths) ≡ true
      back a w h =
          let s = says w.0 w.1 (At (n ∷ q)) h in
          let e : n ∷ q ≡ leader ps U (w.1 ∷ s.path) = (let y = s.leads in cc) in
          ap (λ d. list_any (same_entry (d, w.1)) (map entry_of a.paths)) s.is ∙ any-entry (w.1 ∷ s.path) a.paths
          ∙ (a.exact (w.1 ∷ s.path)).1 (elim (own-way ps U have.0 (w.1 ∷ s.path)) [
            | inl k ↦
                let r = leader-of ps U have.0 (w.1 ∷ s.path) k.0 k.1 in
                let z : Some (Named k.0) ≡ Some (Named u.number) = sym (ap (held U) (e ∙ r.is) ∙ r.named) ∙ u.named in
                k.1 ∙ z
            | inr g ↦ ap (held U) (sym (e ∙ g)) ∙ u.named
          ])

  -- each node of the merge has as many names as it says
  path-names : (n : Name) (q : Path) → AreNames t (At (n ∷ q)) (count_of (t (At (n ∷ q))))
  path-names n q = by (same_path (leader ps U (n ∷ q)) (n ∷ q)) (seen (n ∷ q)) refl refl
    where
      not-own : is_own (seen (n ∷ q)) ≡ false → is_some (seen (n ∷ q)) ≡ true → (k : ℕ) → held U (n ∷ q) ≡ Some (Named k) → ⊥
      not-own o shown k h = inode (U.inodes k) (named-seen U lowers (n ∷ q) k h)
        where
          inode : (i : Option Inode) → seen (n ∷ q) ≡ see_inode 0 i → ⊥
          inode None e = false≢true (ap is_some (sym e) ∙ shown)
          inode (Some i) e = false≢true (sym o ∙ ap is_own e)

      leads : (b : Bool) → same_path (leader ps U (n ∷ q)) (n ∷ q) ≡ b → b ≡ true → leader ps U (n ∷ q) ≡ n ∷ q
      leads b e h = (paths_tell (leader ps U (n ∷ q)) (n ∷ q)).0 (e ∙ h)

      by : (b : Bool) (s : Option Sight) → same_path (leader ps U (n ∷ q)) (n ∷ q) ≡ b → seen (n ∷ q) ≡ s → AreNames t (At (n ∷ q)) (count_of (cond b (node_seen s (names_shown ps U lowers (n ∷ q))) None))
      by false s e h = absent-names n q (λ p m shown l. both_ways (same_path (leader ps U (n ∷ q)) (n ∷ q)) e ((paths_tell (leader ps U (n ∷ q)) (n ∷ q)).1 (ap (leader ps U) (sym l) ∙ leader-leader ps U have.0 (m ∷ p) ∙ l)))
      by true None e h = absent-names n q (λ p m shown l. false≢true (sym (ap is_some h) ∙ ap (λ x. is_some (seen x)) (sym l) ∙ ap is_some (merged-leader ps U lowers trees have (m ∷ p)) ∙ shown))
      by true (Some (SeenBranch a b)) e h = one-name n q (leads true e refl) (ap is_some h) (not-own (ap is_own h) (ap is_some h))
      by true (Some (SeenLeaf content a (Untouched k) l)) e h = one-name n q (leads true e refl) (ap is_some h) (not-own (ap is_own h) (ap is_some h))
      by true (Some (SeenLeaf content a (Own m) l)) e h = inode-names n q l (leads true e refl) (upper-leaf U lowers (n ∷ q) content a m l h)

  all-names : (d : NodeId) → AreNames t d (count_of (t d))
  all-names (New i) = made-names i
  all-names (At []) = root-names
  all-names (At (n ∷ q)) = path-names n q

  -- a node without a name has none in it
  bare : (d : NodeId) (m : Name) → count_of (t d) ≡ zero → names_of (t d) m ≡ None
  bare (New i) m h = refl
  bare (At p) m h = by (same_path (leader ps U p) p) (seen p) h
    where
      by : (b : Bool) (s : Option Sight) → count_of (cond b (node_seen s (names_shown ps U lowers p)) None) ≡ zero → names_of (cond b (node_seen s (names_shown ps U lowers p)) None) m ≡ None
      by false s h = refl
      by true None h = refl
      by true (Some (SeenBranch a b)) h = let z : 1 ≡ 0 = h in cc
      by true (Some (SeenLeaf content a (Own m) l)) h = refl
      by true (Some (SeenLeaf content a (Untouched k) l)) h = refl

  -- a file or link of a lower layer has one
  single : (d : NodeId) → is_untouched (t d) ≡ true → count_of (t d) ≤ 1
  single (New i) h = absurd (false≢true h)
  single (At p) h = by (same_path (leader ps U p) p) (seen p) h
    where
      by : (b : Bool) (s : Option Sight) → is_untouched (cond b (node_seen s (names_shown ps U lowers p)) None) ≡ true → count_of (cond b (node_seen s (names_shown ps U lowers p)) None) ≤ 1
      by false s h = absurd (false≢true h)
      by true None h = absurd (false≢true h)
      by true (Some (SeenBranch a b)) h = absurd (false≢true h)
      by true (Some (SeenLeaf content a (Own m) l)) h = absurd (false≢true h)
      by true (Some (SeenLeaf content a (Untouched k) l)) h = omega arith

  pub merge-kept : IsKept t 0
  merge-kept = record { home = refl; unused = λ j h. refl; counted = all-names; bare = bare; single = single }

  -- the computed merge is one
  pub merge-merges : IsMerge U lowers t
  merge-merges = record {
    sights = merge-sights ps U lowers trees have;
    names = λ p d h. (leader ps U p, some-named ps U lowers trees have p d (sym (merge-names ps U lowers trees have p) ∙ h), leader-leads ps U have.0 p);
    shared = merge-shared ps U lowers trees have;
    no_more = merge-no_more ps U lowers trees have;
    kept = merge-kept;
  }

-- with a list of all paths the merge is computed
pub law_of_merge : LawOfMerge
law_of_merge U lowers a ps have = merge-merges ps U lowers a have
