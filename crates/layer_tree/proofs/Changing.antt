-- How a change of one name changes what a layer holds.
use Rattle.std.proofs.Common.{◌≡◌, ◌≢◌, ◌⊎◌, ℕ, List, [], ◌∷◌, ◌++◌, Option, Some, None, true, false, IsSome, IsTrue, is_some, refl, sym, ap, subst, ◌∙◌, inl, inr, true≢false}
use Rattle.std.specs.Option.{option_and_then}
use Rattle.std.specs.Prelude.{option_map}
use Rattle.slab.specs.Slab.{get}
use Rattle.plain_model.specs.Layers as layers
use Rattle.plain_model.specs.Layers.{Path, held}
use Rattle.plain_model.proofs.Paths.{cases_pair, place}
use Rattle.layer_tree.specs.Walk.{Rebinds}
use Rattle.layer_tree.specs.Places.{HasNames}
use Rattle.layer_tree.specs.Table.{entry_in, object_key}
use Rattle.layer_tree.specs.Tree.{Tree, ROOT, table_of, seen, entry, child, key_at, entry_at, seen_at, seen_entry, inode_at, object_at, layer_of, directory_attributes, IsDirectory, IsUnmarked, leads_on, IsTree, SetsPath, ReplacesPath}
use Rattle.layer_tree.specs.declared.name_table.Entry.{Entry}
use Rattle.layer_tree.specs.declared.name_table.Entry.TheVariants as to
use Rattle.layer_tree.specs.declared.node.Node.{Node}
use Rattle.layer_tree.specs.declared.node.Node.TheVariants as node
use Rattle.layer_tree.proofs.Walks.{bound, IsPlaced, other_name, walk_beside, walk_to_dir, walk_at, walk_under_none}

-- a key with a child is a directory
pub parent_is_directory : (t : Tree) (dir : ℕ) (name : List ℕ) (key : ℕ) → child t dir name ≡ Some key → IsDirectory t dir
parent_is_directory t dir name key e =
    let found = bound object_key (entry t dir name) key e in
    let table = bound (λ table. entry_in table name) (option_and_then table_of (get t dir)) found.0 found.1 in
    subst IsSome (sym table.1) refl

-- what is seen under a key tells whether a directory stands there
pub kind_seen : (t : Tree) (key : ℕ) → is_some (option_and_then table_of (get t key)) ≡ layers.holds_directory (seen_at t key)
kind_seen t key = of (get t key)
  where
    of : (o : Option Node) → is_some (option_and_then table_of o) ≡ layers.holds_directory (option_map (seen key) o)
    of None = refl
    of (Some (node.Directory d)) = refl
    of (Some (node.Inode i)) = refl

-- what is seen under a key tells whether something stands there
pub presence_seen : (t : Tree) (key : ℕ) → is_some (get t key) ≡ is_some (seen_at t key)
presence_seen t key = of (get t key)
  where
    of : (o : Option Node) → is_some o ≡ is_some (option_map (seen key) o)
    of None = refl
    of (Some n) = refl

pub same_kind : (old new : Tree) (key : ℕ) → seen_at new key ≡ seen_at old key → is_some (option_and_then table_of (get new key)) ≡ is_some (option_and_then table_of (get old key))
same_kind old new key same = kind_seen new key ∙ ap layers.holds_directory same ∙ sym (kind_seen old key)

pub same_presence : (old new : Tree) (key : ℕ) → seen_at new key ≡ seen_at old key → is_some (get new key) ≡ is_some (get old key)
same_presence old new key same = presence_seen new key ∙ ap is_some same ∙ sym (presence_seen old key)

-- the walks of a tree have their one place each
pub is_placed : (t : Tree) → IsTree t → IsPlaced (child t) ROOT (IsDirectory t)
is_placed t tree =
    record {
      parent_is_dir = parent_is_directory t;
      one_name = tree.one_name;
      top = tree.root_unnamed;
    }

-- the root is a directory
pub root_is_directory : (t : Tree) → IsTree t → IsDirectory t ROOT
root_is_directory t tree = kind_seen t ROOT ∙ of (seen_at t ROOT) tree.root
  where
    of : (o : Option layers.Object) → IsUnmarked o → layers.holds_directory o ≡ true
    of None h = absurd h
    of (Some (layers.Directory k a o r)) h = refl
    of (Some (layers.Named k)) h = absurd h
    of (Some layers.Whiteout) h = absurd h

pub directory_is_present : (t : Tree) (key : ℕ) → IsDirectory t key → IsSome (get t key)
directory_is_present t key is = of (get t key) is
  where
    of : (o : Option Node) → IsSome (option_and_then table_of o) → IsSome o
    of None h = h
    of (Some n) h = refl

-- what a path leads to is there
pub reached_is_present : (t : Tree) → IsTree t → (q : Path) (k : ℕ) → key_at t q ≡ Some k → IsSome (get t k)
reached_is_present t tree [] k e =
    let same : ROOT ≡ k = cc in
    subst (λ (j : ℕ). IsSome (get t j)) same (directory_is_present t ROOT (root_is_directory t tree))
reached_is_present t tree (n ∷ q) k e =
    let last = bound (λ j. child t j n) (key_at t q) k e in
    tree.present last.0 n k last.2

-- the key at a path is that of the entry there
pub key_of_entry : (t : Tree) (q : Path) → key_at t q ≡ option_and_then object_key (entry_at t q)
key_of_entry t [] = refl
key_of_entry t (n ∷ q) = of (key_at t q)
  where
    of : (o : Option ℕ) → option_and_then (λ k. child t k n) o ≡ option_and_then object_key (option_and_then (λ k. entry t k n) o)
    of None = refl
    of (Some k) = refl

-- a name that is bound anew leads to a key that is bound anew
pub child_rebinds : (old new : Tree) (dir : ℕ) (name : List ℕ) (e : Option Entry) → Rebinds (entry old) (entry new) dir name e → Rebinds (child old) (child new) dir name (option_and_then object_key e)
child_rebinds old new dir name e binds =
    record {
      at = ap (option_and_then object_key) binds.at;
      others = λ d n off. ap (option_and_then object_key) (binds.others d n off);
    }

-- A name is bound anew, to nothing, to a whiteout or to an object without names in it; what is seen of the objects that were there stays.
pub record Changed (old new : Tree) (dir : ℕ) (name : List ℕ) (e : Option Entry) : Type 0 where
  pub tree : IsTree old
  pub is_dir : IsDirectory old dir
  pub binds : Rebinds (entry old) (entry new) dir name e
  pub leaf : (key : ℕ) → e ≡ Some (to.Object key) → (n : List ℕ) → entry new key n ≡ None
  pub seen_kept : (k : ℕ) → IsSome (get old k) → seen_at new k ≡ seen_at old k

module _ (old new : Tree) (dir : ℕ) (name : List ℕ) (e : Option Entry) (change : Changed old new dir name e) where
  root_kept : seen_at new ROOT ≡ seen_at old ROOT
  root_kept = change.seen_kept ROOT (directory_is_present old ROOT (root_is_directory old change.tree))

  -- where nothing changes below the root, the same is held
  pub held_kept : (q : Path) → object_at new q ≡ object_at old q → held (layer_of new) q ≡ held (layer_of old) q
  held_kept [] same = ap (λ o. Some (layers.Directory ROOT (directory_attributes o) false None)) root_kept
  held_kept (n ∷ q) same = same

  module _ (p : Path) (here : key_at old p ≡ Some dir) where
    dir_reached : key_at new p ≡ Some dir
    dir_reached = walk_to_dir (child old) (child new) ROOT (IsDirectory old) (is_placed old change.tree) dir name p here change.is_dir _ (child_rebinds old new dir name e change.binds)

    name_reached : key_at new (name ∷ p) ≡ option_and_then object_key e
    name_reached = walk_at (child old) (child new) ROOT (IsDirectory old) (is_placed old change.tree) dir name p here change.is_dir _ (child_rebinds old new dir name e change.binds)

    entry_reached : entry_at new (name ∷ p) ≡ e
    entry_reached = ap (option_and_then (λ k. entry new k name)) dir_reached ∙ change.binds.at

    -- there is nothing in what the name leads to
    nothing_in : (n : List ℕ) (s : Path) → entry_at new (n ∷ (s ++ name ∷ p)) ≡ None
    nothing_in n [] = ap (option_and_then (λ k. entry new k n)) name_reached ∙ of e refl
      where
        of : (f : Option Entry) → e ≡ f → option_and_then (λ k. entry new k n) (option_and_then object_key f) ≡ None
        of None is = refl
        of (Some to.Whiteout) is = refl
        of (Some (to.Object key)) is = change.leaf key is n
    nothing_in n (m ∷ s) =
        let none : key_at new (m ∷ (s ++ name ∷ p)) ≡ None = key_of_entry new (m ∷ (s ++ name ∷ p)) ∙ ap (option_and_then object_key) (nothing_in m s) in
        ap (option_and_then (λ k. entry new k n)) none

    seen_entry_kept : (o : Option Entry) → ((k : ℕ) → option_and_then object_key o ≡ Some k → IsSome (get old k)) → option_and_then (seen_entry new) o ≡ option_and_then (seen_entry old) o
    seen_entry_kept None h = refl
    seen_entry_kept (Some to.Whiteout) h = refl
    seen_entry_kept (Some (to.Object k)) h = change.seen_kept k (h k refl)

    -- a path that doesn't go through the name shows what it showed
    object_beside : (q : Path) → ((s : Path) → q ≢ s ++ name ∷ p) → object_at new q ≡ object_at old q
    object_beside [] off = root_kept
    object_beside (n ∷ q) off =
        let rest : key_at new q ≡ key_at old q = walk_beside (child old) (child new) ROOT (IsDirectory old) (is_placed old change.tree) dir name p here change.is_dir _ (child_rebinds old new dir name e change.binds) q (λ s f. off (n ∷ s) (ap (λ x. n ∷ x) f)) in
        ap (λ o. option_and_then (seen_entry new) (option_and_then (λ k. entry new k n) o)) rest
        ∙ last (key_at old q) refl
        ∙ seen_entry_kept (entry_at old (n ∷ q)) (λ k f. reached_is_present old change.tree (n ∷ q) k (key_of_entry old (n ∷ q) ∙ f))
      where
        last : (o : Option ℕ) → key_at old q ≡ o → option_and_then (seen_entry new) (option_and_then (λ k. entry new k n) o) ≡ option_and_then (seen_entry new) (option_and_then (λ k. entry old k n) o)
        last None f = refl
        last (Some k) f = ap (option_and_then (seen_entry new)) (change.binds.others k n (other_name (child old) (child new) ROOT (IsDirectory old) (is_placed old change.tree) dir name p here change.is_dir _ (child_rebinds old new dir name e change.binds) n q (off []) k f))

    -- the change by paths
    pub ReplacesPath-changed : ReplacesPath (layer_of old) (layer_of new) (name ∷ p) (option_and_then (seen_entry new) e)
    ReplacesPath-changed =
        record {
          there = ap (option_and_then (seen_entry new)) entry_reached;
          below = λ n s. ap (option_and_then (seen_entry new)) (nothing_in n s);
          elsewhere = λ q off. held_kept q (object_beside q off);
        }

    -- the change by paths where no object stood there
    pub SetsPath-changed : child old dir name ≡ None → (o : layers.Object) → option_and_then (seen_entry new) e ≡ Some o → SetsPath (layer_of old) (layer_of new) (name ∷ p) o
    SetsPath-changed no_object o is =
        record {
          there = ap (option_and_then (seen_entry new)) entry_reached ∙ is;
          elsewhere = λ q differs. held_kept q (elsewhere q differs);
        }
      where
        no_key : key_at old (name ∷ p) ≡ None
        no_key = ap (option_and_then (λ k. child old k name)) here ∙ no_object

        under : (q : Path) → q ≢ name ∷ p → (s : Path) → q ≡ s ++ name ∷ p → object_at new q ≡ object_at old q
        under q differs [] f = absurd (differs f)
        under q differs (n ∷ s) f =
            let was : entry_at old (n ∷ (s ++ name ∷ p)) ≡ None = ap (option_and_then (λ k. entry old k n)) (walk_under_none (child old) ROOT s (name ∷ p) no_key) in
            ap (object_at new) f ∙ ap (option_and_then (seen_entry new)) (nothing_in n s) ∙ sym (ap (option_and_then (seen_entry old)) was) ∙ sym (ap (object_at old) f)

        elsewhere : (q : Path) → q ≢ name ∷ p → object_at new q ≡ object_at old q
        elsewhere q differs =
            elim (place (name ∷ p) q) [
              | inl found ↦ under q differs found.0 found.1
              | inr off ↦ object_beside q off
            ]

-- The name leads to no root and no object that was there, and an absolute redirect of a new object has a name.
pub record Sound (old new : Tree) (e : Option Entry) : Type 0 where
  pub fresh : (key : ℕ) → e ≡ Some (to.Object key) → (get old key ≡ None) × IsSome (get new key)
  pub redirects : (k : ℕ) → get old k ≡ None → IsTrue (leads_on (seen_at new k))

-- a key that was vacant had no name
pub vacant_unnamed : (t : Tree) → IsTree t → (key : ℕ) → get t key ≡ None → (d : ℕ) (n : List ℕ) → child t d n ≢ Some key
vacant_unnamed t tree key vacant d n e = true≢false (sym (tree.present d n key e) ∙ ap is_some vacant)

module _ (old new : Tree) (dir : ℕ) (name : List ℕ) (e : Option Entry) (change : Changed old new dir name e) (sound : Sound old new e) where
  -- a child is the new one, or was one before and is no new one
  old_or_new : (d : ℕ) (m : List ℕ) (k : ℕ) → child new d m ≡ Some k → ((d ≡ dir) × (m ≡ name) × (e ≡ Some (to.Object k))) ⊎ (child old d m ≡ Some k)
  old_or_new d m k f =
      elim (cases_pair d dir m name) [
        | inl both ↦
            let here : option_and_then object_key e ≡ Some k = sym (ap (option_and_then object_key) change.binds.at) ∙ sym (ap (λ (x : ℕ). child new x name) both.0) ∙ sym (ap (child new d) both.1) ∙ f in
            inl (both.0, both.1, of e k here)
        | inr off ↦ inr (sym (ap (option_and_then object_key) (change.binds.others d m off)) ∙ f)
      ]
    where
      of : (o : Option Entry) (k : ℕ) → option_and_then object_key o ≡ Some k → o ≡ Some (to.Object k)
      of None k h = absurd (cc)
      of (Some to.Whiteout) k h = absurd (cc)
      of (Some (to.Object j)) k h = ap (λ x. Some (to.Object x)) (cc)

  kept : (k : ℕ) (d : ℕ) (m : List ℕ) → child old d m ≡ Some k → seen_at new k ≡ seen_at old k
  kept k d m was = change.seen_kept k (change.tree.present d m k was)

  root_there : IsSome (get old ROOT)
  root_there = directory_is_present old ROOT (root_is_directory old change.tree)

  pub IsTree-changed : ((k : ℕ) (i : layers.Inode) → inode_at new k ≡ Some i → HasNames (child new) k i.links) → IsTree new
  IsTree-changed links =
      record {
        root = subst IsUnmarked (sym (change.seen_kept ROOT root_there)) change.tree.root;
        root_unnamed = λ d m f. elim (old_or_new d m ROOT f) [
          | inl here ↦ true≢false (sym root_there ∙ ap is_some (sound.fresh ROOT here.2).0)
          | inr was ↦ change.tree.root_unnamed d m was
        ];
        present = λ d m k f. elim (old_or_new d m k f) [
          | inl here ↦ (sound.fresh k here.2).1
          | inr was ↦ same_presence old new k (kept k d m was) ∙ change.tree.present d m k was
        ];
        one_name = λ d d2 m m2 k f g is. elim (old_or_new d m k f) [
          | inl here ↦ elim (old_or_new d2 m2 k g) [
            | inl also ↦ (here.0 ∙ sym also.0, here.1 ∙ sym also.1)
            | inr was ↦ absurd (vacant_unnamed old change.tree k (sound.fresh k here.2).0 d2 m2 was)
          ]
          | inr was ↦ elim (old_or_new d2 m2 k g) [
            | inl also ↦ absurd (vacant_unnamed old change.tree k (sound.fresh k also.2).0 d m was)
            | inr too ↦ change.tree.one_name d d2 m m2 k was too (sym (same_kind old new k (kept k d m was)) ∙ is)
          ]
        ];
        redirects = λ k. redirect_kept k (get old k) refl;
        links = links;
      }
    where
      redirect_kept : (k : ℕ) (o : Option Node) → get old k ≡ o → IsTrue (leads_on (seen_at new k))
      redirect_kept k None f = sound.redirects k f
      redirect_kept k (Some n) f = ap leads_on (change.seen_kept k (ap is_some f)) ∙ change.tree.redirects k
