-- What a further name of an inode means for the keys, and for the layer that they make.
use Rattle.std.proofs.Common.{◌≡◌, ◌≢◌, ◌⊎◌, ℕ, ◌+◌, ◌≤◌, List, ◌∷◌, Option, Some, None, IsSome, is_some, refl, sym, ap, subst, ◌∙◌, inl, inr, arith, true≢false}
use Rattle.std.specs.Option.{option_and_then, option_map_or}
use Rattle.std.specs.Prelude.{option_map}
use Rattle.std.specs.FinMap as map
use Rattle.std.proofs.lemmas.Bool.{cases_eq}
use Rattle.slab.specs.Slab.{get}
use Rattle.plain_model.specs.Layers as layers
use Rattle.plain_model.specs.Layers.{Path, IsLayer}
use Rattle.plain_model.proofs.Paths.{cases_pair}
use Rattle.layer_tree.specs.Walk.{Rebinds}
use Rattle.layer_tree.specs.Places.{HasNames}
use Rattle.layer_tree.specs.Table.{Table, NameMap, entry_in}
use Rattle.layer_tree.specs.Tree.{Tree, ROOT, table_of, inode_of, seen, entry, child, key_at, seen_at, inode_at, names_room, leads_on, layer_of, IsDirectory, IsUnmarked, IsTree, SetsPath, SameTree}
use Rattle.layer_tree.specs.Change.{Retables, GainsName, linked}
use Rattle.layer_tree.specs.Link.{Links, HasCountRoom, with_more}
use Rattle.layer_tree.specs.declared.name_table.Entry.TheVariants as to
use Rattle.layer_tree.specs.declared.node.Node.{Node}
use Rattle.layer_tree.specs.declared.node.Node.TheVariants as node
use Rattle.layer_tree.proofs.Walks.{unwrapped}
use Rattle.layer_tree.proofs.Retabling.{same_seen as seen_retabled, same_inode as inode_retabled, room_kept}
use Rattle.layer_tree.proofs.Counting.{StandsAt-bound, StandsAt-other}
use Rattle.layer_tree.proofs.Changing.{Changed, kind_seen, presence_seen, same_presence, same_kind, child_rebinds, SetsPath-changed}
use Rattle.layer_tree.proofs.Binding.{rebinds_put}
use Rattle.layer_tree.proofs.Held.{held_together}
use Rattle.layer_tree.proofs.Keeping.{inode_seen, named_key}
use Rattle.layer_tree.proofs.Layers.{Names, IsLayer-linked}

module _ (old new : Tree) (key : ℕ) (g : GainsName old new key) where
  -- what any reading of an object gives that doesn't depend on the number of its names
  same_reading : {A : Type 0} (f : Option Node → A) → ((n : Node) → f (Some (linked n)) ≡ f (Some n)) → (k : ℕ) → f (get new k) ≡ f (get old k)
  same_reading f blind k =
      elim (cases_eq k key) [
        | inl e ↦ ap (λ (x : ℕ). f (get new x)) e ∙ ap f g.named ∙ of (get old key) ∙ sym (ap (λ (x : ℕ). f (get old x)) e)
        | inr differs ↦ ap f (g.others k differs)
      ]
    where
      of : (o : Option Node) → f (option_map linked o) ≡ f o
      of None = refl
      of (Some n) = blind n

  gained_entries : (d : ℕ) (name : List ℕ) → entry new d name ≡ entry old d name
  gained_entries d name = same_reading (λ o. option_and_then (λ table. entry_in table name) (option_and_then table_of o)) blind d
    where
      blind : (n : Node) → option_and_then (λ table. entry_in table name) (table_of (linked n)) ≡ option_and_then (λ table. entry_in table name) (table_of n)
      blind (node.Directory d) = refl
      blind (node.Inode i) = refl

  gained_seen : (k : ℕ) → seen_at new k ≡ seen_at old k
  gained_seen k = same_reading (option_map (seen k)) blind k
    where
      blind : (n : Node) → Some (seen k (linked n)) ≡ Some (seen k n)
      blind (node.Directory d) = refl
      blind (node.Inode i) = refl

  gained_room : (d : ℕ) → names_room new d ≡ names_room old d
  gained_room d = same_reading (λ o. option_map_or (λ (t : Table). t.spare) (option_and_then table_of o) 0) blind d
    where
      blind : (n : Node) → option_map_or (λ (t : Table). t.spare) (table_of (linked n)) 0 ≡ option_map_or (λ (t : Table). t.spare) (table_of n) 0
      blind (node.Directory d) = refl
      blind (node.Inode i) = refl

  inode_more : inode_at new key ≡ option_map with_more (inode_at old key)
  inode_more = ap (option_and_then inode_of) g.named ∙ of (get old key)
    where
      of : (o : Option Node) → option_and_then inode_of (option_map linked o) ≡ option_map with_more (option_and_then inode_of o)
      of None = refl
      of (Some (node.Directory d)) = refl
      of (Some (node.Inode i)) = refl

-- a name that is bound to an inode, whose count rises then
module _ (t0 t1 t2 : Tree) (dir key : ℕ) (name : List ℕ) (r : Retables t0 t1 dir (λ m. map.insert m name (to.Object key)) 1) (g : GainsName t1 t2 key) where
  abbrev put : NameMap → NameMap
  put m = map.insert m name (to.Object key)

  pub links : Links t0 t2 dir name key
  links =
      let bound = rebinds_put t0 t1 dir name (to.Object key) r in
      record {
        binds = record {
          at = gained_entries t1 t2 key g dir name ∙ bound.at;
          others = λ d m off. gained_entries t1 t2 key g d m ∙ bound.others d m off;
        };
        linked = inode_more t1 t2 key g ∙ ap (option_map with_more) (inode_retabled t0 t1 dir put 1 r key);
        inodes = λ k off. ap (option_and_then inode_of) (g.others k off) ∙ inode_retabled t0 t1 dir put 1 r k;
        seen = λ k. gained_seen t1 t2 key g k ∙ seen_retabled t0 t1 dir put 1 r k;
      }

  pub links_room : (d : ℕ) → names_room t0 d ≤ names_room t2 d + 1
  links_room d = let same = gained_room t1 t2 key g d in omega (arith, same, room_kept t0 t1 dir put 1 r d)

-- an object with room in its count is an inode
pub counted_inode : (t : Tree) (key : ℕ) → HasCountRoom (get t key) → (i : layers.Inode) × (inode_at t key ≡ Some i)
counted_inode t key room = of (get t key) room
  where
    of : (o : Option Node) → HasCountRoom o → (i : layers.Inode) × (option_and_then inode_of o ≡ Some i)
    of None h = absurd h
    of (Some (node.Directory d)) h = absurd h
    of (Some (node.Inode i)) h = (record { content = i.content; attributes = i.attributes; links = i.links; mark = option_map (λ b. b.value) i.mark }, refl)

-- nothing stands in an inode
inode_empty : (t : Tree) (key : ℕ) → seen_at t key ≡ Some (layers.Named key) → (n : List ℕ) → entry t key n ≡ None
inode_empty t key is n = of (get t key) is
  where
    of : (o : Option Node) → option_map (seen key) o ≡ Some (layers.Named key) → option_and_then (λ table. entry_in table n) (option_and_then table_of o) ≡ None
    of None h = refl
    of (Some (node.Directory d)) h = absurd (cc)
    of (Some (node.Inode i)) h = refl

module _ (old new : Tree) (dir key : ℕ) (name : List ℕ) (tree : IsTree old) (is_dir : IsDirectory old dir) (i : layers.Inode) (at : inode_at old key ≡ Some i) (l : Links old new dir name key) where
  is_inode : seen_at new key ≡ Some (layers.Named key)
  is_inode = l.seen key ∙ inode_seen old key i at

  Changed-links : Changed old new dir name (Some (to.Object key))
  Changed-links =
      record {
        tree = tree;
        is_dir = is_dir;
        binds = l.binds;
        leaf = λ j is n. subst (λ (x : ℕ). entry new x n ≡ None) (same j is) (inode_empty new key is_inode n);
        seen_kept = λ k there. l.seen k;
      }
    where
      same : (j : ℕ) → Some (to.Object key) ≡ Some (to.Object j) → key ≡ j
      same j is = cc

  binds : Rebinds (child old) (child new) dir name (Some key)
  binds = child_rebinds old new dir name (Some (to.Object key)) l.binds

  -- a name leads to the inode, or where it led
  linked_or_old : (d : ℕ) (m : List ℕ) (k : ℕ) → child new d m ≡ Some k → (key ≡ k) ⊎ (child old d m ≡ Some k)
  linked_or_old d m k f =
      elim (cases_pair d dir m name) [
        | inl both ↦ inl (unwrapped key k (sym binds.at ∙ sym (ap (λ (x : ℕ). child new x name) both.0) ∙ sym (ap (child new d) both.1) ∙ f))
        | inr off ↦ inr (sym (binds.others d m off) ∙ f)
      ]

  no_directory : (k : ℕ) → key ≡ k → IsDirectory new k → ⊥
  no_directory k same is =
      true≢false (sym is ∙ kind_seen new k ∙ ap (λ (x : ℕ). layers.holds_directory (seen_at new x)) (sym same) ∙ ap layers.holds_directory is_inode)

  no_root : key ≡ ROOT → ⊥
  no_root same = of (subst IsUnmarked (ap (seen_at old) (sym same) ∙ inode_seen old key i at) tree.root)
    where
      of : IsUnmarked (Some (layers.Named key)) → ⊥
      of h = h

  there : (k : ℕ) → key ≡ k → IsSome (get new k)
  there k same = subst (λ (x : ℕ). IsSome (get new x)) same (presence_seen new key ∙ ap is_some is_inode)

  -- the names of each inode
  links_further : child old dir name ≡ None → (k : ℕ) (j : layers.Inode) → inode_at new k ≡ Some j → HasNames (child new) k j.links
  links_further no_object k j is = of (cases_eq k key)
    where
      gained : inode_at new key ≡ Some j → HasNames (child new) key j.links
      gained now =
          let names = tree.links key i at in
          let more : i.links + 1 ≡ j.links = ap (λ (x : layers.Inode). x.links) (unwrapped (with_more i) j (sym (ap (option_map with_more) at) ∙ sym l.linked ∙ now)) in
          record {
            places = (dir, name) ∷ names.places;
            stands = StandsAt-bound (child old) (child new) dir name key names.places binds (λ f. true≢false (sym (ap is_some f) ∙ ap is_some no_object)) names.stands;
            counted = omega (arith, names.counted, more);
          }

      of : (k ≡ key) ⊎ (k ≢ key) → HasNames (child new) k j.links
      of (inl e) = subst (λ (x : ℕ). HasNames (child new) x j.links) (sym e) (gained (ap (inode_at new) (sym e) ∙ is))
      of (inr off) =
          let names = tree.links k j (sym (l.inodes k off) ∙ is) in
          record {
            places = names.places;
            stands = StandsAt-other (child old) (child new) dir name k (Some key) names.places binds (λ f. off (sym (unwrapped key k f))) (λ f. true≢false (sym (ap is_some f) ∙ ap is_some no_object)) names.stands;
            counted = names.counted;
          }

  pub IsTree-links : child old dir name ≡ None → IsTree new
  IsTree-links no_object =
      record {
        root = subst IsUnmarked (sym (l.seen ROOT)) tree.root;
        root_unnamed = λ d n f. elim (linked_or_old d n ROOT f) [ inl here ↦ no_root here | inr was ↦ tree.root_unnamed d n was ];
        present = λ d n k f. elim (linked_or_old d n k f) [
          | inl here ↦ there k here
          | inr was ↦ same_presence old new k (l.seen k) ∙ tree.present d n k was
        ];
        one_name = λ d e n m k f g is. elim (linked_or_old d n k f) [
          | inl here ↦ absurd (no_directory k here is)
          | inr was ↦ elim (linked_or_old e m k g) [
            | inl here ↦ absurd (no_directory k here is)
            | inr too ↦ tree.one_name d e n m k was too (sym (same_kind old new k (l.seen k)) ∙ is)
          ]
        ];
        redirects = λ k. ap leads_on (l.seen k) ∙ tree.redirects k;
        links = links_further no_object;
      }

  -- the change by paths, and the layer after it
  module _ (no_object : child old dir name ≡ None) (path : Path) (here : key_at old path ≡ Some dir) where
    pub links_sets : SetsPath (layer_of old) (layer_of new) (name ∷ path) (layers.Named key)
    links_sets = SetsPath-changed old new dir name (Some (to.Object key)) Changed-links path here no_object (layers.Named key) is_inode

    vacant : (k : ℕ) → Names (layer_of old) k (name ∷ path) → ⊥
    vacant k h =
        let found : key_at old (name ∷ path) ≡ Some k = named_key old name path k h in
        let none : key_at old (name ∷ path) ≡ None = ap (option_and_then (λ j. child old j name)) here ∙ no_object in
        absurd (cc)

    pub IsLayer-links : IsLayer (layer_of old) → IsLayer (layer_of new)
    IsLayer-links = IsLayer-linked (layer_of old) (layer_of new) (name ∷ path) key links_sets vacant l.linked l.inodes (held_together new (IsTree-links no_object))

-- a further name in a tree that is alike is one in the first tree
pub Links-after : (old mid new : Tree) (dir key : ℕ) (name : List ℕ) → SameTree old mid → Links mid new dir name key → Links old new dir name key
Links-after old mid new dir key name same l =
    record {
      binds = record { at = l.binds.at; others = λ d n off. l.binds.others d n off ∙ same.entries d n };
      linked = l.linked ∙ ap (option_map with_more) (same.inodes key);
      inodes = λ k off. l.inodes k off ∙ same.inodes k;
      seen = λ k. l.seen k ∙ same.seen k;
    }
