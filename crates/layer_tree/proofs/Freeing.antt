-- An object to which no name leads: when it is one, and what it means for a tree that its key is freed.
use Rattle.std.proofs.Common.{◌≡◌, ◌≢◌, ℕ, ◌<◌, List, [], ◌∷◌, length, Option, Some, None, false, IsSome, refl, sym, ap, subst, ◌∙◌, inl, inr, arith}
use Rattle.std.specs.Option.{option_and_then, option_map_or}
use Rattle.std.specs.Prelude.{option_map}
use Rattle.std.proofs.lemmas.Bool.{cases_eq}
use Rattle.slab.specs.Slab.{Updates}
use Rattle.plain_model.specs.Layers as layers
use Rattle.plain_model.specs.Layers.{Path, IsLayer}
use Rattle.plain_model.proofs.Paths.{cases_pair}
use Rattle.layer_tree.specs.Places.{Listed}
use Rattle.layer_tree.specs.Table.{Table, entry_in, object_key}
use Rattle.layer_tree.specs.Tree.{Tree, ROOT, table_of, inode_of, seen, entry, child, key_at, entry_at, seen_at, seen_entry, inode_at, layer_of, directory_attributes, leads_on, IsUnmarked, IsDirectory, IsTree, Unbinds, Frees, SameObjects}
use Rattle.layer_tree.specs.declared.name_table.Entry.{Entry}
use Rattle.layer_tree.specs.declared.name_table.Entry.TheVariants as to
use Rattle.layer_tree.specs.declared.node.Node.{Node}
use Rattle.layer_tree.proofs.Counting.{HasNames-alike}
use Rattle.layer_tree.proofs.Changing.{key_of_entry}
use Rattle.layer_tree.proofs.Held.{held_together}
use Rattle.layer_tree.proofs.Layers.{IsLayer-fewer}

-- no name leads to an inode without names
pub unlinked_unnamed : (t : Tree) → IsTree t → (key : ℕ) (i : layers.Inode) → inode_at t key ≡ Some i → i.links ≡ 0 → (dir : ℕ) (name : List ℕ) → child t dir name ≢ Some key
unlinked_unnamed t tree key i is none dir name led =
    let names = tree.links key i is in
    let some : 0 < length names.places = listed_some names.places (names.stands.all dir name led) in
    omega (arith, some, names.counted, none)
  where
    listed_some : (places : List (ℕ × List ℕ)) → Listed dir name places → 0 < length places
    listed_some [] l = absurd l
    listed_some (p ∷ ps) l = omega arith

-- no name leads to a directory whose name was bound to something else
pub directory_unnamed : (old new : Tree) (dir : ℕ) (name : List ℕ) (e : Option Entry) → IsTree old → Unbinds old new dir name e → option_and_then object_key e ≡ None → (key : ℕ) → child old dir name ≡ Some key → IsDirectory old key → (d : ℕ) (n : List ℕ) → child new d n ≢ Some key
directory_unnamed old new dir name e tree u no_object key led is d n again =
    elim (cases_pair d dir n name) [
      | inl both ↦
          let gone : child new d n ≡ None = ap (λ (x : ℕ). child new x n) both.0 ∙ ap (child new dir) both.1 ∙ ap (option_and_then object_key) u.binds.at ∙ no_object in
          absurd (cc)
      | inr off ↦
          let was : child old d n ≡ Some key = sym (ap (option_and_then object_key) (u.binds.others d n off)) ∙ again in
          let same = tree.one_name d dir n name key was led is in
          off same.0 same.1
    ]

-- a key is freed to which no name leads and which has no objects in it
module _ (old new : Tree) (key : ℕ) (updates : Updates old new key None) (not_root : key ≢ ROOT) (unnamed : (dir : ℕ) (name : List ℕ) → child old dir name ≢ Some key) (bare : (name : List ℕ) → child old key name ≡ None) where
  -- nothing stands under the key, and every other has what it had
  pub frees : Frees old new key
  frees =
      record {
        gone = updates.changed;
        no_inode = ap (option_and_then inode_of) updates.changed;
        nodes = updates.others;
        entries = λ k name off. ap (λ o. option_and_then (λ table. entry_in table name) (option_and_then table_of o)) (updates.others k off);
        seen = λ k off. ap (option_map (seen k)) (updates.others k off);
        inodes = λ k off. ap (option_and_then inode_of) (updates.others k off);
        names = λ k off. ap (λ o. option_map_or (λ (t : Table). t.spare) (option_and_then table_of o) 0) (updates.others k off);
      }

  -- each name leads where it led
  pub same_children : (d : ℕ) (n : List ℕ) → child new d n ≡ child old d n
  same_children d n =
      elim (cases_eq d key) [
        | inl e ↦ ap (λ (x : ℕ). child new x n) e ∙ nothing_there ∙ sym (bare n) ∙ sym (ap (λ (x : ℕ). child old x n) e)
        | inr off ↦ ap (option_and_then object_key) (frees.entries d n off)
      ]
    where
      nothing_there : child new key n ≡ None
      nothing_there = ap (λ o. option_and_then object_key (option_and_then (λ table. entry_in table n) (option_and_then table_of o))) updates.changed

  -- each path leads where it led
  pub same_keys : (p : Path) → key_at new p ≡ key_at old p
  same_keys [] = refl
  same_keys (n ∷ p) = ap (option_and_then (λ k. child new k n)) (same_keys p) ∙ of (key_at old p)
    where
      of : (o : Option ℕ) → option_and_then (λ k. child new k n) o ≡ option_and_then (λ k. child old k n) o
      of None = refl
      of (Some k) = same_children k n

  -- no path leads to the key
  not_reached : (p : Path) (k : ℕ) → key_at old p ≡ Some k → k ≢ key
  not_reached [] k at e = let root : ROOT ≡ k = cc in not_root (sym (root ∙ e))
  not_reached (n ∷ p) k at e = of (key_at old p) at
    where
      of : (o : Option ℕ) → option_and_then (λ j. child old j n) o ≡ Some k → ⊥
      of None f = absurd (cc)
      of (Some j) f = unnamed j n (f ∙ ap Some e)

  -- at each path stands what stood there
  same_entries : (p : Path) → entry_at new p ≡ entry_at old p
  same_entries [] = refl
  same_entries (n ∷ p) = ap (option_and_then (λ k. entry new k n)) (same_keys p) ∙ of (key_at old p) refl
    where
      of : (o : Option ℕ) → key_at old p ≡ o → option_and_then (λ k. entry new k n) o ≡ option_and_then (λ k. entry old k n) o
      of None at = refl
      of (Some k) at = frees.entries k n (not_reached p k at)

  -- at each path the same is held
  pub SameObjects-freed : SameObjects (layer_of old) (layer_of new)
  SameObjects-freed [] = ap (λ o. Some (layers.Directory ROOT (directory_attributes o) false None)) (frees.seen ROOT (λ e. not_root (sym e)))
  SameObjects-freed (n ∷ p) = ap (option_and_then (seen_entry new)) (same_entries (n ∷ p)) ∙ of (entry_at old (n ∷ p)) refl
    where
      of : (o : Option Entry) → entry_at old (n ∷ p) ≡ o → option_and_then (seen_entry new) o ≡ option_and_then (seen_entry old) o
      of None at = refl
      of (Some (to.Object k)) at = frees.seen k (not_reached (n ∷ p) k (key_of_entry old (n ∷ p) ∙ ap (option_and_then object_key) at))
      of (Some to.Whiteout) at = refl

  -- an inode that is there was there
  inode_was : (k : ℕ) (i : layers.Inode) → inode_at new k ≡ Some i → inode_at old k ≡ Some i
  inode_was k i is =
      elim (cases_eq k key) [
        | inl e ↦
            let none : inode_at new k ≡ None = ap (inode_at new) e ∙ frees.no_inode in
            absurd (cc)
        | inr off ↦ sym (frees.inodes k off) ∙ is
      ]

  -- the tree after it
  pub IsTree-freed : IsTree old → IsTree new
  IsTree-freed tree =
      record {
        root = subst IsUnmarked (sym (frees.seen ROOT (λ e. not_root (sym e)))) tree.root;
        root_unnamed = λ d n e. tree.root_unnamed d n (sym (same_children d n) ∙ e);
        present = λ d n k e.
            let was = sym (same_children d n) ∙ e in
            subst IsSome (sym (updates.others k (named_other d n k was))) (tree.present d n k was);
        one_name = λ d other n m k e f is.
            let was = sym (same_children d n) ∙ e in
            tree.one_name d other n m k was (sym (same_children other m) ∙ f) (subst (λ (o : Option Node). IsSome (option_and_then table_of o)) (updates.others k (named_other d n k was)) is);
        redirects = λ k. elim (cases_eq k key) [
          | inl e ↦ ap (λ (x : ℕ). leads_on (seen_at new x)) e ∙ ap (λ o. leads_on (option_map (seen key) o)) updates.changed
          | inr off ↦ ap leads_on (frees.seen k off) ∙ tree.redirects k
        ];
        links = λ k i is. HasNames-alike (child old) (child new) same_children k i.links (tree.links k i (inode_was k i is));
      }
    where
      named_other : (d : ℕ) (n : List ℕ) (k : ℕ) → child old d n ≡ Some k → k ≢ key
      named_other d n k was e = unnamed d n (was ∙ ap Some e)

  -- the layer after it
  pub IsLayer-freed : IsTree old → IsLayer (layer_of old) → IsLayer (layer_of new)
  IsLayer-freed tree = IsLayer-fewer (layer_of old) (layer_of new) SameObjects-freed inode_was (held_together new (IsTree-freed tree))
