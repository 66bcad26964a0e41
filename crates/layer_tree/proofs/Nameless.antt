-- What a change of a layer leaves of the objects under their keys, those without a name among them.
use Rattle.std.proofs.Common.{◌≡◌, ◌≢◌, ℕ, List, [], ◌∷◌, Option, Some, None, IsSome, is_some, refl, sym, ap, ◌∙◌, inl, inr, true≢false}
use Rattle.std.specs.Option.{option_and_then}
use Rattle.std.proofs.lemmas.Bool.{cases_eq}
use Rattle.slab.specs.Slab.{get}
use Rattle.plain_model.specs.Layers.{Path}
use Rattle.layer_tree.specs.Table.{object_key}
use Rattle.layer_tree.specs.Tree.{Tree, ROOT, child, key_at, inode_of, inode_at, new_inode, Inserts, Unbinds, Frees, SameTree}
use Rattle.layer_tree.specs.Nameless.{IsNameless, KeepsObjects}
use Rattle.ov_base.specs.declared.attributes.Attributes.{Attributes}
use Rattle.plain_model.proofs.Paths.{cases_pair}
use Rattle.layer_tree.specs.declared.name_table.Entry.{Entry}
use Rattle.layer_tree.specs.declared.node.Marks.{Marks}
use Rattle.layer_tree.specs.declared.node.Node.{Node}
use Rattle.layer_tree.specs.declared.node.Object.{Object}
use Rattle.layer_tree.specs.declared.node.Object.TheVariants as object
use Rattle.layer_tree.proofs.Walks.{bound}
use Rattle.layer_tree.proofs.Changing.{same_presence}

-- no path leads to an object without a name
pub nameless_apart : (t : Tree) (key : ℕ) → IsNameless t key → (p : Path) (k : ℕ) → key_at t p ≡ Some k → k ≢ key
nameless_apart t key h [] k at e = let root : ROOT ≡ k = cc in h.not_root (sym (root ∙ e))
nameless_apart t key h (n ∷ p) k at e =
    let last = bound (λ j. child t j n) (key_at t p) k at in
    h.unnamed last.0 n (last.2 ∙ ap Some e)

-- where each name leads where it led, what has no name and is there had none
pub nameless_alike : (old new : Tree) → ((dir : ℕ) (name : List ℕ) → child new dir name ≡ child old dir name) → (key : ℕ) → is_some (get new key) ≡ is_some (get old key) → IsNameless old key → IsNameless new key
nameless_alike old new children key there h =
    record {
      present = there ∙ h.present;
      not_root = h.not_root;
      unnamed = λ dir name e. h.unnamed dir name (sym (children dir name) ∙ e);
      bare = λ name. children key name ∙ h.bare name;
    }

-- a tree that is the same keeps all objects
pub keeps_same : (old new : Tree) → SameTree old new → KeepsObjects old new None
keeps_same old new s =
    record {
      seen = λ k there. s.seen k;
      inodes = λ k off. s.inodes k;
      nameless = λ k. nameless_alike old new (λ d n. ap (option_and_then object_key) (s.entries d n)) k (same_presence old new k (s.seen k));
    }

-- what is kept while nothing changes, and then by a change
pub keeps_then : (a b c : Tree) (changed : Option ℕ) → KeepsObjects a b None → KeepsObjects b c changed → KeepsObjects a c changed
keeps_then a b c changed s t =
    record {
      seen = λ k there. t.seen k (same_presence a b k (s.seen k there) ∙ there) ∙ s.seen k there;
      inodes = λ k off. t.inodes k off ∙ s.inodes k (λ e. cc);
      nameless = λ k h. t.nameless k (s.nameless k h);
    }

-- a key that is vacant after was vacant before
pub vacant_before : (old new : Tree) (changed : Option ℕ) → KeepsObjects old new changed → (k : ℕ) → get new k ≡ None → get old k ≡ None
vacant_before old new changed kept k none = by (get old k) refl
  where
    by : (x : Option Node) → get old k ≡ x → get old k ≡ None
    by None e = e
    by (Some n) e =
        let there : IsSome (get old k) = ap is_some e in
        absurd (true≢false (sym there ∙ sym (same_presence old new k (kept.seen k there)) ∙ ap is_some none))

-- a new object is put at a name of a directory to which a path leads
module _ (old new : Tree) (dir : ℕ) (name : List ℕ) (o : Object) (key : ℕ) (i : Inserts old new dir name o key) (p : Path) (at : key_at old p ≡ Some dir) where
  not_new : (k : ℕ) → IsSome (get old k) → k ≢ key
  not_new k there e = true≢false (sym there ∙ ap (λ x. is_some (get old x)) e ∙ ap is_some i.fresh)

  nameless_inserted : (k : ℕ) → IsNameless old k → IsNameless new k
  nameless_inserted k h =
      record {
        present = same_presence old new k (i.seen k (not_new k h.present)) ∙ h.present;
        not_root = h.not_root;
        unnamed = λ d n led. elim (cases_pair d dir n name) [
          | inl both ↦
              let new_key : child new d n ≡ Some key = ap (λ (x : ℕ). child new x n) both.0 ∙ ap (child new dir) both.1 ∙ ap (option_and_then object_key) i.binds.at in
              not_new k h.present (cc)
          | inr off ↦ h.unnamed d n (sym (ap (option_and_then object_key) (i.binds.others d n off)) ∙ led)
        ];
        bare = λ n. ap (option_and_then object_key) (i.binds.others k n (λ e f. nameless_apart old k h p dir at (sym e))) ∙ h.bare n;
      }

  keeps_inserted : (changed : Option ℕ) → (changed ≢ Some key → inode_at new key ≡ inode_at old key) → KeepsObjects old new changed
  keeps_inserted changed same =
      record {
        seen = λ k there. i.seen k (not_new k there);
        inodes = λ k off. elim (cases_eq k key) [
          | inl e ↦ ap (inode_at new) e ∙ same (λ f. off (f ∙ ap Some (sym e))) ∙ sym (ap (inode_at old) e)
          | inr ne ↦ i.inodes k ne
        ];
        nameless = nameless_inserted;
      }

  -- a file or link is the one inode that changed
  pub keeps_leaf : KeepsObjects old new (Some key)
  keeps_leaf = keeps_inserted (Some key) (λ off. absurd (off refl))

  -- with a directory no inode did
  pub keeps_directory : (a : Attributes) (m : Marks) → o ≡ object.Directory a m → KeepsObjects old new None
  keeps_directory a m is = keeps_inserted None (λ off. let none : inode_at new key ≡ None = i.inode ∙ ap new_inode is in none ∙ sym (ap (option_and_then inode_of) i.fresh))

-- a name is bound to nothing, or to a whiteout
module _ (old new : Tree) (dir : ℕ) (name : List ℕ) (to : Option Entry) (no_object : option_and_then object_key to ≡ None) (u : Unbinds old new dir name to) where
  none_at : (d : ℕ) (n : List ℕ) → (d ≡ dir) × (n ≡ name) → child new d n ≡ None
  none_at d n both = ap (λ (x : ℕ). child new x n) both.0 ∙ ap (child new dir) both.1 ∙ ap (option_and_then object_key) u.binds.at ∙ no_object

  nameless_unbound : (k : ℕ) → IsNameless old k → IsNameless new k
  nameless_unbound k h =
      record {
        present = same_presence old new k (u.seen k) ∙ h.present;
        not_root = h.not_root;
        unnamed = λ d n led. elim (cases_pair d dir n name) [
          | inl both ↦ let gone : child new d n ≡ None = none_at d n both in cc
          | inr off ↦ h.unnamed d n (sym (ap (option_and_then object_key) (u.binds.others d n off)) ∙ led)
        ];
        bare = λ n. elim (cases_pair k dir n name) [
          | inl both ↦ none_at k n both
          | inr off ↦ ap (option_and_then object_key) (u.binds.others k n off) ∙ h.bare n
        ];
      }

  -- the inode that the name led to is the one that changed
  pub keeps_unbound : KeepsObjects old new (child old dir name)
  keeps_unbound = record { seen = λ k there. u.seen k; inodes = u.inodes; nameless = nameless_unbound }

-- what has no name stays where another key is freed
pub nameless_freed : (old new : Tree) (key : ℕ) → Frees old new key → ((dir : ℕ) (name : List ℕ) → child new dir name ≡ child old dir name) → (k : ℕ) → k ≢ key → IsNameless old k → IsNameless new k
nameless_freed old new key f children k off = nameless_alike old new children k (ap is_some (f.nodes k off))
