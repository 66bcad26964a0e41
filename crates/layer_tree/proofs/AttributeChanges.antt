-- What other attributes of an object mean for the keys, and for the layer that they make.
use Rattle.std.proofs.Common.{◌≡◌, ℕ, [], ◌∷◌, Bool, false, Option, Some, None, IsTrue, is_some, Result, Ok, Err, OnOk, refl, sym, ap, ◌∙◌, inl, inr, true≢false}
use Rattle.std.specs.Option.{option_and_then}
use Rattle.std.specs.Prelude.{option_map}
use Rattle.std.proofs.lemmas.Bool.{cases_eq}
use Rattle.std.specs.declared.alloc.AllocError.{AllocError}
use Rattle.slab.specs.Slab.{get, with_value}
use Rattle.ov_base.specs.AttributeChanges.{changed}
use Rattle.ov_base.specs.declared.attribute_change.AttributeChange.{AttributeChange}
use Rattle.ov_base.specs.declared.attributes.Attributes.{Attributes}
use Rattle.ov_base.specs.declared.redirect.Redirect.{Redirect}
use Rattle.plain_model.specs.Layers as layers
use Rattle.plain_model.specs.Layers.{Path, held, IsLayer}
use Rattle.layer_tree.specs.Table.{object_key}
use Rattle.layer_tree.specs.Tree.{Tree, ROOT, table_of, inode_of, seen, child, key_at, entry_at, seen_at, seen_entry, inode_at, layer_of, directory_attributes, leads_on, IsDirectory, IsUnmarked, IsTree}
use Rattle.layer_tree.specs.Nameless.{IsNameless}
use Rattle.layer_tree.specs.AttributeChange.{attributes_of, attributes_at, with_attributes, SetsAttributes, SetsInode, SetsDirectory}
use Rattle.layer_tree.specs.declared.name_table.Entry.{Entry}
use Rattle.layer_tree.specs.declared.name_table.Entry.TheVariants as to
use Rattle.layer_tree.specs.declared.node.Node.{Node}
use Rattle.layer_tree.specs.declared.node.Node.TheVariants as node
use Rattle.layer_tree.proofs.Walks.{one_path, unwrapped}
use Rattle.layer_tree.proofs.Changing.{key_of_entry, is_placed}
use Rattle.layer_tree.proofs.Roots.{links_of, SameObjects-alike}
use Rattle.layer_tree.proofs.Layers.{named_number}
use Rattle.layer_tree.proofs.Replacing.{updates, same_entries, same_keys, still_nameless, held_beside, IsTree-replaced, IsLayer-replaced}

-- an entry that leads to a key is an object's
object_entry : (o : Option Entry) (key : ℕ) → option_and_then object_key o ≡ Some key → o ≡ Some (to.Object key)
object_entry None key e = absurd (cc)
object_entry (Some to.Whiteout) key e = absurd (cc)
object_entry (Some (to.Object k)) key e = ap (λ (j : ℕ). Some (to.Object j)) (cc)

-- at a path that leads to a key the layer holds what is seen under it
pub held_at_key : (t : Tree) → IsTree t → (path : Path) (key : ℕ) → key_at t path ≡ Some key → held (layer_of t) path ≡ seen_at t key
held_at_key t tree [] key at = of (seen_at t ROOT) refl tree.root ∙ ap (seen_at t) root
  where
    root : ROOT ≡ key
    root = cc

    number : (o : Option Node) (k : ℕ) (a : Attributes) (opaque : Bool) (r : Option Redirect) → option_map (seen ROOT) o ≡ Some (layers.Directory k a opaque r) → ROOT ≡ k
    number None k a opaque r e = absurd (cc)
    number (Some (node.Directory d)) k a opaque r e = cc
    number (Some (node.Inode i)) k a opaque r e = absurd (cc)

    of : (o : Option layers.Object) → seen_at t ROOT ≡ o → IsUnmarked o → Some (layers.Directory 0 (directory_attributes (seen_at t ROOT)) false None) ≡ seen_at t ROOT
    of None e h = absurd h
    of (Some layers.Whiteout) e h = absurd h
    of (Some (layers.Named k)) e h = absurd h
    of (Some (layers.Directory k a opaque r)) e h =
        ap (λ o. Some (layers.Directory 0 (directory_attributes o) false None)) e
        ∙ ap (λ (j : ℕ). Some (layers.Directory j a false None)) (number (get t ROOT) k a opaque r e)
        ∙ ap (λ (b : Bool). Some (layers.Directory k a b None)) (sym h.0)
        ∙ ap (λ (x : Option Redirect). Some (layers.Directory k a opaque x)) (sym h.1)
        ∙ sym e
held_at_key t tree (n ∷ path) key at = ap (option_and_then (seen_entry t)) (object_entry (entry_at t (n ∷ path)) key (sym (key_of_entry t (n ∷ path)) ∙ at))

-- other attributes leave the names, the links, the marks and the number
pub attributes_leave_names : (a : Attributes) (n : Node) → table_of (with_attributes a n) ≡ table_of n
attributes_leave_names a (node.Directory d) = refl
attributes_leave_names a (node.Inode i) = refl

attributes_leave_links : (a : Attributes) (n : Node) → option_map links_of (inode_of (with_attributes a n)) ≡ option_map links_of (inode_of n)
attributes_leave_links a (node.Directory d) = refl
attributes_leave_links a (node.Inode i) = refl

still_leads : (a : Attributes) (n : Node) (k : ℕ) → IsTrue (leads_on (Some (seen k n))) → IsTrue (leads_on (Some (seen k (with_attributes a n))))
still_leads a (node.Directory d) k h = h
still_leads a (node.Inode i) k h = h

still_unmarked : (a : Attributes) (n : Node) → IsUnmarked (Some (seen ROOT n)) → IsUnmarked (Some (seen ROOT (with_attributes a n)))
still_unmarked a (node.Directory d) h = h
still_unmarked a (node.Inode i) h = h

attributes_leave_number : (a : Attributes) (n : Node) (k : ℕ) → named_number (Some (seen k (with_attributes a n))) ≡ named_number (Some (seen k n))
attributes_leave_number a (node.Directory d) k = refl
attributes_leave_number a (node.Inode i) k = refl

-- an object under a key has other attributes
module _ (old : Tree) (key : ℕ) (before : Node) (found : get old key ≡ Some before) (a : Attributes) where
  abbrev pub after : Tree
  after = with_value old key (with_attributes a before)

  pub sets_attributes : SetsAttributes old after key a
  sets_attributes =
      let u = updates old key before (with_attributes a before) found in
      record {
        there = u.changed ∙ sym (ap (option_map (with_attributes a)) found);
        others = u.others;
        entries = same_entries old key before (with_attributes a before) found (attributes_leave_names a before);
        paths = same_keys old key before (with_attributes a before) found (attributes_leave_names a before);
      }

  pub nameless_attributes : (k : ℕ) → IsNameless old k → IsNameless after k
  nameless_attributes = still_nameless old key before (with_attributes a before) found (attributes_leave_names a before)

  pub IsTree-attributes : IsTree old → IsTree after
  IsTree-attributes = IsTree-replaced old key before (with_attributes a before) found (attributes_leave_names a before) (attributes_leave_links a before) (still_leads a before key) (λ e. still_unmarked a before)

  pub IsLayer-attributes : IsTree old → IsLayer (layer_of old) → IsLayer (layer_of after)
  IsLayer-attributes tree = IsLayer-replaced old key before (with_attributes a before) found (attributes_leave_names a before) (attributes_leave_links a before) (still_leads a before key) (λ e. still_unmarked a before) tree (attributes_leave_number a before)

  -- with an inode under the key every path holds what it held
  pub sets_inode : (i : layers.Inode) → inode_at old key ≡ Some i → SetsInode (layer_of old) (layer_of after) key a
  sets_inode i is = of before found (updates old key before (with_attributes a before) found).changed
    where
      of : (n : Node) → get old key ≡ Some n → get after key ≡ Some (with_attributes a n) → SetsInode (layer_of old) (layer_of after) key a
      of (node.Directory d) was now =
          let none : inode_at old key ≡ None = ap (option_and_then inode_of) was in
          absurd (cc)
      of (node.Inode j) was now =
          record {
            inode = record { content = j.content; attributes = j.attributes; links = j.links; mark = option_map (λ b. b.value) j.mark };
            before = ap (option_and_then inode_of) was;
            now = ap (option_and_then inode_of) now;
            inodes = λ k differs. ap (option_and_then inode_of) (sets_attributes.others k differs);
            objects = SameObjects-alike old after sets_attributes.entries (λ k. elim (cases_eq k key) [
              | inl e ↦ ap (λ (x : ℕ). option_map (seen k) (get after x)) e ∙ ap (option_map (seen k)) now ∙ sym (ap (option_map (seen k)) was) ∙ sym (ap (λ (x : ℕ). option_map (seen k) (get old x)) e)
              | inr differs ↦ ap (option_map (seen k)) (sets_attributes.others k differs)
            ]);
          }

  -- with a directory under the key the path that leads to it holds it with these attributes
  pub sets_directory : IsTree old → (path : Path) → key_at old path ≡ Some key → IsDirectory old key → SetsDirectory (layer_of old) (layer_of after) path key a
  sets_directory tree path at is = of before found (updates old key before (with_attributes a before) found).changed
    where
      of : (n : Node) → get old key ≡ Some n → get after key ≡ Some (with_attributes a n) → SetsDirectory (layer_of old) (layer_of after) path key a
      of (node.Inode i) was now = absurd (true≢false (sym is ∙ ap (λ o. is_some (option_and_then table_of o)) was))
      of (node.Directory d) was now =
          record {
            was = d.attributes;
            opaque = d.marks.opaque;
            redirect = d.marks.redirect;
            before = held_at_key old tree path key at ∙ ap (option_map (seen key)) was;
            now = held_at_key after (IsTree-attributes tree) path key (sets_attributes.paths path ∙ at) ∙ ap (option_map (seen key)) now;
            elsewhere = λ other differs. held_beside old key before (with_attributes a before) found (attributes_leave_names a before) other (λ e. differs (one_path (child old) ROOT (IsDirectory old) (is_placed old tree) other path key e at is));
            inodes = λ k. elim (cases_eq k key) [
              | inl e ↦ ap (inode_at after) e ∙ ap (option_and_then inode_of) now ∙ sym (ap (option_and_then inode_of) was) ∙ sym (ap (inode_at old) e)
              | inr differs ↦ ap (option_and_then inode_of) (sets_attributes.others k differs)
            ];
          }

-- the attributes of an inode are those under its key
pub inode_attributes : (t : Tree) (key : ℕ) (i : layers.Inode) → inode_at t key ≡ Some i → attributes_at t key ≡ Some i.attributes
inode_attributes t key i is = of (get t key) is
  where
    of : (o : Option Node) → option_and_then inode_of o ≡ Some i → option_map attributes_of o ≡ Some i.attributes
    of None h = absurd (cc)
    of (Some (node.Directory d)) h = absurd (cc)
    of (Some (node.Inode x)) h = cc

-- a node whose attributes were changed is the node with the changed ones
pub changed_node : (t : Tree) (key : ℕ) (before now : Node) → get t key ≡ Some before → now ≡ with_attributes (attributes_of now) before → (x : AttributeChange) → attributes_of now ≡ changed x (attributes_of before) → (a : Attributes) → attributes_at t key ≡ Some a → now ≡ with_attributes (changed x a) before
changed_node t key before now found is x done a at =
    let same : Some (attributes_of before) ≡ Some a = sym (ap (option_map attributes_of) found) ∙ at in
    is ∙ ap (λ (b : Attributes). with_attributes b before) (done ∙ ap (changed x) (unwrapped (attributes_of before) a same))

-- what follows from success
pub on_ok : {A B : Type 0} (r : Result (Unit {0}) AllocError) → OnOk r A → (A → B) → OnOk r B
on_ok (Ok u) a f = f a
on_ok (Err e) a f = a
