-- What other attributes of what a path shows leave of the upper's objects.
use Rattle.std.proofs.Common.{◌≡◌, ◌≢◌, ◌⊎◌, ◌<◌, ℕ, [], ◌∷◌, ◌++◌, Option, None, Some, IsSome, is_some, refl, sym, ap, ◌∙◌, subst, inl, inr, true≢false}
use Rattle.std.specs.Prelude.{option_map}
use Rattle.std.specs.Option.{option_and_then}
use Rattle.slab.specs.Slab.{get}
use Rattle.ov_base.specs.declared.attributes.Attributes.{Attributes}
use Rattle.ov_base.specs.declared.bytes.Content.{Content}
use Rattle.plain_model.specs.Layers.{Name, Path, Named, Inode, held, Contents, shows, through, holds_directory}
use Rattle.plain_model.proofs.Paths.{place}
use Rattle.layer_tree.specs.AttributeChange.{with_attributes, SetsAttributes, SetsInode, SetsDirectory}
use Rattle.layer_tree.specs.Nameless.{IsNameless, KeepsObjects}
use Rattle.layer_tree.specs.Tree.{Tree, layer_of, inode_of, seen, seen_at, inode_at}
use Rattle.layer_tree.specs.declared.node.Node.{Node}
use Rattle.layer_tree.specs.declared.node.Node.TheVariants as node
use Rattle.merged_lookup.specs.declared.layers.Layers.{Layers}
use Rattle.merged_lookup.specs.Merged.{upper_of, layers_of, lowers_of}
use Rattle.copy_up.specs.Showing.{number_of, IsParent, KeepsPath, GainsParents}
use Rattle.copy_up.specs.Altering.{object_with, inode_with, object_attributes, AltersObject}
use Rattle.copy_up.specs.Leaves.{CopiesLeaf}
use Rattle.copy_up.proofs.Frames.{gains-self}
use Rattle.copy_up.proofs.Placing.{nothing-held}
use Rattle.copy_up.proofs.Copying.{free-inode}
use Rattle.copy_up.proofs.Raising.{raw-attributes}

-- what is seen under the key has the attributes
seen-with : (old new : Tree) (key : ℕ) (a : Attributes) → SetsAttributes old new key a → seen_at new key ≡ option_map (object_with a) (seen_at old key)
seen-with old new key a s = ap (option_map (seen key)) s.there ∙ of (get old key)
  where
    of : (x : Option Node) → option_map (seen key) (option_map (with_attributes a) x) ≡ option_map (object_with a) (option_map (seen key) x)
    of None = refl
    of (Some (node.Directory d)) = refl
    of (Some (node.Inode i)) = refl

-- and so has the inode, if it is one
inode-with : (old new : Tree) (key : ℕ) (a : Attributes) → SetsAttributes old new key a → inode_at new key ≡ option_map (inode_with a) (inode_at old key)
inode-with old new key a s = ap (option_and_then inode_of) s.there ∙ of (get old key)
  where
    of : (x : Option Node) → option_and_then inode_of (option_map (with_attributes a) x) ≡ option_map (inode_with a) (option_and_then inode_of x)
    of None = refl
    of (Some (node.Directory d)) = refl
    of (Some (node.Inode i)) = refl

-- a parent of what is in p is p or a parent of p
parent-above : (n : Name) (p x : Path) → x ≢ p → IsParent x (n ∷ p) → IsParent x p
parent-above n p x off h = by h.1 (cc)
  where
    by : (r : Path) → p ≡ r ++ x → IsParent x p
    by [] e = absurd (off (sym e))
    by (m ∷ r) e = (m, r, e)

-- an object of the upper that gets other attributes, after missing parents were placed
module _ (start old new : Layers) (key : ℕ) (a : Attributes) (s : SetsAttributes old.upper new.upper key a) (kept : KeepsObjects start.upper old.upper None) where
  stood-with : IsSome (get start.upper key) → (seen_at new.upper key ≡ option_map (object_with a) (seen_at start.upper key)) × (inode_at new.upper key ≡ option_map (inode_with a) (inode_at start.upper key))
  stood-with there =
      (seen-with old.upper new.upper key a s ∙ ap (option_map (object_with a)) (kept.seen key there), inode-with old.upper new.upper key a s ∙ ap (option_map (inode_with a)) (kept.inodes key (λ e. cc)))

  seen-beside : (k : ℕ) → k ≢ key → IsSome (get start.upper k) → seen_at new.upper k ≡ seen_at start.upper k
  seen-beside k off there = ap (option_map (seen k)) (s.others k off) ∙ kept.seen k there

  inodes-beside : (k : ℕ) → k ≢ key → inode_at new.upper k ≡ inode_at start.upper k
  inodes-beside k off = ap (option_and_then inode_of) (s.others k off) ∙ kept.inodes k (λ e. cc)

-- an inode of the upper that gets other attributes is the one object that changes
pub object-inode : (old new : Layers) (p : Path) (key : ℕ) (a : Attributes) → SetsAttributes old.upper new.upper key a → SetsInode (layer_of old.upper) (layer_of new.upper) key a → held (layer_of old.upper) p ≡ Some (Named key) → ((k : ℕ) → IsNameless old.upper k → IsNameless new.upper k) → AltersObject old new p a
object-inode old new p key a s i named nameless =
    let kept : KeepsObjects old.upper old.upper None = (gains-self old p).objects in
    record {
      key = key;
      number = ap number_of (i.objects p ∙ named);
      attributes = ap (object_attributes (layer_of new.upper)) (i.objects p ∙ named) ∙ ap (option_map (λ (x : Inode). x.attributes)) i.now;
      was = inl (ap number_of named);
      stood = stood-with old old new key a s kept;
      seen = seen-beside old old new key a s kept;
      inodes = inodes-beside old old new key a s kept;
      paths = λ x off. inl (i.objects x);
      nameless = nameless;
    }

-- so is a directory that was placed first where the upper lacked it
pub object-directory : (start old new : Layers) (n : Name) (p : Path) (key : ℕ) (a : Attributes) → GainsParents start old (n ∷ p) → SetsAttributes old.upper new.upper key a → SetsDirectory (layer_of old.upper) (layer_of new.upper) p key a → ((k : ℕ) → IsNameless start.upper k → IsNameless new.upper k) → AltersObject start new p a
object-directory start old new n p key a gains s d nameless =
    record {
      key = key;
      number = ap number_of d.now;
      attributes = ap (object_attributes (layer_of new.upper)) d.now;
      was = was (gains.paths p);
      stood = stood-with start old new key a s gains.objects;
      seen = seen-beside start old new key a s gains.objects;
      inodes = inodes-beside start old new key a s gains.objects;
      paths = λ x off. beside x off (gains.paths x);
      nameless = nameless;
    }
  where
    was : KeepsPath start old (n ∷ p) p → (number_of (held (layer_of start.upper) p) ≡ Some key) ⊎ ((held (layer_of start.upper) p ≡ None) × (get start.upper key ≡ None))
    was (inl e) = inl (sym (ap number_of e) ∙ ap number_of d.before)
    was (inr g) =
        let two : Some g.number ≡ Some key = sym (ap number_of g.gained) ∙ ap number_of d.before in
        let same : g.number ≡ key = cc in
        inr (g.lacked, subst (λ (k : ℕ). get start.upper k ≡ None) same g.vacant)

    beside : (x : Path) → x ≢ p → KeepsPath start old (n ∷ p) x → KeepsPath start new p x
    beside x off (inl e) = inl (d.elsewhere x off ∙ e)
    beside x off (inr g) = inr (record { parent = parent-above n p x off g.parent; lacked = g.lacked; layer = g.layer; key = g.key; attributes = g.attributes; shown = g.shown; number = g.number; vacant = g.vacant; gained = d.elsewhere x off ∙ g.gained })

-- a file or link of a lower layer that is copied up is the one object that is new
module _ (old new : Layers) (p : Path) (c : Content) (mark : Option Path) (a : Attributes) (leaf : CopiesLeaf old new p c mark a) (j k : ℕ) (x : Option Inode) (shown : shows 0 (layers_of old) p ≡ Some (Contents j k x)) (lower : 0 < j) where
  lacked-there : held (layer_of old.upper) p ≡ None
  lacked-there = free-inode (upper_of old).inodes (held (layer_of old.upper) p) (through (layer_of old.upper) (lowers_of old) p) j k x shown lower

  beside-copy : (q r : Path) → q ≡ r ++ p → q ≢ p → KeepsPath old new p q
  beside-copy q [] e off = absurd (off e)
  beside-copy q (n ∷ r) e off = subst (KeepsPath old new p) (sym e) (inl (leaf.others.below n r ∙ sym (nothing-held old.upper p (ap holds_directory lacked-there) n r)))

  pub object-copied : AltersObject old new p a
  object-copied =
      record {
        key = leaf.number;
        number = ap number_of leaf.held_there;
        attributes =
            ap (object_attributes (layer_of new.upper)) leaf.held_there ∙ raw-attributes (lowers_of new) ((layer_of new.upper).inodes leaf.number)
            ∙ ap (option_map (λ (i : Inode). i.attributes)) leaf.inode;
        was = inr (lacked-there, leaf.vacant);
        stood = λ there. absurd (true≢false (sym there ∙ ap is_some leaf.vacant));
        seen = λ m off there. leaf.objects.seen m there;
        inodes = λ m off. leaf.objects.inodes m (λ e. off (cc));
        paths = λ q off. elim (place p q) [
          | inl found ↦ beside-copy q found.0 found.1 off
          | inr away ↦ leaf.others.paths q away
        ];
        nameless = leaf.objects.nameless;
      }
