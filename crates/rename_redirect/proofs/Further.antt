-- A further name of an inode of a layer, and what it leaves.
use Rattle.std.proofs.Common.{◌≡◌, ◌≢◌, ◌<◌, ◌^◌, ◌+◌, ℕ, [], ◌∷◌, ◌++◌, Option, Some, None, is_some, true, false, refl, sym, ap, ◌∙◌, inl, inr, arith}
use Rattle.std.specs.Option.{option_and_then}
use Rattle.std.specs.Prelude.{option_map}
use Rattle.std.proofs.lemmas.Bool.{false≢true}
use Rattle.slab.specs.Slab.{get}
use Rattle.plain_model.specs.Layers.{Name, Path, Object, Directory, Named, Inode, Layer, held, IsLayer}
use Rattle.plain_model.proofs.Paths.{cases_pair}
use Rattle.mount_laws.specs.Leaves.{PlacesLeaf}
use Rattle.mount_laws.specs.Linking.{AddsName}
use Rattle.mount_laws.proofs.Places.{longer}
use Rattle.layer_tree.specs.Table.{object_key}
use Rattle.layer_tree.specs.Tree.{Tree, layer_of, key_at, child, inode_at, inode_of, new_inode, seen_object, IsHeldTogether, SetsPath, SameObjects, SameTree, Inserts}
use Rattle.layer_tree.specs.Link.{Links, HasCountRoom, with_more}
use Rattle.layer_tree.specs.Nameless.{IsNameless, KeepsObjects}
use Rattle.layer_tree.specs.declared.node.Node.{Node}
use Rattle.layer_tree.specs.declared.node.Node.TheVariants as node
use Rattle.layer_tree.specs.declared.node.Object.{Object as NewObject}
use Rattle.layer_tree.proofs.Changing.{same_presence}
use Rattle.layer_tree.proofs.Keeping.{named_key}
use Rattle.layer_tree.proofs.Nameless.{nameless_apart, keeps_same, keeps_leaf, keeps_then}
use Rattle.merged_lookup.proofs.Descending.{key-of}
use Rattle.copy_up.specs.Showing.{is_object, HasPlace}
use Rattle.copy_up.proofs.Copying.{leaf-object, leaf-placed}
use Rattle.copy_up.proofs.Placing.{free-directory, nothing-held}
use Rattle.rename_redirect.specs.Linking.{KeepsDirectories, CopiesName}

-- an inode that a layer names is there
pub there : (x : Option Inode) → is_some x ≡ true → (i : Inode) × (x ≡ Some i)
there None h = absurd (false≢true h)
there (Some i) h = (i, refl)

-- a path that names an inode leads to its key
names-key : (t : Tree) (p : Path) (k : ℕ) → held (layer_of t) p ≡ Some (Named k) → key_at t p ≡ Some k
names-key t [] k h = absurd (cc)
names-key t (n ∷ p) k h = named_key t n p k h

-- where one path that held no object is set, each directory stays
pub sets-directories : (U V : Layer) (p : Path) (o : Object) → is_object (held U p) ≡ false → SetsPath U V p o → KeepsDirectories U V
sets-directories U V p o free sets x k a b r h = sets.elsewhere x (λ e. let z : is_object (Some (Directory k a b r)) ≡ false = sym (ap is_object h) ∙ ap (λ y. is_object (held U y)) e ∙ free in false≢true (sym z)) ∙ h

-- where another path that held no object is set, a place stays
pub place-stays : (U V : Layer) (p : Path) (o : Object) (dir : ℕ) (n : Name) (q : Path) → is_object (held U p) ≡ false → SetsPath U V p o → n ∷ q ≢ p → HasPlace U dir n q → HasPlace V dir n q
place-stays U V p o dir n q free sets off h =
    record {
      attributes = h.attributes;
      opaque = h.opaque;
      redirect = h.redirect;
      directory = sets-directories U V p o free sets q dir h.attributes h.opaque h.redirect h.directory;
      free = ap is_object (sets.elsewhere (n ∷ q) off) ∙ h.free;
    }

-- an inode gets a further name in a directory to which a path leads
module _ (old new : Tree) (dir : ℕ) (n : Name) (key : ℕ) (l : Links old new dir n key) (q : Path) (place : HasPlace (layer_of old) dir n q) (p : Path) (named : held (layer_of old) p ≡ Some (Named key)) where
  place-key : key_at old q ≡ Some dir
  place-key = key-of old q dir place.attributes place.opaque place.redirect place.directory

  -- what has no name has none
  nameless-linked : (k : ℕ) → IsNameless old k → IsNameless new k
  nameless-linked k h =
      record {
        present = same_presence old new k (l.seen k) ∙ h.present;
        not_root = h.not_root;
        unnamed = λ d m led. elim (cases_pair d dir m n) [
          | inl both ↦
              let to : child new d m ≡ Some key = ap (λ (x : ℕ). child new x m) both.0 ∙ ap (child new dir) both.1 ∙ ap (option_and_then object_key) l.binds.at in
              let same : key ≡ k = (let z : Some key ≡ Some k = sym to ∙ led in cc) in
              nameless_apart old k h p key (names-key old p key named) same
          | inr off ↦ h.unnamed d m (sym (ap (option_and_then object_key) (l.binds.others d m off)) ∙ led)
        ];
        bare = λ m. ap (option_and_then object_key) (l.binds.others k m (λ e f. nameless_apart old k h q dir place-key (sym e))) ∙ h.bare m;
      }

  -- the inode is the one that changed
  pub keeps-linked : KeepsObjects old new (Some key)
  keeps-linked = record { seen = λ k is. l.seen k; inodes = λ k off. l.inodes k (λ e. off (ap Some (sym e))); nameless = nameless-linked }

  -- the layer is one with the name added
  pub adds-name : IsHeldTogether (layer_of old) → SetsPath (layer_of old) (layer_of new) (n ∷ q) (Named key) → AddsName (layer_of old) (layer_of new) p (n ∷ q)
  adds-name together sets =
      let i = there (inode_at old key) (together.present p key named) in
      record {
        number = key;
        inode = i.0;
        source = named;
        before = i.1;
        now = l.linked ∙ ap (option_map with_more) i.1;
        inodes = l.inodes;
        here = sets.there;
        beneath = λ k r. sets.elsewhere (k ∷ r ++ (n ∷ q)) (λ e. longer (n ∷ q) k r (sym e)) ∙ nothing-held old (n ∷ q) (free-directory (held (layer_of old) (n ∷ q)) place.free) k r;
        elsewhere = λ x out. sets.elsewhere x (λ e. out [] e);
      }

-- what is kept by two changes of one inode
pub keeps-both : (a b c : Tree) (key : ℕ) → KeepsObjects a b (Some key) → KeepsObjects b c (Some key) → KeepsObjects a c (Some key)
keeps-both a b c key s t =
    record {
      seen = λ k is. t.seen k (same_presence a b k (s.seen k is) ∙ is) ∙ s.seen k is;
      inodes = λ k off. t.inodes k off ∙ s.inodes k off;
      nameless = λ k h. t.nameless k (s.nameless k h);
    }

-- the count of a new inode has room
pub new-room : (t : Tree) (key : ℕ) (i : Inode) → inode_at t key ≡ Some i → i.links ≡ 1 → HasCountRoom (get t key)
new-room t key i is one = of (get t key) is
  where
    few : (links : ℕ) → links ≡ 1 → links + 1 < 2 ^ 64
    few links e = omega (arith, e)

    of : (o : Option Node) → option_and_then inode_of o ≡ Some i → HasCountRoom o
    of None h = absurd (cc)
    of (Some (node.Directory d)) h = absurd (cc)
    of (Some (node.Inode x)) h =
        let e : ◌≡◌ {A = Inode} (record { content = x.content; attributes = x.attributes; links = x.links; mark = option_map (λ b. b.value) x.mark }) i = cc in
        few x.links (ap (λ (z : Inode). z.links) e ∙ one)

-- where the same is held a place stays
place-same : (U V : Layer) (dir : ℕ) (n : Name) (p : Path) → SameObjects U V → HasPlace U dir n p → HasPlace V dir n p
place-same U V dir n p same h =
    record {
      attributes = h.attributes;
      opaque = h.opaque;
      redirect = h.redirect;
      directory = same p ∙ h.directory;
      free = ap is_object (same (n ∷ p)) ∙ h.free;
    }

-- a new inode in a layer in which room was made
module _ (start old new : Tree) (same : SameTree start old) (alike : SameObjects (layer_of start) (layer_of old)) (from : ℕ) (n : Name) (o : NewObject) (copy : Inode) (is : new_inode o ≡ Some copy) (key : ℕ) (i : Inserts old new from n o key) (sets : (path : Path) → key_at old path ≡ Some from → SetsPath (layer_of old) (layer_of new) (n ∷ path) (seen_object key o)) (p : Path) (first : HasPlace (layer_of start) from n p) where
  first-place : HasPlace (layer_of old) from n p
  first-place = place-same (layer_of start) (layer_of old) from n p alike first

  first-key : key_at old p ≡ Some from
  first-key = key-of old p from first-place.attributes first-place.opaque first-place.redirect first-place.directory

  first-sets : SetsPath (layer_of old) (layer_of new) (n ∷ p) (Named key)
  first-sets = let s = sets p first-key in record { there = s.there ∙ ap Some ((leaf-object o copy is).seen key); elsewhere = s.elsewhere }

  first-leaf : PlacesLeaf (layer_of start) (layer_of new) (n ∷ p) key copy
  first-leaf =
      let leaf = leaf-placed old new from n p key o copy is first-place (sets p first-key) i in
      record {
        here = leaf.here;
        beneath = leaf.beneath;
        elsewhere = λ x out. leaf.elsewhere x out ∙ alike x;
        free = sym (same.inodes key) ∙ leaf.free;
        inode = leaf.inode;
        one = leaf.one;
        inodes = λ k off. leaf.inodes k off ∙ same.inodes k;
      }

  first-kept : KeepsObjects start new (Some key)
  first-kept = keeps_then start old new (Some key) (keeps_same start old same) (keeps_leaf old new from n o key i p first-key)

  first-directories : KeepsDirectories (layer_of start) (layer_of new)
  first-directories x k b o r h = sets-directories (layer_of old) (layer_of new) (n ∷ p) (Named key) first-place.free first-sets x k b o r (alike x ∙ h)

  -- leaves the place of another name
  module _ (to : ℕ) (m : Name) (q : Path) (second : HasPlace (layer_of start) to m q) (off : m ∷ q ≢ n ∷ p) where
    pub second-place : HasPlace (layer_of new) to m q
    second-place = place-stays (layer_of old) (layer_of new) (n ∷ p) (Named key) to m q first-place.free first-sets off (place-same (layer_of start) (layer_of old) to m q alike second)

    -- which it gets
    module _ (last : Tree) (l : Links new last to m key) (named : (path : Path) → key_at new path ≡ Some to → SetsPath (layer_of new) (layer_of last) (m ∷ path) (Named key)) where
      second-sets : SetsPath (layer_of new) (layer_of last) (m ∷ q) (Named key)
      second-sets = named q (key-of new q to second-place.attributes second-place.opaque second-place.redirect second-place.directory)

      pub copies-name : IsHeldTogether (layer_of new) → (IsLayer (layer_of start) → IsLayer (layer_of new)) → CopiesName (layer_of start) (layer_of last) (n ∷ p) (m ∷ q) copy
      copies-name together keep =
          record {
            copied = layer_of new;
            number = key;
            leaf = first-leaf;
            lawful = keep;
            further = adds-name new last to m key l q second-place (n ∷ p) first-sets.there together second-sets;
          }

      -- the first name stays
      pub keeps-first : held (layer_of last) (n ∷ p) ≡ Some (Named key)
      keeps-first = second-sets.elsewhere (n ∷ p) (λ e. off (sym e)) ∙ first-sets.there

      pub copies-kept : KeepsObjects start last (Some key)
      copies-kept = keeps-both start new last key first-kept (keeps-linked new last to m key l q second-place (n ∷ p) first-sets.there)

      pub copies-directories : KeepsDirectories (layer_of start) (layer_of last)
      copies-directories x k b o r h = sets-directories (layer_of new) (layer_of last) (m ∷ q) (Named key) second-place.free second-sets x k b o r (first-directories x k b o r h)
