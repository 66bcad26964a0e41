-- Other attributes of what the upper has, or gets first from the lower layers.
use Rattle.std.proofs.Common.{◌≡◌, ◌≢◌, ◌≤◌, ◌<◌, ℕ, suc, Bool, true, false, List, [], ◌∷◌, Option, None, Some, Result, Ok, Err, OnOk, OnErr, refl, sym, ap, ◌∙◌, subst, is_some, IsSome, length, arith}
use Rattle.std.specs.Option.{option_and_then, option_map_or}
use Rattle.std.specs.Prelude.{option_map}
use Rattle.std.specs.declared.alloc.AllocError.{AllocError}
use Rattle.slab.specs.Slab.{get}
use Rattle.ov_base.specs.declared.attributes.Attributes.{Attributes}
use Rattle.ov_base.specs.declared.redirect.Redirect.{Redirect}
use Rattle.ov_base.specs.declared.redirect.Redirect.TheVariants.{Absolute, Single}
use Rattle.plain_model.specs.Layers.{Path, Object, Directory, Named, Whiteout, Inode, Layer, held, below, cuts, Shown, Folder, Contents, over, unless, shows, IsLayer, AreLayers}
use Rattle.plain_model.specs.Tree.{IsThin}
use Rattle.plain_model.proofs.Uppers.{AgreeTo, agree-where, under-agree}
use Rattle.mount_laws.specs.Altered.{Alters}
use Rattle.mount_laws.proofs.Changed.{law_of_altered_inode, law_of_altered_directory}
use Rattle.mount_laws.specs.Attributes.{shown_attributes}
use Rattle.layer_tree.specs.AttributeChange.{attributes_of, attributes_at, SetsInode, SetsDirectory}
use Rattle.layer_tree.specs.Tree.{Tree, IsTree, IsDirectory, layer_of, inode_of, key_at}
use Rattle.layer_tree.specs.declared.node.Node.{Node}
use Rattle.merged_lookup.specs.declared.found.Found.{Found}
use Rattle.merged_lookup.specs.declared.found.Found.TheVariants as found
use Rattle.merged_lookup.specs.declared.layers.Layers.{Layers}
use Rattle.ov_base.specs.declared.place.Place.{Place}
use Rattle.merged_lookup.specs.declared.stack.Stack.{Stack}
use Rattle.merged_lookup.specs.Locating.{place_of}
use Rattle.merged_lookup.specs.Merged.{upper_of, layers_of, lowers_of, places_at, unless_cut, top_of, IsFound, IsStackOf, ShowsInode}
use Rattle.merged_lookup.proofs.Descending.{key-of}
use Rattle.merged_lookup.proofs.Filled.{raw_shown}
use Rattle.merged_lookup.proofs.Folders.{IsDirectoryWith, held-node}
use Rattle.merged_lookup.proofs.Inodes.{IsNamed}
use Rattle.merged_lookup.proofs.Looking.{head-places, head-unless}
use Rattle.copy_up.specs.Showing.{ShowsSame, StaysLayers, StaysThin}
use Rattle.copy_up.specs.Altering.{ShowsAttributes}
use Rattle.copy_up.proofs.Nodes.{table-some}
use Rattle.copy_up.proofs.Placing.{Alike, agree-all, IsHeldDirectory, top-held}
use Rattle.copy_up.proofs.Raising.{lowers-same, layer-raised, altered-inode-raised, altered-directory-raised}
use Rattle.copy_up.proofs.Copying.{NamesSame, alters-since}

-- directories of the same marks pass on alike
marks-alike : (k : ℕ) (x y : Attributes) (o : Bool) (r : Option Redirect) → Alike (Some (Directory k x o r)) (Some (Directory k y o r))
marks-alike k x y o None = record { spelled = λ n s. refl; cut_alike = λ c. refl }
marks-alike k x y o (Some (Absolute q)) = record { spelled = λ n s. refl; cut_alike = λ c. refl }
marks-alike k x y o (Some (Single m)) = record { spelled = λ n s. refl; cut_alike = λ c. refl }

-- an upper that passes on the same, and has no whiteout that it had not, stays thin
pub thin-agree : (old new : Layers) → new.lowers ≡ old.lowers → ((x : Path) → AgreeTo (layer_of old.upper) (layer_of new.upper) x) → ((x : Path) → held (layer_of new.upper) x ≡ Some Whiteout → held (layer_of old.upper) x ≡ Some Whiteout) → StaysThin old new
thin-agree old new low agree white h =
    subst (λ (Ls : List Layer). IsThin (layer_of new.upper) Ls) (sym (lowers-same old new low))
    (λ n p is. ap is_some (under-agree (layer_of old.upper) (layer_of new.upper) (lowers_of old) n p (agree p)) ∙ h n p (white (n ∷ p) is))

-- a directory of the upper that gets other attributes
module _ (old new : Layers) (low : new.lowers ≡ old.lowers) (p : Path) (key : ℕ) (a : Attributes) (s : SetsDirectory (layer_of old.upper) (layer_of new.upper) p key a) where
  directory-alike : Alike (held (layer_of new.upper) p) (held (layer_of old.upper) p)
  directory-alike = subst (λ (o : Option Object). Alike o (held (layer_of old.upper) p)) (sym s.now) (subst (λ (u : Option Object). Alike (Some (Directory key a s.opaque s.redirect)) u) (sym s.before) (marks-alike key a s.was s.opaque s.redirect))

  no-whiteout : (x : Path) → held (layer_of new.upper) x ≡ Some Whiteout → held (layer_of old.upper) x ≡ Some Whiteout
  no-whiteout x h = sym (s.elsewhere x (λ e. let z : Some (Directory key a s.opaque s.redirect) ≡ Some Whiteout = sym s.now ∙ ap (held (layer_of new.upper)) (sym e) ∙ h in cc)) ∙ h

  -- leaves the upper thin
  pub thin-directory : StaysThin old new
  thin-directory = thin-agree old new low (agree-all (layer_of old.upper) (layer_of new.upper) p directory-alike s.elsewhere) no-whiteout

  -- shows them and changes no more
  pub alters-directory : (marked : Bool) → (IsLayer (layer_of old.upper) → IsLayer (layer_of new.upper)) → AreLayers (layers_of old) → Alters (upper_of old) (upper_of new) (lowers_of old) marked p a
  alters-directory marked keep h = law_of_altered_directory (upper_of old) (upper_of new) (lowers_of old) (layer-raised old new low keep h.0, h.1) marked p a (altered-directory-raised old new low p a (record {
    number = key;
    old = s.was;
    opaque = s.opaque;
    redirect = s.redirect;
    before = s.before;
    now = s.now;
    elsewhere = s.elsewhere;
    inodes = s.inodes;
  }))

  -- also where it was placed just before
  pub alters-placed : (marked : Bool) (start : Layers) → ShowsSame start old → NamesSame start old → StaysLayers start old → (IsLayer (layer_of old.upper) → IsLayer (layer_of new.upper)) → AreLayers (layers_of start) → Alters (upper_of start) (upper_of new) (lowers_of start) marked p a
  alters-placed marked start same names stays keep h = alters-since start old (upper_of new) marked p a same names (alters-directory marked keep (stays h))

-- an inode of the upper that gets other attributes
module _ (old new : Layers) (low : new.lowers ≡ old.lowers) (key : ℕ) (a : Attributes) (s : SetsInode (layer_of old.upper) (layer_of new.upper) key a) where
  -- leaves the upper thin
  pub thin-inode : StaysThin old new
  thin-inode = thin-agree old new low (λ x. agree-where (layer_of old.upper) (layer_of new.upper) (λ _. Unit {0}) (λ k y u. tt) (λ y u. s.objects y) x tt) (λ x h. sym (s.objects x) ∙ h)

  -- shows them at each of its names and changes no more
  pub alters-inode : (marked : Bool) (p : Path) → held (layer_of old.upper) p ≡ Some (Named key) → (IsLayer (layer_of old.upper) → IsLayer (layer_of new.upper)) → AreLayers (layers_of old) → Alters (upper_of old) (upper_of new) (lowers_of old) marked p a
  alters-inode marked p named keep h = law_of_altered_inode (upper_of old) (upper_of new) (lowers_of old) (layer-raised old new low keep h.0, h.1) marked p a (altered-inode-raised old new low p a (record {
    number = key;
    inode = s.inode;
    named = named;
    before = s.before;
    now = s.now;
    inodes = s.inodes;
    objects = s.objects;
  }))

-- a directory is under this key, at the path
pub record StandsAt (t : Tree) (p : Path) (dir : ℕ) : Type 0 where
  pub key : key_at t p ≡ Some dir
  pub directory : IsDirectory t dir

-- a directory whose topmost place is in the upper is held there
pub upper-directory : (l : Layers) (p : Path) (s : Stack) → IsStackOf l p s → (top_of s.places.items).layer ≡ 0 → IsHeldDirectory (held (layer_of l.upper) p) (top_of s.places.items).key
upper-directory l p s is top =
    let U : Layer = layer_of l.upper in
    let rest : List Place = unless_cut (cuts U p) (places_at 1 (lowers_of l) (below U p)) in
    let some : 0 < length s.places.items = omega (arith, s.some_place) in
    top-held (held U p) rest s.places.items is.places (head-unless (cuts U p) (places_at 1 (lowers_of l) (below U p)) (head-places 1 (lowers_of l) (below U p))) some top

-- and stands there
pub stands-at : (l : Layers) (p : Path) (s : Stack) (dir : Place) → IsTree l.upper → IsStackOf l p s → (top_of s.places.items).layer ≡ 0 → dir ≡ top_of s.places.items → StandsAt l.upper p dir.key
stands-at l p s dir tree is top is_dir =
    let d = upper-directory l p s is top in
    let node : IsDirectoryWith (get l.upper (top_of s.places.items).key) d.attributes = held-node l.upper tree p (top_of s.places.items).key d.attributes d.opaque d.redirect d.is in
    subst (λ (x : Place). StandsAt l.upper p x.key) (sym is_dir) (record {
      key = key-of l.upper p (top_of s.places.items).key d.attributes d.opaque d.redirect d.is;
      directory = table-some (get l.upper (top_of s.places.items).key) d.attributes node;
    })

-- the attributes of a directory under a key
pub under-key : (t : Tree) (k : ℕ) (a : Attributes) → IsDirectoryWith (get t k) a → attributes_at t k ≡ Some a
under-key t k a d = ap (option_map attributes_of) d.is ∙ ap Some d.attributes

-- a directory that a lower layer shows is below the root, which is the upper's
pub lower-below : (l : Layers) (p : Path) (d : Place) (a : Attributes) → shows 0 (layers_of l) p ≡ Some (Folder d.layer d.key a) → 0 < d.layer → p ≢ []
lower-below l p d a shown lower e =
    let root : ◌≡◌ {A = Option Shown} (Some (Folder 0 0 (layer_of l.upper).root)) (Some (Folder d.layer d.key a)) = sym (ap (shows 0 (layers_of l)) e) ∙ shown in
    let first : 0 ≡ d.layer = cc in
    omega (arith, lower, first)

-- what is shown has one set of attributes
pub shown-folder : (l : Layers) (p : Path) (j k : ℕ) (a b : Attributes) → shows 0 (layers_of l) p ≡ Some (Folder j k a) → ShowsAttributes l p b → a ≡ b
shown-folder l p j k a b is shows = let two : Some a ≡ Some b = sym (ap shown_attributes is) ∙ shows in cc

pub shown-inode : (l : Layers) (p : Path) (j k : ℕ) (i : Inode) (b : Attributes) → shows 0 (layers_of l) p ≡ Some (Contents j k (Some i)) → ShowsAttributes l p b → i.attributes ≡ b
shown-inode l p j k i b is shows = let two : Some i.attributes ≡ Some b = sym (ap shown_attributes is) ∙ shows in cc

-- an upper that is thin after success, and the same after an allocation failure, stays thin
pub thin-either : {A : Type 0} (old new : Layers) (r : Result A AllocError) → new.lowers ≡ old.lowers → OnOk r (StaysThin old new) → OnErr r (new.upper ≡ old.upper) → StaysThin old new
thin-either old new (Ok u) low ok same = ok
thin-either old new (Err e) low ok same = thin-agree old new low
    (λ x. agree-where (layer_of old.upper) (layer_of new.upper) (λ _. Unit {0}) (λ k y u. tt) (λ y u. ap (λ (t : Tree). held (layer_of t) y) same) x tt)
    (λ x h. sym (ap (λ (t : Tree). held (layer_of t) x) same) ∙ h)

-- a place in layer i is of it
same-layer : (i m : ℕ) (d : Place) → ◌≡◌ {A = Option Place} (Some (record { layer = i; key = m })) (Some d) → i ≡ d.layer
same-layer i m d h = ap (λ (o : Option Place). option_map_or (λ (x : Place). x.layer) o i) h

over-from : (i : ℕ) (inodes : ℕ → Option Inode) (o : Option Object) (c : Bool) (s : Option Shown) (d : Place) → (place_of s ≡ Some d → suc i ≤ d.layer) → place_of (over i inodes o (unless c s)) ≡ Some d → i ≤ d.layer
over-from i inodes None true s d rest h = cc
over-from i inodes None false s d rest h = omega (arith, rest h)
over-from i inodes (Some Whiteout) c s d rest h = cc
over-from i inodes (Some (Directory m a b r)) c s d rest h = let e : i ≡ d.layer = same-layer i m d h in omega (arith, e)
over-from i inodes (Some (Named m)) c s d rest h = let e : i ≡ d.layer = same-layer i m d h in omega (arith, e)

-- layers numbered from i show objects of layers from i on
pub shown-from : (i : ℕ) (Ls : List Layer) (p : Path) (d : Place) → place_of (shows i Ls p) ≡ Some d → i ≤ d.layer
shown-from i [] p d h = cc
shown-from i (L ∷ Ls) p d h = over-from i L.inodes (held L p) (cuts L p) (shows (suc i) Ls (below L p)) d (shown-from (suc i) Ls (below L p) d) h

over-named : (U : Layer) (lowers : List Layer) (p q : Path) (o : Option Object) (c : Bool) (k : ℕ) (x : Option Inode) → held U p ≡ o → over 0 U.inodes o (unless c (shows 1 lowers q)) ≡ Some (Contents 0 k x) → IsNamed U p k x
over-named U lowers p q None true k x e h = cc
over-named U lowers p q None false k x e h = absurd (omega (arith, shown-from 1 lowers q (record { layer = 0; key = k }) (ap place_of h)))
over-named U lowers p q (Some Whiteout) c k x e h = cc
over-named U lowers p q (Some (Directory m a b r)) c k x e h = cc
over-named U lowers p q (Some (Named m)) c k x e h =
    let mk : m ≡ k = cc in
    let ix : U.inodes m ≡ x = cc in
    record { named = e ∙ ap (λ z. Some (Named z)) mk; inode = sym (ap U.inodes mk) ∙ ix }

-- an inode that the trees show as the upper's is named by it
pub raw-named : (l : Layers) (p : Path) (d : Place) (x : Option Inode) → d.layer ≡ 0 → raw_shown l p ≡ Some (Contents d.layer d.key x) → IsNamed (layer_of l.upper) p d.key x
raw-named l p d x first h =
    over-named (layer_of l.upper) (lowers_of l) p (below (layer_of l.upper) p) (held (layer_of l.upper) p) (cuts (layer_of l.upper) p) d.key x refl (h ∙ ap (λ j. Some (Contents j d.key x)) first)

-- and so is one that is shown as the upper's
pub upper-named : (l : Layers) (p : Path) (d : Place) (x : Option Inode) → d.layer ≡ 0 → shows 0 (layers_of l) p ≡ Some (Contents d.layer d.key x) → IsNamed (upper_of l) p d.key x
upper-named l p d x first h =
    over-named (upper_of l) (lowers_of l) p (below (layer_of l.upper) p) (held (layer_of l.upper) p) (cuts (layer_of l.upper) p) d.key x refl (h ∙ ap (λ j. Some (Contents j d.key x)) first)

-- where an inode is seen, something stands
pub inode-there : (x : Option Node) (i : Inode) → option_and_then inode_of x ≡ Some i → IsSome x
inode-there None i h = cc
inode-there (Some n) i h = refl

-- what is found, where it is an inode
pub found-inode : (l : Layers) (p : Path) (f : Found) (d : Place) → f ≡ found.Inode d → IsFound l p f → ShowsInode l p d
found-inode l p f d e h = let P : Found → Type 0 = λ f. IsFound l p f in subst P e h
