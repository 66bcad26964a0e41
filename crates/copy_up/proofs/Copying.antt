-- A file or link that the upper gets in a directory whose missing parents were placed: a new one, or one of a lower layer copied up.
use Rattle.std.proofs.Common.{◌≡◌, ◌↔◌, ◌<◌, ℕ, zero, suc, Bool, true, false, ◌&&◌, cond, List, [], ◌∷◌, ◌++◌, Option, None, Some, IsSome, IsTrue, is_some, option_map, refl, sym, ap, ◌∙◌, subst, inl, inr, arith, Result, Ok, Err, IfOk}
use Rattle.std.proofs.lemmas.Bool.{false≢true}
use Rattle.std.specs.Option.{option_and_then}
use Rattle.std.specs.Result.{MatchResult}
use Rattle.slab.specs.Slab.{get}
use Rattle.ov_base.specs.declared.attributes.Attributes.{Attributes}
use Rattle.ov_base.specs.declared.bytes.Content.{Content}
use Rattle.ov_base.specs.declared.bytes.Content.TheVariants.{File, SymbolicLink}
use Rattle.plain_model.specs.Layers.{Name, Path, Object, Directory, Named, Whiteout, Inode, Layer, held, below, cuts, Shown, Contents, over, unless, shows, through, is_file, file_or, content_over, fill, holds_directory, IsLayer, AreLayers}
use Rattle.plain_model.specs.Tree.{IsThin, merged}
use Rattle.mount_laws.specs.Leaves.{PlacesLeaf}
use Rattle.mount_laws.specs.Altered.{altered, Alters}
use Rattle.mount_laws.proofs.Places.{longer}
use Rattle.mount_laws.proofs.Alters.{law_of_thin}
use Rattle.mount_laws.proofs.Changed.{law_of_copied_leaf}
use Rattle.layer_tree.specs.Tree.{Tree, layer_of, inode_of, new_inode, seen_object, leads_on, Inserts, SetsPath}
use Rattle.layer_tree.specs.declared.node.Object.{Object as NewObject}
use Rattle.layer_tree.specs.declared.node.Object.TheVariants as object
use Rattle.layer_tree.specs.Nameless.{KeepsObjects}
use Rattle.layer_tree.proofs.Nameless.{keeps_then, vacant_before}
use Rattle.merged_lookup.specs.declared.layers.Layers.{Layers}
use Rattle.ov_base.specs.declared.place.Place.{Place}
use Rattle.merged_lookup.specs.declared.stack.Stack.{Stack}
use Rattle.merged_lookup.specs.Merged.{top_of, upper_of, layers_of, lowers_of, IsStackOf}
use Rattle.copy_up.specs.Showing.{is_object, ShowsSame, StaysLayers, StaysThin, HasPlace, KeepsPath, GainsParents}
use Rattle.copy_up.specs.Leaves.{CopiesLeaf, copy_mark}
use Rattle.copy_up.proofs.Frames.{lacking, through-same, others-then}
use Rattle.copy_up.proofs.Placing.{nothing-held, free-directory}
use Rattle.copy_up.proofs.Raising.{layer-raised, leaf-raised}
use Rattle.copy_up.proofs.Keeping.{lowers-same, linked-by, lift, place-of}

-- an inode of one name
abbrev pub leaf_of : Content → Option Path → Attributes → Inode
leaf_of c mark a = record { content = c; attributes = a; links = 1; mark = mark }

-- an object that is to be a file or link has one name there
pub record IsLeaf (o : NewObject) (i : Inode) : Type 0 where
  pub one : i.links ≡ 1
  pub seen : (key : ℕ) → seen_object key o ≡ Named key

pub leaf-object : (o : NewObject) (i : Inode) → new_inode o ≡ Some i → IsLeaf o i
leaf-object (object.Directory a m) i e = cc
leaf-object (object.Inode c a) i e = let is : leaf_of c None a ≡ i = cc in record { one = sym (ap (λ (x : Inode). x.links) is); seen = λ key. refl }
leaf-object (object.Marked q a) i e = let is : leaf_of (File []) (Some q.value) a ≡ i = cc in record { one = sym (ap (λ (x : Inode). x.links) is); seen = λ key. refl }

-- and no redirect
pub leaf-leads : (o : NewObject) → IsSome (new_inode o) → IsTrue (leads_on (Some (seen_object 0 o)))
leaf-leads (object.Directory a m) h = absurd (false≢true h)
leaf-leads (object.Inode c a) h = refl
leaf-leads (object.Marked q a) h = refl

-- a layer that gets a file or link, by its keys
pub leaf-placed : (u v : Tree) (dir : ℕ) (n : Name) (p : Path) (key : ℕ) (o : NewObject) (i : Inode) → new_inode o ≡ Some i → HasPlace (layer_of u) dir n p → SetsPath (layer_of u) (layer_of v) (n ∷ p) (seen_object key o) → Inserts u v dir n o key → PlacesLeaf (layer_of u) (layer_of v) (n ∷ p) key i
leaf-placed u v dir n p key o i is place sets made =
    let leaf = leaf-object o i is in
    record {
      here = sets.there ∙ ap Some (leaf.seen key);
      beneath = λ k r. sets.elsewhere (k ∷ r ++ (n ∷ p)) (λ e. longer (n ∷ p) k r (sym e)) ∙ nothing-held u (n ∷ p) (free-directory (held (layer_of u) (n ∷ p)) place.free) k r;
      elsewhere = λ x out. sets.elsewhere x (λ e. out [] e);
      free = ap (option_and_then inode_of) made.fresh;
      inode = made.inode ∙ is;
      one = leaf.one;
      inodes = made.inodes;
    }

-- what holds of an answer makes more hold of it
pub answer-more : {A E : Type 0} (P Q : A → Type 0) (F : E → Type 0) (r : Result A E) → MatchResult r P F → ((x : A) → P x → Q x) → IfOk r Q
answer-more P Q F (Ok x) h more = more x h
answer-more P Q F (Err e) h more = tt

-- the upper holds nothing where a lower layer's file or link is shown
pub free-inode : (inodes : ℕ → Option Inode) (o : Option Object) (s : Option Shown) (j k : ℕ) (x : Option Inode) → over 0 inodes o s ≡ Some (Contents j k x) → 0 < j → o ≡ None
free-inode inodes None s j k x h low = refl
free-inode inodes (Some Whiteout) s j k x h low = cc
free-inode inodes (Some (Directory m a b r)) s j k x h low = cc
free-inode inodes (Some (Named m)) s j k x h low = let e : 0 ≡ j = cc in absurd (omega (arith, e, low))

-- the names of the same inodes in two uppers
abbrev pub NamesSame : Layers → Layers → Type 0
NamesSame start old = (x : Path) (k : ℕ) → (held (layer_of old.upper) x ≡ Some (Named k)) ↔ (held (layer_of start.upper) x ≡ Some (Named k))

-- what is altered over an upper whose missing parents were placed is altered over the upper before that
pub alters-since : (start old : Layers) (V : Layer) (marked : Bool) (p : Path) (a : Attributes) → ShowsSame start old → NamesSame start old → Alters (upper_of old) V (lowers_of old) marked p a → Alters (upper_of start) V (lowers_of start) marked p a
alters-since start old V marked p a same names g =
    let low : lowers_of old ≡ lowers_of start = lowers-same start old same.lowers in
    let U : Layer = upper_of start in
    let W : Layer = upper_of old in
    record {
      layers = subst (λ (Ls : List Layer). AreLayers (V ∷ Ls)) low g.layers;
      here = sym (ap (λ Ls. merged V Ls p) low) ∙ g.here ∙ ap (option_map (altered marked a)) (same.sights p);
      linked = λ q apart l. sym (ap (λ Ls. merged V Ls q) low) ∙ g.linked q apart (linked-by U W (λ x k. (names x k).1) p q l) ∙ ap (option_map (altered marked a)) (same.sights q);
      others = λ q apart off. sym (ap (λ Ls. merged V Ls q) low) ∙ g.others q apart (λ l. off (linked-by W U (λ x k. (names x k).0) p q l)) ∙ same.sights q;
      earlier = λ q z l. lift (linked-by W U (λ x k. (names x k).0) q z) (g.earlier q z l);
      later = λ q z l. g.later q z (linked-by U W (λ x k. (names x k).1) q z l);
    }

-- a file or link of a lower layer, below parents that were placed
module _ (start old : Layers) (same : ShowsSame start old) (n : Name) (q : Path) (gains : GainsParents start old (n ∷ q)) (j k : ℕ) (x : Option Inode) (shown : shows 0 (layers_of start) (n ∷ q) ≡ Some (Contents j k x)) (lower : 0 < j) where
  -- is nothing that the upper held at first, nor holds after them
  lacked-first : held (layer_of start.upper) (n ∷ q) ≡ None
  lacked-first = free-inode (upper_of start).inodes (held (layer_of start.upper) (n ∷ q)) _ j k x shown lower

  lacked : held (layer_of old.upper) (n ∷ q) ≡ None
  lacked = by (gains.paths (n ∷ q))
    where
      by : KeepsPath start old (n ∷ q) (n ∷ q) → held (layer_of old.upper) (n ∷ q) ≡ None
      by (inl e) = e ∙ lacked-first
      by (inr g) = absurd (longer (n ∷ q) g.parent.0 g.parent.1 g.parent.2)

  -- is shown as before
  shown-still : shows 0 (layers_of old) (n ∷ q) ≡ Some (Contents j k x)
  shown-still = lacking old (n ∷ q) lacked ∙ through-same start old (n ∷ q) same ∙ sym (lacking start (n ∷ q) lacked-first) ∙ shown

  -- has a place in the upper
  pub copy-place : (parent : Stack) (dir : Place) → IsStackOf old q parent → (top_of parent.places.items).layer ≡ 0 → dir ≡ top_of parent.places.items → HasPlace (layer_of old.upper) dir.key n q
  copy-place parent dir is top is_dir = subst (λ (d : Place). HasPlace (layer_of old.upper) d.key n q) (sym is_dir) (place-of old q parent n is top (ap is_object lacked))

-- one that is copied is altered and no more
alters-at : (U V : Layer) (lowers : List Layer) → AreLayers (U ∷ lowers) → AreLayers (V ∷ lowers) → (n : Name) (q : Path) (j l key : ℕ) (i : Inode) (mark : Option Path) (a : Attributes) (marked : Bool) → is_some mark ≡ (marked && is_file i.content) → shows 0 (U ∷ lowers) (n ∷ q) ≡ Some (Contents j l (Some i)) → 0 < j → PlacesLeaf U V (n ∷ q) key (leaf_of i.content mark a) → Alters U V lowers marked (n ∷ q) a
alters-at U V lowers b c n q zero l key i mark a marked e shown lower placed = absurd (omega (arith, lower))
alters-at U V lowers b c n q (suc j) l key i mark a marked e shown lower placed = law_of_copied_leaf U V lowers b c n q j l key i a shown marked mark e placed

-- a copy of a lower layer's file or link in the upper, under its key
module _ (start old new : Layers) (same : ShowsSame start old) (n : Name) (q : Path) (gains : GainsParents start old (n ∷ q)) (low : new.lowers ≡ old.lowers) (key : ℕ) (copy : Inode) (placed : PlacesLeaf (layer_of old.upper) (layer_of new.upper) (n ∷ q) key copy) where
  -- shows what it is to show
  copy-raised : (c : Content) → (fill (lowers_of start) copy).content ≡ c → PlacesLeaf (upper_of old) (upper_of new) (n ∷ q) key (leaf_of c copy.mark copy.attributes)
  copy-raised c is =
      let full : fill (lowers_of old) copy ≡ leaf_of c copy.mark copy.attributes =
      (λ j. record { content = (ap (λ (Ls : List Layer). content_over Ls copy.mark copy.content) (lowers-same start old same.lowers) ∙ is) j; attributes = copy.attributes; links = placed.one j; mark = copy.mark }) in
      subst (PlacesLeaf (upper_of old) (upper_of new) (n ∷ q) key) full (leaf-raised old new low (n ∷ q) key copy placed)

  pub leaf-copied : StaysLayers start old → NamesSame start old → (IsLayer (layer_of old.upper) → IsLayer (layer_of new.upper)) → (j l : ℕ) (i : Inode) → shows 0 (layers_of start) (n ∷ q) ≡ Some (Contents j l (Some i)) → 0 < j → (fill (lowers_of start) copy).content ≡ i.content → get old.upper key ≡ None → KeepsObjects old.upper new.upper (Some key) → (leaf : CopiesLeaf start new (n ∷ q) i.content copy.mark copy.attributes) × (leaf.number ≡ key)
  leaf-copied stays names keep j l i shown lower is vacant kept = (
    record {
      lowers = low ∙ same.lowers;
      number = key;
      held_there = placed.here;
      inode = (copy-raised i.content is).inode;
      alters = λ h marked marks. alters-since start old (upper_of new) marked (n ∷ q) copy.attributes same names (alters-at (upper_of old) (upper_of new) (lowers_of old) (stays h) (layer-raised old new low keep (stays h).0, (stays h).1) n q j l key i copy.mark copy.attributes marked marks (shown-still start old same n q gains j l (Some i) shown lower) lower (copy-raised i.content is));
      vacant = vacant_before start.upper old.upper None gains.objects key vacant;
      others = others-then start old new (n ∷ q) gains low placed.elsewhere
          (λ m r. ap is_object (nothing-held old.upper (n ∷ q) (ap holds_directory (lacked start old same n q gains j l (Some i) shown lower)) m r))
          placed.beneath;
      objects = keeps_then start.upper old.upper new.upper (Some key) gains.objects kept;
    },
    refl,
  )

  -- leaves no needless whiteouts
  pub thin-copied : StaysThin start old → StaysThin start new
  thin-copied thin h = subst (λ (Ls : List Layer). IsThin (layer_of new.upper) Ls) (sym (lowers-same old new low)) ((law_of_thin (layer_of old.upper) (layer_of new.upper) (lowers_of old) (thin h) n q).leaf key copy placed)

-- what comes through a layer is there
unless-some : (c : Bool) (s : Option Shown) (x : Shown) → unless c s ≡ Some x → s ≡ Some x
unless-some true s x h = cc
unless-some false s x h = h

-- a copy whose mark is the spelling of a file's path shows the file's bytes
pub marked-copy : (l : Layers) (p mark : Path) (j k : ℕ) (i : Inode) (bytes : List ℕ) → shows 0 (layers_of l) p ≡ Some (Contents j k (Some i)) → 0 < j → is_file i.content ≡ true → mark ≡ below (layer_of l.upper) p → content_over (lowers_of l) (Some mark) (File bytes) ≡ i.content
marked-copy l p mark j k i bytes shown lower file is =
    let U : Layer = layer_of l.upper in
    let bare : held U p ≡ None = free-inode (upper_of l).inodes (held U p) (through U (lowers_of l) p) j k (Some i) shown lower in
    let lowly : shows 1 (lowers_of l) (below U p) ≡ Some (Contents j k (Some i)) = unless-some (cuts U p) (shows 1 (lowers_of l) (below U p)) (Contents j k (Some i)) (sym (lacking l p bare) ∙ shown) in
    ap (λ (q : Path). content_over (lowers_of l) (Some q) (File bytes)) is ∙ ap (file_or (File bytes)) lowly ∙ by i.content file
  where
    by : (c : Content) → is_file c ≡ true → file_or (File bytes) (Some (Contents j k (Some (record i { content = c })))) ≡ c
    by (File b) f = refl
    by (SymbolicLink t) f = absurd (false≢true f)

-- what a mark says that is there: a file is marked, with the spelling of its path
pub record IsMark (U : Layer) (p : Path) (c : Content) (mark : Path) : Type 0 where
  pub file : is_file c ≡ true
  pub spelled : mark ≡ below U p

pub is-mark : (low : Bool) (U : Layer) (p : Path) (c : Content) (mark : Path) → Some mark ≡ copy_mark low U p c → IsMark U p c mark
is-mark true U p (File bytes) mark h = record { file = refl; spelled = cc }
is-mark true U p (SymbolicLink t) mark h = cc
is-mark false U p c mark h = cc

-- it is there of a file alone, and where the option is on
pub marks-file : (low : Bool) (U : Layer) (p : Path) (c : Content) → is_some (copy_mark low U p c) ≡ (low && is_file c)
marks-file low U p c = of (low && is_file c)
  where
    of : (b : Bool) → is_some (cond b (Some (below U p)) None) ≡ b
    of true = refl
    of false = refl
