-- Files of the upper that a path shows or an open makes are live.
use Rattle.std.proofs.Common.{◌≡◌, ◌↔◌, ℕ, suc, Bool, true, false, cond, List, [], ◌∷◌, Option, None, Some, refl, sym, ap, ◌∙◌, ◌⊎◌, inl, inr, is_none, is_some}
use Rattle.std.proofs.lemmas.Bool.{cases_Bool, false≢true}
use Rattle.ov_base.specs.declared.attributes.Attributes.{Attributes}
use Rattle.ov_base.specs.declared.bytes.Content.{Content}
use Rattle.ov_base.specs.declared.bytes.Content.TheVariants.{File}
use Rattle.ov_base.specs.declared.call.CallOf.TheVariants.{Open}
use Rattle.ov_base.specs.declared.call.OpenFlags.{OpenFlags}
use Rattle.ov_base.specs.declared.node_id.NodeId.{NodeId}
use Rattle.ov_base.specs.declared.node_id.NodeId.TheVariants.{New}
use Rattle.plain_model.specs.Layers.{Name, Path, Object, Directory, Named, Whiteout, Inode, Layer, held, below, cuts, Shown, Contents, unless, over, shows}
use Rattle.plain_model.specs.Tree.{same_id, Node, Branch, Leaf, Origin, Own, Untouched, Tree, node_at, node_of, with_name, put, lead, face, SeenLeaf, see_inode, merged, AreLinked}
use Rattle.plain_model.specs.Machine.{State}
use Rattle.plain_model.specs.Changes.{fresh, way_of, made_way, change, opened, tree_after, after}
use Rattle.plain_model.proofs.Keeping.{put-here, put-there}
use Rattle.plain_model.proofs.Merged.{named-seen}
use Rattle.plain_model.proofs.Paths.{paths_tell, ids_tell}
use Rattle.mount_laws.specs.Looks.{IsMountOf}
use Rattle.mount_laws.specs.Leaves.{GainsLeaf, MakesFile}
use Rattle.mount_laws.specs.OpenFiles.{LawOfLiveOne, LawOfLiveShown, LawOfLiveMade}

-- a layer's number is shown by no layer after it
number-step :
    (j : ℕ) (inodes : ℕ → Option Inode) (o : Option Object) (c : Bool) (s : Option Shown) (k : ℕ) (x : Option Inode) →
    (s ≡ Some (Contents 0 k x) → ⊥) → over (suc j) inodes o (unless c s) ≡ Some (Contents 0 k x) → ⊥
number-step j inodes None true s k x not h = cc
number-step j inodes None false s k x not h = not h
number-step j inodes (Some Whiteout) c s k x not h = cc
number-step j inodes (Some (Directory n a o r)) c s k x not h = cc
number-step j inodes (Some (Named n)) c s k x not h = cc

from-below : (j : ℕ) (Ls : List Layer) (p : Path) (k : ℕ) (x : Option Inode) → shows (suc j) Ls p ≡ Some (Contents 0 k x) → ⊥
from-below j [] p k x h = cc
from-below j (L ∷ Ls) p k x h =
    number-step j L.inodes (held L p) (cuts L p) (shows (suc (suc j)) Ls (below L p)) k x (from-below (suc j) Ls (below L p) k x) h

-- what the upper's inode is shown by is its name
shown-held :
    (U : Layer) (o : Option Object) (c : Bool) (s : Option Shown) (k : ℕ) (i : Inode) →
    ((x : Option Inode) → s ≡ Some (Contents 0 k x) → ⊥) → over 0 U.inodes o (unless c s) ≡ Some (Contents 0 k (Some i)) →
    (o ≡ Some (Named k)) × (U.inodes k ≡ Some i)
shown-held U None true s k i not h = cc
shown-held U None false s k i not h = absurd (not (Some i) h)
shown-held U (Some Whiteout) c s k i not h = cc
shown-held U (Some (Directory n a o r)) c s k i not h = cc
shown-held U (Some (Named n)) c s k i not h =
    let number : n ≡ k = cc in
    let inode : U.inodes n ≡ Some i = cc in
    (ap (λ n. Some (Named n)) number, ap U.inodes (sym number) ∙ inode)

-- a node that is seen as a file of the upper is one
own-leaf :
    (o : Option Node) (content : Content) (a : Attributes) (m : Bool) (l : ℕ) → face o ≡ Some (SeenLeaf content a (Own m) l) →
    o ≡ Some (Leaf content a (Own m) l)
own-leaf None content a m l h = cc
own-leaf (Some (Branch x b names c)) content a m l h = cc
own-leaf (Some (Leaf content x (Own z) c)) y a m l h = cc
own-leaf (Some (Leaf content x (Untouched k) c)) y a m l h = cc

-- the number that a name of the upper has is one
pub one-number : (U : Layer) (p : Path) (j k : ℕ) → held U p ≡ Some (Named j) → held U p ≡ Some (Named k) → j ≡ k
one-number U p j k h g = let z : Some (Named j) ≡ Some (Named k) = sym h ∙ g in cc

-- two live files, one of which has a name, are one node exactly where they are one inode
pub law_of_live_one : LawOfLiveOne
law_of_live_one U t p d e k j at l m = (
  λ h. one-number U p k j ((l.paths p).0 at) ((m.paths p).0 (at ∙ ap Some h)),
  λ h. let z : Some d ≡ Some e = sym at ∙ (m.paths p).1 ((l.paths p).0 at ∙ ap (λ n. Some (Named n)) h) in cc,
)

-- where one path leads to a node and names an inode, the node's paths are the inode's names
pub paths-names :
    (U : Layer) (lowers : List Layer) (s : State) → IsMountOf U lowers s → (p : Path) (d : NodeId) (k : ℕ) → node_at s.tree p ≡ Some d →
    held U p ≡ Some (Named k) → (q : Path) → (node_at s.tree q ≡ Some d) ↔ (held U q ≡ Some (Named k))
paths-names U lowers s m p d k at named q =
    (λ h. to (m.shows.apart p q d at h), λ h. sym (m.shows.linked p q (record { number = k; first = named; second = h })) ∙ at)
  where
    to : (p ≡ q) ⊎ AreLinked U p q → held U q ≡ Some (Named k)
    to (inl e) = ap (held U) (sym e) ∙ named
    to (inr l) = l.second ∙ ap (λ n. Some (Named n)) (one-number U p l.number k l.first named)

-- a node that a path leads to looks as the inode that it names
pub seen-inode :
    (U : Layer) (lowers : List Layer) (s : State) → IsMountOf U lowers s → (p : Path) (d : NodeId) (k : ℕ) → node_at s.tree p ≡ Some d →
    held U p ≡ Some (Named k) → face (s.tree d) ≡ see_inode 0 (U.inodes k)
seen-inode U lowers s m p d k at named = ap (λ o. face (node_of s.tree o)) (sym at) ∙ m.shows.sights p ∙ named-seen U lowers p k named

-- a file of the upper that a path shows is live
pub law_of_live_shown : LawOfLiveShown
law_of_live_shown U lowers s m p k i bytes d shown file at = record {
  bytes = bytes;
  attributes = i.attributes;
  links = i.links;
  mark = i.mark;
  inode = is.1 ∙ ap (λ x. Some (record i { content = x })) file;
  node = own-leaf (s.tree d) (File bytes) i.attributes (is_some i.mark) i.links seen;
  paths = paths-names U lowers s m p d k at is.0;
}
  where
    is : (held U p ≡ Some (Named k)) × (U.inodes k ≡ Some i)
    is = shown-held U (held U p) (cuts U p) (shows 1 lowers (below U p)) k i (from-below 0 lowers (below U p) k) shown

    seen : face (s.tree d) ≡ Some (SeenLeaf (File bytes) i.attributes (Own (is_some i.mark)) i.links)
    seen = seen-inode U lowers s m p d k at is.0 ∙ ap (see_inode 0) is.1 ∙ ap (λ x. Some (SeenLeaf x i.attributes (Own (is_some i.mark)) i.links)) file

-- a name in a directory leaves files and links as they were
pub lead-leaf :
    (t : Tree) (d : NodeId) (n : Name) (o : Option NodeId) (e : NodeId) (content : Content) (a : Attributes) (u : Origin) (l : ℕ) →
    t e ≡ Some (Leaf content a u l) → lead t d n o e ≡ t e
lead-leaf t d n o e content a u l h = elim (cases_Bool (same_id d e)) [
  | inl s ↦
      put-here t d (with_name n o (t d)) e s
      ∙ ap (with_name n o) (ap t ((ids_tell d e).0 s) ∙ h)
      ∙ sym h
  | inr s ↦ put-there t d (with_name n o (t d)) e s
]

-- the node that is made under the next serial
made-node :
    (t : Tree) (i : ℕ) (w : NodeId × Name) (content : Content) (a : Attributes) (u : Origin) (l : ℕ) →
    made_way t i (Some w) (Leaf content a u l) (New i) ≡ Some (Leaf content a u l)
made-node t i w content a u l =
    lead-leaf (put t (New i) (Some (Leaf content a u l))) w.0 w.1 (Some (New i)) (New i) content a u l here
    ∙ here
  where
    here : put t (New i) (Some (Leaf content a u l)) (New i) ≡ Some (Leaf content a u l)
    here = put-here t (New i) (Some (Leaf content a u l)) (New i) ((ids_tell (New i) (New i)).1 refl)

-- no mark is none
no-mark : (q : Option Path) → is_some q ≡ false → q ≡ None
no-mark None h = refl
no-mark (Some q) h = absurd (false≢true (sym h))

-- an inode that is seen as a file of the upper with bytes of its own is one
own-inode :
    (o : Option Inode) (content : Content) (a : Attributes) (l : ℕ) → see_inode 0 o ≡ Some (SeenLeaf content a (Own false) l) →
    o ≡ Some (record { content = content; attributes = a; links = l; mark = None })
own-inode None content a l h = cc
own-inode (Some i) content a l h =
    let c : i.content ≡ content = cc in
    let x : i.attributes ≡ a = cc in
    let n : i.links ≡ l = cc in
    let marked : is_some i.mark ≡ false = cc in
    let k : i.mark ≡ None = no-mark i.mark marked in
    λ j. Some (record { content = c j; attributes = x j; links = n j; mark = k j })

-- a file that an open makes is live
module _
    (U V : Layer) (lowers : List Layer) (s : State) (c : ℕ) (p : Path) (flags : OpenFlags) (mode : ℕ)
    (g : GainsLeaf U V lowers p (File []) (fresh mode)) (f : MakesFile V lowers s c p flags mode) where
  abbrev x : Node
  x = Leaf (File []) (fresh mode) (Own false) 1

  abbrev u : Tree
  u = tree_after s c (Open p flags mode)

  tree-is : u ≡ made_way s.tree s.serial (way_of s.tree p) x
  tree-is = ap (λ o. cond (is_none o) (made_way s.tree s.serial (way_of s.tree p) x) (change (opened flags) s.tree o)) f.absent

  file-node : u (New s.serial) ≡ Some x
  file-node = ap (λ t. t (New s.serial)) tree-is ∙ by (way_of s.tree p) refl
    where
      by : (w : Option (NodeId × Name)) → way_of s.tree p ≡ w → made_way s.tree s.serial w x (New s.serial) ≡ Some x
      by (Some w) h = made-node s.tree s.serial w (File []) (fresh mode) (Own false) 1
      by None h =
          let same : u ≡ s.tree = tree-is ∙ ap (λ w. made_way s.tree s.serial w x) h in
          let z : None ≡ Some (New s.serial) = sym f.absent ∙ ap (λ t. node_at t p) (sym same) ∙ f.made in
          cc

  file-inode : V.inodes g.number ≡ Some (record { content = File []; attributes = fresh mode; links = 1; mark = None })
  file-inode = own-inode (V.inodes g.number) (File []) (fresh mode) 1 seen
    where
      seen : see_inode 0 (V.inodes g.number) ≡ face (Some x)
      seen =
          sym (named-seen V lowers p g.number g.here)
          ∙ g.sights p
          ∙ ap (λ b. cond b (face (Some x)) (merged U lowers p)) ((paths_tell p p).1 refl)

-- a file that an open makes is live
pub law_of_live_made : LawOfLiveMade
law_of_live_made U V lowers s c p flags mode g f = record {
  bytes = [];
  attributes = fresh mode;
  links = 1;
  mark = None;
  inode = file-inode U V lowers s c p flags mode g f;
  node = file-node U V lowers s c p flags mode g f;
  paths = paths-names V lowers (after s c (Open p flags mode)) f.mounts p (New s.serial) g.number f.made g.here;
}
