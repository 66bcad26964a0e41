-- Live files stay so where a directory, a link or a file is made, and where a parent is placed.
use Rattle.std.proofs.Common.{◌≡◌, ◌≢◌, ◌↔◌, ℕ, false, cond, List, [], Option, None, Some, refl, sym, ap, ◌∙◌, inl, inr, is_none, arith, is_some}
use Rattle.std.specs.FinMap as fin
use Rattle.std.proofs.lemmas.Bool.{cases_Bool}
use Rattle.ov_base.specs.declared.attributes.Attributes.{Attributes}
use Rattle.ov_base.specs.declared.bytes.Content.{Content}
use Rattle.ov_base.specs.declared.bytes.Content.TheVariants.{File, SymbolicLink}
use Rattle.ov_base.specs.declared.call.CallOf.TheVariants.{Mkdir, Symlink, Open}
use Rattle.ov_base.specs.declared.call.OpenFlags.{OpenFlags}
use Rattle.ov_base.specs.declared.node_id.NodeId.{NodeId}
use Rattle.ov_base.specs.declared.node_id.NodeId.TheVariants.{New}
use Rattle.plain_model.specs.Layers.{Name, Path, Named, Layer, held, same_path}
use Rattle.plain_model.specs.Tree.{same_id, Node, Branch, Leaf, Own, Tree, node_at, node_of, put, face, Sight, SeenBranch, SeenLeaf, merged, Remounts, IsKept}
use Rattle.plain_model.specs.Machine.{State}
use Rattle.plain_model.specs.Changes.{fresh, way_of, made_way, change, opened, tree_after}
use Rattle.plain_model.proofs.Keeping.{put-there}
use Rattle.plain_model.proofs.Paths.{paths_tell, ids_tell}
use Rattle.mount_laws.specs.Looks.{IsMountOf, Gains, Makes}
use Rattle.mount_laws.specs.Leaves.{GainsLeaf, MakesLink, MakesFile}
use Rattle.mount_laws.specs.OpenFiles.{IsLive}
use Rattle.mount_laws.specs.StayOpen.{LawOfLiveThroughMade, LawOfLiveThroughLink, LawOfLiveThroughFile, LawOfLiveKept, LawOfLiveThroughParent}
use Rattle.mount_laws.proofs.OpenFiles.{lead-leaf}
use Rattle.mount_laws.proofs.Places.{same-names, more-names}

-- in another upper that has the inode by the same names
pub law_of_live_kept : LawOfLiveKept
law_of_live_kept U V t e j names inode l = record {
  bytes = l.bytes;
  attributes = l.attributes;
  links = l.links;
  mark = l.mark;
  inode = inode ∙ l.inode;
  node = l.node;
  paths = λ q. (λ h. (names q).1 ((l.paths q).0 h), λ h. (l.paths q).1 ((names q).0 h));
}

-- in an upper that gets a missing parent
pub law_of_live_through_parent : LawOfLiveThroughParent
law_of_live_through_parent U V lowers layers n p i j k a missing dir m t e l live =
    law_of_live_kept U V t e l
    (λ q. (same-names U V lowers layers n p i j k a missing dir m q l, more-names U V lowers layers n p i j k a missing dir m q l))
    (λ x. m.inodes x l) live

-- a new node leaves files and links as they were
made-leaf :
    (t : Tree) (i : ℕ) → IsKept t i → (w : Option (NodeId × Name)) (x : Node) (U : Layer) (e : NodeId) (j : ℕ) → IsLive U t e j →
    made_way t i w x e ≡ t e
made-leaf t i kept None x U e j l = refl
made-leaf t i kept (Some w) x U e j l =
    lead-leaf (put t (New i) (Some x)) w.0 w.1 (Some (New i)) e (File l.bytes) l.attributes (Own (is_some l.mark)) l.links (there ∙ l.node)
    ∙ there
  where
    there : put t (New i) (Some x) e ≡ t e
    there = elim (cases_Bool (same_id (New i) e)) [
      | inl s ↦
          let none : t e ≡ None = ap t (sym ((ids_tell (New i) e).0 s)) ∙ kept.unused i (omega arith) in
          let z : None ≡ Some (Leaf (File l.bytes) l.attributes (Own (is_some l.mark)) l.links) = sym none ∙ l.node in
          cc
      | inr s ↦ put-there t (New i) (Some x) e s
    ]

-- something new is shown at p, which is not the live file, and all else as before
module _
    (U V : Layer) (lowers : List Layer) (s : State) (m : IsMountOf U lowers s) (p : Path) (u : Tree) (new : Option Sight)
    (shows : Remounts V lowers u) (gained : (q : Path) → merged V lowers q ≡ cond (same_path p q) new (merged U lowers q))
    (stays : (q : Path) (d : NodeId) → node_at s.tree q ≡ Some d → node_at u q ≡ Some d) (e : NodeId) (j : ℕ) (l : IsLive U s.tree e j)
    (node : u e ≡ s.tree e) (inode : V.inodes j ≡ U.inodes j) (other : node_at u p ≡ Some e → ⊥)
    (names : (q : Path) → (held V q ≡ Some (Named j)) ↔ (held U q ≡ Some (Named j))) where
  -- what a path to the file sees
  seen :
      (q : Path) → node_at u q ≡ Some e →
      Some (SeenLeaf (File l.bytes) l.attributes (Own (is_some l.mark)) l.links) ≡ cond (same_path p q) new (merged U lowers q)
  seen q h = sym (ap (λ o. face (node_of u o)) h ∙ ap face (node ∙ l.node)) ∙ shows.sights q ∙ gained q

  -- a path that led nowhere doesn't lead to the file
  free : (q : Path) → node_at s.tree q ≡ None → node_at u q ≡ Some e → ⊥
  free q none h = elim (cases_Bool (same_path p q)) [
    | inl y ↦ other (ap (node_at u) ((paths_tell p q).0 y) ∙ h)
    | inr y ↦
        let z : Some (SeenLeaf (File l.bytes) l.attributes (Own (is_some l.mark)) l.links) ≡ None =
        seen q h ∙ ap (λ b. cond b new (merged U lowers q)) y ∙ sym (m.shows.sights q) ∙ ap (λ o. face (node_of s.tree o)) none in
        cc
  ]

  -- a path to the file led to it
  led : (q : Path) → node_at u q ≡ Some e → node_at s.tree q ≡ Some e
  led q h = by (node_at s.tree q) refl
    where
      by : (o : Option NodeId) → node_at s.tree q ≡ o → node_at s.tree q ≡ Some e
      by None g = absurd (free q g h)
      by (Some d) g = g ∙ sym (stays q d g) ∙ h

  through-new : IsLive V u e j
  through-new = record {
    bytes = l.bytes;
    attributes = l.attributes;
    links = l.links;
    mark = l.mark;
    inode = inode ∙ l.inode;
    node = node ∙ l.node;
    paths = λ q. (λ h. (names q).1 ((l.paths q).0 (led q h)), λ h. stays q e ((l.paths q).1 ((names q).0 h)));
  }

-- what is seen at the new path itself
at-new : (p : Path) (x y z : Option Sight) → x ≡ cond (same_path p p) y z → x ≡ y
at-new p x y z h = h ∙ ap (λ b. cond b y z) ((paths_tell p p).1 refl)

-- the tree in which mkdir makes a directory
module _
    (U V : Layer) (lowers : List Layer) (s : State) (m : IsMountOf U lowers s) (c : ℕ) (p : Path) (mode : ℕ)
    (g : Gains U V lowers p (fresh mode)) (f : Makes V lowers s c p mode) (e : NodeId) (j : ℕ) (inode : V.inodes j ≡ U.inodes j)
    (l : IsLive U s.tree e j) where
  abbrev made : Tree
  made = tree_after s c (Mkdir p mode)

  abbrev branch : Option Sight
  branch = Some (SeenBranch (fresh mode) false)

  made-same : made e ≡ s.tree e
  made-same = made-leaf s.tree s.serial m.kept (way_of s.tree p) (Branch (fresh mode) false fin.empty 1) U e j l

  no-branch : node_at made p ≡ Some e → ⊥
  no-branch h =
      let z : Some (SeenLeaf (File l.bytes) l.attributes (Own (is_some l.mark)) l.links) ≡ branch =
      sym (ap (λ o. face (node_of made o)) h ∙ ap face (made-same ∙ l.node))
      ∙ f.mounts.shows.sights p
      ∙ at-new p (merged V lowers p) branch (merged U lowers p) (g.sights p) in
      cc

  through-made : IsLive V made e j
  through-made = through-new U V lowers s m p made branch f.mounts.shows g.sights f.stays e j l made-same inode no-branch (λ q. g.names q j)

-- where mkdir makes a directory
pub law_of_live_through_made : LawOfLiveThroughMade
law_of_live_through_made U V lowers s m c p mode g f e j inode l = through-made U V lowers s m c p mode g f e j inode l

-- the names of a live file are as they were where an inode of another number gets a name at a path that didn't lead to the file
module _
    (U V : Layer) (lowers : List Layer) (p : Path) (content : Content) (a : Attributes) (g : GainsLeaf U V lowers p content a) (j : ℕ)
    (differs : g.number ≢ j) (away : held U p ≡ Some (Named j) → ⊥) where
  not-here : (q : Path) → held V q ≡ Some (Named j) → q ≢ p
  not-here q h e = let z : Some (Named g.number) ≡ Some (Named j) = sym g.here ∙ ap (held V) (sym e) ∙ h in differs cc

  kept-names : (q : Path) → (held V q ≡ Some (Named j)) ↔ (held U q ≡ Some (Named j))
  kept-names q = (λ h. (g.names q j (not-here q h)).0 h, λ h. (g.names q j (λ e. away (ap (held U) (sym e) ∙ h))).1 h)

-- the tree in which symlink makes a link
module _
    (U V : Layer) (lowers : List Layer) (s : State) (m : IsMountOf U lowers s) (c : ℕ) (target : List ℕ) (p : Path)
    (g : GainsLeaf U V lowers p (SymbolicLink target) (fresh 0o777)) (f : MakesLink V lowers s c target p) (e : NodeId) (j : ℕ)
    (differs : g.number ≢ j) (inode : V.inodes j ≡ U.inodes j) (l : IsLive U s.tree e j) where
  abbrev linked : Tree
  linked = tree_after s c (Symlink target p)

  abbrev link : Option Sight
  link = Some (SeenLeaf (SymbolicLink target) (fresh 0o777) (Own false) 1)

  linked-same : linked e ≡ s.tree e
  linked-same = made-leaf s.tree s.serial m.kept (way_of s.tree p) (Leaf (SymbolicLink target) (fresh 0o777) (Own false) 1) U e j l

  no-link : node_at linked p ≡ Some e → ⊥
  no-link h =
      let z : Some (SeenLeaf (File l.bytes) l.attributes (Own (is_some l.mark)) l.links) ≡ link =
      sym (ap (λ o. face (node_of linked o)) h ∙ ap face (linked-same ∙ l.node))
      ∙ f.mounts.shows.sights p
      ∙ at-new p (merged V lowers p) link (merged U lowers p) (g.sights p) in
      cc

  through-link : IsLive V linked e j
  through-link =
      through-new U V lowers s m p linked link f.mounts.shows g.sights f.stays e j l linked-same inode no-link
      (kept-names U V lowers p (SymbolicLink target) (fresh 0o777) g j differs (λ h. no-link (f.stays p e ((l.paths p).1 h))))

-- where symlink makes a link
pub law_of_live_through_link : LawOfLiveThroughLink
law_of_live_through_link U V lowers s m c target p g f e j differs inode l = through-link U V lowers s m c target p g f e j differs inode l

-- the tree in which an open makes a file
module _
    (U V : Layer) (lowers : List Layer) (s : State) (m : IsMountOf U lowers s) (c : ℕ) (p : Path) (flags : OpenFlags) (mode : ℕ)
    (g : GainsLeaf U V lowers p (File []) (fresh mode)) (f : MakesFile V lowers s c p flags mode) (e : NodeId) (j : ℕ)
    (differs : g.number ≢ j) (inode : V.inodes j ≡ U.inodes j) (l : IsLive U s.tree e j) where
  abbrev opened_on : Tree
  opened_on = tree_after s c (Open p flags mode)

  abbrev x : Node
  x = Leaf (File []) (fresh mode) (Own false) 1

  tree-is : opened_on ≡ made_way s.tree s.serial (way_of s.tree p) x
  tree-is = ap (λ o. cond (is_none o) (made_way s.tree s.serial (way_of s.tree p) x) (change (opened flags) s.tree o)) f.absent

  opened-same : opened_on e ≡ s.tree e
  opened-same = ap (λ t. t e) tree-is ∙ made-leaf s.tree s.serial m.kept (way_of s.tree p) x U e j l

  -- the path leads to the new node, which was not there
  no-file : node_at opened_on p ≡ Some e → ⊥
  no-file h =
      let is : New s.serial ≡ e = (let z : Some (New s.serial) ≡ Some e = sym f.made ∙ h in cc) in
      let z : None ≡ Some (Leaf (File l.bytes) l.attributes (Own (is_some l.mark)) l.links) =
      sym (m.kept.unused s.serial (omega arith))
      ∙ ap s.tree is
      ∙ l.node in
      cc

  through-file : IsLive V opened_on e j
  through-file =
      through-new U V lowers s m p opened_on (face (Some x)) f.mounts.shows g.sights f.stays e j l opened-same inode no-file
      (kept-names U V lowers p (File []) (fresh mode) g j differs (λ h. no-file (f.stays p e ((l.paths p).1 h))))

-- where an open makes a file
pub law_of_live_through_file : LawOfLiveThroughFile
law_of_live_through_file U V lowers s m c p flags mode g f e j differs inode l =
    through-file U V lowers s m c p flags mode g f e j differs inode l
