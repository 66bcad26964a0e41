-- Live files stay so where link makes a further name, also one of theirs.
use Rattle.std.proofs.Common.{◌≡◌, ◌≢◌, ◌↔◌, ℕ, suc, ◌+◌, true, List, [], ◌∷◌, ◌++◌, Option, None, Some, option_map, refl, sym, ap, ◌∙◌, inl, inr, is_some, Bool}
use Rattle.std.proofs.lemmas.Bool.{false≢true, cases_Bool}
use Rattle.ov_base.specs.declared.attributes.Attributes.{Attributes}
use Rattle.ov_base.specs.declared.bytes.Content.{Content}
use Rattle.ov_base.specs.declared.bytes.Content.TheVariants.{File}
use Rattle.ov_base.specs.declared.call.CallOf.TheVariants.{Hardlink}
use Rattle.ov_base.specs.declared.node_id.NodeId.{NodeId}
use Rattle.plain_model.specs.Layers.{Name, Path, Named, Inode, Layer, held, Contents, over, shows, through, is_directory, same_path, AreLayers}
use Rattle.plain_model.specs.Tree.{same_id, Node, Leaf, Own, Tree, node_at, node_of, face, Sight, SeenLeaf, merged}
use Rattle.plain_model.specs.Machine.{MountOptions, State}
use Rattle.plain_model.specs.Changes.{way_of, lead_way, over_node, change, one_more, tree_after}
use Rattle.plain_model.proofs.Keeping.{put-here, put-there}
use Rattle.plain_model.proofs.Paths.{place, paths_tell, ids_tell}
use Rattle.mount_laws.specs.Looks.{IsMountOf}
use Rattle.mount_laws.specs.Leaves.{PlacesLeaf}
use Rattle.mount_laws.specs.Linking.{AddsName, linked_sight, GainsName, MakesName}
use Rattle.mount_laws.specs.OpenFiles.{IsLive}
use Rattle.mount_laws.specs.StayOpen.{GainsLink, AltersNamed, LawOfLiveThroughName, LawOfAddedLink, LawOfCopiedLink}
use Rattle.mount_laws.proofs.Handles.{not-same}
use Rattle.mount_laws.proofs.OpenFiles.{one-number}
use Rattle.mount_laws.proofs.Outlive.{way-leaf, law_of_alters_named}
use Rattle.mount_laws.proofs.Places.{nothing-below, named-shown}

-- a file or link at e, in a tree where a name is made that leads to another node or to it
module _
    (m : MountOptions) (t : Tree) (w : Option (NodeId × Name)) (e : NodeId) (content : Content) (a : Attributes) (b : Bool) (l : ℕ)
    (is : t e ≡ Some (Leaf content a (Own b) l)) where
  -- another node's name leaves it as it was
  joined-other : (o : Option NodeId) → (o ≡ Some e → ⊥) → lead_way (change (one_more m) t o) w o e ≡ t e
  joined-other None away = way-leaf t w None e content a (Own b) l is
  joined-other (Some d) away = way-leaf (change (one_more m) t (Some d)) w (Some d) e content a (Own b) l (there ∙ is) ∙ there
    where
      there : change (one_more m) t (Some d) e ≡ t e
      there = put-there t d (over_node (one_more m) (t d)) e (not-same d e (λ h. away (ap Some h)))

  abbrev more_own : Option Node
  more_own = Some (Leaf content a (Own b) (l + 1))

  counted-own : change (one_more m) t (Some e) e ≡ more_own
  counted-own = put-here t e (over_node (one_more m) (t e)) e ((ids_tell e e).1 refl) ∙ ap (over_node (one_more m)) is

  -- its own name is one more
  joined-own : lead_way (change (one_more m) t (Some e)) w (Some e) e ≡ more_own
  joined-own = way-leaf (change (one_more m) t (Some e)) w (Some e) e content a (Own b) (l + 1) counted-own ∙ counted-own

-- the path new leads to what old leads to
module _
    (U V : Layer) (lowers : List Layer) (s : State) (m : IsMountOf U lowers s) (c : ℕ) (old new : Path)
    (g : GainsName U V lowers s.options.metacopy old new) (f : MakesName V lowers s c old new) (e : NodeId) (j : ℕ) (w : GainsLink U V old new j)
    (l : IsLive U s.tree e j) where
  abbrev u : Tree
  u = tree_after s c (Hardlink old new)

  -- where a path led nowhere nothing was shown
  unseen : (q : Path) → node_at s.tree q ≡ None → merged U lowers q ≡ None
  unseen q none = sym (m.shows.sights q) ∙ ap (λ o. face (node_of s.tree o)) none

  -- and nothing is, but at the new path
  unseen-now : (q : Path) → q ≢ new → node_at s.tree q ≡ None → (y : Sight) → merged V lowers q ≡ Some y → ⊥
  unseen-now q apart none y h = elim (cases_Bool (same_path q old)) [
    | inl z ↦
        let is : q ≡ old = (paths_tell q old).0 z in
        more (ap (merged V lowers) is ∙ g.here ∙ ap (λ x. option_map (linked_sight s.options.metacopy) (merged U lowers x)) (sym is))
    | inr z ↦ elsewhere (λ is. false≢true (sym z ∙ (paths_tell q old).1 is))
  ]
    where
      more : merged V lowers q ≡ option_map (linked_sight s.options.metacopy) (merged U lowers q) → ⊥
      more z = let k : None ≡ Some y = sym (z ∙ ap (option_map (linked_sight s.options.metacopy)) (unseen q none)) ∙ h in cc

      elsewhere : q ≢ old → ⊥
      elsewhere other =
          let k : None ≡ Some y = sym (g.others q other apart (λ k. more (g.linked q other apart k)) ∙ unseen q none) ∙ h in
          cc

  -- the file has so many names now
  module _
      (count : ℕ) (inode : V.inodes j ≡ Some (record { content = File l.bytes; attributes = l.attributes; links = count; mark = l.mark }))
      (node : u e ≡ Some (Leaf (File l.bytes) l.attributes (Own (is_some l.mark)) count)) where
    -- another path to it led to it
    led : (q : Path) → q ≢ new → node_at u q ≡ Some e → node_at s.tree q ≡ Some e
    led q apart h = by (node_at s.tree q) refl
      where
        by : (o : Option NodeId) → node_at s.tree q ≡ o → node_at s.tree q ≡ Some e
        by (Some d) k = k ∙ sym (f.stays q d k) ∙ h
        by None k =
            absurd (
            unseen-now q apart k (SeenLeaf (File l.bytes) l.attributes (Own (is_some l.mark)) count)
            (sym (f.mounts.shows.sights q) ∙ ap (λ o. face (node_of u o)) h ∙ ap face node)
            )

    now-names : (q : Path) → (node_at u q ≡ Some e) ↔ (held V q ≡ Some (Named j))
    now-names q = elim (cases_Bool (same_path q new)) [
      | inl z ↦ at-new ((paths_tell q new).0 z)
      | inr z ↦ at-other (λ is. false≢true (sym z ∙ (paths_tell q new).1 is))
    ]
      where
        at-new : q ≡ new → (node_at u q ≡ Some e) ↔ (held V q ≡ Some (Named j))
        at-new is = (
          λ h. ap (held V) is ∙ w.further.1 ((l.paths old).0 (sym f.joined ∙ ap (node_at u) (sym is) ∙ h)),
          λ h. ap (node_at u) is ∙ f.joined ∙ (l.paths old).1 (w.further.0 (ap (held V) (sym is) ∙ h)),
        )

        at-other : q ≢ new → (node_at u q ≡ Some e) ↔ (held V q ≡ Some (Named j))
        at-other apart = (
          λ h. (w.names q apart).1 ((l.paths q).0 (led q apart h)),
          λ h. f.stays q e ((l.paths q).1 ((w.names q apart).0 h)),
        )

    live-now : IsLive V u e j
    live-now = record {
      bytes = l.bytes;
      attributes = l.attributes;
      links = count;
      mark = l.mark;
      inode = inode;
      node = node;
      paths = now-names;
    }

  -- the name of another object
  not-joined : (node_at s.tree old ≡ Some e → ⊥) → IsLive V u e j
  not-joined away =
      live-now l.links (w.same (λ h. away ((l.paths old).1 h)) ∙ l.inode)
      (
      joined-other s.options s.tree (way_of s.tree new) e (File l.bytes) l.attributes (is_some l.mark) l.links l.node (node_at s.tree old) away
      ∙ l.node
      )

  -- a name of the file
  was-joined : node_at s.tree old ≡ Some e → IsLive V u e j
  was-joined at =
      live-now (l.links + 1)
      (
      w.more (record { content = File l.bytes; attributes = l.attributes; links = l.links; mark = l.mark }) ((l.paths old).0 at) l.inode
      )
      (
      ap (λ o. lead_way (change (one_more s.options) s.tree o) (way_of s.tree new) o e) at
      ∙ joined-own s.options s.tree (way_of s.tree new) e (File l.bytes) l.attributes (is_some l.mark) l.links l.node
      )

  through-name : IsLive V u e j
  through-name = by (node_at s.tree old) refl
    where
      by : (o : Option NodeId) → node_at s.tree old ≡ o → IsLive V u e j
      by None h = not-joined (λ at. let z : None ≡ Some e = sym h ∙ at in cc)
      by (Some d) h = elim (cases_Bool (same_id d e)) [
        | inl y ↦ was-joined (h ∙ ap Some ((ids_tell d e).0 y))
        | inr n ↦ not-joined (λ at. false≢true (sym n ∙ (ids_tell d e).1 (let z : Some d ≡ Some e = sym h ∙ at in cc)))
      ]

-- where link makes a further name
pub law_of_live_through_name : LawOfLiveThroughName
law_of_live_through_name = through-name

-- a further name, where no path at or below it names the inode
module _
    (U V : Layer) (p q : Path) (m : AddsName U V p q) (j : ℕ) (away : (r : Path) → held U (r ++ q) ≡ Some (Named j) → ⊥) where
  other-names : (x : Path) → x ≢ q → (held V x ≡ Some (Named j)) ↔ (held U x ≡ Some (Named j))
  other-names x apart = elim (place q x) [
    | inl y ↦ below-it y.0 y.1
    | inr out ↦ (λ h. sym (m.elsewhere x out) ∙ h, λ h. m.elsewhere x out ∙ h)
  ]
    where
      below-it : (r : Path) → x ≡ r ++ q → (held V x ≡ Some (Named j)) ↔ (held U x ≡ Some (Named j))
      below-it [] z = absurd (apart z)
      below-it (y ∷ r) z = (
        λ h. (let k : None ≡ Some (Named j) = sym (m.beneath y r) ∙ ap (held V) (sym z) ∙ h in cc),
        λ h. absurd (away (y ∷ r) (ap (held U) (sym z) ∙ h)),
      )

  adds-link : GainsLink U V p q j
  adds-link = record {
    names = other-names;
    further = (
      λ h. m.source ∙ ap (λ k. Some (Named k)) (one-number V q m.number j m.here h),
      λ h. m.here ∙ ap (λ k. Some (Named k)) (one-number U p m.number j m.source h),
    );
    more = λ i h is.
        let number : j ≡ m.number = one-number U p j m.number h m.source in
        let z : Some m.inode ≡ Some i = sym m.before ∙ ap U.inodes (sym number) ∙ is in
        let same : m.inode ≡ i = cc in
        ap V.inodes number ∙ m.now ∙ ap {A = Inode} (λ i. Some (record i { links = i.links + 1 })) same;
    same = λ not. m.inodes j (λ z. not (m.source ∙ ap (λ n. Some (Named n)) (sym z)));
  }

-- where nothing is shown no path at or below names an inode
unnamed-at :
    (U : Layer) (lowers : List Layer) → AreLayers (U ∷ lowers) → (q : Path) → shows 0 (U ∷ lowers) q ≡ None →
    (j : ℕ) (r : Path) → held U (r ++ q) ≡ Some (Named j) → ⊥
unnamed-at U lowers layers q free j [] h = named-shown U lowers q j h free
unnamed-at U lowers layers q free j (y ∷ r) h =
    named-shown U lowers (y ∷ r ++ q) j h (nothing-below (U ∷ lowers) layers q (ap is_directory free) y r)

-- a name of the upper gets a further one
pub law_of_added_link : LawOfAddedLink
law_of_added_link U V lowers layers p q free m j = adds-link U V p q m j (unnamed-at U lowers layers q free j)

-- a file or link of a lower layer that is copied up, to W, gets a further name
module _
    (U W V : Layer) (lowers : List Layer) (layers : AreLayers (U ∷ lowers)) (p q : Path) (l k n : ℕ) (x i : Inode)
    (lower : shows 0 (U ∷ lowers) p ≡ Some (Contents (suc l) n (Some x))) (copy : PlacesLeaf U W p k i)
    (free : shows 0 (U ∷ lowers) q ≡ None) (m : AddsName W V p q) (j : ℕ) (old : is_some (U.inodes j) ≡ true) where
  -- the copy leaves the names of the inode
  kept : AltersNamed U W p i.attributes j
  kept = (law_of_alters_named U W lowers p i.attributes j old).copied layers l k n x i lower copy

  gains : GainsLink W V p q j
  gains = adds-link W V p q m j (λ r h. unnamed-at U lowers layers q free j r ((kept.names (r ++ q)).0 h))

  -- the path named no inode of the upper
  not-named : held U p ≡ Some (Named j) → ⊥
  not-named h =
      let z : Some (Contents 0 j (U.inodes j)) ≡ Some (Contents (suc l) n (Some x)) =
      sym (ap (λ o. over 0 U.inodes o (through U lowers p)) h) ∙ lower in
      cc

  copies-link : GainsLink U V p q j
  copies-link = record {
    names = λ y apart. (
      λ h. (kept.names y).0 ((gains.names y apart).0 h),
      λ h. (gains.names y apart).1 ((kept.names y).1 h),
    );
    further = (λ h. (kept.names p).0 (gains.further.0 h), λ h. absurd (not-named h));
    more = λ i h is. absurd (not-named h);
    same = λ not. gains.same (λ h. not ((kept.names p).0 h)) ∙ kept.same not;
  }

-- a file or link that is copied up first gets a further name
pub law_of_copied_link : LawOfCopiedLink
law_of_copied_link = copies-link
