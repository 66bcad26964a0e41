-- What unlink and rmdir make of the tree, and that the layers which lose the object show it.
use Rattle.std.proofs.Common.{◌≡◌, ◌≢◌, ℕ, zero, Bool, true, false, cond, ◌||◌, List, [], ◌∷◌, ◌++◌, Option, None, Some, refl, sym, ap, subst, ◌∙◌, ◌⊎◌, inl, inr, is_some}
use Rattle.std.proofs.lemmas.Bool.{false≢true, cases_Bool, both_ways}
use Rattle.ov_base.specs.declared.call.CallOf.TheVariants.{Unlink, Rmdir}
use Rattle.ov_base.specs.declared.errno.Errno.TheVariants.{EBUSY, EISDIR}
use Rattle.ov_base.specs.declared.node_id.NodeId.{NodeId}
use Rattle.plain_model.specs.Layers.{Name, Path, Inode, Layer, shows, is_directory, same_path}
use Rattle.plain_model.specs.Tree.{same_id, Node, Branch, Leaf, Own, Untouched, Tree, names_of, entry, node_at, node_of, with_name, lead, face, sight_at, see_inode, merged, AreLinked, Remounts, IsKept, is_folder, count_of}
use Rattle.plain_model.specs.Machine.{Handle, Table, State, handle_of}
use Rattle.plain_model.specs.Changes.{on_way, lead_way, over_node, change, one_fewer, is_named, is_held, settled, dropped, names_in, tree_after}
use Rattle.plain_model.proofs.Flat.{fewer-flat, flat-names, flat-folders, some-same}
use Rattle.plain_model.proofs.Keeping.{put-here, put-there}
use Rattle.plain_model.proofs.Kept.{at-path, law_of_names}
use Rattle.plain_model.proofs.Looking.{when-not}
use Rattle.plain_model.proofs.Merged.{named-seen}
use Rattle.plain_model.proofs.Paths.{place, paths_tell, ids_tell}
use Rattle.plain_model.proofs.Walks.{lead-outside, lead-at}
use Rattle.mount_laws.specs.Looks.{parents_fault, walk_fault, IsMountOf, IsHidden, KeepsHidden}
use Rattle.mount_laws.specs.Removals.{folder_attributes, ShowsNoName, fewer, Loses, LawOfUnlinked, LawOfRemovedDirectory}
use Rattle.mount_laws.proofs.Handles.{not-same, held-by}
use Rattle.mount_laws.proofs.Linked.{face-named}
use Rattle.mount_laws.proofs.Links.{first-none, second-none}
use Rattle.mount_laws.proofs.Looks.{none-of, at-some, shown-there}
use Rattle.mount_laws.proofs.Makes.{folder-alone}
use Rattle.mount_laws.proofs.Places.{nothing-in}
use Rattle.mount_laws.proofs.Refusing.{names-none, name-at, law_of_unlink, law_of_rmdir}

-- the name n in the directory d at q goes, which leads to e, a node without names
module _ (t : Tree) (ks : List Table) (n : Name) (q : Path) (d e : NodeId) (at : node_at t q ≡ Some d) (folder : is_folder (t d) ≡ true) (leads : names_of (t d) n ≡ Some e) (only : (y : Path) → node_at t y ≡ Some d → y ≡ q) (bare : (k : Name) → names_of (t e) k ≡ None) where
  abbrev pub counted : Tree
  counted = change one_fewer t (Some e)

  abbrev pub led : Tree
  led = lead counted d n None

  abbrev pub left : Tree
  left = settled ks led (Some e)

  pub here : node_at t (n ∷ q) ≡ Some e
  here = ap (λ o. entry t o n) at ∙ leads

  different : d ≢ e
  different s = let z : None ≡ Some e = sym (bare n) ∙ ap (λ x. names_of (t x) n) (sym s) ∙ leads in cc

  -- a name fewer leads where it led
  counted-entry : (o : Option NodeId) (k : Name) → entry counted o k ≡ entry t o k
  counted-entry None k = refl
  counted-entry (Some x) k = flat-names one_fewer fewer-flat t e x k

  counted-at : (y : Path) → node_at counted y ≡ node_at t y
  counted-at [] = refl
  counted-at (k ∷ y) = ap (λ o. entry counted o k) (counted-at y) ∙ counted-entry (node_at t y) k

  counted-only : (y : Path) → node_at counted y ≡ Some d → y ≡ q
  counted-only y h = only y (sym (counted-at y) ∙ h)

  -- the node at e, once the name went
  led-node : led e ≡ over_node one_fewer (t e)
  led-node =
      put-there counted d (with_name n None (counted d)) e (not-same d e different)
      ∙ put-here t e (over_node one_fewer (t e)) e ((ids_tell e e).1 refl)

  fewer-names : (o : Option Node) (k : Name) → names_of (over_node one_fewer o) k ≡ names_of o k
  fewer-names None k = refl
  fewer-names (Some (Branch a b names c)) k = refl
  fewer-names (Some (Leaf content a u c)) k = refl

  led-bare : (k : Name) → names_of (led e) k ≡ None
  led-bare k = ap (λ o. names_of o k) led-node ∙ fewer-names (t e) k ∙ bare k

  abbrev stands : Bool
  stands = is_named (led e) || is_held ks e

  left-node : left e ≡ cond stands (led e) None
  left-node = put-here led e (cond stands (led e) None) e ((ids_tell e e).1 refl)

  left-bare : (b : Bool) (k : Name) → names_of (cond b (led e) None) k ≡ None
  left-bare true k = led-bare k
  left-bare false k = refl

  pub bare-after : (k : Name) → names_of (left e) k ≡ None
  bare-after k = ap (λ o. names_of o k) left-node ∙ left-bare stands k

  left-entry : (o : Option NodeId) (k : Name) → entry left o k ≡ entry led o k
  left-entry None k = refl
  left-entry (Some x) k = elim (cases_Bool (same_id e x)) [
    | inl s ↦ ap (λ o. names_of o k) (put-here led e (cond stands (led e) None) x s) ∙ left-bare stands k ∙ sym (led-bare k) ∙ ap (λ z. names_of (led z) k) ((ids_tell e x).0 s)
    | inr s ↦ ap (λ o. names_of o k) (put-there led e (cond stands (led e) None) x s)
  ]

  left-at : (y : Path) → node_at left y ≡ node_at led y
  left-at [] = refl
  left-at (k ∷ y) = ap (λ o. entry left o k) (left-at y) ∙ left-entry (node_at led y) k

  -- the path leads nowhere, nor does any below it, and others lead where they led
  pub gone-at : node_at left (n ∷ q) ≡ None
  gone-at = left-at (n ∷ q) ∙ lead-at counted d q n None counted-only (counted-at q ∙ at) (flat-folders one_fewer fewer-flat t e d ∙ folder)

  none-after : (k : Name) (r : Path) → node_at left (k ∷ r ++ (n ∷ q)) ≡ None
  none-after k [] = ap (λ o. entry left o k) gone-at
  none-after k (j ∷ r) = ap (λ o. entry left o k) (none-after j r)

  none-before : (k : Name) (r : Path) → node_at t (k ∷ r ++ (n ∷ q)) ≡ None
  none-before k [] = ap (λ o. entry t o k) here ∙ bare k
  none-before k (j ∷ r) = ap (λ o. entry t o k) (none-before j r)

  pub stays-at : (y : Path) → y ≢ n ∷ q → node_at left y ≡ node_at t y
  stays-at y apart = elim (place (n ∷ q) y) [
    | inl b ↦ below b.0 b.1
    | inr out ↦ left-at y ∙ lead-outside counted d q n None counted-only y out ∙ counted-at y
  ]
    where
      below : (r : Path) → y ≡ r ++ (n ∷ q) → node_at left y ≡ node_at t y
      below [] s = absurd (apart s)
      below (k ∷ r) s = ap (node_at left) s ∙ none-after k r ∙ sym (ap (node_at t) s ∙ none-before k r)

  -- what the names of a node don't tell stays at other nodes
  pub other-fact : {B : Type 0} (f : Option Node → B) → ((o : Option Node) → f (with_name n None o) ≡ f o) → (x : NodeId) → same_id e x ≡ false → f (left x) ≡ f (t x)
  other-fact f h x apart = ap f (put-there led e (cond stands (led e) None) x apart) ∙ elim (cases_Bool (same_id d x)) [
    | inl s ↦
        ap f (put-here counted d (with_name n None (counted d)) x s) ∙ h (counted d)
        ∙ ap (λ z. f (counted z)) ((ids_tell d x).0 s) ∙ ap f (put-there t e (over_node one_fewer (t e)) x apart)
    | inr s ↦ ap f (put-there counted d (with_name n None (counted d)) x s) ∙ ap f (put-there t e (over_node one_fewer (t e)) x apart)
  ]

  -- a node that is neither the directory nor what its name led to is as it was
  pub other-node : (x : NodeId) → same_id e x ≡ false → same_id d x ≡ false → left x ≡ t x
  other-node x apart away =
      put-there led e (cond stands (led e) None) x apart
      ∙ put-there counted d (with_name n None (counted d)) x away
      ∙ put-there t e (over_node one_fewer (t e)) x apart

  -- what the name led to has a name fewer, where it is there still
  pub still-there : is_some (left e) ≡ true → left e ≡ over_node one_fewer (t e)
  still-there some = left-node ∙ by stands (ap is_some (sym left-node) ∙ some) ∙ led-node
    where
      by : (b : Bool) → is_some (cond b (led e) None) ≡ true → cond b (led e) None ≡ led e
      by true h = refl
      by false h = absurd (false≢true h)

  -- it is there still where a handle is open on it
  pub still-held : is_held ks e ≡ true → left e ≡ over_node one_fewer (t e)
  still-held h = left-node ∙ ap (λ b. cond (is_named (led e) || b) (led e) None) h ∙ by (is_named (led e)) ∙ led-node
    where
      by : (b : Bool) → cond (b || true) (led e) None ≡ led e
      by true = refl
      by false = refl

-- no name tells the attributes of a directory
pub attributes-named : (n : Name) (e : Option NodeId) (o : Option Node) → folder_attributes (with_name n e o) ≡ folder_attributes o
attributes-named n e None = refl
attributes-named n e (Some (Branch a b names c)) = refl
attributes-named n e (Some (Leaf content a u l)) = refl

-- nor does their count
pub attributes-fewer : (o : Option Node) → folder_attributes (over_node one_fewer o) ≡ folder_attributes o
attributes-fewer None = refl
attributes-fewer (Some (Branch a b names c)) = refl
attributes-fewer (Some (Leaf content a u l)) = refl

-- a name of the upper's fewer is seen as one
pub face-fewer : (o : Option Node) (i : Option Inode) → face o ≡ see_inode 0 i → face (over_node one_fewer o) ≡ fewer (face o)
face-fewer None i h = refl
face-fewer (Some (Branch a b names c)) i h = refl
face-fewer (Some (Leaf content a (Own z) l)) i h = refl
face-fewer (Some (Leaf content a (Untouched k) l)) None h = cc
face-fewer (Some (Leaf content a (Untouched k) l)) (Some i) h = cc

-- a node with a name is there
pub counted-some : (o : Option Node) → (count_of o ≡ zero → ⊥) → is_some o ≡ true
counted-some None h = absurd (h refl)
counted-some (Some x) h = refl

-- what has a name is a directory
pub named-folder : (o : Option Node) (n : Name) (e : NodeId) → names_of o n ≡ Some e → is_folder o ≡ true
named-folder None n e h = cc
named-folder (Some (Leaf content a u l)) n e h = cc
named-folder (Some (Branch a b names c)) n e h = refl

-- the facts of a tree from which p is taken away
pub record Dropped (V : Layer) (lowers : List Layer) (s : State) (p : Path) (u : Tree) : Type 0 where
  pub shows : Remounts V lowers u
  pub gone : node_at u p ≡ None
  pub stays : (q : Path) → q ≢ p → node_at u q ≡ node_at s.tree q
  pub hidden : KeepsHidden s.tree u
  pub held : (k fd : ℕ) (h : Handle) → handle_of s.tables k fd ≡ Some h → folder_attributes (u h.node) ≡ folder_attributes (s.tree h.node)
  pub empty : (d : NodeId) → node_at s.tree p ≡ Some d → is_folder (s.tree d) ≡ true → (names_in (u d) ≡ []) × IsHidden u d

-- the object at n in q goes, in which no name is shown
module _ (U V : Layer) (lowers : List Layer) (s : State) (m : IsMountOf U lowers s) (n : Name) (q : Path) (d e : NodeId) (at : node_at s.tree q ≡ Some d) (leads : names_of (s.tree d) n ≡ Some e) (unshown : ShowsNoName (U ∷ lowers) (n ∷ q)) (g : Loses U V lowers (n ∷ q)) where
  abbrev path : Path
  path = n ∷ q

  folder : is_folder (s.tree d) ≡ true
  folder = named-folder (s.tree d) n e leads

  only : (y : Path) → node_at s.tree y ≡ Some d → y ≡ q
  only y h = folder-alone U lowers s m q y d folder at h

  at-path-node : node_at s.tree path ≡ Some e
  at-path-node = ap (λ o. entry s.tree o n) at ∙ leads

  bare : (k : Name) → names_of (s.tree e) k ≡ None
  bare k = none-of (names_of (s.tree e) k) (ap (λ o. is_some (names_of (node_of s.tree o) k)) (sym at-path-node) ∙ name-at U lowers s m path k ∙ ap is_some (unshown k))

  abbrev rest : Tree
  rest = left s.tree s.tables n q d e at folder leads only bare

  gone-there : node_at rest path ≡ None
  gone-there = gone-at s.tree s.tables n q d e at folder leads only bare

  stays-there : (y : Path) → y ≢ path → node_at rest y ≡ node_at s.tree y
  stays-there = stays-at s.tree s.tables n q d e at folder leads only bare

  -- a path that leads somewhere is another one, and led there
  led-before : (y : Path) (x : NodeId) → node_at rest y ≡ Some x → (y ≢ path) × (node_at s.tree y ≡ Some x)
  led-before y x h = (apart, sym (stays-there y apart) ∙ h)
    where
      apart : y ≢ path
      apart s = let z : None ≡ Some x = sym gone-there ∙ ap (node_at rest) (sym s) ∙ h in cc

  -- the tree after the call is this one
  is-rest : dropped s.tables s.tree path ≡ rest
  is-rest = λ i. settled s.tables (lead_way (change one_fewer s.tree (at-path-node i)) (on_way (at i) n) None) (at-path-node i)

  module _ (kept : IsKept rest s.serial) where
    -- another name of the inode, and what is not one
    linked-sight : (y : Path) → y ≢ path → AreLinked U path y → node_at s.tree y ≡ Some e → face (rest e) ≡ merged V lowers y
    linked-sight y apart l h =
        ap face (still-there s.tree s.tables n q d e at folder leads only bare (counted-some (rest e) (at-path rest s.serial kept y e (stays-there y apart ∙ h))))
        ∙ face-fewer (s.tree e) (U.inodes l.number) (seen ∙ named-seen U lowers y l.number l.second)
        ∙ ap fewer seen
        ∙ sym (g.linked y apart l)
      where
        seen : face (s.tree e) ≡ merged U lowers y
        seen = ap (λ o. face (node_of s.tree o)) (sym h) ∙ m.shows.sights y

    other-sight : (y : Path) → y ≢ path → (o : Option NodeId) → node_at s.tree y ≡ o → face (node_of rest o) ≡ merged V lowers y
    other-sight y apart None h =
        ap (λ o. face (node_of s.tree o)) (sym h) ∙ m.shows.sights y
        ∙ sym (g.others y apart (λ l. let z : Some e ≡ None = sym at-path-node ∙ m.shows.linked path y l ∙ h in cc))
    other-sight y apart (Some x) h = elim (cases_Bool (same_id e x)) [
      | inl same ↦
          let is : e ≡ x = (ids_tell e x).0 same in
          by is (m.shows.apart path y e at-path-node (h ∙ ap Some (sym is)))
      | inr away ↦
          other-fact s.tree s.tables n q d e at folder leads only bare face (face-named n None) x away
          ∙ ap (λ o. face (node_of s.tree o)) (sym h) ∙ m.shows.sights y
          ∙ sym (g.others y apart (λ l. both_ways (same_id e x) away (some-same e x (sym at-path-node ∙ m.shows.linked path y l ∙ h))))
    ]
      where
        by : e ≡ x → (path ≡ y) ⊎ AreLinked U path y → face (rest x) ≡ merged V lowers y
        by is (inl z) = absurd (apart (sym z))
        by is (inr l) = ap (λ z. face (rest z)) (sym is) ∙ linked-sight y apart l (h ∙ ap Some (sym is))

    sights : (y : Path) → sight_at rest y ≡ merged V lowers y
    sights y = elim (cases_Bool (same_path path y)) [
      | inl z ↦
          let is : path ≡ y = (paths_tell path y).0 z in
          ap (λ p. face (node_of rest (node_at rest p))) (sym is) ∙ ap (λ o. face (node_of rest o)) gone-there ∙ sym g.gone ∙ ap (merged V lowers) is
      | inr f ↦
          let apart : y ≢ path = (λ z. both_ways (same_path path y) f ((paths_tell path y).1 (sym z))) in
          ap (λ o. face (node_of rest o)) (stays-there y apart) ∙ other-sight y apart (node_at s.tree y) refl
    ]

    linked : (y z : Path) → AreLinked V y z → node_at rest y ≡ node_at rest z
    linked y z l =
        let a = (g.names y l.number).0 l.first in
        let b = (g.names z l.number).0 l.second in
        stays-there y a.0 ∙ m.shows.linked y z (record { number = l.number; first = a.1; second = b.1 }) ∙ sym (stays-there z b.0)

    apart-paths : (y z : Path) (x : NodeId) → node_at rest y ≡ Some x → node_at rest z ≡ Some x → (y ≡ z) ⊎ AreLinked V y z
    apart-paths y z x h k =
        let a = led-before y x h in
        let b = led-before z x k in
        lift a.0 b.0 (m.shows.apart y z x a.1 b.1)
      where
        lift : y ≢ path → z ≢ path → (y ≡ z) ⊎ AreLinked U y z → (y ≡ z) ⊎ AreLinked V y z
        lift a b (inl e) = inl e
        lift a b (inr l) = inr (record { number = l.number; first = (g.names y l.number).1 (a, l.first); second = (g.names z l.number).1 (b, l.second) })

    hidden-there : KeepsHidden s.tree rest
    hidden-there x some hid = (
      other-node s.tree s.tables n q d e at folder leads only bare x (not-it e path at-path-node) (not-it d q at),
      λ y h. hid y (led-before y x h).1,
    )
      where
        not-it : (z : NodeId) (y : Path) → node_at s.tree y ≡ Some z → same_id z x ≡ false
        not-it z y h = elim (cases_Bool (same_id z x)) [ inl s ↦ absurd (hid y (h ∙ ap Some ((ids_tell z x).0 s))) | inr s ↦ s ]

    held-there : (k fd : ℕ) (h : Handle) → handle_of s.tables k fd ≡ Some h → folder_attributes (rest h.node) ≡ folder_attributes (s.tree h.node)
    held-there k fd h on = elim (cases_Bool (same_id e h.node)) [
      | inl same ↦
          let is : e ≡ h.node = (ids_tell e h.node).0 same in
          ap (λ x. folder_attributes (rest x)) (sym is)
          ∙ ap folder_attributes (still-held s.tree s.tables n q d e at folder leads only bare (ap (is_held s.tables) is ∙ held-by s.tables k fd h on))
          ∙ attributes-fewer (s.tree e)
          ∙ ap (λ x. folder_attributes (s.tree x)) is
      | inr away ↦ other-fact s.tree s.tables n q d e at folder leads only bare folder_attributes (attributes-named n None) h.node away
    ]

    empty-there : (x : NodeId) → node_at s.tree path ≡ Some x → is_folder (s.tree x) ≡ true → (names_in (rest x) ≡ []) × IsHidden rest x
    empty-there x h f = (
      names-none (rest x) (subst (λ z. (k : Name) → names_of (rest z) k ≡ None) is (bare-after s.tree s.tables n q d e at folder leads only bare)),
      λ y k. let b = led-before y x k in b.0 (folder-alone U lowers s m path y x f h b.1),
    )
      where
        is : e ≡ x
        is = let z : Some e ≡ Some x = sym at-path-node ∙ h in cc

    dropped-there : Dropped V lowers s path rest
    dropped-there = record {
      shows = record { sights = sights; linked = linked; apart = apart-paths };
      gone = gone-there;
      stays = stays-there;
      hidden = hidden-there;
      held = held-there;
      empty = empty-there;
    }

  pub is-dropped : IsKept (dropped s.tables s.tree path) s.serial → Dropped V lowers s path (dropped s.tables s.tree path)
  is-dropped kept = subst (Dropped V lowers s path) (sym is-rest) (dropped-there (subst (λ u. IsKept u s.serial) is-rest kept))

-- the object shown at a path goes
module _ (U V : Layer) (lowers : List Layer) (s : State) (m : IsMountOf U lowers s) (n : Name) (q : Path) (some : is_some (shows 0 (U ∷ lowers) (n ∷ q)) ≡ true) (unshown : ShowsNoName (U ∷ lowers) (n ∷ q)) (g : Loses U V lowers (n ∷ q)) (kept : IsKept (dropped s.tables s.tree (n ∷ q)) s.serial) where
  pub drops : Dropped V lowers s (n ∷ q) (dropped s.tables s.tree (n ∷ q))
  drops = by (node_at s.tree q) refl (at-some U lowers s m (n ∷ q) ∙ some)
    where
      on : (d : NodeId) → node_at s.tree q ≡ Some d → (o : Option NodeId) → names_of (s.tree d) n ≡ o → is_some o ≡ true → Dropped V lowers s (n ∷ q) (dropped s.tables s.tree (n ∷ q))
      on d at None leads h = absurd (false≢true h)
      on d at (Some e) leads h = is-dropped U V lowers s m n q d e at leads unshown g kept

      by : (o : Option NodeId) → node_at s.tree q ≡ o → is_some (entry s.tree (node_at s.tree q) n) ≡ true → Dropped V lowers s (n ∷ q) (dropped s.tables s.tree (n ∷ q))
      by None at h = absurd (false≢true (sym (ap (λ o. is_some (entry s.tree o n)) at) ∙ h))
      by (Some d) at h = on d at (names_of (s.tree d) n) refl (sym (ap (λ o. is_some (entry s.tree o n)) at) ∙ h)

-- unlink makes the mount one of the upper that loses the name
pub law_of_unlinked : LawOfUnlinked
law_of_unlinked U V lowers s m c [] fine g = let z : Some EBUSY ≡ None = fine in cc
law_of_unlinked U V lowers s m c (n ∷ q) fine g = record {
  answer = refl;
  mounts = record { layers = g.layers; shows = f.shows; kept = kept; writable = m.writable };
  tables = refl;
  gone = f.gone;
  stays = f.stays;
  hidden = f.hidden;
  held = f.held;
  empty = f.empty;
}
  where
    kept : IsKept (tree_after s c (Unlink (n ∷ q))) s.serial
    kept = law_of_names s c (Unlink (n ∷ q)) m.kept (law_of_unlink U lowers s m c (n ∷ q) ∙ fine)

    some : is_some (shows 0 (U ∷ lowers) (n ∷ q)) ≡ true
    some = shown-there (parents_fault (U ∷ lowers) (n ∷ q)) (shows 0 (U ∷ lowers) (n ∷ q)) (first-none (walk_fault (U ∷ lowers) (n ∷ q)) _ fine)

    file : is_directory (shows 0 (U ∷ lowers) (n ∷ q)) ≡ false
    file = when-not (is_directory (shows 0 (U ∷ lowers) (n ∷ q))) EISDIR (second-none (walk_fault (U ∷ lowers) (n ∷ q)) _ fine)

    f : Dropped V lowers s (n ∷ q) (dropped s.tables s.tree (n ∷ q))
    f = drops U V lowers s m n q some (λ k. nothing-in (U ∷ lowers) m.layers k (n ∷ q) file) g kept

-- rmdir makes the mount one of the upper that loses the directory
pub law_of_removed_directory : LawOfRemovedDirectory
law_of_removed_directory U V lowers s m c [] fine unshown g = let z : Some EBUSY ≡ None = fine in cc
law_of_removed_directory U V lowers s m c (n ∷ q) fine unshown g = record {
  answer = refl;
  mounts = record { layers = g.layers; shows = f.shows; kept = kept; writable = m.writable };
  tables = refl;
  gone = f.gone;
  stays = f.stays;
  hidden = f.hidden;
  held = f.held;
  empty = f.empty;
}
  where
    kept : IsKept (tree_after s c (Rmdir (n ∷ q))) s.serial
    kept = law_of_names s c (Rmdir (n ∷ q)) m.kept ((law_of_rmdir U lowers s m c (n ∷ q)).empty unshown ∙ fine)

    some : is_some (shows 0 (U ∷ lowers) (n ∷ q)) ≡ true
    some = shown-there (parents_fault (U ∷ lowers) (n ∷ q)) (shows 0 (U ∷ lowers) (n ∷ q)) (first-none (walk_fault (U ∷ lowers) (n ∷ q)) _ fine)

    f : Dropped V lowers s (n ∷ q) (dropped s.tables s.tree (n ∷ q))
    f = drops U V lowers s m n q some unshown g kept
