-- Rename makes the mount one of the upper to which the object moved.
use Rattle.std.proofs.Common.{◌≡◌, ℕ, true, false, cond, List, [], ◌∷◌, ◌++◌, Option, None, Some, option_map, refl, sym, ap, subst, ◌∙◌, ◌⊎◌, inl, inr, is_some, ap₂, ◌&&◌}
use Rattle.std.proofs.lemmas.Bool.{false≢true, cases_Bool}
use Rattle.std.proofs.lemmas.List.{append_cancel_right}
use Rattle.ov_base.specs.declared.call.CallOf.TheVariants.{Rename}
use Rattle.ov_base.specs.declared.errno.Errno.TheVariants.{EBUSY}
use Rattle.ov_base.specs.declared.node_id.NodeId.{NodeId}
use Rattle.plain_model.specs.Layers.{Name, Path, Named, Inode, Layer, held, over, through, shows, is_directory, is_file}
use Rattle.plain_model.specs.Laws.{IsOutside}
use Rattle.plain_model.specs.Tree.{Node, Branch, Leaf, Own, Untouched, Tree, names_of, entry, node_at, node_of, face, sight_at, SeenLeaf, see_inode, merged, AreLinked, Remounts, IsKept, is_folder, count_of, is_untouched}
use Rattle.plain_model.specs.Machine.{MountOptions, Handle, State, look, same_found, handle_of, lowest_free}
use Rattle.plain_model.specs.Changes.{way_of, over_node, meta_touched, settled, renamed, re_ways, names_in, tree_after, tables_after}
use Rattle.plain_model.proofs.Kept.{at-path, taken-name, law_of_names}
use Rattle.plain_model.proofs.Looking.{Reached, look-reached}
use Rattle.plain_model.proofs.Merged.{named-seen}
use Rattle.mount_laws.specs.Looks.{parents_fault, IsMountOf, IsHidden, KeepsHidden}
use Rattle.mount_laws.specs.Removals.{ShowsNoName, folder_attributes, fewer}
use Rattle.mount_laws.specs.Moving.{Follows, Goes, Stays, moved_sight, MovesTo, NamesNoInode}
use Rattle.mount_laws.specs.Renaming.{is_one, rename_fault, KeepsHandle, Renames, LawOfRenamed, CanMove}
use Rattle.mount_laws.proofs.Altered.{one-name}
use Rattle.mount_laws.proofs.Handles.{held-by}
use Rattle.mount_laws.proofs.Linked.{turned, joined-links}
use Rattle.mount_laws.proofs.Looks.{none-of, at-some, to-parents, to-last, shown-there}
use Rattle.mount_laws.proofs.Makes.{folder-alone}
use Rattle.mount_laws.proofs.Moving.{own-moved}
use Rattle.mount_laws.proofs.Places.{nothing-below, named-shown, longer}
use Rattle.mount_laws.proofs.Refusing.{names-none, name-at}
use Rattle.mount_laws.proofs.Removes.{attributes-named, attributes-fewer, face-fewer, counted-some}
use Rattle.mount_laws.proofs.RenamedHandles.{ways-keep, ways-none, ways-free}
use Rattle.mount_laws.proofs.RenamedTree.{is-it, came-from, Places, old_place, new_place, moved, at-old, at-new, renamed-is, bare-after, gone-at, follows-at, kept-fact, face-moved, face-others, other-node, still-there, still-held}
use Rattle.mount_laws.proofs.Renaming.{same-object, law_of_rename}
use Rattle.mount_laws.proofs.CanMove.{law_of_can_move}

-- one path follows a path
follow-alone : (old new x z p q : Path) → x ≡ z → Follows old new x p → Follows old new z q → p ≡ q
follow-alone old new x z p q e (Goes r a b) (Goes k c d) = b ∙ ap (λ r. r ++ new) (append_cancel_right r k old (sym a ∙ e ∙ c)) ∙ sym d
follow-alone old new x z p q e (Goes r a b) (Stays c d f) = absurd (c r (sym e ∙ a))
follow-alone old new x z p q e (Stays a b c) (Goes r d f) = absurd (a r (e ∙ d))
follow-alone old new x z p q e (Stays a b c) (Stays d f h) = c ∙ e ∙ sym h

-- a node that moved is seen so; an untouched one had one name
face-touched :
    (m : MountOptions) (o : Option Node) → (is_untouched o ≡ true → count_of o ≡ 1) →
    face (over_node (meta_touched m) o) ≡ option_map (moved_sight m.metacopy) (face o)
face-touched m None one = refl
face-touched m (Some (Branch a b names c)) one = refl
face-touched m (Some (Leaf content a (Own z) l)) one = refl
face-touched m (Some (Leaf content a (Untouched k) l)) one = ap (λ n. Some (SeenLeaf content a (Own (m.metacopy && is_file content)) n)) (one refl)

attributes-touched : (m : MountOptions) (o : Option Node) → folder_attributes (over_node (meta_touched m) o) ≡ folder_attributes o
attributes-touched m None = refl
attributes-touched m (Some (Branch a b names c)) = refl
attributes-touched m (Some (Leaf content a u l)) = refl

-- the facts of a tree in which old moved to new
record MovedTree (V : Layer) (lowers : List Layer) (s : State) (old new : Path) (u : Tree) : Type 0 where
  pub shows : Remounts V lowers u
  pub follows : (x y : Path) → Follows old new x y → node_at u y ≡ node_at s.tree x
  pub gone : (r : Path) → node_at u (r ++ old) ≡ None
  pub hidden : KeepsHidden s.tree u
  pub held : (k fd : ℕ) (h : Handle) → handle_of s.tables k fd ≡ Some h → folder_attributes (u h.node) ≡ folder_attributes (s.tree h.node)
  pub empty : (d : NodeId) → node_at s.tree new ≡ Some d → is_folder (s.tree d) ≡ true → (names_in (u d) ≡ []) × IsHidden u d

-- the object moves, which takes the place of no other name of its inode, and of a file or link only if it is none
module _
    (U V : Layer) (lowers : List Layer) (s : State) (m : IsMountOf U lowers s) (w : Places s.tree)
    (g : MovesTo U V lowers s.options.metacopy (old_place s.tree w) (new_place s.tree w)) (two : AreLinked U (old_place s.tree w) (new_place s.tree w) → ⊥)
    (unnamed : is_directory (shows 0 (U ∷ lowers) (old_place s.tree w)) ≡ true → NamesNoInode U (new_place s.tree w)) where
  abbrev old : Path
  old = old_place s.tree w

  abbrev new : Path
  new = new_place s.tree w

  abbrev u : Tree
  u = moved s.options s.tree s.tables w

  leads : node_at s.tree old ≡ Some w.node
  leads = at-old s.options s.tree s.tables w

  led : node_at s.tree new ≡ w.taken
  led = at-new s.options s.tree s.tables w

  follows : (x y : Path) → Follows old new x y → node_at u y ≡ node_at s.tree x
  follows = follows-at s.options s.tree s.tables w

  gone : (r : Path) → node_at u (r ++ old) ≡ None
  gone = gone-at s.options s.tree s.tables w

  -- a path that leads somewhere follows one that led there
  led-before : (y : Path) (d : NodeId) → node_at u y ≡ Some d → (x : Path) × Follows old new x y × (node_at s.tree x ≡ Some d)
  led-before y d h = elim (came-from old new y) [
    | inl c ↦ (c.0, c.1, sym (follows c.0 y c.1) ∙ h)
    | inr b ↦ (let z : None ≡ Some d = sym (gone b.0) ∙ ap (node_at u) (sym b.1) ∙ h in cc)
  ]

  -- no inode is named below the old place, where a file or link is shown there
  unnamed-below :
      (k : Name) (r : Path) (j : ℕ) → is_directory (shows 0 (U ∷ lowers) old) ≡ false → held U (k ∷ r ++ old) ≡ Some (Named j) → ⊥
  unnamed-below k r j file h = named-shown U lowers (k ∷ r ++ old) j h (nothing-below (U ∷ lowers) m.layers old file k r)

  -- what stands below the object is neither it nor what stood at the new place
  not-node : (k : Name) (r : Path) (x : NodeId) → node_at s.tree (k ∷ r ++ old) ≡ Some x → Some w.node ≡ Some x → ⊥
  not-node k r x h z = elim (m.shows.apart old (k ∷ r ++ old) x (leads ∙ z) h) [
    | inl e ↦ longer old k r e
    | inr l ↦ unnamed-below k r l.number (ap (λ o. is_directory (over 0 U.inodes o (through U lowers old))) l.first) l.second
  ]

  not-taken : (k : Name) (r : Path) (x : NodeId) → node_at s.tree (k ∷ r ++ old) ≡ Some x → w.taken ≡ Some x → ⊥
  not-taken k r x h z = elim (m.shows.apart new (k ∷ r ++ old) x (led ∙ z) h) [
    | inl e ↦ w.apart (k ∷ r) e
    | inr l ↦ elim (cases_Bool (is_directory (shows 0 (U ∷ lowers) old))) [
      | inl folder ↦ unnamed folder l.number l.first
      | inr file ↦ unnamed-below k r l.number file l.second
    ]
  ]

  seen-at : (y : Path) (x : NodeId) → node_at s.tree y ≡ Some x → face (s.tree x) ≡ merged U lowers y
  seen-at y x h = ap (λ o. face (node_of s.tree o)) (sym h) ∙ m.shows.sights y

  -- what is seen of the object
  moved-sight : face (u w.node) ≡ option_map (moved_sight s.options.metacopy) (merged U lowers old)
  moved-sight =
      face-moved s.options s.tree s.tables w
      ∙ face-touched s.options (s.tree w.node)
      (λ t. one-name (count_of (s.tree w.node)) (at-path s.tree s.serial m.kept old w.node leads) (m.kept.single w.node t))
      ∙ ap (option_map (moved_sight s.options.metacopy)) (seen-at old w.node leads)

  below-sight :
      (k : Name) (r : Path) (o : Option NodeId) → node_at s.tree (k ∷ r ++ old) ≡ o → face (node_of u o) ≡ merged U lowers (k ∷ r ++ old)
  below-sight k r None h = ap (λ o. face (node_of s.tree o)) (sym h) ∙ m.shows.sights (k ∷ r ++ old)
  below-sight k r (Some x) h = face-others s.options s.tree s.tables w x (not-node k r x h) (not-taken k r x h) ∙ seen-at (k ∷ r ++ old) x h

  module _ (kept : IsKept u s.serial) where
    -- another name of the object's inode
    own-sight : (y : Path) → IsOutside old y → IsOutside new y → AreLinked U old y → face (u w.node) ≡ merged V lowers y
    own-sight y a b l =
        moved-sight
        ∙ ap (option_map (moved_sight s.options.metacopy)) (named-seen U lowers old l.number l.first)
        ∙ own-moved s.options.metacopy (U.inodes l.number)
        ∙ sym (named-seen U lowers y l.number l.second)
        ∙ sym (g.others y a b (λ k. two (joined-links U old y new l (turned U new y k))))

    -- another name of the inode that the new place named
    fewer-sight :
        (y : Path) (x : NodeId) → IsOutside old y → IsOutside new y → node_at s.tree y ≡ Some x → w.taken ≡ Some x → AreLinked U new y →
        face (u x) ≡ merged V lowers y
    fewer-sight y x a b h z l =
        ap face
        (still-there s.options s.tree s.tables w x z
        (counted-some (u x) (at-path u s.serial kept y x (follows y y (Stays a b refl) ∙ h))))
        ∙ face-fewer (s.tree x) (U.inodes l.number) (seen-at y x h ∙ named-seen U lowers y l.number l.second)
        ∙ ap fewer (seen-at y x h)
        ∙ sym (g.linked y a b l)

    -- what stays is seen as the upper shows it
    stays-sight :
        (y : Path) → IsOutside old y → IsOutside new y → (o : Option NodeId) → node_at s.tree y ≡ o → face (node_of u o) ≡ merged V lowers y
    stays-sight y a b None h =
        ap (λ o. face (node_of s.tree o)) (sym h) ∙ m.shows.sights y
        ∙ sym (g.others y a b (λ l. named-shown U lowers y l.number l.second unshown))
      where
        unshown : shows 0 (U ∷ lowers) y ≡ None
        unshown = none-of (shows 0 (U ∷ lowers) y) (sym (at-some U lowers s m y) ∙ ap is_some h)
    stays-sight y a b (Some x) h = elim (is-it (Some w.node) x) [
      | inl z ↦
          let is : w.node ≡ x = cc in
          ap (λ x. face (u x)) (sym is) ∙ own (m.shows.apart old y x (leads ∙ z) h)
      | inr not_node ↦ elim (is-it w.taken x) [
        | inl z ↦ taken z (m.shows.apart new y x (led ∙ z) h)
        | inr not_taken ↦
            face-others s.options s.tree s.tables w x not_node not_taken
            ∙ seen-at y x h
            ∙ sym (g.others y a b (λ l. not_taken (sym led ∙ m.shows.linked new y l ∙ h)))
      ]
    ]
      where
        own : (old ≡ y) ⊎ AreLinked U old y → face (u w.node) ≡ merged V lowers y
        own (inl e) = absurd (a [] (sym e))
        own (inr l) = own-sight y a b l

        taken : w.taken ≡ Some x → (new ≡ y) ⊎ AreLinked U new y → face (u x) ≡ merged V lowers y
        taken z (inl e) = absurd (b [] (sym e))
        taken z (inr l) = fewer-sight y x a b h z l

    followed-sight : (x y : Path) → Follows old new x y → face (node_of u (node_at s.tree x)) ≡ merged V lowers y
    followed-sight x y (Goes [] e f) =
        ap (λ p. face (node_of u (node_at s.tree p))) e ∙ ap (λ o. face (node_of u o)) leads
        ∙ moved-sight ∙ sym g.here ∙ ap (merged V lowers) (sym f)
    followed-sight x y (Goes (k ∷ r) e f) =
        ap (λ p. face (node_of u (node_at s.tree p))) e
        ∙ below-sight k r (node_at s.tree (k ∷ r ++ old)) refl
        ∙ sym (g.beneath k r) ∙ ap (merged V lowers) (sym f)
    followed-sight x y (Stays a b f) = stays-sight x a b (node_at s.tree x) refl ∙ ap (merged V lowers) (sym f)

    sights : (y : Path) → sight_at u y ≡ merged V lowers y
    sights y = elim (came-from old new y) [
      | inl c ↦ ap (λ o. face (node_of u o)) (follows c.0 y c.1) ∙ followed-sight c.0 y c.1
      | inr b ↦ ap (sight_at u) b.1 ∙ ap (λ o. face (node_of u o)) (gone b.0) ∙ sym (ap (merged V lowers) b.1 ∙ g.gone b.0)
    ]

    -- what the upper names now is seen, so it is not below the old place
    named-gone : (y : Path) (k : ℕ) → held V y ≡ Some (Named k) → merged V lowers y ≡ None → ⊥
    named-gone y k h none = by (V.inodes k) refl (g.layers.0.present y k h)
      where
        by : (i : Option Inode) → V.inodes k ≡ i → is_some i ≡ true → ⊥
        by None e some = false≢true some
        by (Some i) e some = let z : see_inode 0 (Some i) ≡ None = sym (named-seen V lowers y k h ∙ ap (see_inode 0) e) ∙ none in cc

    named-from : (y : Path) (k : ℕ) → held V y ≡ Some (Named k) → (x : Path) × Follows old new x y
    named-from y k h = elim (came-from old new y) [
      | inl c ↦ c
      | inr b ↦ absurd (named-gone y k h (ap (merged V lowers) b.1 ∙ g.gone b.0))
    ]

    linked : (y z : Path) → AreLinked V y z → node_at u y ≡ node_at u z
    linked y z l =
        let a = named-from y l.number l.first in
        let b = named-from z l.number l.second in
        follows a.0 y a.1 ∙ same a.0 b.0 (g.earlier a.0 b.0 y z a.1 b.1 l) ∙ sym (follows b.0 z b.1)
      where
        same : (p q : Path) → (p ≡ q) ⊎ AreLinked U p q → node_at s.tree p ≡ node_at s.tree q
        same p q (inl e) = ap (node_at s.tree) e
        same p q (inr k) = m.shows.linked p q k

    apart-paths : (y z : Path) (d : NodeId) → node_at u y ≡ Some d → node_at u z ≡ Some d → (y ≡ z) ⊎ AreLinked V y z
    apart-paths y z d h k =
        let a = led-before y d h in
        let b = led-before z d k in
        lift a.0 b.0 a.1 b.1 (m.shows.apart a.0 b.0 d a.2 b.2)
      where
        lift : (p q : Path) → Follows old new p y → Follows old new q z → (p ≡ q) ⊎ AreLinked U p q → (y ≡ z) ⊎ AreLinked V y z
        lift p q f e (inl i) = inl (follow-alone old new p q y z i f e)
        lift p q f e (inr l) = inr (g.later p q y z f e l)

    hidden-there : KeepsHidden s.tree u
    hidden-there x some hid = (
      other-node s.options s.tree s.tables w x (λ z. hid old (leads ∙ z)) (λ z. hid new (led ∙ z))
          (λ z. hid w.old_parent (w.old_at ∙ ap Some z)) (λ z. hid w.new_parent (w.new_at ∙ ap Some z)),
      λ y h. let c = led-before y x h in hid c.0 c.2,
    )

    held-there :
        (k fd : ℕ) (h : Handle) → handle_of s.tables k fd ≡ Some h → folder_attributes (u h.node) ≡ folder_attributes (s.tree h.node)
    held-there k fd h on = elim (is-it w.taken h.node) [
      | inl z ↦
          ap folder_attributes (still-held s.options s.tree s.tables w h.node z (held-by s.tables k fd h on))
          ∙ attributes-fewer (s.tree h.node)
      | inr away ↦ kept-fact s.options s.tree s.tables w folder_attributes attributes-named (attributes-touched s.options) h.node away
    ]

    -- no path follows the new place
    not-followed : (x y : Path) → Follows old new x y → x ≡ new → ⊥
    not-followed x y (Goes r e f) is = w.apart r (sym is ∙ e)
    not-followed x y (Stays a b f) is = b [] is

    empty-there : (d : NodeId) → node_at s.tree new ≡ Some d → is_folder (s.tree d) ≡ true → (names_in (u d) ≡ []) × IsHidden u d
    empty-there d h folder = (
      names-none (u d) (bare-after s.options s.tree s.tables w d (sym led ∙ h)),
      λ y k. let c = led-before y d k in not-followed c.0 y c.1 (folder-alone U lowers s m new c.0 d folder h c.2),
    )

    moved-there : MovedTree V lowers s old new u
    moved-there = record {
      shows = record { sights = sights; linked = linked; apart = apart-paths };
      follows = follows;
      gone = gone;
      hidden = hidden-there;
      held = held-there;
      empty = empty-there;
    }

-- a rename that is not refused, of one object to another place
module _
    (U V : Layer) (lowers : List Layer) (s : State) (m : IsMountOf U lowers s) (c : ℕ) (n1 : Name) (q1 : Path) (n2 : Name) (q2 : Path)
    (bare : ShowsNoName (U ∷ lowers) (n2 ∷ q2)) (fine : rename_fault U lowers s.options.redirects (n1 ∷ q1) (n2 ∷ q2) false ≡ None)
    (two : is_one U (n1 ∷ q1) (n2 ∷ q2) ≡ false) (g : MovesTo U V lowers s.options.metacopy (n1 ∷ q1) (n2 ∷ q2)) where
  abbrev from : Path
  from = n1 ∷ q1

  abbrev to : Path
  to = n2 ∷ q2

  can : CanMove U lowers from to
  can = law_of_can_move U lowers m.layers s.options.redirects from to bare fine two

  places : Places s.tree
  places =
      let a = taken-name s.tree n1 q1 (to-last U lowers s m from ∙ can.walk) in
      let b = look-reached s.tree n2 q2 (to-parents U lowers s m to ∙ can.parents) in
      by a.0 a.1 b.0 b.1
    where
      by : (e : NodeId) → Reached s.tree n1 q1 (Some e) → (o : Option NodeId) → Reached s.tree n2 q2 o → Places s.tree
      by e a o b = record {
        old_name = n1;
        old_parent = q1;
        old_dir = a.dir;
        new_name = n2;
        new_parent = q2;
        new_dir = b.dir;
        node = e;
        taken = o;
        old_at = a.at;
        old_folder = a.folder;
        leads = a.leads;
        new_at = b.at;
        new_folder = b.folder;
        led_to = b.leads;
        old_only = λ y h. folder-alone U lowers s m q1 y a.dir a.folder a.at h;
        new_only = λ y h. folder-alone U lowers s m q2 y b.dir b.folder b.at h;
        apart = can.apart;
        back = can.back;
        bare = λ x h k.
            none-of (names_of (s.tree x) k)
            (
            ap (λ o. is_some (names_of (node_of s.tree o) k)) (sym (at-target ∙ h))
            ∙ name-at U lowers s m to k ∙ ap is_some (bare k)
            );
        other = λ h. different (m.shows.apart from to e (ap (λ o. entry s.tree o n1) a.at ∙ a.leads) (at-target ∙ h));
      }
        where
          at-target : node_at s.tree to ≡ o
          at-target = ap (λ o. entry s.tree o n2) b.at ∙ b.leads

          different : (from ≡ to) ⊎ AreLinked U from to → ⊥
          different (inl e) = can.apart [] (sym e)
          different (inr l) = can.unlinked l

  abbrev tree : Tree
  tree = tree_after s c (Rename from to)

  kept : IsKept tree s.serial
  kept = law_of_names s c (Rename from to) m.kept ((law_of_rename U lowers s m c from to).empty bare ∙ fine)

  not-same-found : same_found (look s.tree from) (look s.tree to) ≡ false
  not-same-found =
      same-object U lowers s m from to (shown-there (parents_fault (U ∷ lowers) from) (shows 0 (U ∷ lowers) from) can.walk)
      ∙ two

  -- the tree after the call
  is-tree : (w : Places s.tree) → from ≡ old_place s.tree w → to ≡ new_place s.tree w → tree ≡ moved s.options s.tree s.tables w
  is-tree w a b =
      ap (λ b. cond b s.tree (settled s.tables (renamed s.options s.tree from to) (node_at s.tree to))) not-same-found
      ∙ ap₂ (λ p q. settled s.tables (renamed s.options s.tree p q) (node_at s.tree q)) a b
      ∙ renamed-is s.options s.tree s.tables w

  moved-tree : MovedTree V lowers s from to tree
  unfolding places
  moved-tree =
      let is = is-tree places refl refl in
      subst (MovedTree V lowers s from to) (sym is)
      (moved-there U V lowers s m places g can.unlinked can.unnamed (subst (λ t. IsKept t s.serial) is kept))

  abbrev node : Option NodeId
  node = node_at s.tree from

  abbrev old_way : Option (NodeId × Name)
  old_way = way_of s.tree from

  abbrev new_way : Option (NodeId × Name)
  new_way = way_of s.tree to

  same-tables : tables_after s c (Rename from to) ≡ re_ways s.tables node old_way new_way
  same-tables = ap (λ b. cond b s.tables (re_ways s.tables node old_way new_way)) not-same-found

  renames : Renames V lowers s c from to
  renames = record {
    answer = refl;
    mounts = record { layers = g.layers; shows = moved-tree.shows; kept = kept; writable = m.writable };
    tables = same-tables;
    handles = λ k fd h on.
        subst (λ ks. KeepsHandle (handle_of ks k fd) h) (sym same-tables) (ways-keep node old_way new_way s.tables k fd h on);
    unopened = λ k fd off. ap (λ ks. handle_of ks k fd) same-tables ∙ ways-none node old_way new_way s.tables k fd off;
    free = λ k. ap (λ ks. lowest_free ks k) same-tables ∙ ways-free node old_way new_way s.tables k;
    follows = moved-tree.follows;
    gone = moved-tree.gone;
    hidden = moved-tree.hidden;
    held = moved-tree.held;
    empty = moved-tree.empty;
  }

-- rename makes the mount one of the upper to which the object moved
pub law_of_renamed : LawOfRenamed
law_of_renamed U V lowers s m c [] new bare fine two g = let z : Some EBUSY ≡ None = fine in cc
law_of_renamed U V lowers s m c (n1 ∷ q1) [] bare fine two g = let z : Some EBUSY ≡ None = fine in cc
law_of_renamed U V lowers s m c (n1 ∷ q1) (n2 ∷ q2) bare fine two g = renames U V lowers s m c n1 q1 n2 q2 bare fine two g
