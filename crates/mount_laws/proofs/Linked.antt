-- The refusals of link are told by the layers, and the layers that gain the name show the tree that link makes.
use Rattle.std.proofs.Common.{◌≡◌, ◌≢◌, ℕ, ◌+◌, true, false, List, [], ◌∷◌, ◌++◌, Option, None, Some, option_map, refl, sym, ap, ap₂, subst, ◌∙◌, ◌⊎◌, inl, inr, is_some, ◌&&◌}
use Rattle.std.proofs.lemmas.Bool.{false≢true, cases_Bool, both_ways}
use Rattle.ov_base.specs.declared.call.CallOf.TheVariants.{Hardlink}
use Rattle.ov_base.specs.declared.errno.Errno.{Errno}
use Rattle.ov_base.specs.declared.errno.Errno.TheVariants.{EPERM, EEXIST}
use Rattle.ov_base.specs.declared.node_id.NodeId.{NodeId}
use Rattle.plain_model.specs.Layers.{Name, Path, Named, Layer, shows, is_directory, same_path, is_file}
use Rattle.plain_model.specs.Tree.{same_id, Node, Branch, Leaf, Own, Untouched, Tree, names_of, entry, node_at, node_of, with_name, lead, face, sight_at, SeenLeaf, merged, AreLinked, Remounts, is_folder, count_of, is_untouched}
use Rattle.plain_model.specs.Machine.{MountOptions, State, look, is_found}
use Rattle.plain_model.specs.Refusals.{when, walked, there}
use Rattle.plain_model.specs.Changes.{on_way, way_of, lead_way, over_node, change, one_more, tree_after}
use Rattle.plain_model.proofs.Flat.{more-flat, flat-names, flat-folders, some-same}
use Rattle.plain_model.proofs.Keeping.{put-here, put-there}
use Rattle.plain_model.proofs.Kept.{at-path, law_of_names}
use Rattle.plain_model.proofs.Looking.{refusal-writable, when-not}
use Rattle.plain_model.proofs.Paths.{place, paths_tell, ids_tell}
use Rattle.plain_model.proofs.Walks.{lead-outside, lead-at}
use Rattle.mount_laws.specs.Looks.{or_else as first, parents_fault, walk_fault, IsMountOf, KeepsHidden}
use Rattle.mount_laws.specs.Linking.{link_fault, LawOfLink, linked_sight, GainsName, MakesName, LawOfNameMade}
use Rattle.mount_laws.proofs.Altered.{one-name}
use Rattle.mount_laws.proofs.Handles.{not-same}
use Rattle.mount_laws.proofs.Links.{first-none, second-none}
use Rattle.mount_laws.proofs.Looks.{chain-four, at-some, to-parents, to-last, finds, shown-there}
use Rattle.mount_laws.proofs.Makes.{Spot, free-spot, folder-alone}
use Rattle.mount_laws.proofs.Opens.{folder-at}

-- link's refusals are told by the layers
pub law_of_link : LawOfLink
law_of_link U lowers s m c old new =
    refusal-writable s c (Hardlink old new) m.writable
    ∙ chain-four (there (look s.tree old)) (walked (look s.tree new)) (when (is_found (look s.tree new)) EEXIST) (when (is_folder (node_of s.tree (node_at s.tree old))) EPERM)
    ∙ (λ i. first (to-last U lowers s m old i) (first (to-parents U lowers s m new i) (first (when (finds U lowers s m new i) EEXIST) (when (folder-at U lowers s m old i) EPERM))))

-- what is no directory has no names
no-folder : (o : Option Node) (k : Name) → is_folder o ≡ false → names_of o k ≡ None
no-folder None k h = refl
no-folder (Some (Leaf content a u l)) k h = refl
no-folder (Some (Branch a b names c)) k h = absurd (false≢true (sym h))

-- a node with a name more is seen so; an untouched one had one name
face-more : (m : MountOptions) (o : Option Node) → (is_untouched o ≡ true → count_of o ≡ 1) → face (over_node (one_more m) o) ≡ option_map (linked_sight m.metacopy) (face o)
face-more m None one = refl
face-more m (Some (Branch a b names c)) one = refl
face-more m (Some (Leaf content a (Own z) l)) one = refl
face-more m (Some (Leaf content a (Untouched k) l)) one = ap (λ n. Some (SeenLeaf content a (Own (m.metacopy && is_file content)) (n + 1))) (one refl)

-- a name that leads elsewhere is not seen of its directory
pub face-named : (n : Name) (e : Option NodeId) (o : Option Node) → face (with_name n e o) ≡ face o
face-named n e None = refl
face-named n e (Some (Branch a b names c)) = refl
face-named n e (Some (Leaf content a u l)) = refl

-- the free name n in the directory d at q leads to e, a file or link, which has one name more
module _ (m : MountOptions) (t : Tree) (n : Name) (q : Path) (d e : NodeId) (at : node_at t q ≡ Some d) (folder : is_folder (t d) ≡ true) (free : names_of (t d) n ≡ None) (only : (y : Path) → node_at t y ≡ Some d → y ≡ q) (file : is_folder (t e) ≡ false) where
  abbrev counted : Tree
  counted = change (one_more m) t (Some e)

  abbrev pub joined : Tree
  joined = lead counted d n (Some e)

  different : d ≢ e
  different s = both_ways (is_folder (t e)) file (ap (λ x. is_folder (t x)) (sym s) ∙ folder)

  -- a name more leads where it led
  counted-entry : (o : Option NodeId) (k : Name) → entry counted o k ≡ entry t o k
  counted-entry None k = refl
  counted-entry (Some x) k = flat-names (one_more m) (more-flat m) t e x k

  counted-at : (y : Path) → node_at counted y ≡ node_at t y
  counted-at [] = refl
  counted-at (k ∷ y) = ap (λ o. entry counted o k) (counted-at y) ∙ counted-entry (node_at t y) k

  counted-only : (y : Path) → node_at counted y ≡ Some d → y ≡ q
  counted-only y h = only y (sym (counted-at y) ∙ h)

  -- the node has one name more
  pub joined-node : joined e ≡ over_node (one_more m) (t e)
  joined-node =
      put-there counted d (with_name n (Some e) (counted d)) e (not-same d e different)
      ∙ put-here t e (over_node (one_more m) (t e)) e ((ids_tell e e).1 refl)

  joined-bare : (k : Name) → names_of (joined e) k ≡ None
  joined-bare k =
      ap (λ o. names_of o k) (put-there counted d (with_name n (Some e) (counted d)) e (not-same d e different))
      ∙ flat-names (one_more m) (more-flat m) t e e k
      ∙ no-folder (t e) k file

  -- the path leads to it, none does below, and others lead where they led
  pub joined-at : node_at joined (n ∷ q) ≡ Some e
  joined-at = lead-at counted d q n (Some e) counted-only (counted-at q ∙ at) (flat-folders (one_more m) (more-flat m) t e d ∙ folder)

  none-after : (k : Name) (r : Path) → node_at joined (k ∷ r ++ (n ∷ q)) ≡ None
  none-after k [] = ap (λ o. entry joined o k) joined-at ∙ joined-bare k
  none-after k (j ∷ r) = ap (λ o. entry joined o k) (none-after j r)

  pub none-before : (r : Path) → node_at t (r ++ (n ∷ q)) ≡ None
  none-before [] = ap (λ o. entry t o n) at ∙ free
  none-before (k ∷ r) = ap (λ o. entry t o k) (none-before r)

  pub others-at : (y : Path) → y ≢ n ∷ q → node_at joined y ≡ node_at t y
  others-at y apart = elim (place (n ∷ q) y) [
    | inl b ↦ below b.0 b.1
    | inr out ↦ lead-outside counted d q n (Some e) counted-only y out ∙ counted-at y
  ]
    where
      below : (r : Path) → y ≡ r ++ (n ∷ q) → node_at joined y ≡ node_at t y
      below [] s = absurd (apart s)
      below (k ∷ r) s = ap (node_at joined) s ∙ none-after k r ∙ sym (ap (node_at t) s ∙ none-before (k ∷ r))

  -- other nodes look as they did
  pub other-face : (x : NodeId) → same_id e x ≡ false → face (joined x) ≡ face (t x)
  other-face x apart = elim (cases_Bool (same_id d x)) [
    | inl s ↦
        ap face (put-here counted d (with_name n (Some e) (counted d)) x s) ∙ face-named n (Some e) (counted d)
        ∙ ap (λ z. face (counted z)) ((ids_tell d x).0 s) ∙ ap face (put-there t e (over_node (one_more m) (t e)) x apart)
    | inr s ↦ ap face (put-there counted d (with_name n (Some e) (counted d)) x s) ∙ ap face (put-there t e (over_node (one_more m) (t e)) x apart)
  ]

  -- a node that is neither it nor the directory is as it was
  pub other-node : (x : NodeId) → same_id e x ≡ false → same_id d x ≡ false → joined x ≡ t x
  other-node x apart away =
      put-there counted d (with_name n (Some e) (counted d)) x away
      ∙ put-there t e (over_node (one_more m) (t e)) x apart

-- the facts of a tree in which the path new leads to what old leads to
pub record Joined (V : Layer) (lowers : List Layer) (s : State) (old new : Path) (u : Tree) : Type 0 where
  pub shows : Remounts V lowers u
  pub stays : (x : Path) (d : NodeId) → node_at s.tree x ≡ Some d → node_at u x ≡ Some d
  pub joined : node_at u new ≡ node_at s.tree old
  pub hidden : KeepsHidden s.tree u

-- two paths that are one object are so either way round
pub turned : (V : Layer) (x z : Path) → AreLinked V x z → AreLinked V z x
turned V x z l = record { number = l.number; first = l.second; second = l.first }

-- and so are two that are one object with a third
pub joined-links : (V : Layer) (x y z : Path) → AreLinked V x y → AreLinked V y z → AreLinked V x z
joined-links V x y z k l =
    let number : l.number ≡ k.number = (let w : Some (Named l.number) ≡ Some (Named k.number) = sym l.first ∙ k.second in cc) in
    record { number = k.number; first = k.first; second = l.second ∙ ap (λ j. Some (Named j)) number }

-- the path new leads to the node e of old
module _ (U V : Layer) (lowers : List Layer) (s : State) (m : IsMountOf U lowers s) (old new : Path) (spot : Spot s.tree new) (e : NodeId) (leads : node_at s.tree old ≡ Some e) (file : is_folder (s.tree e) ≡ false) (g : GainsName U V lowers s.options.metacopy old new) where
  only : (y : Path) → node_at s.tree y ≡ Some spot.dir → y ≡ spot.parent
  only y h = folder-alone U lowers s m spot.parent y spot.dir spot.folder spot.at h

  abbrev u : Tree
  u = joined s.options s.tree spot.name spot.parent spot.dir e spot.at spot.folder spot.free only file

  at-new : node_at u new ≡ Some e
  at-new = ap (node_at u) spot.is ∙ joined-at s.options s.tree spot.name spot.parent spot.dir e spot.at spot.folder spot.free only file

  at-others : (y : Path) → y ≢ new → node_at u y ≡ node_at s.tree y
  at-others y apart = others-at s.options s.tree spot.name spot.parent spot.dir e spot.at spot.folder spot.free only file y (λ z. apart (z ∙ sym spot.is))

  -- what led somewhere is not the new path
  not-new : (y : Path) (x : NodeId) → node_at s.tree y ≡ Some x → y ≢ new
  not-new y x h z =
      let w : None ≡ Some x = sym (none-before s.options s.tree spot.name spot.parent spot.dir e spot.at spot.folder spot.free only file []) ∙ ap (node_at s.tree) (sym (z ∙ spot.is)) ∙ h in cc

  still : (y : Path) (x : NodeId) → node_at s.tree y ≡ Some x → node_at u y ≡ Some x
  still y x h = at-others y (not-new y x h) ∙ h

  -- the node is seen with one name more
  seen-more : (y : Path) → node_at s.tree y ≡ Some e → face (u e) ≡ option_map (linked_sight s.options.metacopy) (merged U lowers y)
  seen-more y h =
      ap face (joined-node s.options s.tree spot.name spot.parent spot.dir e spot.at spot.folder spot.free only file)
      ∙ face-more s.options (s.tree e) (λ t. one-name (count_of (s.tree e)) (at-path s.tree s.serial m.kept old e leads) (m.kept.single e t))
      ∙ ap (option_map (linked_sight s.options.metacopy)) (ap (λ o. face (node_of s.tree o)) (sym h) ∙ m.shows.sights y)

  -- a path that led to the node is the old one, or another name of its inode
  old-sight : (y : Path) → old ≡ y → face (u e) ≡ merged V lowers y
  old-sight y z = seen-more old leads ∙ sym g.here ∙ ap (merged V lowers) z

  own-sight : (y : Path) → y ≢ new → node_at s.tree y ≡ Some e → (old ≡ y) ⊎ AreLinked U old y → face (u e) ≡ merged V lowers y
  own-sight y apart h (inl z) = old-sight y z
  own-sight y apart h (inr l) = elim (cases_Bool (same_path old y)) [
    | inl z ↦ old-sight y ((paths_tell old y).0 z)
    | inr f ↦ seen-more y h ∙ sym (g.linked y (λ z. both_ways (same_path old y) f ((paths_tell old y).1 (sym z))) apart l)
  ]

  -- any other path shows what it did
  other-sight : (y : Path) → y ≢ new → (node_at s.tree y ≡ Some e → ⊥) → merged V lowers y ≡ merged U lowers y
  other-sight y apart away = g.others y (λ z. away (ap (node_at s.tree) z ∙ leads)) apart (λ l. away (sym (m.shows.linked old y l) ∙ leads))

  rest-sight : (y : Path) → y ≢ new → (o : Option NodeId) → node_at s.tree y ≡ o → face (node_of u o) ≡ merged V lowers y
  rest-sight y apart None h = ap (λ o. face (node_of s.tree o)) (sym h) ∙ m.shows.sights y ∙ sym (other-sight y apart (λ z. let w : None ≡ Some e = sym h ∙ z in cc))
  rest-sight y apart (Some x) h = elim (cases_Bool (same_id e x)) [
    | inl z ↦
        let is : e ≡ x = (ids_tell e x).0 z in
        let to = h ∙ ap Some (sym is) in
        ap (λ x. face (u x)) (sym is) ∙ own-sight y apart to (m.shows.apart old y e leads to)
    | inr f ↦
        other-face s.options s.tree spot.name spot.parent spot.dir e spot.at spot.folder spot.free only file x f
        ∙ ap (λ o. face (node_of s.tree o)) (sym h) ∙ m.shows.sights y
        ∙ sym (other-sight y apart (λ w. both_ways (same_id e x) f (some-same e x (sym w ∙ h))))
  ]

  -- a path is the new one, or it is not
  is-new : (y : Path) → (y ≡ new) ⊎ (y ≢ new)
  is-new y = elim (cases_Bool (same_path new y)) [
    | inl z ↦ inl (sym ((paths_tell new y).0 z))
    | inr f ↦ inr (λ z. both_ways (same_path new y) f ((paths_tell new y).1 (sym z)))
  ]

  sights : (y : Path) → sight_at u y ≡ merged V lowers y
  sights y = elim (is-new y) [
    | inl z ↦ ap (sight_at u) z ∙ ap (λ o. face (node_of u o)) at-new ∙ seen-more old leads ∙ sym g.there ∙ ap (merged V lowers) (sym z)
    | inr apart ↦ ap (λ o. face (node_of u o)) (at-others y apart) ∙ rest-sight y apart (node_at s.tree y) refl
  ]

  -- what is linked with the new path leads to the node
  linked-new : (y : Path) → y ≢ new → AreLinked V y new → node_at u y ≡ Some e
  linked-new y apart l = at-others y apart ∙ by (g.at y apart l)
    where
      by : (y ≡ old) ⊎ AreLinked U old y → node_at s.tree y ≡ Some e
      by (inl z) = ap (node_at s.tree) z ∙ leads
      by (inr k) = sym (m.shows.linked old y k) ∙ leads

  linked : (y z : Path) → AreLinked V y z → node_at u y ≡ node_at u z
  linked y z l = by (is-new y) (is-new z)
    where
      same : (y ≡ z) ⊎ AreLinked U y z → node_at s.tree y ≡ node_at s.tree z
      same (inl e) = ap (node_at s.tree) e
      same (inr k) = m.shows.linked y z k

      by : (y ≡ new) ⊎ (y ≢ new) → (z ≡ new) ⊎ (z ≢ new) → node_at u y ≡ node_at u z
      by (inl a) (inl b) = ap (node_at u) (a ∙ sym b)
      by (inl a) (inr b) = ap (node_at u) a ∙ at-new ∙ sym (linked-new z b (subst (AreLinked V z) a (turned V y z l)))
      by (inr a) (inl b) = linked-new y a (subst (AreLinked V y) b l) ∙ sym (ap (node_at u) b ∙ at-new)
      by (inr a) (inr b) = at-others y a ∙ same (g.earlier y z a b l) ∙ sym (at-others z b)

  -- what leads to the node is linked with the new path
  now-linked : (y : Path) → y ≢ new → node_at u y ≡ Some e → AreLinked V y new
  now-linked y apart h = by (m.shows.apart old y e leads (sym (at-others y apart) ∙ h))
    where
      by : (old ≡ y) ⊎ AreLinked U old y → AreLinked V y new
      by (inl z) = subst (λ z. AreLinked V z new) z g.together
      by (inr k) = joined-links V y old new (turned V old y (g.later old y k)) g.together

  apart-paths : (y z : Path) (x : NodeId) → node_at u y ≡ Some x → node_at u z ≡ Some x → (y ≡ z) ⊎ AreLinked V y z
  apart-paths y z x h k = by (is-new y) (is-new z)
    where
      lift : (y ≡ z) ⊎ AreLinked U y z → (y ≡ z) ⊎ AreLinked V y z
      lift (inl e) = inl e
      lift (inr l) = inr (g.later y z l)

      -- where one is the new path, both lead to the node
      to-it : (y z : Path) → y ≡ new → node_at u y ≡ Some x → node_at u z ≡ Some x → node_at u z ≡ Some e
      to-it y z a h k = k ∙ sym h ∙ ap (node_at u) a ∙ at-new

      by : (y ≡ new) ⊎ (y ≢ new) → (z ≡ new) ⊎ (z ≢ new) → (y ≡ z) ⊎ AreLinked V y z
      by (inl a) (inl b) = inl (a ∙ sym b)
      by (inl a) (inr b) = inr (turned V z y (subst (AreLinked V z) (sym a) (now-linked z b (to-it y z a h k))))
      by (inr a) (inl b) = inr (subst (AreLinked V y) (sym b) (now-linked y a (to-it z y b k h)))
      by (inr a) (inr b) = lift (m.shows.apart y z x (sym (at-others y a) ∙ h) (sym (at-others z b) ∙ k))

  hidden-there : KeepsHidden s.tree u
  hidden-there x some hid = (
    other-node s.options s.tree spot.name spot.parent spot.dir e spot.at spot.folder spot.free only file x (not-it e old leads) (not-it spot.dir spot.parent spot.at),
    λ y h. elim (is-new y) [
      | inl z ↦ hid old (leads ∙ sym at-new ∙ ap (node_at u) (sym z) ∙ h)
      | inr apart ↦ hid y (sym (at-others y apart) ∙ h)
    ],
  )
    where
      not-it : (z : NodeId) (y : Path) → node_at s.tree y ≡ Some z → same_id z x ≡ false
      not-it z y h = not-same z x (λ w. hid y (h ∙ ap Some w))

  joined-there : Joined V lowers s old new u
  joined-there = record {
    shows = record { sights = sights; linked = linked; apart = apart-paths };
    stays = still;
    joined = at-new ∙ sym leads;
    hidden = hidden-there;
  }

  -- the tree after the call is this one
  is-joined : lead_way (change (one_more s.options) s.tree (node_at s.tree old)) (way_of s.tree new) (node_at s.tree old) ≡ u
  is-joined =
      ap₂ (λ o w. lead_way (change (one_more s.options) s.tree o) w o) leads (ap (way_of s.tree) spot.is ∙ ap (λ o. on_way o spot.name) spot.at)

-- a link that is not refused
module _ (U V : Layer) (lowers : List Layer) (s : State) (m : IsMountOf U lowers s) (c : ℕ) (old new : Path) (fine : link_fault (U ∷ lowers) old new ≡ None) (g : GainsName U V lowers s.options.metacopy old new) where
  abbrev last : Option Errno
  last = first (when (is_some (shows 0 (U ∷ lowers) new)) EEXIST) (when (is_directory (shows 0 (U ∷ lowers) old)) EPERM)

  -- the new name's parents are there, and it is free
  rest : first (parents_fault (U ∷ lowers) new) last ≡ None
  rest = second-none (walk_fault (U ∷ lowers) old) _ fine

  no-last : last ≡ None
  no-last = second-none (parents_fault (U ∷ lowers) new) last rest

  free : first (walked (look s.tree new)) (when (is_found (look s.tree new)) EEXIST) ≡ None
  free =
      ap₂ first
      (to-parents U lowers s m new ∙ first-none (parents_fault (U ∷ lowers) new) last rest)
      (ap (λ b. when b EEXIST) (finds U lowers s m new) ∙ first-none (when (is_some (shows 0 (U ∷ lowers) new)) EEXIST) _ no-last)

  spot : Spot s.tree new
  spot = free-spot s.tree new None free

  -- the old path leads to a file or link
  some : is_some (node_at s.tree old) ≡ true
  some = at-some U lowers s m old ∙ shown-there (parents_fault (U ∷ lowers) old) (shows 0 (U ∷ lowers) old) (first-none (walk_fault (U ∷ lowers) old) _ fine)

  file : is_folder (node_of s.tree (node_at s.tree old)) ≡ false
  file =
      folder-at U lowers s m old
      ∙ when-not (is_directory (shows 0 (U ∷ lowers) old)) EPERM (second-none (when (is_some (shows 0 (U ∷ lowers) new)) EEXIST) _ no-last)

  joins : Joined V lowers s old new (tree_after s c (Hardlink old new))
  joins = by (node_at s.tree old) refl some
    where
      by : (o : Option NodeId) → node_at s.tree old ≡ o → is_some o ≡ true → Joined V lowers s old new (tree_after s c (Hardlink old new))
      by None h i = absurd (false≢true i)
      by (Some e) h i =
          let leaf : is_folder (s.tree e) ≡ false = ap (λ o. is_folder (node_of s.tree o)) (sym h) ∙ file in
          subst (Joined V lowers s old new) (sym (is-joined U V lowers s m old new spot e h leaf g)) (joined-there U V lowers s m old new spot e h leaf g)

  makes-name : MakesName V lowers s c old new
  makes-name = record {
    answer = refl;
    mounts = record {
      layers = g.layers;
      shows = joins.shows;
      kept = law_of_names s c (Hardlink old new) m.kept (law_of_link U lowers s m c old new ∙ fine);
      writable = m.writable;
    };
    tables = refl;
    stays = joins.stays;
    joined = joins.joined;
    hidden = joins.hidden;
  }

-- link makes the mount one of the upper that gains the name
pub law_of_name_made : LawOfNameMade
law_of_name_made = makes-name
