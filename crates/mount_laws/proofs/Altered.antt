-- What chmod, chown, and the setting and deleting of a user attribute make of the tree, and that the layers which show the other
-- attributes show it.
use Rattle.std.proofs.Common.{◌≡◌, ℕ, ◌≤◌, Bool, true, List, [], ◌∷◌, Option, None, Some, option_map, refl, sym, ap, subst, ◌∙◌, ◌⊎◌, inl, inr, is_some, arith, ◌&&◌}
use Rattle.std.proofs.lemmas.Bool.{false≢true, cases_Bool, both_ways}
use Rattle.ov_base.specs.declared.attributes.Attributes.{Attributes}
use Rattle.ov_base.specs.Calls.{Call}
use Rattle.ov_base.specs.declared.call.CallOf.TheVariants.{Chmod, Chown, SetAttribute, DeleteAttribute}
use Rattle.ov_base.specs.declared.node_id.NodeId.{NodeId}
use Rattle.ov_base.specs.declared.reply.Reply.TheVariants as reply
use Rattle.plain_model.specs.Layers.{Name, Path, Layer, Shown, Folder, Contents, shows, same_path, is_file}
use Rattle.plain_model.specs.Tree.{same_id, Node, Branch, Leaf, Own, Untouched, Tree, entry, node_at, node_of, face, sight_at, Sight, SeenBranch, SeenLeaf, see, merged, AreLinked, Remounts, is_folder, count_of, is_untouched}
use Rattle.plain_model.specs.Machine.{MountOptions, State}
use Rattle.plain_model.specs.Refusals.{refusal}
use Rattle.plain_model.specs.Changes.{over_node, change, with_attributes, with_mode, with_owner, set_value, drop_value, tree_after, tables_after}
use Rattle.plain_model.specs.Replies.{reply_of}
use Rattle.plain_model.proofs.Flat.{some-same}
use Rattle.plain_model.proofs.Keeping.{Like, put-here, put-there, change-like}
use Rattle.plain_model.proofs.Kept.{attributes-mild, at-path, law_of_names}
use Rattle.plain_model.proofs.Paths.{paths_tell, ids_tell}
use Rattle.mount_laws.specs.Looks.{IsMountOf, KeepsHidden}
use Rattle.mount_laws.specs.Attributes.{shown_attributes}
use Rattle.mount_laws.specs.Altered.{altered, Alters, AltersState, LawOfModeChanged, LawOfOwnerChanged, LawOfAttributeSet, LawOfAttributeDeleted}
use Rattle.mount_laws.proofs.Attributes.{law_of_chmod, law_of_chown, law_of_set_attribute, law_of_delete_attribute}
use Rattle.mount_laws.proofs.Looks.{at-some}

-- the attributes that are seen
abbrev pub seen_attributes : Option Sight → Option Attributes
seen_attributes None = None
seen_attributes (Some (SeenBranch a b)) = Some a
seen_attributes (Some (SeenLeaf content a u l)) = Some a

see-attributes : (b : Bool) (s : Option Shown) → seen_attributes (see b s) ≡ shown_attributes s
see-attributes b None = refl
see-attributes b (Some (Folder i k a)) = refl
see-attributes b (Some (Contents i k None)) = refl
see-attributes b (Some (Contents i k (Some inode))) = refl

-- a node with other attributes is seen so; an untouched one has one name
face-altered : (m : MountOptions) (f : Attributes → Attributes) (a : Attributes) (o : Option Node) → seen_attributes (face o) ≡ Some a → (is_untouched o ≡ true → count_of o ≡ 1) → face (over_node (with_attributes m f) o) ≡ option_map (altered m.metacopy (f a)) (face o)
face-altered m f a None h one = refl
face-altered m f a (Some (Branch x b names c)) h one = let e : x ≡ a = cc in ap (λ z. Some (SeenBranch (f z) b)) e
face-altered m f a (Some (Leaf content x (Own k) l)) h one = let e : x ≡ a = cc in ap (λ z. Some (SeenLeaf content (f z) (Own k) l)) e
face-altered m f a (Some (Leaf content x (Untouched k) l)) h one = let e : x ≡ a = cc in λ i. Some (SeenLeaf content (f (e i)) (Own (m.metacopy && is_file content)) (one refl i))

-- what is shown with attributes is there
shown-some : (s : Option Shown) (a : Attributes) → shown_attributes s ≡ Some a → is_some s ≡ true
shown-some None a h = cc
shown-some (Some s) a h = refl

-- one name, where there is at least one and at most one
pub one-name : (n : ℕ) → (n ≡ 0 → ⊥) → n ≤ 1 → n ≡ 1
one-name n some most = omega arith

-- the facts of a tree in which p's attributes are others
pub record Altered (V : Layer) (lowers : List Layer) (s : State) (p : Path) (u : Tree) : Type 0 where
  pub shows : Remounts V lowers u
  pub paths : (q : Path) → node_at u q ≡ node_at s.tree q
  pub hidden : KeepsHidden s.tree u
  pub others : (d : NodeId) → (node_at s.tree p ≡ Some d → ⊥) → u d ≡ s.tree d
  pub folders : (d : NodeId) → is_folder (u d) ≡ is_folder (s.tree d)

module _ (U V : Layer) (lowers : List Layer) (s : State) (m : IsMountOf U lowers s) (p : Path) (f : Attributes → Attributes) (a : Attributes) (has : shown_attributes (shows 0 (U ∷ lowers) p) ≡ Some a) (g : Alters U V lowers s.options.metacopy p (f a)) where
  abbrev pub u : Tree
  u = change (with_attributes s.options f) s.tree (node_at s.tree p)

  like : (x : NodeId) → Like (s.tree x) (u x)
  like = change-like (with_attributes s.options f) (attributes-mild s.options f) s.tree (node_at s.tree p)

  -- paths lead where they led
  entries : (o : Option NodeId) (n : Name) → entry u o n ≡ entry s.tree o n
  entries None n = refl
  entries (Some x) n = (like x).names n

  paths : (y : Path) → node_at u y ≡ node_at s.tree y
  paths [] = refl
  paths (n ∷ y) = ap (λ o. entry u o n) (paths y) ∙ entries (node_at s.tree y) n

  -- a node that the path doesn't lead to is as it was
  other-node : (x : NodeId) → (node_at s.tree p ≡ Some x → ⊥) → u x ≡ s.tree x
  other-node x away = by (node_at s.tree p) refl
    where
      by : (o : Option NodeId) → node_at s.tree p ≡ o → change (with_attributes s.options f) s.tree o x ≡ s.tree x
      by None h = refl
      by (Some d) h = put-there s.tree d (over_node (with_attributes s.options f) (s.tree d)) x (elim (cases_Bool (same_id d x)) [ inl e ↦ absurd (away (h ∙ ap Some ((ids_tell d x).0 e))) | inr n ↦ n ])

  -- the path's own node has the other attributes
  own-node : (d : NodeId) → node_at s.tree p ≡ Some d → u d ≡ over_node (with_attributes s.options f) (s.tree d)
  own-node d at = ap (λ o. change (with_attributes s.options f) s.tree o d) at ∙ put-here s.tree d (over_node (with_attributes s.options f) (s.tree d)) d ((ids_tell d d).1 refl)

  module _ (d : NodeId) (at : node_at s.tree p ≡ Some d) where
    seen : (y : Path) → node_at s.tree y ≡ Some d → face (s.tree d) ≡ merged U lowers y
    seen y h = ap (λ o. face (node_of s.tree o)) (sym h) ∙ m.shows.sights y

    own-sight : (y : Path) → node_at s.tree y ≡ Some d → face (u d) ≡ option_map (altered s.options.metacopy (f a)) (merged U lowers y)
    own-sight y h =
        ap face (own-node d at)
        ∙ face-altered s.options f a (s.tree d) (ap seen_attributes (seen p at) ∙ see-attributes _ (shows 0 (U ∷ lowers) p) ∙ has) (λ t. one-name (count_of (s.tree d)) (at-path s.tree s.serial m.kept p d at) (m.kept.single d t))
        ∙ ap (option_map (altered s.options.metacopy (f a))) (seen y h)

    own-here : (y : Path) → p ≡ y → face (u d) ≡ merged V lowers y
    own-here y e = own-sight p at ∙ sym g.here ∙ ap (merged V lowers) e

    -- a path that leads to the node is the path, or another name of its inode
    own : (y : Path) → node_at s.tree y ≡ Some d → (p ≡ y) ⊎ AreLinked U p y → face (u d) ≡ merged V lowers y
    own y h (inl e) = own-here y e
    own y h (inr l) = elim (cases_Bool (same_path p y)) [
      | inl e ↦ own-here y ((paths_tell p y).0 e)
      | inr n ↦ own-sight y h ∙ sym (g.linked y (λ e. both_ways (same_path p y) n ((paths_tell p y).1 (sym e))) l)
    ]

    -- any other path shows what it did
    other : (y : Path) → (node_at s.tree y ≡ Some d → ⊥) → merged V lowers y ≡ merged U lowers y
    other y away = g.others y (λ e. away (ap (node_at s.tree) e ∙ at)) (λ l. away (sym (m.shows.linked p y l) ∙ at))

    sights : (y : Path) → sight_at u y ≡ merged V lowers y
    sights y = ap (λ o. face (node_of u o)) (paths y) ∙ by (node_at s.tree y) refl
      where
        by : (o : Option NodeId) → node_at s.tree y ≡ o → face (node_of u o) ≡ merged V lowers y
        by None h = ap (λ o. face (node_of s.tree o)) (sym h) ∙ m.shows.sights y ∙ sym (other y (λ e. let z : None ≡ Some d = sym h ∙ e in cc))
        by (Some x) h = elim (cases_Bool (same_id d x)) [
          | inl e ↦
              let is : d ≡ x = (ids_tell d x).0 e in
              let to = h ∙ ap Some (sym is) in
              ap (λ z. face (u z)) (sym is) ∙ own y to (m.shows.apart p y d at to)
          | inr n ↦
              ap face (other-node x (λ w. both_ways (same_id d x) n (some-same d x (sym at ∙ w))))
              ∙ ap (λ o. face (node_of s.tree o)) (sym h) ∙ m.shows.sights y
              ∙ sym (other y (λ w. both_ways (same_id d x) n (some-same d x (sym w ∙ h))))
        ]

    lift : (y z : Path) → (y ≡ z) ⊎ AreLinked U y z → (y ≡ z) ⊎ AreLinked V y z
    lift y z (inl e) = inl e
    lift y z (inr l) = inr (g.later y z l)

    linked-paths : (y z : Path) → (y ≡ z) ⊎ AreLinked U y z → node_at u y ≡ node_at u z
    linked-paths y z (inl e) = ap (node_at u) e
    linked-paths y z (inr l) = paths y ∙ m.shows.linked y z l ∙ sym (paths z)

    altered-there : Altered V lowers s p u
    altered-there = record {
      shows = record {
        sights = sights;
        linked = λ y z l. linked-paths y z (g.earlier y z l);
        apart = λ y z x h k. lift y z (m.shows.apart y z x (sym (paths y) ∙ h) (sym (paths z) ∙ k));
      };
      paths = paths;
      hidden = λ x some hid. (other-node x (hid p), λ y h. hid y (sym (paths y) ∙ h));
      others = other-node;
      folders = λ x. (like x).folders;
    }

  -- the tree with other attributes at p is one that the upper shows
  pub alters-tree : Altered V lowers s p u
  alters-tree = by (node_at s.tree p) refl (at-some U lowers s m p ∙ shown-some (shows 0 (U ∷ lowers) p) a has)
    where
      by : (o : Option NodeId) → node_at s.tree p ≡ o → is_some o ≡ true → Altered V lowers s p u
      by None h i = absurd (false≢true i)
      by (Some d) h i = altered-there d h

  -- and so is the state of a call that makes this tree and no more
  pub alters-state : (c : ℕ) (call : Call) → tree_after s c call ≡ u → refusal s c call ≡ None → reply_of s c call ≡ reply.Done → tables_after s c call ≡ s.tables → AltersState V lowers s c p call
  alters-state c call is fine answer tables =
      let t : Altered V lowers s p (tree_after s c call) = subst (Altered V lowers s p) (sym is) alters-tree in
      record {
        answer = answer;
        mounts = record { layers = g.layers; shows = t.shows; kept = law_of_names s c call m.kept fine; writable = m.writable };
        tables = tables;
        paths = t.paths;
        hidden = t.hidden;
        others = t.others;
        folders = t.folders;
      }

-- chmod makes the mount one of the upper that shows the mode
pub law_of_mode_changed : LawOfModeChanged
law_of_mode_changed p mode U V lowers s m c fine a has g = alters-state U V lowers s m p (with_mode mode) a has g c (Chmod p mode) refl (law_of_chmod U lowers s m c p mode ∙ fine) refl refl

-- chown makes the mount one of the upper that shows the owner
pub law_of_owner_changed : LawOfOwnerChanged
law_of_owner_changed p uid gid U V lowers s m c fine a has g = alters-state U V lowers s m p (with_owner uid gid) a has g c (Chown p uid gid) refl (law_of_chown U lowers s m c p uid gid ∙ fine) refl refl

-- the setting of a user attribute makes the mount one of the upper that shows it
pub law_of_attribute_set : LawOfAttributeSet
law_of_attribute_set p n v U V lowers s m c fine a has g = alters-state U V lowers s m p (λ a. record a { user = set_value a.user n v }) a has g c (SetAttribute p n v) refl (law_of_set_attribute U lowers s m c p n v ∙ fine) refl refl

-- the deleting of a user attribute makes the mount one of the upper that shows no such one
pub law_of_attribute_deleted : LawOfAttributeDeleted
law_of_attribute_deleted p n U V lowers s m c fine a has g = alters-state U V lowers s m p (λ a. record a { user = drop_value a.user n }) a has g c (DeleteAttribute p n) refl (law_of_delete_attribute U lowers s m c p n ∙ fine) refl refl
