-- What mkdir makes of the tree, and that the layers which gain the directory show it.
use Rattle.std.proofs.Common.{◌≡◌, ◌≢◌, ℕ, suc, true, false, cond, List, [], ◌∷◌, ◌++◌, Option, None, Some, refl, sym, ap, ap₂, subst, ◌∙◌, ◌⊎◌, inl, inr, is_some, arith, length, length-append}
use Rattle.std.specs.FinMap as fin
use Rattle.std.specs.Cmp.Lexicographic.{slice_cmp}
use Rattle.std.specs.Ordering.{nat_cmp}
use Rattle.std.proofs.lemmas.Bool.{false≢true, cases_Bool}
use Rattle.ov_base.specs.declared.call.CallOf.TheVariants.{Mkdir}
use Rattle.ov_base.specs.declared.errno.Errno.{Errno}
use Rattle.ov_base.specs.declared.errno.Errno.TheVariants.{EEXIST}
use Rattle.ov_base.specs.declared.node_id.NodeId.{NodeId}
use Rattle.ov_base.specs.declared.node_id.NodeId.TheVariants.{New}
use Rattle.plain_model.specs.Layers.{Name, Path, Named, Inode, Layer, held, over, through, same_path}
use Rattle.plain_model.specs.Laws.{IsOutside}
use Rattle.plain_model.specs.Tree.{same_id, Node, Branch, Leaf, Tree, names_of, entry, node_at, node_of, with_name, put, lead, face, sight_at, merged, AreLinked, Remounts, IsKept, is_folder, count_of, see_inode}
use Rattle.plain_model.specs.Machine.{State, Look, Found, Absent, Fails, look, is_found}
use Rattle.plain_model.specs.Refusals.{when, walked, bad_mode}
use Rattle.plain_model.specs.Changes.{fresh, on_way, way_of, made_way}
use Rattle.plain_model.proofs.Keeping.{put-here, put-there}
use Rattle.plain_model.proofs.Kept.{at-path, law_of_names}
use Rattle.plain_model.proofs.Making.{made-kept}
use Rattle.plain_model.proofs.Looking.{Reached, Tells, look-reached}
use Rattle.plain_model.proofs.Paths.{place, paths_tell, ids_tell}
use Rattle.plain_model.proofs.Merged.{named-seen}
use Rattle.plain_model.proofs.Walks.{lead-outside, lead-at}
use Rattle.mount_laws.specs.Looks.{or_else as first, IsMountOf, KeepsHidden, LawOfMade}
use Rattle.mount_laws.proofs.Looks.{at-some, to-parents, finds, law_of_mkdir}

-- a free name, where mkdir is not refused
pub record Spot (t : Tree) (p : Path) : Type 0 where
  pub parent : Path
  pub name : Name
  pub is : p ≡ name ∷ parent
  pub dir : NodeId
  pub at : node_at t parent ≡ Some dir
  pub folder : is_folder (t dir) ≡ true
  pub free : names_of (t dir) name ≡ None

pub free-spot : (t : Tree) (p : Path) (b : Option Errno) → first b (first (walked (look t p)) (when (is_found (look t p)) EEXIST)) ≡ None → Spot t p
free-spot t p (Some e) h = cc
free-spot t [] None h = cc
free-spot t (n ∷ q) None h = by (look t (n ∷ q)) refl h
  where
    on : (e : Option NodeId) → Reached t n q e → e ≡ None → Spot t (n ∷ q)
    on e r g = record { parent = q; name = n; is = refl; dir = r.dir; at = r.at; folder = r.folder; free = r.leads ∙ g }

    by : (l : Look) → look t (n ∷ q) ≡ l → first (walked l) (when (is_found l) EEXIST) ≡ None → Spot t (n ∷ q)
    by (Fails e) g h = cc
    by (Found d) g h = cc
    by (Absent d) g h = let r = look-reached t n q (ap walked g) in on r.0 r.1 (subst (λ l. Tells l r.0) g r.2)

-- a new directory under n in the directory d at q
module _ (t : Tree) (i : ℕ) (kept : IsKept t i) (q : Path) (n : Name) (d : NodeId) (at : node_at t q ≡ Some d) (folder : is_folder (t d) ≡ true) (free : names_of (t d) n ≡ None) (only : (y : Path) → node_at t y ≡ Some d → y ≡ q) (x : Node) (empty : (m : Name) → names_of (Some x) m ≡ None) where
  abbrev pub apart : Tree
  apart = put t (New i) (Some x)

  abbrev pub made : Tree
  made = lead apart d n (Some (New i))

  none : t (New i) ≡ None
  none = kept.unused i (omega arith)

  -- no path led to the new node
  no-way : (y : Path) → node_at t y ≡ Some (New i) → ⊥
  no-way y h = at-path t i kept y (New i) h (ap count_of none)

  old : same_id (New i) d ≡ false
  old = elim (cases_Bool (same_id (New i) d)) [
    | inl h ↦ absurd (no-way q (at ∙ ap Some (sym ((ids_tell (New i) d).0 h))))
    | inr h ↦ h
  ]

  -- apart from the name, the new node changes no path
  entries : (o : Option NodeId) (m : Name) → entry apart o m ≡ entry t o m
  entries None m = refl
  entries (Some y) m = elim (cases_Bool (same_id (New i) y)) [
    | inl h ↦ ap (λ o. names_of o m) (put-here t (New i) (Some x) y h) ∙ empty m ∙ ap (λ o. names_of o m) (sym none ∙ ap t ((ids_tell (New i) y).0 h))
    | inr h ↦ ap (λ o. names_of o m) (put-there t (New i) (Some x) y h)
  ]

  apart-at : (y : Path) → node_at apart y ≡ node_at t y
  apart-at [] = refl
  apart-at (m ∷ y) = ap (λ o. entry apart o m) (apart-at y) ∙ entries (node_at t y) m

  apart-folder : is_folder (apart d) ≡ true
  apart-folder = ap is_folder (put-there t (New i) (Some x) d old) ∙ folder

  pub outside-at : (y : Path) → IsOutside (n ∷ q) y → node_at made y ≡ node_at t y
  outside-at y out = lead-outside apart d q n (Some (New i)) (λ z h. only z (sym (apart-at z) ∙ h)) y out ∙ apart-at y

  pub here-at : node_at made (n ∷ q) ≡ Some (New i)
  here-at = lead-at apart d q n (Some (New i)) (λ z h. only z (sym (apart-at z) ∙ h)) (apart-at q ∙ at) apart-folder

  made-new : made (New i) ≡ Some x
  made-new = put-there apart d (with_name n (Some (New i)) (apart d)) (New i) turned ∙ put-here t (New i) (Some x) (New i) ((ids_tell (New i) (New i)).1 refl)
    where
      turned : same_id d (New i) ≡ false
      turned = elim (cases_Bool (same_id d (New i))) [
        | inl h ↦ absurd (no-way q (at ∙ ap Some ((ids_tell d (New i)).0 h)))
        | inr h ↦ h
      ]

  pub below-at : (m : Name) (r : Path) → node_at made (m ∷ r ++ (n ∷ q)) ≡ None
  below-at m [] = ap (λ o. entry made o m) here-at ∙ ap (λ o. names_of o m) made-new ∙ empty m
  below-at m (k ∷ r) = ap (λ o. entry made o m) (below-at k r)

  pub before-at : (r : Path) → node_at t (r ++ (n ∷ q)) ≡ None
  before-at [] = ap (λ o. entry t o n) at ∙ free
  before-at (m ∷ r) = ap (λ o. entry t o m) (before-at r)

  -- each other path leads where it led
  pub stays-at : (y : Path) → y ≢ n ∷ q → node_at made y ≡ node_at t y
  stays-at y other = elim (place (n ∷ q) y) [
    | inl b ↦ below b.0 b.1
    | inr out ↦ outside-at y out
  ]
    where
      below : (r : Path) → y ≡ r ++ (n ∷ q) → node_at made y ≡ node_at t y
      below [] s = absurd (other s)
      below (k ∷ r) s = ap (node_at made) s ∙ below-at k r ∙ sym (ap (node_at t) s ∙ before-at (k ∷ r))

  -- a path that led to a node leads to it still
  pub still-at : (y : Path) (e : NodeId) → node_at t y ≡ Some e → node_at made y ≡ Some e
  still-at y e h = elim (place (n ∷ q) y) [
    | inl b ↦ (let z : None ≡ Some e = sym (before-at b.0) ∙ ap (node_at t) (sym b.1) ∙ h in cc)
    | inr out ↦ outside-at y out ∙ h
  ]

  -- a path leads to the new node, or where it led
  pub new-at : (y : Path) (e : NodeId) → node_at made y ≡ Some e → ((y ≡ n ∷ q) × (e ≡ New i)) ⊎ (node_at t y ≡ Some e)
  new-at y e h = elim (place (n ∷ q) y) [
    | inl b ↦ below b.0 b.1
    | inr out ↦ inr (sym (outside-at y out) ∙ h)
  ]
    where
      below : (r : Path) → y ≡ r ++ (n ∷ q) → ((y ≡ n ∷ q) × (e ≡ New i)) ⊎ (node_at t y ≡ Some e)
      below [] g = inl (g, (let z : Some (New i) ≡ Some e = sym here-at ∙ ap (node_at made) (sym g) ∙ h in cc))
      below (m ∷ r) g = let z : None ≡ Some e = sym (below-at m r) ∙ ap (node_at made) (sym g) ∙ h in cc

  -- a node that was there under no path is as it was, and no path leads to it
  pub hidden-made : KeepsHidden t made
  hidden-made e some hid = (
    put-there apart d (with_name n (Some (New i)) (apart d)) e (elim (cases_Bool (same_id d e)) [ inl s ↦ absurd (hid q (at ∙ ap Some ((ids_tell d e).0 s))) | inr s ↦ s ])
        ∙ put-there t (New i) (Some x) e (elim (cases_Bool (same_id (New i) e)) [ inl s ↦ absurd (other ((ids_tell (New i) e).0 s)) | inr s ↦ s ]),
    λ y h. elim (new-at y e h) [ inl b ↦ absurd (other (sym b.1)) | inr b ↦ hid y b ],
  )
    where
      other : New i ≡ e → ⊥
      other s = false≢true (sym (ap is_some (ap t (sym s) ∙ none)) ∙ some)

  face-name : (o : Option Node) → face (with_name n (Some (New i)) o) ≡ face o
  face-name None = refl
  face-name (Some (Branch a b names c)) = refl
  face-name (Some (Leaf content a u l)) = refl

  -- other nodes look as they did
  face-made : (e : NodeId) → same_id (New i) e ≡ false → face (made e) ≡ face (t e)
  face-made e h = elim (cases_Bool (same_id d e)) [
    | inl s ↦ ap face (put-here apart d (with_name n (Some (New i)) (apart d)) e s) ∙ face-name (apart d) ∙ ap (λ z. face (apart z)) ((ids_tell d e).0 s) ∙ ap face (put-there t (New i) (Some x) e h)
    | inr s ↦ ap face (put-there apart d (with_name n (Some (New i)) (apart d)) e s) ∙ ap face (put-there t (New i) (Some x) e h)
  ]

  sight-outside : (y : Path) → IsOutside (n ∷ q) y → sight_at made y ≡ sight_at t y
  sight-outside y out = ap (λ o. face (node_of made o)) (outside-at y out) ∙ by (node_at t y) refl
    where
      by : (o : Option NodeId) → node_at t y ≡ o → face (node_of made o) ≡ face (node_of t o)
      by None h = refl
      by (Some e) h = elim (cases_Bool (same_id (New i) e)) [
        | inl s ↦ absurd (no-way y (h ∙ ap Some (sym ((ids_tell (New i) e).0 s))))
        | inr s ↦ face-made e s
      ]

  -- what the tree shows then: the new directory, and all else as before
  pub made-sights : (y : Path) → sight_at made y ≡ cond (same_path (n ∷ q) y) (face (Some x)) (sight_at t y)
  made-sights y = elim (place (n ∷ q) y) [
    | inl b ↦ below b.0 b.1
    | inr out ↦ sight-outside y out ∙ sym (ap (λ b. cond b (face (Some x)) (sight_at t y)) (other (λ e. out [] (sym e))))
  ]
    where
      other : (n ∷ q ≡ y → ⊥) → same_path (n ∷ q) y ≡ false
      other h = elim (cases_Bool (same_path (n ∷ q) y)) [
        | inl s ↦ absurd (h ((paths_tell (n ∷ q) y).0 s))
        | inr s ↦ s
      ]

      longer : (m : Name) (r : Path) → n ∷ q ≡ m ∷ r ++ (n ∷ q) → ⊥
      longer m r e = absurd (omega (arith, simp length-append at (ap length e)))

      below : (r : Path) → y ≡ r ++ (n ∷ q) → sight_at made y ≡ cond (same_path (n ∷ q) y) (face (Some x)) (sight_at t y)
      below [] g =
          ap (sight_at made) g ∙ ap (λ o. face (node_of made o)) here-at ∙ ap face made-new
          ∙ sym (ap (λ b. cond b (face (Some x)) (sight_at t y)) ((paths_tell (n ∷ q) y).1 (sym g)))
      below (m ∷ r) g =
          ap (λ z. face (node_of made (node_at made z))) g ∙ ap (λ o. face (node_of made o)) (below-at m r)
          ∙ sym (ap (λ o. face (node_of t o)) (ap (node_at t) g ∙ before-at (m ∷ r)))
          ∙ sym (ap (λ b. cond b (face (Some x)) (sight_at t y)) (other (λ e. longer m r (e ∙ g))))

-- a directory stands at one path alone
pub folder-alone : (U : Layer) (lowers : List Layer) (s : State) → IsMountOf U lowers s → (q y : Path) (d : NodeId) → is_folder (s.tree d) ≡ true → node_at s.tree q ≡ Some d → node_at s.tree y ≡ Some d → y ≡ q
folder-alone U lowers s m q y d f a b = elim (m.shows.apart y q d b a) [
  | inl e ↦ e
  | inr l ↦ absurd (false≢true (sym (no-folder l.number l.second) ∙ f))
]
  where
    leaf : (o : Option Node) (inode : Option Inode) → face o ≡ see_inode 0 inode → is_folder o ≡ false
    leaf None inode e = refl
    leaf (Some (Leaf content k u l)) inode e = refl
    leaf (Some (Branch k b names c)) None e = cc
    leaf (Some (Branch k b names c)) (Some inode) e = cc

    no-folder : (k : ℕ) → held U q ≡ Some (Named k) → is_folder (s.tree d) ≡ false
    no-folder k h = leaf (s.tree d) (U.inodes k) (ap (λ o. face (node_of s.tree o)) (sym a) ∙ m.shows.sights q ∙ named-seen U lowers q k h)

-- a new node x without names at a free path, where V shows that too
module _ (U V : Layer) (lowers : List Layer) (s : State) (m : IsMountOf U lowers s) (p : Path) (spot : Spot s.tree p) (x : Node) (bare : (n : Name) → names_of (Some x) n ≡ None) (gained : (q : Path) → merged V lowers q ≡ cond (same_path p q) (face (Some x)) (merged U lowers q)) (before : (y z : Path) → AreLinked V y z → (y ≡ z) ⊎ AreLinked U y z) (later : (y z : Path) → AreLinked U y z → AreLinked V y z) where
  only : (y : Path) → node_at s.tree y ≡ Some spot.dir → y ≡ spot.parent
  only y h = folder-alone U lowers s m spot.parent y spot.dir spot.folder spot.at h

  abbrev pub made-tree : Tree
  made-tree = lead (put s.tree (New s.serial) (Some x)) spot.dir spot.name (Some (New s.serial))

  abbrev pub way-tree : Tree
  way-tree = made_way s.tree s.serial (way_of s.tree p) x

  -- the tree after the call
  is-made : way-tree ≡ made-tree
  is-made = ap (λ w. made_way s.tree s.serial w x) (ap (way_of s.tree) spot.is ∙ ap (λ o. on_way o spot.name) spot.at)

  sights : (y : Path) → sight_at made-tree y ≡ merged V lowers y
  sights y =
      made-sights s.tree s.serial m.kept spot.parent spot.name spot.dir spot.at spot.folder spot.free only x bare y
      ∙ ap₂ (λ z o. cond (same_path z y) (face (Some x)) o) (sym spot.is) (m.shows.sights y)
      ∙ sym (gained y)

  still : (y : Path) (d : NodeId) → node_at s.tree y ≡ Some d → node_at made-tree y ≡ Some d
  still = still-at s.tree s.serial m.kept spot.parent spot.name spot.dir spot.at spot.folder spot.free only x bare

  linked : (y z : Path) → AreLinked V y z → node_at made-tree y ≡ node_at made-tree z
  linked y z l = elim (before y z l) [
    | inl e ↦ ap (node_at made-tree) e
    | inr k ↦ by k (node_at s.tree y) refl (at-some U lowers s m y ∙ ap (λ o. is_some (over 0 U.inodes o (through U lowers y))) k.first)
  ]
    where
      by : AreLinked U y z → (o : Option NodeId) → node_at s.tree y ≡ o → is_some o ≡ true → node_at made-tree y ≡ node_at made-tree z
      by k None h i = absurd (false≢true i)
      by k (Some d) h i = still y d h ∙ sym (still z d (sym (m.shows.linked y z k) ∙ h))

  apart-paths : (y z : Path) (d : NodeId) → node_at made-tree y ≡ Some d → node_at made-tree z ≡ Some d → (y ≡ z) ⊎ AreLinked V y z
  apart-paths y z d h k = by (new y d h) (new z d k)
    where
      new : (y : Path) (d : NodeId) → node_at made-tree y ≡ Some d → ((y ≡ spot.name ∷ spot.parent) × (d ≡ New s.serial)) ⊎ (node_at s.tree y ≡ Some d)
      new = new-at s.tree s.serial m.kept spot.parent spot.name spot.dir spot.at spot.folder spot.free only x bare

      unused : (y : Path) → node_at s.tree y ≡ Some (New s.serial) → ⊥
      unused = no-way s.tree s.serial m.kept spot.parent spot.name spot.dir spot.at spot.folder spot.free only x bare

      lift : (y ≡ z) ⊎ AreLinked U y z → (y ≡ z) ⊎ AreLinked V y z
      lift (inl e) = inl e
      lift (inr l) = inr (later y z l)

      by : ((y ≡ spot.name ∷ spot.parent) × (d ≡ New s.serial)) ⊎ (node_at s.tree y ≡ Some d) → ((z ≡ spot.name ∷ spot.parent) × (d ≡ New s.serial)) ⊎ (node_at s.tree z ≡ Some d) → (y ≡ z) ⊎ AreLinked V y z
      by (inl a) (inl b) = inl (a.0 ∙ sym b.0)
      by (inl a) (inr b) = absurd (unused z (b ∙ ap Some a.1))
      by (inr a) (inl b) = absurd (unused y (a ∙ ap Some b.1))
      by (inr a) (inr b) = lift (m.shows.apart y z d a b)

  pub way-shows : Remounts V lowers way-tree
  way-shows = subst (Remounts V lowers) (sym is-made) (record { sights = sights; linked = linked; apart = apart-paths })

  pub way-stays : (y : Path) (d : NodeId) → node_at s.tree y ≡ Some d → node_at way-tree y ≡ Some d
  way-stays y d h = ap (λ t. node_at t y) is-made ∙ still y d h

  pub way-hidden : KeepsHidden s.tree way-tree
  way-hidden = subst (KeepsHidden s.tree) (sym is-made) (hidden-made s.tree s.serial m.kept spot.parent spot.name spot.dir spot.at spot.folder spot.free only x bare)

  pub way-here : node_at way-tree p ≡ Some (New s.serial)
  way-here = ap (λ t. node_at t p) is-made ∙ ap (node_at made-tree) spot.is ∙ here-at s.tree s.serial m.kept spot.parent spot.name spot.dir spot.at spot.folder spot.free only x bare

  pub way-kept : count_of (Some x) ≡ 1 → IsKept way-tree (suc s.serial)
  way-kept one = subst (λ t. IsKept t (suc s.serial)) (sym is-made) (made-kept s.tree s.serial spot.dir spot.name x spot.folder (at-path s.tree s.serial m.kept spot.parent spot.dir spot.at) spot.free one bare m.kept)

-- mkdir makes the mount one of the upper that gains the directory
pub law_of_made : LawOfMade
law_of_made U V lowers s m c p mode fine g = record {
  answer = refl;
  mounts = record {
    layers = g.layers;
    shows = way-shows U V lowers s m p spot x bare g.sights before later;
    kept = law_of_names s c (Mkdir p mode) m.kept (law_of_mkdir U lowers s m c p mode ∙ fine);
    writable = m.writable;
  };
  tables = refl;
  stays = way-stays U V lowers s m p spot x bare g.sights before later;
  hidden = way-hidden U V lowers s m p spot x bare g.sights before later;
}
  where
    spot : Spot s.tree p
    spot = free-spot s.tree p (bad_mode mode) (ap₂ (λ e b. first (bad_mode mode) (first e (when b EEXIST))) (to-parents U lowers s m p) (finds U lowers s m p) ∙ fine)

    x : Node
    x = Branch (fresh mode) false fin.empty 1

    bare : (n : Name) → names_of (Some x) n ≡ None
    bare n = fin.get-empty (slice_cmp nat_cmp) n

    before : (y z : Path) → AreLinked V y z → (y ≡ z) ⊎ AreLinked U y z
    before y z l = inr (record { number = l.number; first = (g.names y l.number).0 l.first; second = (g.names z l.number).0 l.second })

    later : (y z : Path) → AreLinked U y z → AreLinked V y z
    later y z l = record { number = l.number; first = (g.names y l.number).1 l.first; second = (g.names z l.number).1 l.second }
