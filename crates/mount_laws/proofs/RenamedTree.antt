-- What a rename makes of the plain tree: where paths lead then, and what becomes of nodes.
use Rattle.std.proofs.Common.{◌≡◌, ◌≢◌, Bool, true, false, cond, ◌||◌, List, [], ◌∷◌, ◌++◌, Option, None, Some, refl, sym, ap, ◌∙◌, ◌⊎◌, inl, inr, is_some}
use Rattle.std.proofs.Math.Bool.{or-true}
use Rattle.std.proofs.lemmas.Bool.{false≢true, cases_Bool, both_ways}
use mathlib.Core.List.{tail-eq_of_cons-eq}
use Rattle.ov_base.specs.declared.node_id.NodeId.{NodeId}
use Rattle.plain_model.specs.Layers.{Name, Path}
use Rattle.plain_model.specs.Laws.{IsOutside}
use Rattle.plain_model.specs.Tree.{same_id, Node, Tree, names_of, entry, node_at, with_name, lead, face, is_folder}
use Rattle.plain_model.specs.Machine.{MountOptions, Table}
use Rattle.plain_model.specs.Changes.{on_way, lead_way, over_node, change, one_fewer, meta_touched, renamed, is_named, is_held, settled}
use Rattle.plain_model.proofs.Flat.{fewer-flat, flat-names, flat-folders, some-same}
use Rattle.plain_model.proofs.Keeping.{put-here, put-there, put-fact, change-like, lead-folders}
use Rattle.plain_model.proofs.Paths.{place, ids_tell, outside-parent, parent-outside}
use Rattle.plain_model.proofs.Renaming.{meta-mild}
use Rattle.plain_model.proofs.Walks.{from, lead-outside, lead-at, lead-below}
use Rattle.mount_laws.specs.Moving.{Follows, Goes, Stays}
use Rattle.mount_laws.proofs.Handles.{not-same}
use Rattle.mount_laws.proofs.Linked.{face-named}

-- an identity is the one of these, or it is not
pub is-it : (o : Option NodeId) (x : NodeId) → (o ≡ Some x) ⊎ (o ≡ Some x → ⊥)
is-it None x = inr (λ h. cc)
is-it (Some y) x = elim (cases_Bool (same_id y x)) [
  | inl s ↦ inl (ap Some ((ids_tell y x).0 s))
  | inr f ↦ inr (λ h. both_ways (same_id y x) f (some-same y x h))
]

-- a change of a node, at it and at others
pub change-here : (f : Node → Node) (t : Tree) (o : Option NodeId) (x : NodeId) → o ≡ Some x → change f t o x ≡ over_node f (t x)
change-here f t None x h = cc
change-here f t (Some y) x h =
    put-here t y (over_node f (t y)) x (some-same y x h)
    ∙ ap (λ z. over_node f (t z)) (let s : y ≡ x = cc in s)

pub change-there : (f : Node → Node) (t : Tree) (o : Option NodeId) (x : NodeId) → (o ≡ Some x → ⊥) → change f t o x ≡ t x
change-there f t None x h = refl
change-there f t (Some y) x h = put-there t y (over_node f (t y)) x (not-same y x (λ s. h (ap Some s)))

-- a node that may go, and others
pub settled-here :
    (ks : List Table) (t : Tree) (o : Option NodeId) (x : NodeId) → o ≡ Some x →
    settled ks t o x ≡ cond (is_named (t x) || is_held ks x) (t x) None
settled-here ks t None x h = cc
settled-here ks t (Some y) x h =
    put-here t y (cond (is_named (t y) || is_held ks y) (t y) None) x (some-same y x h)
    ∙ ap (λ z. cond (is_named (t z) || is_held ks z) (t z) None) (let s : y ≡ x = cc in s)

pub settled-there : (ks : List Table) (t : Tree) (o : Option NodeId) (x : NodeId) → (o ≡ Some x → ⊥) → settled ks t o x ≡ t x
settled-there ks t None x h = refl
settled-there ks t (Some y) x h = put-there t y (cond (is_named (t y) || is_held ks y) (t y) None) x (not-same y x (λ s. h (ap Some s)))

lead-there : (t : Tree) (d : NodeId) (n : Name) (e : Option NodeId) (x : NodeId) → d ≢ x → lead t d n e x ≡ t x
lead-there t d n e x h = put-there t d (with_name n e (t d)) x (not-same d x h)

-- trees whose nodes have the same names have the same paths
pub same-paths : (t u : Tree) → ((x : NodeId) (k : Name) → names_of (u x) k ≡ names_of (t x) k) → (y : Path) → node_at u y ≡ node_at t y
same-paths t u h [] = refl
same-paths t u h (k ∷ y) = ap (λ o. entry u o k) (same-paths t u h y) ∙ by (node_at t y)
  where
    by : (o : Option NodeId) → entry u o k ≡ entry t o k
    by None = refl
    by (Some x) = h x k

from-at : (t : Tree) (p r : Path) → from t (node_at t p) r ≡ node_at t (r ++ p)
from-at t p [] = refl
from-at t p (k ∷ r) = ap (λ o. entry t o k) (from-at t p r)

-- of two paths that are not below each other, what is below the one is not below the other
pub apart-below : (p q : Path) → IsOutside p q → IsOutside q p → (r s : Path) → r ++ q ≡ s ++ p → ⊥
apart-below p q apart back [] s h = apart s h
apart-below p q apart back (k ∷ r) [] h = back (k ∷ r) (sym h)
apart-below p q apart back (k ∷ r) (j ∷ s) h = apart-below p q apart back r s (tail-eq_of_cons-eq h)

-- each path follows one, or is below the old place
pub came-from : (old new y : Path) → ((x : Path) × Follows old new x y) ⊎ ((r : Path) × (y ≡ r ++ old))
came-from old new y = elim (place new y) [
  | inl b ↦ inl (b.0 ++ old, Goes b.0 refl b.1)
  | inr p ↦ elim (place old y) [
    | inl b ↦ inr b
    | inr o ↦ inl (y, Stays o p refl)
  ]
]

-- Where an object moves: from one name in a directory to another. The one leads to the object, and the other to nothing or to a node
-- without names; neither place is below the other, and the directories stand at one path each.
pub record Places (t : Tree) : Type 0 where
  pub old_name : Name
  pub old_parent : Path
  pub old_dir : NodeId
  pub new_name : Name
  pub new_parent : Path
  pub new_dir : NodeId
  pub node : NodeId
  pub taken : Option NodeId
  pub old_at : node_at t old_parent ≡ Some old_dir
  pub old_folder : is_folder (t old_dir) ≡ true
  pub leads : names_of (t old_dir) old_name ≡ Some node
  pub new_at : node_at t new_parent ≡ Some new_dir
  pub new_folder : is_folder (t new_dir) ≡ true
  pub led_to : names_of (t new_dir) new_name ≡ taken
  pub old_only : (y : Path) → node_at t y ≡ Some old_dir → y ≡ old_parent
  pub new_only : (y : Path) → node_at t y ≡ Some new_dir → y ≡ new_parent
  pub apart : IsOutside (old_name ∷ old_parent) (new_name ∷ new_parent)
  pub back : IsOutside (new_name ∷ new_parent) (old_name ∷ old_parent)
  pub bare : (x : NodeId) → taken ≡ Some x → (k : Name) → names_of (t x) k ≡ None
  pub other : taken ≡ Some node → ⊥

-- the two places
abbrev pub old_place : (t : Tree) → Places t → Path
old_place t w = w.old_name ∷ w.old_parent

abbrev pub new_place : (t : Tree) → Places t → Path
new_place t w = w.new_name ∷ w.new_parent

-- the object moves
module _ (m : MountOptions) (t : Tree) (ks : List Table) (w : Places t) where
  abbrev old : Path
  old = old_place t w

  abbrev new : Path
  new = new_place t w

  abbrev counted : Tree
  counted = change one_fewer t w.taken

  abbrev touched_there : Tree
  touched_there = change (meta_touched m) counted (Some w.node)

  abbrev joined : Tree
  joined = lead touched_there w.new_dir w.new_name (Some w.node)

  abbrev led : Tree
  led = lead joined w.old_dir w.old_name None

  abbrev pub moved : Tree
  moved = settled ks led w.taken

  counted-names : (o : Option NodeId) (x : NodeId) (k : Name) → names_of (change one_fewer t o x) k ≡ names_of (t x) k
  counted-names None x k = refl
  counted-names (Some y) x k = flat-names one_fewer fewer-flat t y x k

  counted-folders : (o : Option NodeId) (x : NodeId) → is_folder (change one_fewer t o x) ≡ is_folder (t x)
  counted-folders None x = refl
  counted-folders (Some y) x = flat-folders one_fewer fewer-flat t y x

  -- counts and the origin lead nowhere else
  touched-names : (x : NodeId) (k : Name) → names_of (touched_there x) k ≡ names_of (t x) k
  touched-names x k = (change-like (meta_touched m) (meta-mild m) counted (Some w.node) x).names k ∙ counted-names w.taken x k

  touched-folders : (x : NodeId) → is_folder (touched_there x) ≡ is_folder (t x)
  touched-folders x = (change-like (meta_touched m) (meta-mild m) counted (Some w.node) x).folders ∙ counted-folders w.taken x

  touched-at : (y : Path) → node_at touched_there y ≡ node_at t y
  touched-at = same-paths t touched_there touched-names

  pub at-old : node_at t old ≡ Some w.node
  at-old = ap (λ z. entry t z w.old_name) w.old_at ∙ w.leads

  pub at-new : node_at t new ≡ w.taken
  at-new = ap (λ z. entry t z w.new_name) w.new_at ∙ w.led_to

  -- this is the tree after a rename
  pub renamed-is : settled ks (renamed m t old new) (node_at t new) ≡ moved
  renamed-is = λ i.
      settled ks
      (lead_way
      (lead_way (change (meta_touched m) (change one_fewer t (at-new i)) (at-old i)) (on_way (w.new_at i) w.new_name) (at-old i))
      (on_way (w.old_at i) w.old_name) None)
      (at-new i)

  -- below the object stands what stands below the old place
  below-moved : (r : Path) → from touched_there (Some w.node) r ≡ node_at t (r ++ old)
  below-moved r = ap (λ z. from touched_there z r) (sym (touched-at old ∙ at-old)) ∙ from-at touched_there old r ∙ touched-at (r ++ old)

  joined-outside : (y : Path) → IsOutside new y → node_at joined y ≡ node_at t y
  joined-outside y p =
      lead-outside touched_there w.new_dir w.new_parent w.new_name (Some w.node) (λ z h. w.new_only z (sym (touched-at z) ∙ h)) y p
      ∙ touched-at y

  joined-below : (r : Path) → node_at joined (r ++ new) ≡ node_at t (r ++ old)
  joined-below r =
      lead-below touched_there w.new_dir w.new_parent w.new_name (Some w.node) (λ z h. w.new_only z (sym (touched-at z) ∙ h))
      (touched-at w.new_parent ∙ w.new_at) (touched-folders w.new_dir ∙ w.new_folder)
      (λ s h. w.apart (w.new_name ∷ s) (ap (λ q. w.new_name ∷ q) (sym (w.new_only (s ++ old) (sym (below-moved s) ∙ h))))) r
      ∙ below-moved r

  -- the old name's directory stands still where it stood
  only-joined : (y : Path) → node_at joined y ≡ Some w.old_dir → y ≡ w.old_parent
  only-joined y h = elim (place new y) [
    | inl b ↦
        let is = w.old_only (b.0 ++ old) (sym (joined-below b.0) ∙ ap (node_at joined) (sym b.1) ∙ h) in
        absurd (parent-outside w.old_name w.old_parent b.0 (sym is))
    | inr p ↦ w.old_only y (sym (joined-outside y p) ∙ h)
  ]

  led-outside : (y : Path) → IsOutside old y → node_at led y ≡ node_at joined y
  led-outside = lead-outside joined w.old_dir w.old_parent w.old_name None only-joined

  led-gone : (r : Path) → node_at led (r ++ old) ≡ None
  led-gone [] =
      lead-at joined w.old_dir w.old_parent w.old_name None only-joined
      (joined-outside w.old_parent (outside-parent new w.old_name w.old_parent w.back) ∙ w.old_at)
      (lead-folders touched_there w.new_dir w.new_name (Some w.node) w.old_dir ∙ touched-folders w.old_dir ∙ w.old_folder)
  led-gone (k ∷ r) = ap (λ z. entry led z k) (led-gone r)

  -- what stood at the new place is neither of the directories
  not-first : (x : NodeId) → w.taken ≡ Some x → w.old_dir ≢ x
  not-first x h s = let z : None ≡ Some w.node = sym (w.bare x h w.old_name) ∙ ap (λ z. names_of (t z) w.old_name) (sym s) ∙ w.leads in cc

  not-second : (x : NodeId) → w.taken ≡ Some x → w.new_dir ≢ x
  not-second x h s = let z : None ≡ Some x = sym (w.bare x h w.new_name) ∙ ap (λ z. names_of (t z) w.new_name) (sym s) ∙ w.led_to ∙ h in cc

  not-moved : (x : NodeId) → w.taken ≡ Some x → Some w.node ≡ Some x → ⊥
  not-moved x h s = w.other (h ∙ sym s)

  led-taken : (x : NodeId) → w.taken ≡ Some x → led x ≡ over_node one_fewer (t x)
  led-taken x h =
      lead-there joined w.old_dir w.old_name None x (not-first x h)
      ∙ lead-there touched_there w.new_dir w.new_name (Some w.node) x (not-second x h)
      ∙ change-there (meta_touched m) counted (Some w.node) x (not-moved x h)
      ∙ change-here one_fewer t w.taken x h

  led-bare : (x : NodeId) → w.taken ≡ Some x → (k : Name) → names_of (led x) k ≡ None
  led-bare x h k =
      ap (λ z. names_of z k) (lead-there joined w.old_dir w.old_name None x (not-first x h))
      ∙ ap (λ z. names_of z k) (lead-there touched_there w.new_dir w.new_name (Some w.node) x (not-second x h))
      ∙ touched-names x k ∙ w.bare x h k

  none-left : (b : Bool) (z : Option Node) (k : Name) → names_of z k ≡ None → names_of (cond b z None) k ≡ None
  none-left true z k h = h
  none-left false z k h = refl

  pub bare-after : (x : NodeId) → w.taken ≡ Some x → (k : Name) → names_of (moved x) k ≡ None
  bare-after x h k =
      ap (λ z. names_of z k) (settled-here ks led w.taken x h)
      ∙ none-left (is_named (led x) || is_held ks x) (led x) k (led-bare x h k)

  -- where it goes, no path changes
  moved-names : (x : NodeId) (k : Name) → names_of (moved x) k ≡ names_of (led x) k
  moved-names x k = elim (is-it w.taken x) [
    | inl h ↦ bare-after x h k ∙ sym (led-bare x h k)
    | inr h ↦ ap (λ z. names_of z k) (settled-there ks led w.taken x h)
  ]

  moved-at : (y : Path) → node_at moved y ≡ node_at led y
  moved-at = same-paths led moved moved-names

  -- the old place leads nowhere, nor does a path below it, and a path leads where the one that it follows led
  pub gone-at : (r : Path) → node_at moved (r ++ old) ≡ None
  gone-at r = moved-at (r ++ old) ∙ led-gone r

  pub follows-at : (x y : Path) → Follows old new x y → node_at moved y ≡ node_at t x
  follows-at x y (Goes r a b) =
      ap (node_at moved) b ∙ moved-at (r ++ new)
      ∙ led-outside (r ++ new) (λ s h. apart-below old new w.apart w.back r s h)
      ∙ joined-below r ∙ ap (node_at t) (sym a)
  follows-at x y (Stays a b c) = ap (node_at moved) c ∙ moved-at x ∙ led-outside x a ∙ joined-outside x b

  -- a fact that names don't tell, at another node than the one that was at the new place
  other-fact :
      {B : Type 0} (f : Option Node → B) → ((n : Name) (i : Option NodeId) (z : Option Node) → f (with_name n i z) ≡ f z) → (x : NodeId) →
      (w.taken ≡ Some x → ⊥) → f (moved x) ≡ f (touched_there x)
  other-fact f h x away =
      ap f (settled-there ks led w.taken x away)
      ∙ put-fact f joined w.old_dir (with_name w.old_name None (joined w.old_dir)) (h w.old_name None (joined w.old_dir)) x
      ∙ put-fact f touched_there w.new_dir (with_name w.new_name (Some w.node) (touched_there w.new_dir))
      (h w.new_name (Some w.node) (touched_there w.new_dir)) x

  -- what moved is touched, and others are not
  at-moved : touched_there w.node ≡ over_node (meta_touched m) (t w.node)
  at-moved =
      change-here (meta_touched m) counted (Some w.node) w.node refl
      ∙ ap (over_node (meta_touched m)) (change-there one_fewer t w.taken w.node w.other)

  at-others : (x : NodeId) → (Some w.node ≡ Some x → ⊥) → (w.taken ≡ Some x → ⊥) → touched_there x ≡ t x
  at-others x not_e not_o = change-there (meta_touched m) counted (Some w.node) x not_e ∙ change-there one_fewer t w.taken x not_o

  -- nor do names, counts of files and origins of files tell the fact
  pub kept-fact :
      {B : Type 0} (f : Option Node → B) → ((n : Name) (i : Option NodeId) (z : Option Node) → f (with_name n i z) ≡ f z) →
      ((z : Option Node) → f (over_node (meta_touched m) z) ≡ f z) → (x : NodeId) → (w.taken ≡ Some x → ⊥) → f (moved x) ≡ f (t x)
  kept-fact f h g x away = other-fact f h x away ∙ elim (is-it (Some w.node) x) [
    | inl z ↦ ap f (change-here (meta_touched m) counted (Some w.node) x z) ∙ g (counted x) ∙ ap f (change-there one_fewer t w.taken x away)
    | inr z ↦ ap f (at-others x z away)
  ]

  pub face-moved : face (moved w.node) ≡ face (over_node (meta_touched m) (t w.node))
  face-moved = other-fact face face-named w.node w.other ∙ ap face at-moved

  pub face-others : (x : NodeId) → (Some w.node ≡ Some x → ⊥) → (w.taken ≡ Some x → ⊥) → face (moved x) ≡ face (t x)
  face-others x not_e not_o = other-fact face face-named x not_o ∙ ap face (at-others x not_e not_o)

  -- a node that is none of these is as it was
  pub other-node : (x : NodeId) → (Some w.node ≡ Some x → ⊥) → (w.taken ≡ Some x → ⊥) → w.old_dir ≢ x → w.new_dir ≢ x → moved x ≡ t x
  other-node x not_e not_o not_d1 not_d2 =
      settled-there ks led w.taken x not_o
      ∙ lead-there joined w.old_dir w.old_name None x not_d1
      ∙ lead-there touched_there w.new_dir w.new_name (Some w.node) x not_d2
      ∙ at-others x not_e not_o

  -- what was at the new place has a name fewer, where it is there still, as where a handle is open on it
  pub still-there : (x : NodeId) → w.taken ≡ Some x → is_some (moved x) ≡ true → moved x ≡ over_node one_fewer (t x)
  still-there x h some =
      settled-here ks led w.taken x h
      ∙ by (is_named (led x) || is_held ks x) (ap is_some (sym (settled-here ks led w.taken x h)) ∙ some)
      ∙ led-taken x h
    where
      by : (b : Bool) → is_some (cond b (led x) None) ≡ true → cond b (led x) None ≡ led x
      by true h = refl
      by false h = absurd (false≢true h)

  pub still-held : (x : NodeId) → w.taken ≡ Some x → is_held ks x ≡ true → moved x ≡ over_node one_fewer (t x)
  still-held x h held =
      settled-here ks led w.taken x h
      ∙ ap (λ b. cond (is_named (led x) || b) (led x) None) held
      ∙ ap (λ b. cond b (led x) None) (or-true (is_named (led x)))
      ∙ led-taken x h
