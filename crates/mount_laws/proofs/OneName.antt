-- A directory has at most one name: a mount begins so, and each call keeps it.
use Rattle.std.proofs.Common.{◌≡◌, ℕ, ◌+◌, ◌-◌, ◌≤◌, Bool, true, false, cond, ◌||◌, [], ◌∷◌, List, Option, None, Some, refl, sym, ap, subst, ◌∙◌, inl, inr, nat_eq, length, is_none, is_some, arith}
use Rattle.std.specs.List.{IsDistinct, list_any}
use Rattle.std.proofs.lemmas.Bool.{cases_Bool, false≢true, both_ways}
use Rattle.std.proofs.lemmas.Map.Keys.{IsDistinct-head}
use mathlib.Core.List.{tail-eq_of_cons-eq}
use Rattle.std.specs.FinMap as fin
use Rattle.ov_base.specs.declared.bytes.Content.TheVariants.{File, SymbolicLink}
use Rattle.ov_base.specs.declared.call.CallOf.TheVariants.{Stat, Readlink, Chmod, Chown, SetAttribute, GetAttribute, DeleteAttribute, ListAttributes, Mkdir, Symlink, Open, Unlink, Rmdir, Hardlink, Rename, Read, Write, Seek, Truncate, Fstat, ListNames, Close, Arm, Disarm, TakeNotices}
use Rattle.ov_base.specs.declared.call.OpenFlags.{OpenFlags}
use Rattle.ov_base.specs.declared.node_id.NodeId.{NodeId}
use Rattle.ov_base.specs.declared.node_id.NodeId.TheVariants.{New}
use Rattle.plain_model.specs.Layers.{Name, Path, Layer, AreLayers}
use Rattle.plain_model.specs.Tree.{same_id, Node, Branch, Leaf, Own, Tree, root, names_of, entry, node_at, put, is_folder, count_of, same_entry, AreNames}
use Rattle.plain_model.specs.Merging.{IsMerge}
use Rattle.plain_model.specs.Machine.{MountOptions, Table, State, look, same_found, bytes_of_node, handle_of, write_place}
use Rattle.plain_model.specs.Changes.{over_node, change, way_of, lead_way, meta_touched, one_fewer, one_more, with_mode, with_owner, set_value, drop_value, sized, written, fitting, node_of_handle, with_handle, wrote, opened, fresh, is_named, is_held, settled, made_way, dropped, renamed, tree_after}
use Rattle.plain_model.proofs.Flat.{lost, counts, fewer-counts}
use Rattle.plain_model.proofs.Keeping.{IsMild, change-like, put-here, put-there}
use Rattle.plain_model.proofs.Kept.{at-path, bytes-mild, attributes-mild, opened-mild}
use Rattle.plain_model.proofs.Lasting.{way-counts}
use Rattle.plain_model.proofs.Names.{entries_tell}
use Rattle.plain_model.proofs.Paths.{ids_tell}
use Rattle.plain_model.proofs.Renaming.{meta-mild}
use Rattle.mount_laws.specs.Nodes.{HaveOneName, LawOfOneName, LawOfOneNameBegun, LawOfOneNameKept}
use Rattle.mount_laws.specs.Paths.{HaveOnePath}
use Rattle.mount_laws.proofs.Altered.{one-name}
use Rattle.mount_laws.proofs.Looks.{law_of_beginning}
use Rattle.mount_laws.proofs.OnePath.{law_of_one_path}
use Rattle.mount_laws.proofs.RenamedTree.{is-it, change-here, change-there, settled-here, settled-there}
use Rattle.mount_laws.proofs.Sorts.{way-folder, change-fact}

-- a directory with at most one name, or no directory
abbrev HasAtMostOne : Option Node → Type 0
HasAtMostOne o = is_folder o ≡ true → count_of o ≤ 1

-- a change that leaves counts and whether nodes are directories
one-mild : (f : Node → Node) → IsMild f → (t : Tree) (o : Option NodeId) → HaveOneName t → HaveOneName (change f t o)
one-mild f mild t o one d folder =
    let like = change-like f mild t o d in
    subst (λ n. n ≤ 1) (sym like.counts) (one d (sym like.folders ∙ folder))

-- a name fewer
one-fewer : (t : Tree) (o : Option NodeId) → HaveOneName t → HaveOneName (change one_fewer t o)
one-fewer t o one d folder =
    subst (λ n. n ≤ 1) (sym (fewer-counts t o d)) (most o (one d (sym (change-fact is_folder one_fewer fold t o d) ∙ folder)))
  where
    fold : (y : Node) → is_folder (Some (one_fewer y)) ≡ is_folder (Some y)
    fold (Branch a b names c) = refl
    fold (Leaf content a u c) = refl

    less : (b : Bool) (n : ℕ) → n ≤ 1 → cond b (n - 1) n ≤ 1
    less true n h = omega arith
    less false n h = h

    most : (o : Option NodeId) → count_of (t d) ≤ 1 → lost o (counts t) d ≤ 1
    most None h = h
    most (Some e) h = less (same_id e d) (count_of (t d)) h

-- a name more is no directory's
one-more : (m : MountOptions) (t : Tree) (o : Option NodeId) → HaveOneName t → HaveOneName (change (one_more m) t o)
one-more m t o one d = elim (is-it o d) [
  | inl h ↦ subst HasAtMostOne (sym (change-here (one_more m) t o d h)) (over (t d) (one d))
  | inr h ↦ subst HasAtMostOne (sym (change-there (one_more m) t o d h)) (one d)
]
  where
    over : (z : Option Node) → HasAtMostOne z → HasAtMostOne (over_node (one_more m) z)
    over None h = h
    over (Some (Branch a b names c)) h = h
    over (Some (Leaf content a u c)) h = λ f. absurd (false≢true f)

-- a name that leads elsewhere
one-way : (t : Tree) (w : Option (NodeId × Name)) (e : Option NodeId) → HaveOneName t → HaveOneName (lead_way t w e)
one-way t w e one d folder = subst (λ n. n ≤ 1) (sym (way-counts t w e d)) (one d (sym (way-folder t w e d) ∙ folder))

-- a node that may go
one-settled : (ks : List Table) (t : Tree) (o : Option NodeId) → HaveOneName t → HaveOneName (settled ks t o)
one-settled ks t o one d = elim (is-it o d) [
  | inl h ↦ subst HasAtMostOne (sym (settled-here ks t o d h)) (left (is_named (t d) || is_held ks d) (t d) (one d))
  | inr h ↦ subst HasAtMostOne (sym (settled-there ks t o d h)) (one d)
]
  where
    left : (b : Bool) (z : Option Node) → HasAtMostOne z → HasAtMostOne (cond b z None)
    left true z h = h
    left false z h = λ f. absurd (false≢true f)

-- a node that is made with one name
one-made : (t : Tree) (i : ℕ) (w : Option (NodeId × Name)) (x : Node) → count_of (Some x) ≡ 1 → HaveOneName t → HaveOneName (made_way t i w x)
one-made t i None x single one = one
one-made t i (Some w) x single one = one-way (put t (New i) (Some x)) (Some w) (Some (New i)) (λ d. elim (cases_Bool (same_id (New i) d)) [
  | inl y ↦ subst HasAtMostOne (sym (put-here t (New i) (Some x) d y)) (λ f. most (count_of (Some x)) single)
  | inr n ↦ subst HasAtMostOne (sym (put-there t (New i) (Some x) d n)) (one d)
])
  where
    most : (n : ℕ) → n ≡ 1 → n ≤ 1
    most n h = omega arith

-- the name of a path goes
drop-one : (ks : List Table) (t : Tree) (p : Path) → HaveOneName t → HaveOneName (dropped ks t p)
drop-one ks t p one = one-settled ks (lead_way (change one_fewer t (node_at t p)) (way_of t p) None) (node_at t p) (one-way (change one_fewer t (node_at t p)) (way_of t p) None (one-fewer t (node_at t p) one))

-- an open, also one that makes its file
open-one : (s : State) (c : ℕ) (p : Path) (f : OpenFlags) (mode : ℕ) → HaveOneName s.tree → HaveOneName (tree_after s c (Open p f mode))
open-one s c p f mode one = by (node_at s.tree p)
  where
    by : (o : Option NodeId) → HaveOneName (cond (is_none o) (made_way s.tree s.serial (way_of s.tree p) (Leaf (File []) (fresh mode) (Own false) 1)) (change (opened f) s.tree o))
    by None = one-made s.tree s.serial (way_of s.tree p) (Leaf (File []) (fresh mode) (Own false) 1) refl one
    by (Some d) = one-mild (opened f) (opened-mild f) s.tree (Some d) one

-- a rename, also of an object onto itself
rename-one : (s : State) (c : ℕ) (old new : Path) → HaveOneName s.tree → HaveOneName (tree_after s c (Rename old new))
rename-one s c old new one = by (same_found (look s.tree old) (look s.tree new))
  where
    by : (b : Bool) → HaveOneName (cond b s.tree (settled s.tables (renamed s.options s.tree old new) (node_at s.tree new)))
    by true = one
    by false =
        let t1 = change one_fewer s.tree (node_at s.tree new) in
        let t2 = change (meta_touched s.options) t1 (node_at s.tree old) in
        let t3 = lead_way t2 (way_of s.tree new) (node_at s.tree old) in
        one-settled s.tables (lead_way t3 (way_of s.tree old) None) (node_at s.tree new)
        (one-way t3 (way_of s.tree old) None
        (one-way t2 (way_of s.tree new) (node_at s.tree old)
        (one-mild (meta_touched s.options) (meta-mild s.options) t1 (node_at s.tree old) (one-fewer s.tree (node_at s.tree new) one))))

-- a write, also of no bytes
write-one : (s : State) (c fd : ℕ) (bytes : List ℕ) → HaveOneName s.tree → HaveOneName (tree_after s c (Write fd bytes))
write-one s c fd bytes one = by (nat_eq (length bytes) 0) (write_place s.tree (handle_of s.tables c fd)) (node_of_handle (handle_of s.tables c fd))
  where
    by : (b : Bool) (at : ℕ) (o : Option NodeId) → HaveOneName (cond b s.tree (change (wrote s.options.file_limit at bytes) s.tree o))
    by true at o = one
    by false at o = one-mild (wrote s.options.file_limit at bytes) (λ x. bytes-mild (written (bytes_of_node (Some x)) at (fitting s.options.file_limit at bytes)) x) s.tree o one

-- each call keeps that a directory has at most one name
pub law_of_one_name_kept : LawOfOneNameKept
law_of_one_name_kept s c (Stat p) one = one
law_of_one_name_kept s c (Readlink p) one = one
law_of_one_name_kept s c (Chmod p mode) one = one-mild _ (attributes-mild s.options (with_mode mode)) s.tree (node_at s.tree p) one
law_of_one_name_kept s c (Chown p uid gid) one = one-mild _ (attributes-mild s.options (with_owner uid gid)) s.tree (node_at s.tree p) one
law_of_one_name_kept s c (SetAttribute p n v) one = one-mild _ (attributes-mild s.options (λ a. record a { user = set_value a.user n v })) s.tree (node_at s.tree p) one
law_of_one_name_kept s c (GetAttribute p n) one = one
law_of_one_name_kept s c (DeleteAttribute p n) one = one-mild _ (attributes-mild s.options (λ a. record a { user = drop_value a.user n })) s.tree (node_at s.tree p) one
law_of_one_name_kept s c (ListAttributes p) one = one
law_of_one_name_kept s c (Mkdir p mode) one = one-made s.tree s.serial (way_of s.tree p) (Branch (fresh mode) false fin.empty 1) refl one
law_of_one_name_kept s c (Symlink target p) one = one-made s.tree s.serial (way_of s.tree p) (Leaf (SymbolicLink target) (fresh 0o777) (Own false) 1) refl one
law_of_one_name_kept s c (Open p f mode) one = open-one s c p f mode one
law_of_one_name_kept s c (Unlink p) one = drop-one s.tables s.tree p one
law_of_one_name_kept s c (Rmdir p) one = drop-one s.tables s.tree p one
law_of_one_name_kept s c (Hardlink old new) one = one-way (change (one_more s.options) s.tree (node_at s.tree old)) (way_of s.tree new) (node_at s.tree old) (one-more s.options s.tree (node_at s.tree old) one)
law_of_one_name_kept s c (Rename old new) one = rename-one s c old new one
law_of_one_name_kept s c (Read fd n) one = one
law_of_one_name_kept s c (Write fd bytes) one = write-one s c fd bytes one
law_of_one_name_kept s c (Seek fd offset whence) one = one
law_of_one_name_kept s c (Truncate fd size) one = one-mild _ (λ x. bytes-mild (sized (bytes_of_node (Some x)) size) x) s.tree (node_of_handle (handle_of s.tables c fd)) one
law_of_one_name_kept s c (Fstat fd) one = one
law_of_one_name_kept s c (ListNames fd n) one = one
law_of_one_name_kept s c (Close fd) one = one-settled (with_handle s.tables c fd None) s.tree (node_of_handle (handle_of s.tables c fd)) one
law_of_one_name_kept s c (Arm slot p mask) one = one
law_of_one_name_kept s c (Disarm number) one = one
law_of_one_name_kept s c (TakeNotices n) one = one

-- a node at a path
pub law_of_one_name : LawOfOneName
law_of_one_name t i kept p d at = record {
  directory = λ one folder. one-name (count_of (t d)) (at-path t i kept p d at) (one d folder);
  untouched = λ low. one-name (count_of (t d)) (at-path t i kept p d at) (kept.single d low);
}

-- distinct entries of which any two are one are at most one
at-most-one : (es : List (NodeId × Name)) → IsDistinct same_entry es → ((v w : NodeId × Name) → list_any (same_entry v) es ≡ true → list_any (same_entry w) es ≡ true → v ≡ w) → length es ≤ 1
at-most-one [] once same = omega arith
at-most-one (v ∷ []) once same = omega arith
at-most-one (v ∷ w ∷ es) once same = absurd (both_ways (same_entry v w) (IsDistinct-head same_entry v (w ∷ es) once).0 ((entries_tell v w).1 (same v w first second)))
  where
    own : (x : NodeId × Name) → same_entry x x ≡ true
    own x = (entries_tell x x).1 refl

    first : list_any (same_entry v) (v ∷ w ∷ es) ≡ true
    first = ap (λ b. b || list_any (same_entry v) (w ∷ es)) (own v)

    second : list_any (same_entry w) (v ∷ w ∷ es) ≡ true
    second = later (same_entry w v) (ap (λ b. b || list_any (same_entry w) es) (own w))
      where
        later : (b : Bool) {c : Bool} → c ≡ true → b || c ≡ true
        later true h = refl
        later false h = h

-- a directory of a merge
module _ (U : Layer) (lowers : List Layer) (t : Tree) (layers : AreLayers (U ∷ lowers)) (m : IsMerge U lowers t) (d : NodeId) (folder : is_folder (t d) ≡ true) where
  alone : HaveOnePath t
  alone = (law_of_one_path U lowers _ (law_of_beginning U lowers t false false 0 layers m)).directories

  names : AreNames t d (count_of (t d))
  names = m.kept.counted d

  -- an entry that leads to it ends a path to it
  record Ends (w : NodeId × Name) : Type 0 where
    pub parent : Path
    pub at : node_at t parent ≡ Some w.0
    pub leads : node_at t (w.1 ∷ parent) ≡ Some d

  there : (o : Option Node) (n : Name) → names_of o n ≡ Some d → is_some o ≡ true
  there None n h = cc
  there (Some x) n h = refl

  ends : (w : NodeId × Name) → list_any (same_entry w) names.entries ≡ true → Ends w
  ends w h =
      let leads = (names.exact w).0 h in
      let p = m.no_more w.0 (there (t w.0) w.1 leads) in
      record { parent = p.0; at = p.1; leads = ap (λ o. entry t o w.1) p.1 ∙ leads }

  -- so no two lead to it
  same-ends : (v w : NodeId × Name) → list_any (same_entry v) names.entries ≡ true → list_any (same_entry w) names.entries ≡ true → v ≡ w
  same-ends v w a b =
      let x = ends v a in
      let y = ends w b in
      let is : v.1 ∷ x.parent ≡ w.1 ∷ y.parent = alone (v.1 ∷ x.parent) (w.1 ∷ y.parent) d folder x.leads y.leads in
      let name : v.1 ≡ w.1 = cc in
      let dir : Some v.0 ≡ Some w.0 = sym x.at ∙ ap (node_at t) (tail-eq_of_cons-eq is) ∙ y.at in
      let node : v.0 ≡ w.0 = cc in
      λ i. (node i, name i)

  -- and none leads to the root
  no-root : root ≡ d → (w : NodeId × Name) → list_any (same_entry w) names.entries ≡ true → ⊥
  no-root e w h = let x = ends w h in let z : [] ≡ w.1 ∷ x.parent = alone [] (w.1 ∷ x.parent) d folder (ap Some e) x.leads in cc

  none-of : (es : List (NodeId × Name)) → ((w : NodeId × Name) → list_any (same_entry w) es ≡ true → ⊥) → length es ≡ 0
  none-of [] h = refl
  none-of (w ∷ es) h = absurd (h w (ap (λ b. b || list_any (same_entry w) es) ((entries_tell w w).1 refl)))

  begun : count_of (t d) ≤ 1
  begun = subst (λ n. n ≤ 1) (sym names.counted) (by (same_id root d) refl)
    where
      by : (b : Bool) → same_id root d ≡ b → cond b 1 0 + length names.entries ≤ 1
      by true y = let none = none-of names.entries (no-root ((ids_tell root d).0 y)) in omega arith
      by false n = let most = at-most-one names.entries names.once same-ends in omega arith

-- a mount begins so
pub law_of_one_name_begun : LawOfOneNameBegun
law_of_one_name_begun U lowers t layers m d folder = begun U lowers t layers m d folder
