-- Which nodes stay directories, and which files and links untouched, after each change of the plain tree.
use Rattle.std.proofs.Common.{◌≡◌, ℕ, Bool, true, false, cond, ◌||◌, [], List, Option, None, Some, refl, sym, ap, subst, ◌∙◌, inl, inr, nat_eq, length, is_none, is_some, arith}
use Rattle.std.specs.Prelude.{option_and_then}
use Rattle.std.proofs.lemmas.Bool.{false≢true}
use Rattle.std.specs.FinMap as fin
use Rattle.ov_base.specs.declared.attributes.Attributes.{Attributes}
use Rattle.ov_base.specs.declared.bytes.Content.TheVariants.{File, SymbolicLink}
use Rattle.ov_base.specs.declared.call.CallOf.TheVariants.{Stat, Readlink, Chmod, Chown, SetAttribute, GetAttribute, DeleteAttribute, ListAttributes, Mkdir, Symlink, Open, Unlink, Rmdir, Hardlink, Rename, Read, Write, Seek, Truncate, Fstat, ListNames, Close, Arm, Disarm, TakeNotices}
use Rattle.ov_base.specs.declared.call.OpenFlags.{OpenFlags}
use Rattle.ov_base.specs.declared.node_id.NodeId.{NodeId}
use Rattle.ov_base.specs.declared.node_id.NodeId.TheVariants.{New}
use Rattle.plain_model.specs.Layers.{Name, Path}
use Rattle.plain_model.specs.Tree.{Node, Branch, Leaf, Own, Untouched, Tree, node_at, with_name, put, is_folder, is_untouched, IsKept}
use Rattle.plain_model.specs.Machine.{MountOptions, Table, State, look, same_found, bytes_of_node, handle_of, write_place}
use Rattle.plain_model.specs.Changes.{over_node, change, way_of, lead_way, touched, meta_touched, one_fewer, one_more, with_bytes, with_attributes, with_mode, with_owner, set_value, drop_value, sized, written, fitting, node_of_handle, with_handle, wrote, opened, fresh, is_named, is_held, settled, made_way, dropped, renamed, tree_after}
use Rattle.plain_model.proofs.Keeping.{with-folders, with-untouched, put-there, put-fact}
use Rattle.plain_model.proofs.Lasting.{way-stands, change-stands}
use Rattle.mount_laws.specs.Nodes.{touched_by, KeepsSorts, LawOfSorts}
use Rattle.mount_laws.proofs.Handles.{not-same}
use Rattle.mount_laws.proofs.RenamedTree.{is-it, change-here, change-there, settled-here, settled-there}

-- a fact that names don't tell stays where a name leads elsewhere
pub way-fact :
    {B : Type 0} (g : Option Node → B) → ((n : Name) (e : Option NodeId) (o : Option Node) → g (with_name n e o) ≡ g o) →
    (t : Tree) (w : Option (NodeId × Name)) (e : Option NodeId) (x : NodeId) → g (lead_way t w e x) ≡ g (t x)
way-fact g h t None e x = refl
way-fact g h t (Some w) e x = put-fact g t w.0 (with_name w.1 e (t w.0)) (h w.1 e (t w.0)) x

-- so directories stay directories where a name leads elsewhere
pub way-folder : (t : Tree) (w : Option (NodeId × Name)) (e : Option NodeId) (x : NodeId) → is_folder (lead_way t w e x) ≡ is_folder (t x)
way-folder = way-fact is_folder with-folders

-- and files and links untouched
pub way-untouched : (t : Tree) (w : Option (NodeId × Name)) (e : Option NodeId) (x : NodeId) → is_untouched (lead_way t w e x) ≡ is_untouched (t x)
way-untouched = way-fact is_untouched with-untouched

-- a fact that a change of a node leaves
pub change-fact :
    {B : Type 0} (g : Option Node → B) (f : Node → Node) → ((y : Node) → g (Some (f y)) ≡ g (Some y)) →
    (t : Tree) (o : Option NodeId) (x : NodeId) → g (change f t o x) ≡ g (t x)
change-fact g f h t None x = refl
change-fact g f h t (Some e) x = put-fact g t e (over_node f (t e)) (over (t e)) x
  where
    over : (z : Option Node) → g (over_node f z) ≡ g z
    over None = refl
    over (Some y) = h y

-- what is there still is as it was
pub settled-left : (ks : List Table) (t : Tree) (o : Option NodeId) (x : NodeId) → is_some (settled ks t o x) ≡ true → settled ks t o x ≡ t x
settled-left ks t o x some = elim (is-it o x) [
  | inl h ↦ settled-here ks t o x h ∙ left (is_named (t x) || is_held ks x) (ap is_some (sym (settled-here ks t o x h)) ∙ some)
  | inr h ↦ settled-there ks t o x h
]
  where
    left : (b : Bool) → is_some (cond b (t x) None) ≡ true → cond b (t x) None ≡ t x
    left true h = refl
    left false h = absurd (false≢true h)

-- nothing changes
sorts-same : (t : Tree) → KeepsSorts t t None
sorts-same t = record { folders = λ d a b. refl; others = λ d a b h. refl; own = λ d h. cc }

-- a change of a node to one that is no untouched file or link
sorts-own : (f : Node → Node) → ((y : Node) → is_folder (Some (f y)) ≡ is_folder (Some y)) → ((y : Node) → is_untouched (Some (f y)) ≡ false) → (t : Tree) (o : Option NodeId) → KeepsSorts t (change f t o) o
sorts-own f fold own t o = record {
  folders = λ d a b. change-fact is_folder f fold t o d;
  others = λ d a b h. ap is_untouched (change-there f t o d h);
  own = λ d h. ap is_untouched (change-here f t o d h) ∙ over (t d);
}
  where
    over : (z : Option Node) → is_untouched (over_node f z) ≡ false
    over None = refl
    over (Some y) = own y

-- a change of a node that keeps its sort
sorts-kept : (f : Node → Node) → ((y : Node) → is_folder (Some (f y)) ≡ is_folder (Some y)) → ((y : Node) → is_untouched (Some (f y)) ≡ is_untouched (Some y)) → (t : Tree) (o : Option NodeId) → KeepsSorts t (change f t o) None
sorts-kept f fold same t o = record {
  folders = λ d a b. change-fact is_folder f fold t o d;
  others = λ d a b h. change-fact is_untouched f same t o d;
  own = λ d h. cc;
}

-- then a name is led elsewhere
sorts-way : (t u : Tree) (w : Option (NodeId × Name)) (e o : Option NodeId) → KeepsSorts t u o → KeepsSorts t (lead_way u w e) o
sorts-way t u w e o k = record {
  folders = λ d a b. way-folder u w e d ∙ k.folders d a (sym (way-stands u w e d) ∙ b);
  others = λ d a b h. way-untouched u w e d ∙ k.others d a (sym (way-stands u w e d) ∙ b) h;
  own = λ d h. way-untouched u w e d ∙ k.own d h;
}

-- then a node may go
sorts-settled : (ks : List Table) (t u : Tree) (p o : Option NodeId) → KeepsSorts t u o → KeepsSorts t (settled ks u p) o
sorts-settled ks t u p o k = record {
  folders = λ d a b. let e = settled-left ks u p d b in ap is_folder e ∙ k.folders d a (ap is_some (sym e) ∙ b);
  others = λ d a b h. let e = settled-left ks u p d b in ap is_untouched e ∙ k.others d a (ap is_some (sym e) ∙ b) h;
  own = own;
}
  where
    left : (b : Bool) (z : Option Node) → is_untouched z ≡ false → is_untouched (cond b z None) ≡ false
    left true z h = h
    left false z h = refl

    own : (d : NodeId) → o ≡ Some d → is_untouched (settled ks u p d) ≡ false
    own d h = elim (is-it p d) [
      | inl here ↦ ap is_untouched (settled-here ks u p d here) ∙ left (is_named (u d) || is_held ks d) (u d) (k.own d h)
      | inr there ↦ ap is_untouched (settled-there ks u p d there) ∙ k.own d h
    ]

-- a node loses a name first
sorts-fewer : (t u : Tree) (p o : Option NodeId) → KeepsSorts (change one_fewer t p) u o → KeepsSorts t u o
sorts-fewer t u p o k = record {
  folders = λ d a b. k.folders d (change-stands one_fewer t p d ∙ a) b ∙ change-fact is_folder one_fewer fold t p d;
  others = λ d a b h. k.others d (change-stands one_fewer t p d ∙ a) b h ∙ change-fact is_untouched one_fewer same t p d;
  own = k.own;
}
  where
    fold : (y : Node) → is_folder (Some (one_fewer y)) ≡ is_folder (Some y)
    fold (Branch a b names c) = refl
    fold (Leaf content a u c) = refl

    same : (y : Node) → is_untouched (Some (one_fewer y)) ≡ is_untouched (Some y)
    same (Branch a b names c) = refl
    same (Leaf content a (Own z) c) = refl
    same (Leaf content a (Untouched k) c) = refl

-- a node is made
sorts-made : (t : Tree) (i : ℕ) → t (New i) ≡ None → (w : Option (NodeId × Name)) (x : Node) → KeepsSorts t (made_way t i w x) None
sorts-made t i none None x = sorts-same t
sorts-made t i none (Some w) x = sorts-way t (put t (New i) (Some x)) (Some w) (Some (New i)) None (record {
  folders = λ d a b. ap is_folder (there d a);
  others = λ d a b h. ap is_untouched (there d a);
  own = λ d h. cc;
})
  where
    there : (d : NodeId) → is_some (t d) ≡ true → put t (New i) (Some x) d ≡ t d
    there d a = put-there t (New i) (Some x) d (not-same (New i) d (λ e. absurd (false≢true (sym (ap is_some (ap t (sym e) ∙ none)) ∙ a))))

-- the next serial is no node's
unused : (s : State) → IsKept s.tree s.serial → s.tree (New s.serial) ≡ None
unused s k = k.unused s.serial (omega arith)

-- what changes of a node leave of its sort
attributes-fold : (m : MountOptions) (f : Attributes → Attributes) (y : Node) → is_folder (Some (with_attributes m f y)) ≡ is_folder (Some y)
attributes-fold m f (Branch a b names c) = refl
attributes-fold m f (Leaf content a u c) = refl

attributes-own : (m : MountOptions) (f : Attributes → Attributes) (y : Node) → is_untouched (Some (with_attributes m f y)) ≡ false
attributes-own m f (Branch a b names c) = refl
attributes-own m f (Leaf content a u c) = refl

bytes-fold : (bytes : List ℕ) (y : Node) → is_folder (Some (with_bytes bytes y)) ≡ is_folder (Some y)
bytes-fold bytes (Branch a b names c) = refl
bytes-fold bytes (Leaf (File old) a u c) = refl
bytes-fold bytes (Leaf (SymbolicLink target) a u c) = refl

bytes-same : (bytes : List ℕ) (y : Node) → is_untouched (Some (with_bytes bytes y)) ≡ is_untouched (Some y)
bytes-same bytes (Branch a b names c) = refl
bytes-same bytes (Leaf (File old) a (Own z) c) = refl
bytes-same bytes (Leaf (File old) a (Untouched k) c) = refl
bytes-same bytes (Leaf (SymbolicLink target) a u c) = refl

meta-fold : (m : MountOptions) (y : Node) → is_folder (Some (meta_touched m y)) ≡ is_folder (Some y)
meta-fold m (Branch a b names c) = refl
meta-fold m (Leaf content a u c) = refl

meta-own : (m : MountOptions) (y : Node) → is_untouched (Some (meta_touched m y)) ≡ false
meta-own m (Branch a b names c) = refl
meta-own m (Leaf content a u c) = refl

more-fold : (m : MountOptions) (y : Node) → is_folder (Some (one_more m y)) ≡ is_folder (Some y)
more-fold m (Branch a b names c) = refl
more-fold m (Leaf content a u c) = refl

more-own : (m : MountOptions) (y : Node) → is_untouched (Some (one_more m y)) ≡ false
more-own m (Branch a b names c) = refl
more-own m (Leaf content a u c) = refl

-- a call on attributes
attributes-sorts : (s : State) (f : Attributes → Attributes) (p : Path) → KeepsSorts s.tree (change (with_attributes s.options f) s.tree (node_at s.tree p)) (node_at s.tree p)
attributes-sorts s f p = sorts-own (with_attributes s.options f) (attributes-fold s.options f) (attributes-own s.options f) s.tree (node_at s.tree p)

-- an open of what is there
opened-sorts : (s : State) (p : Path) (f : OpenFlags) (o : Option NodeId) → KeepsSorts s.tree (change (opened f) s.tree o) (cond f.writes o None)
opened-sorts s p f o = by f.writes f.truncate
  where
    touched_fold : (y : Node) → is_folder (Some (touched y)) ≡ is_folder (Some y)
    touched_fold (Branch a b names c) = refl
    touched_fold (Leaf content a u c) = refl

    touched_own : (y : Node) → is_untouched (Some (touched y)) ≡ false
    touched_own (Branch a b names c) = refl
    touched_own (Leaf content a u c) = refl

    by : (b c : Bool) → KeepsSorts s.tree (change (λ x. cond b (cond c (with_bytes [] (touched x)) (touched x)) x) s.tree o) (cond b o None)
    by false c = sorts-kept (λ x. x) (λ y. refl) (λ y. refl) s.tree o
    by true false = sorts-own touched touched_fold touched_own s.tree o
    by true true =
        sorts-own (λ x. with_bytes [] (touched x)) (λ y. bytes-fold [] (touched y) ∙ touched_fold y)
        (λ y. bytes-same [] (touched y) ∙ touched_own y) s.tree o

-- an open, also one that makes its file
open-sorts : (s : State) (p : Path) (f : OpenFlags) (mode : ℕ) → IsKept s.tree s.serial → (c : ℕ) → KeepsSorts s.tree (tree_after s c (Open p f mode)) (touched_by s (Open p f mode))
open-sorts s p f mode k c = subst (KeepsSorts s.tree (tree_after s c (Open p f mode))) (sym (which f.writes)) (by (node_at s.tree p))
  where
    which : (b : Bool) → option_and_then (node_at s.tree) (cond b (Some p) None) ≡ cond b (node_at s.tree p) None
    which true = refl
    which false = refl

    nowhere : (b : Bool) (o : Option NodeId) → o ≡ None → o ≡ cond b o None
    nowhere true o h = refl
    nowhere false o h = h

    by : (o : Option NodeId) → KeepsSorts s.tree (cond (is_none o) (made_way s.tree s.serial (way_of s.tree p) (Leaf (File []) (fresh mode) (Own false) 1)) (change (opened f) s.tree o)) (cond f.writes o None)
    by None =
        subst (KeepsSorts s.tree (made_way s.tree s.serial (way_of s.tree p) (Leaf (File []) (fresh mode) (Own false) 1))) (nowhere f.writes None refl)
        (sorts-made s.tree s.serial (unused s k) (way_of s.tree p) (Leaf (File []) (fresh mode) (Own false) 1))
    by (Some d) = opened-sorts s p f (Some d)

-- a rename
rename-sorts : (s : State) (c : ℕ) (old new : Path) → KeepsSorts s.tree (tree_after s c (Rename old new)) (touched_by s (Rename old new))
rename-sorts s c old new = by (same_found (look s.tree old) (look s.tree new))
  where
    by : (b : Bool) → KeepsSorts s.tree (cond b s.tree (settled s.tables (renamed s.options s.tree old new) (node_at s.tree new))) (option_and_then (node_at s.tree) (cond b None (Some old)))
    by true = sorts-same s.tree
    by false =
        let t1 = change one_fewer s.tree (node_at s.tree new) in
        let t2 = change (meta_touched s.options) t1 (node_at s.tree old) in
        let t3 = lead_way t2 (way_of s.tree new) (node_at s.tree old) in
        let e = node_at s.tree old in
        sorts-settled s.tables s.tree (lead_way t3 (way_of s.tree old) None) (node_at s.tree new) e
        (sorts-way s.tree t3 (way_of s.tree old) None e
        (sorts-way s.tree t2 (way_of s.tree new) e e
        (sorts-fewer s.tree t2 (node_at s.tree new) e
        (sorts-own (meta_touched s.options) (meta-fold s.options) (meta-own s.options) t1 e))))

-- the name of a path goes
drop-sorts : (s : State) (p : Path) → KeepsSorts s.tree (dropped s.tables s.tree p) None
drop-sorts s p =
    let t1 = change one_fewer s.tree (node_at s.tree p) in
    sorts-settled s.tables s.tree (lead_way t1 (way_of s.tree p) None) (node_at s.tree p) None
    (sorts-way s.tree t1 (way_of s.tree p) None None (sorts-fewer s.tree t1 (node_at s.tree p) None (sorts-same t1)))

-- a write, also of no bytes
write-sorts : (s : State) (c fd : ℕ) (bytes : List ℕ) → KeepsSorts s.tree (tree_after s c (Write fd bytes)) None
write-sorts s c fd bytes = by (nat_eq (length bytes) 0) (write_place s.tree (handle_of s.tables c fd)) (node_of_handle (handle_of s.tables c fd))
  where
    by : (b : Bool) (at : ℕ) (o : Option NodeId) → KeepsSorts s.tree (cond b s.tree (change (wrote s.options.file_limit at bytes) s.tree o)) None
    by true at o = sorts-same s.tree
    by false at o =
        sorts-kept (wrote s.options.file_limit at bytes) (λ y. bytes-fold (written (bytes_of_node (Some y)) at (fitting s.options.file_limit at bytes)) y)
        (λ y. bytes-same (written (bytes_of_node (Some y)) at (fitting s.options.file_limit at bytes)) y) s.tree o

-- each call keeps sorts
pub law_of_sorts : LawOfSorts
law_of_sorts s c (Stat p) k = sorts-same s.tree
law_of_sorts s c (Readlink p) k = sorts-same s.tree
law_of_sorts s c (Chmod p mode) k = attributes-sorts s (with_mode mode) p
law_of_sorts s c (Chown p uid gid) k = attributes-sorts s (with_owner uid gid) p
law_of_sorts s c (SetAttribute p n v) k = attributes-sorts s (λ a. record a { user = set_value a.user n v }) p
law_of_sorts s c (GetAttribute p n) k = sorts-same s.tree
law_of_sorts s c (DeleteAttribute p n) k = attributes-sorts s (λ a. record a { user = drop_value a.user n }) p
law_of_sorts s c (ListAttributes p) k = sorts-same s.tree
law_of_sorts s c (Mkdir p mode) k = sorts-made s.tree s.serial (unused s k) (way_of s.tree p) (Branch (fresh mode) false fin.empty 1)
law_of_sorts s c (Symlink target p) k = sorts-made s.tree s.serial (unused s k) (way_of s.tree p) (Leaf (SymbolicLink target) (fresh 0o777) (Own false) 1)
law_of_sorts s c (Open p f mode) k = open-sorts s p f mode k c
law_of_sorts s c (Unlink p) k = drop-sorts s p
law_of_sorts s c (Rmdir p) k = drop-sorts s p
law_of_sorts s c (Hardlink old new) k =
    sorts-way s.tree (change (one_more s.options) s.tree (node_at s.tree old)) (way_of s.tree new) (node_at s.tree old) (node_at s.tree old)
    (sorts-own (one_more s.options) (more-fold s.options) (more-own s.options) s.tree (node_at s.tree old))
law_of_sorts s c (Rename old new) k = rename-sorts s c old new
law_of_sorts s c (Read fd n) k = sorts-same s.tree
law_of_sorts s c (Write fd bytes) k = write-sorts s c fd bytes
law_of_sorts s c (Seek fd offset whence) k = sorts-same s.tree
law_of_sorts s c (Truncate fd size) k =
    sorts-kept (λ x. with_bytes (sized (bytes_of_node (Some x)) size) x) (λ y. bytes-fold (sized (bytes_of_node (Some y)) size) y)
    (λ y. bytes-same (sized (bytes_of_node (Some y)) size) y) s.tree (node_of_handle (handle_of s.tables c fd))
law_of_sorts s c (Fstat fd) k = sorts-same s.tree
law_of_sorts s c (ListNames fd n) k = sorts-same s.tree
law_of_sorts s c (Close fd) k = sorts-settled (with_handle s.tables c fd None) s.tree s.tree (node_of_handle (handle_of s.tables c fd)) None (sorts-same s.tree)
law_of_sorts s c (Arm slot p mask) k = sorts-same s.tree
law_of_sorts s c (Disarm number) k = sorts-same s.tree
law_of_sorts s c (TakeNotices n) k = sorts-same s.tree
