-- No call makes the bytes of a node a lower file's that were not.
use Rattle.std.proofs.Common.{◌≡◌, ℕ, Bool, true, false, cond, ◌||◌, List, [], Option, None, Some, nat_eq, length, refl, sym, ap, subst, ◌∙◌, inl, inr, is_none}
use Rattle.std.proofs.lemmas.Bool.{cases_Bool, false≢true}
use Rattle.std.specs.FinMap as fin
use Rattle.ov_base.specs.declared.attributes.Attributes.{Attributes}
use Rattle.ov_base.specs.declared.bytes.Content.TheVariants.{File, SymbolicLink}
use Rattle.ov_base.specs.Calls.{Call}
use Rattle.ov_base.specs.declared.call.CallOf.TheVariants.{Stat, Readlink, Chmod, Chown, SetAttribute, GetAttribute, DeleteAttribute, ListAttributes, Mkdir, Symlink, Open, Unlink, Rmdir, Hardlink, Rename, Read, Write, Seek, Truncate, Fstat, ListNames, Close, Arm, Disarm, TakeNotices}
use Rattle.ov_base.specs.declared.call.OpenFlags.{OpenFlags}
use Rattle.ov_base.specs.declared.node_id.NodeId.{NodeId}
use Rattle.ov_base.specs.declared.node_id.NodeId.TheVariants.{New}
use Rattle.plain_model.specs.Layers.{Name, Path}
use Rattle.plain_model.specs.Tree.{same_id, Node, Branch, Leaf, Own, Untouched, Tree, node_at, put, with_name, lead, is_data_low}
use Rattle.plain_model.specs.Machine.{MountOptions, Table, State, look, same_found, handle_of, write_place, bytes_of_node}
use Rattle.plain_model.specs.Changes.{fresh, on_way, way_of, lead_way, over_node, change, touched, meta_touched, one_fewer, one_more, with_bytes, with_attributes, with_mode, with_owner, set_value, drop_value, is_named, is_held, settled, made_way, dropped, renamed, sized, wrote, opened, with_handle, node_of_handle, tree_after}
use Rattle.plain_model.proofs.Paths.{ids_tell}

-- the second tree has no more bytes of lower files than the first
abbrev pub OwnsAlso : Tree → Tree → Type 0
OwnsAlso t u = (d : NodeId) → is_data_low (t d) ≡ false → is_data_low (u d) ≡ false

owns-refl : (t : Tree) → OwnsAlso t t
owns-refl t d h = h

owns-trans : (t u v : Tree) → OwnsAlso t u → OwnsAlso u v → OwnsAlso t v
owns-trans t u v a b d h = b d (a d h)

owns-put : (t : Tree) (x : NodeId) (o : Option Node) → (is_data_low (t x) ≡ false → is_data_low o ≡ false) → OwnsAlso t (put t x o)
owns-put t x o f d h = by (same_id x d) refl
  where
    by : (b : Bool) → same_id x d ≡ b → is_data_low (cond b o (t d)) ≡ false
    by true e = f (subst (λ z. is_data_low (t z) ≡ false) (sym ((ids_tell x d).0 e)) h)
    by false e = h

-- a change that keeps bytes of a node's own
abbrev Owns : (Node → Node) → Type 0
Owns f = (x : Node) → is_data_low (Some x) ≡ false → is_data_low (Some (f x)) ≡ false

owns-change : (f : Node → Node) → Owns f → (t : Tree) (o : Option NodeId) → OwnsAlso t (change f t o)
owns-change f k t None = owns-refl t
owns-change f k t (Some x) = owns-put t x (over_node f (t x)) (by (t x))
  where
    by : (o : Option Node) → is_data_low o ≡ false → is_data_low (over_node f o) ≡ false
    by None h = refl
    by (Some y) h = k y h

owns-named : (n : Name) (e : Option NodeId) (o : Option Node) → is_data_low o ≡ false → is_data_low (with_name n e o) ≡ false
owns-named n e None h = refl
owns-named n e (Some (Branch a b names c)) h = refl
owns-named n e (Some (Leaf content a u c)) h = h

owns-way : (t : Tree) (w : Option (NodeId × Name)) (e : Option NodeId) → OwnsAlso t (lead_way t w e)
owns-way t None e = owns-refl t
owns-way t (Some w) e = owns-put t w.0 (with_name w.1 e (t w.0)) (owns-named w.1 e (t w.0))

owns-settled : (ks : List Table) (t : Tree) (o : Option NodeId) → OwnsAlso t (settled ks t o)
owns-settled ks t None = owns-refl t
owns-settled ks t (Some d) = owns-put t d (cond (is_named (t d) || is_held ks d) (t d) None) (by (is_named (t d) || is_held ks d))
  where
    by : (b : Bool) → is_data_low (t d) ≡ false → is_data_low (cond b (t d) None) ≡ false
    by true h = h
    by false h = refl

owns-made : (t : Tree) (i : ℕ) (w : Option (NodeId × Name)) (x : Node) → is_data_low (Some x) ≡ false → OwnsAlso t (made_way t i w x)
owns-made t i None x h = owns-refl t
owns-made t i (Some w) x h = owns-trans t (put t (New i) (Some x)) (made_way t i (Some w) x) (owns-put t (New i) (Some x) (λ k. h)) (owns-way (put t (New i) (Some x)) (Some w) (Some (New i)))

by-attributes : (m : MountOptions) (f : Attributes → Attributes) → Owns (with_attributes m f)
by-attributes m f (Branch a b names c) h = refl
by-attributes m f (Leaf content a (Own low) c) h = h
by-attributes m f (Leaf content a (Untouched k) c) h = absurd (false≢true (sym h))

by-move : (m : MountOptions) → Owns (meta_touched m)
by-move m (Branch a b names c) h = refl
by-move m (Leaf content a (Own low) c) h = h
by-move m (Leaf content a (Untouched k) c) h = absurd (false≢true (sym h))

by-more : (m : MountOptions) → Owns (one_more m)
by-more m (Branch a b names c) h = refl
by-more m (Leaf content a (Own low) c) h = h
by-more m (Leaf content a (Untouched k) c) h = absurd (false≢true (sym h))

by-fewer : Owns one_fewer
by-fewer (Branch a b names c) h = refl
by-fewer (Leaf content a (Own low) c) h = h
by-fewer (Leaf content a (Untouched k) c) h = absurd (false≢true (sym h))

by-bytes : (bytes : List ℕ) → Owns (with_bytes bytes)
by-bytes bytes (Branch a b names c) h = refl
by-bytes bytes (Leaf (File old) a (Own low) c) h = h
by-bytes bytes (Leaf (File old) a (Untouched k) c) h = absurd (false≢true (sym h))
by-bytes bytes (Leaf (SymbolicLink target) a u c) h = h

by-touch : Owns touched
by-touch (Branch a b names c) h = refl
by-touch (Leaf content a u c) h = refl

by-open : (f : OpenFlags) → Owns (opened f)
by-open f x h = by f.writes f.truncate
  where
    by : (w t : Bool) → is_data_low (Some (cond w (cond t (with_bytes [] (touched x)) (touched x)) x)) ≡ false
    by false t = h
    by true false = by-touch x h
    by true true = by-bytes [] (touched x) (by-touch x h)

owns-dropped : (ks : List Table) (t : Tree) (p : Path) → OwnsAlso t (dropped ks t p)
owns-dropped ks t p =
    owns-trans t (change one_fewer t (node_at t p)) (dropped ks t p) (owns-change one_fewer by-fewer t (node_at t p))
    (owns-trans (change one_fewer t (node_at t p)) (lead_way (change one_fewer t (node_at t p)) (way_of t p) None) (dropped ks t p)
    (owns-way (change one_fewer t (node_at t p)) (way_of t p) None)
    (owns-settled ks (lead_way (change one_fewer t (node_at t p)) (way_of t p) None) (node_at t p)))

module _ (m : MountOptions) (t : Tree) (old new : Path) where
  abbrev counted : Tree
  counted = change one_fewer t (node_at t new)

  abbrev meta : Tree
  meta = change (meta_touched m) counted (node_at t old)

  abbrev led : Tree
  led = lead_way meta (way_of t new) (node_at t old)

  owns-renamed : OwnsAlso t (renamed m t old new)
  owns-renamed =
      owns-trans t counted (renamed m t old new) (owns-change one_fewer by-fewer t (node_at t new))
      (owns-trans counted meta (renamed m t old new) (owns-change (meta_touched m) (by-move m) counted (node_at t old))
      (owns-trans meta led (renamed m t old new) (owns-way meta (way_of t new) (node_at t old)) (owns-way led (way_of t old) None)))

owns-if : (b : Bool) (t u v : Tree) → OwnsAlso t u → OwnsAlso t v → OwnsAlso t (cond b u v)
owns-if true t u v a c = a
owns-if false t u v a c = c

-- whatever a client calls, refused or not
pub law_of_own : (s : State) (c : ℕ) (call : Call) → OwnsAlso s.tree (tree_after s c call)
law_of_own s c (Chmod p mode) = owns-change (with_attributes s.options (with_mode mode)) (by-attributes s.options (with_mode mode)) s.tree (node_at s.tree p)
law_of_own s c (Chown p uid gid) = owns-change (with_attributes s.options (with_owner uid gid)) (by-attributes s.options (with_owner uid gid)) s.tree (node_at s.tree p)
law_of_own s c (SetAttribute p n v) = owns-change (with_attributes s.options (λ a. record a { user = set_value a.user n v })) (by-attributes s.options (λ a. record a { user = set_value a.user n v })) s.tree (node_at s.tree p)
law_of_own s c (DeleteAttribute p n) = owns-change (with_attributes s.options (λ a. record a { user = drop_value a.user n })) (by-attributes s.options (λ a. record a { user = drop_value a.user n })) s.tree (node_at s.tree p)
law_of_own s c (Mkdir p mode) = owns-made s.tree s.serial (way_of s.tree p) (Branch (fresh mode) false fin.empty 1) refl
law_of_own s c (Symlink target p) = owns-made s.tree s.serial (way_of s.tree p) (Leaf (SymbolicLink target) (fresh 0o777) (Own false) 1) refl
law_of_own s c (Open p f mode) = owns-if (is_none (node_at s.tree p)) s.tree (made_way s.tree s.serial (way_of s.tree p) (Leaf (File []) (fresh mode) (Own false) 1)) (change (opened f) s.tree (node_at s.tree p)) (owns-made s.tree s.serial (way_of s.tree p) (Leaf (File []) (fresh mode) (Own false) 1) refl) (owns-change (opened f) (by-open f) s.tree (node_at s.tree p))
law_of_own s c (Unlink p) = owns-dropped s.tables s.tree p
law_of_own s c (Rmdir p) = owns-dropped s.tables s.tree p
law_of_own s c (Hardlink old new) = owns-trans s.tree (change (one_more s.options) s.tree (node_at s.tree old)) (tree_after s c (Hardlink old new)) (owns-change (one_more s.options) (by-more s.options) s.tree (node_at s.tree old)) (owns-way (change (one_more s.options) s.tree (node_at s.tree old)) (way_of s.tree new) (node_at s.tree old))
law_of_own s c (Rename old new) = owns-if (same_found (look s.tree old) (look s.tree new)) s.tree s.tree (settled s.tables (renamed s.options s.tree old new) (node_at s.tree new)) (owns-refl s.tree) (owns-trans s.tree (renamed s.options s.tree old new) (settled s.tables (renamed s.options s.tree old new) (node_at s.tree new)) (owns-renamed s.options s.tree old new) (owns-settled s.tables (renamed s.options s.tree old new) (node_at s.tree new)))
law_of_own s c (Write fd bytes) = owns-if (nat_eq (length bytes) 0) s.tree s.tree (change (wrote s.options.file_limit (write_place s.tree (handle_of s.tables c fd)) bytes) s.tree (node_of_handle (handle_of s.tables c fd))) (owns-refl s.tree) (owns-change (wrote s.options.file_limit (write_place s.tree (handle_of s.tables c fd)) bytes) (λ x. by-bytes _ x) s.tree (node_of_handle (handle_of s.tables c fd)))
law_of_own s c (Truncate fd size) = owns-change (λ x. with_bytes (sized (bytes_of_node (Some x)) size) x) (λ x. by-bytes _ x) s.tree (node_of_handle (handle_of s.tables c fd))
law_of_own s c (Close fd) = owns-settled (with_handle s.tables c fd None) s.tree (node_of_handle (handle_of s.tables c fd))
law_of_own s c (Stat p) = owns-refl s.tree
law_of_own s c (Readlink p) = owns-refl s.tree
law_of_own s c (GetAttribute p n) = owns-refl s.tree
law_of_own s c (ListAttributes p) = owns-refl s.tree
law_of_own s c (Read fd n) = owns-refl s.tree
law_of_own s c (Seek fd offset whence) = owns-refl s.tree
law_of_own s c (Fstat fd) = owns-refl s.tree
law_of_own s c (ListNames fd n) = owns-refl s.tree
law_of_own s c (Arm slot p mask) = owns-refl s.tree
law_of_own s c (Disarm number) = owns-refl s.tree
law_of_own s c (TakeNotices n) = owns-refl s.tree
