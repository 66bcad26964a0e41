-- Directories and untouched files stay what they are by each call, and so stand at one path alone still.
use Rattle.std.proofs.Common.{◌≡◌, ◌≢◌, ℕ, Bool, true, false, cond, [], ◌⊎◌, List, Option, None, Some, refl, sym, ap, ◌∙◌, inl, inr, nat_eq, length, is_none, is_some, arith}
use Rattle.std.proofs.lemmas.Bool.{false≢true}
use Rattle.std.specs.FinMap as fin
use Rattle.ov_base.specs.declared.attributes.Attributes.{Attributes}
use Rattle.ov_base.specs.declared.bytes.Content.TheVariants.{File, SymbolicLink}
use Rattle.ov_base.specs.Calls.{Call}
use Rattle.ov_base.specs.declared.call.CallOf.TheVariants.{Stat, Readlink, Chmod, Chown, SetAttribute, GetAttribute, DeleteAttribute, ListAttributes, Mkdir, Symlink, Open, Unlink, Rmdir, Hardlink, Rename, Read, Write, Seek, Truncate, Fstat, ListNames, Close, Arm, Disarm, TakeNotices}
use Rattle.ov_base.specs.declared.call.OpenFlags.{OpenFlags}
use Rattle.ov_base.specs.declared.node_id.NodeId.{NodeId}
use Rattle.ov_base.specs.declared.node_id.NodeId.TheVariants.{New}
use Rattle.plain_model.specs.Layers.{Name, Path}
use Rattle.plain_model.specs.Tree.{Node, Branch, Leaf, Own, Untouched, Tree, node_at, with_name, put, is_folder, is_untouched}
use Rattle.plain_model.specs.Machine.{MountOptions, Table, State, look, same_found, is_link, bytes_of_node, handle_of, write_place}
use Rattle.plain_model.specs.Changes.{change, way_of, lead_way, touched, meta_touched, one_fewer, one_more, with_bytes, with_attributes, with_mode, with_owner, set_value, drop_value, sized, written, fitting, node_of_handle, with_handle, wrote, opened, fresh, settled, made_way, dropped, renamed, tree_after}
use Rattle.plain_model.proofs.Keeping.{put-there}
use Rattle.plain_model.proofs.Kept.{at-path}
use Rattle.mount_laws.specs.Nodes.{KeepsSorts, touched_by}
use Rattle.mount_laws.proofs.Handles.{not-same}
use Rattle.mount_laws.proofs.Removes.{counted-some}
use Rattle.mount_laws.proofs.Sorts.{way-fact, change-fact, settled-left, law_of_sorts}
use Rattle.notice_laws.specs.Notified.{stands_alone}
use Rattle.notice_laws.specs.Places.{LawOfAlone}

-- a change of nodes that leaves whether they are links
abbrev KeepsLinks : (Node → Node) → Type 0
KeepsLinks f = (y : Node) → is_link (Some (f y)) ≡ is_link (Some y)

-- a name that leads elsewhere
named-link : (n : Name) (e : Option NodeId) (o : Option Node) → is_link (with_name n e o) ≡ is_link o
named-link n e None = refl
named-link n e (Some (Branch a b names c)) = refl
named-link n e (Some (Leaf content a u c)) = refl

-- other attributes
attributes-link : (m : MountOptions) (f : Attributes → Attributes) → KeepsLinks (with_attributes m f)
attributes-link m f (Branch a b names c) = refl
attributes-link m f (Leaf (File bytes) a u c) = refl
attributes-link m f (Leaf (SymbolicLink target) a u c) = refl

-- other bytes
bytes-link : (bytes : List ℕ) → KeepsLinks (with_bytes bytes)
bytes-link bytes (Branch a b names c) = refl
bytes-link bytes (Leaf (File old) a u c) = refl
bytes-link bytes (Leaf (SymbolicLink target) a u c) = refl

-- write access
touched-link : KeepsLinks touched
touched-link (Branch a b names c) = refl
touched-link (Leaf (File bytes) a u c) = refl
touched-link (Leaf (SymbolicLink target) a u c) = refl

-- a rename
meta-link : (m : MountOptions) → KeepsLinks (meta_touched m)
meta-link m (Branch a b names c) = refl
meta-link m (Leaf (File bytes) a u c) = refl
meta-link m (Leaf (SymbolicLink target) a u c) = refl

-- a name less
fewer-link : KeepsLinks one_fewer
fewer-link (Branch a b names c) = refl
fewer-link (Leaf (File bytes) a u c) = refl
fewer-link (Leaf (SymbolicLink target) a u c) = refl

-- a name more
more-link : (m : MountOptions) → KeepsLinks (one_more m)
more-link m (Branch a b names c) = refl
more-link m (Leaf (File bytes) a u c) = refl
more-link m (Leaf (SymbolicLink target) a u c) = refl

-- an open
opened-link : (f : OpenFlags) → KeepsLinks (opened f)
opened-link f y = by f.writes f.truncate
  where
    by : (b c : Bool) → is_link (Some (cond b (cond c (with_bytes [] (touched y)) (touched y)) y)) ≡ is_link (Some y)
    by false c = refl
    by true false = touched-link y
    by true true = bytes-link [] (touched y) ∙ touched-link y

module _ (d : NodeId) where
  -- the node is a link in both trees or in neither
  abbrev SameLink : Tree → Tree → Type 0
  SameLink t u = is_link (u d) ≡ is_link (t d)

  -- so where a name leads elsewhere
  link-way : (t : Tree) (w : Option (NodeId × Name)) (e : Option NodeId) → SameLink t (lead_way t w e)
  link-way t w e = way-fact is_link named-link t w e d

  -- where a node changes
  link-change : (f : Node → Node) → KeepsLinks f → (t : Tree) (o : Option NodeId) → SameLink t (change f t o)
  link-change f keeps t o = change-fact is_link f keeps t o d

  -- where a node may go
  link-settled : (ks : List Table) (t : Tree) (o : Option NodeId) → is_some (settled ks t o d) ≡ true → SameLink t (settled ks t o)
  link-settled ks t o some = ap is_link (settled-left ks t o d some)

  -- where another is made
  link-made : (t : Tree) (i : ℕ) (w : Option (NodeId × Name)) (x : Node) → d ≢ New i → SameLink t (made_way t i w x)
  link-made t i None x other = refl
  link-made t i (Some w) x other =
      link-way (put t (New i) (Some x)) (Some w) (Some (New i))
      ∙ ap is_link (put-there t (New i) (Some x) d (not-same (New i) d (λ e. other (sym e))))

  -- where the name of a path goes
  link-dropped : (ks : List Table) (t : Tree) (p : Path) → is_some (dropped ks t p d) ≡ true → SameLink t (dropped ks t p)
  link-dropped ks t p some =
      let t1 = change one_fewer t (node_at t p) in
      link-settled ks (lead_way t1 (way_of t p) None) (node_at t p) some
      ∙ link-way t1 (way_of t p) None
      ∙ link-change one_fewer fewer-link t (node_at t p)

  -- where a node moves
  link-renamed : (m : MountOptions) (t : Tree) (old new : Path) → SameLink t (renamed m t old new)
  link-renamed m t old new =
      let t1 = change one_fewer t (node_at t new) in
      let t2 = change (meta_touched m) t1 (node_at t old) in
      let t3 = lead_way t2 (way_of t new) (node_at t old) in
      link-way t3 (way_of t old) None ∙ link-way t2 (way_of t new) (node_at t old)
      ∙ link-change (meta_touched m) (meta-link m) t1 (node_at t old) ∙ link-change one_fewer fewer-link t (node_at t new)

  module _ (s : State) (c : ℕ) (old_one : d ≢ New s.serial) where
    -- a rename, also of an object onto itself
    link-rename : (old new : Path) → is_some (tree_after s c (Rename old new) d) ≡ true → SameLink s.tree (tree_after s c (Rename old new))
    link-rename old new some = by (same_found (look s.tree old) (look s.tree new)) some
      where
        by :
            (b : Bool) → is_some (cond b s.tree (settled s.tables (renamed s.options s.tree old new) (node_at s.tree new)) d) ≡ true →
            SameLink s.tree (cond b s.tree (settled s.tables (renamed s.options s.tree old new) (node_at s.tree new)))
        by true some = refl
        by false some =
            link-settled s.tables (renamed s.options s.tree old new) (node_at s.tree new) some ∙ link-renamed s.options s.tree old new

    -- an open, also one that makes its file
    link-open : (p : Path) (f : OpenFlags) (mode : ℕ) → SameLink s.tree (tree_after s c (Open p f mode))
    link-open p f mode = by (node_at s.tree p)
      where
        by :
            (o : Option NodeId) →
            SameLink s.tree (cond (is_none o) (made_way s.tree s.serial (way_of s.tree p) (Leaf (File []) (fresh mode) (Own false) 1))
            (change (opened f) s.tree o))
        by None = link-made s.tree s.serial (way_of s.tree p) (Leaf (File []) (fresh mode) (Own false) 1) old_one
        by (Some e) = link-change (opened f) (opened-link f) s.tree (Some e)

    -- a write, also of no bytes
    link-write : (fd : ℕ) (bytes : List ℕ) → SameLink s.tree (tree_after s c (Write fd bytes))
    link-write fd bytes =
        by (nat_eq (length bytes) 0) (write_place s.tree (handle_of s.tables c fd)) (node_of_handle (handle_of s.tables c fd))
      where
        by : (b : Bool) (at : ℕ) (o : Option NodeId) → SameLink s.tree (cond b s.tree (change (wrote s.options.file_limit at bytes) s.tree o))
        by true at o = refl
        by false at o = link-change (wrote s.options.file_limit at bytes) (λ x. bytes-link (written (bytes_of_node (Some x)) at (fitting s.options.file_limit at bytes)) x) s.tree o

    -- each call leaves whether a node that stays there is a link
    link-after : (call : Call) → is_some (tree_after s c call d) ≡ true → SameLink s.tree (tree_after s c call)
    link-after (Stat p) some = refl
    link-after (Readlink p) some = refl
    link-after (Chmod p mode) some = link-change _ (attributes-link s.options (with_mode mode)) s.tree (node_at s.tree p)
    link-after (Chown p uid gid) some = link-change _ (attributes-link s.options (with_owner uid gid)) s.tree (node_at s.tree p)
    link-after (SetAttribute p n v) some =
        link-change _ (attributes-link s.options (λ a. record a { user = set_value a.user n v })) s.tree (node_at s.tree p)
    link-after (GetAttribute p n) some = refl
    link-after (DeleteAttribute p n) some =
        link-change _ (attributes-link s.options (λ a. record a { user = drop_value a.user n })) s.tree (node_at s.tree p)
    link-after (ListAttributes p) some = refl
    link-after (Mkdir p mode) some = link-made s.tree s.serial (way_of s.tree p) (Branch (fresh mode) false fin.empty 1) old_one
    link-after (Symlink target p) some =
        link-made s.tree s.serial (way_of s.tree p) (Leaf (SymbolicLink target) (fresh 0o777) (Own false) 1) old_one
    link-after (Open p f mode) some = link-open p f mode
    link-after (Unlink p) some = link-dropped s.tables s.tree p some
    link-after (Rmdir p) some = link-dropped s.tables s.tree p some
    link-after (Hardlink old new) some =
        link-way (change (one_more s.options) s.tree (node_at s.tree old)) (way_of s.tree new) (node_at s.tree old)
        ∙ link-change (one_more s.options) (more-link s.options) s.tree (node_at s.tree old)
    link-after (Rename old new) some = link-rename old new some
    link-after (Read fd n) some = refl
    link-after (Write fd bytes) some = link-write fd bytes
    link-after (Seek fd offset whence) some = refl
    link-after (Truncate fd size) some =
        link-change _ (λ x. bytes-link (sized (bytes_of_node (Some x)) size) x) s.tree (node_of_handle (handle_of s.tables c fd))
    link-after (Fstat fd) some = refl
    link-after (ListNames fd n) some = refl
    link-after (Close fd) some =
        link-settled (with_handle s.tables c fd None) s.tree (node_of_handle (handle_of s.tables c fd)) some
    link-after (Arm slot p mask) some = refl
    link-after (Disarm number) some = refl
    link-after (TakeNotices n) some = refl

-- what stands alone is a directory, or an untouched file or link that is no link
alone-is : (o : Option Node) → stands_alone o ≡ true → (is_folder o ≡ true) ⊎ ((is_untouched o ≡ true) × (is_link o ≡ false))
alone-is None h = absurd (false≢true h)
alone-is (Some (Branch a b names c)) h = inl refl
alone-is (Some (Leaf (File bytes) a (Own z) c)) h = absurd (false≢true h)
alone-is (Some (Leaf (File bytes) a (Untouched links) c)) h = inr (refl, refl)
alone-is (Some (Leaf (SymbolicLink target) a u c)) h = absurd (false≢true h)

-- what stands alone is there
alone-there : (o : Option Node) → stands_alone o ≡ true → is_some o ≡ true
alone-there None h = h
alone-there (Some x) h = refl

-- a directory stands alone
pub folder-alone : (o : Option Node) → is_folder o ≡ true → stands_alone o ≡ true
folder-alone None h = h
folder-alone (Some (Branch a b names c)) h = refl
folder-alone (Some (Leaf content a u c)) h = absurd (false≢true h)

-- and so does an untouched file
file-alone : (o : Option Node) → is_untouched o ≡ true → is_link o ≡ false → stands_alone o ≡ true
file-alone None h n = h
file-alone (Some (Branch a b names c)) h n = refl
file-alone (Some (Leaf (File bytes) a (Own z) c)) h n = h
file-alone (Some (Leaf (File bytes) a (Untouched links) c)) h n = refl
file-alone (Some (Leaf (SymbolicLink target) a u c)) h n = absurd (false≢true (sym n))

-- a node that stands alone stays so
pub law_of_alone : LawOfAlone
law_of_alone U V lowers s c call k d p q at alone apart now = (now, by (alone-is (s.tree d) alone))
  where
    was_there : is_some (s.tree d) ≡ true
    was_there = alone-there (s.tree d) alone

    is_there : is_some (tree_after s c call d) ≡ true
    is_there = counted-some (tree_after s c call d) (at-path _ _ k.now.kept q d now)

    sorts : KeepsSorts s.tree (tree_after s c call) (touched_by s call)
    sorts = law_of_sorts s c call k.before.kept

    not_new : d ≢ New s.serial
    not_new e =
        let none : s.tree d ≡ None = ap s.tree e ∙ k.before.kept.unused s.serial (omega arith) in
        absurd (false≢true (ap is_some (sym none) ∙ was_there))

    by :
        (is_folder (s.tree d) ≡ true) ⊎ ((is_untouched (s.tree d) ≡ true) × (is_link (s.tree d) ≡ false)) →
        stands_alone (tree_after s c call d) ≡ true
    by (inl folder) = folder-alone (tree_after s c call d) (sorts.folders d was_there is_there ∙ folder)
    by (inr low) =
        file-alone (tree_after s c call d) (sorts.others d was_there is_there (apart low.0) ∙ low.0)
        (link-after d s c not_new call is_there ∙ low.1)
