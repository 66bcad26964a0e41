-- What is under no path and has no name stays so by each call, and what loses its only name comes to be so.
use Rattle.std.proofs.Common.{◌≡◌, ◌≢◌, ℕ, ◌-◌, Bool, true, false, cond, ◌||◌, [], List, Option, None, Some, refl, sym, ap, ◌∙◌, inl, inr, nat_eq, length, is_none, arith}
use Rattle.std.proofs.lemmas.Bool.{cases_Bool}
use Rattle.std.specs.FinMap as fin
use Rattle.ov_base.specs.declared.bytes.Content.TheVariants.{File, SymbolicLink}
use Rattle.ov_base.specs.Calls.{Call}
use Rattle.ov_base.specs.declared.call.CallOf.TheVariants.{Stat, Readlink, Chmod, Chown, SetAttribute, GetAttribute, DeleteAttribute, ListAttributes, Mkdir, Symlink, Open, Unlink, Rmdir, Hardlink, Rename, Read, Write, Seek, Truncate, Fstat, ListNames, Close, Arm, Disarm, TakeNotices}
use Rattle.ov_base.specs.declared.call.OpenFlags.{OpenFlags}
use Rattle.ov_base.specs.declared.node_id.NodeId.{NodeId}
use Rattle.ov_base.specs.declared.node_id.NodeId.TheVariants.{New}
use Rattle.plain_model.specs.Layers.{Name, Path, same_path}
use Rattle.plain_model.specs.Tree.{same_id, Node, Branch, Leaf, Own, Tree, node_at, put, count_of}
use Rattle.plain_model.specs.Machine.{MountOptions, Table, State, look, same_found, bytes_of_node, handle_of, write_place}
use Rattle.plain_model.specs.Changes.{change, way_of, lead_way, meta_touched, one_fewer, one_more, with_mode, with_owner, set_value, drop_value, sized, written, fitting, node_of_handle, with_handle, wrote, opened, fresh, is_named, is_held, settled, made_way, dropped, renamed, tree_after}
use Rattle.plain_model.proofs.Flat.{lost, counts, fewer-counts, some-same}
use Rattle.plain_model.proofs.Keeping.{IsMild, change-like, put-there}
use Rattle.plain_model.proofs.Kept.{bytes-mild, attributes-mild, opened-mild}
use Rattle.plain_model.proofs.Lasting.{way-counts}
use Rattle.plain_model.proofs.Paths.{paths_tell}
use Rattle.plain_model.proofs.Renaming.{meta-mild}
use Rattle.mount_laws.specs.Looks.{IsHidden}
use Rattle.mount_laws.specs.Nodes.{loses, names_lost}
use Rattle.mount_laws.specs.Paths.{LeadsSame, LeadsAlso, LeadsNoMore, LeadsElsewhere, LeadsIfMade, LeadsIfMoved, LeadsBy}
use Rattle.mount_laws.proofs.Handles.{not-same}
use Rattle.mount_laws.proofs.Leading.{law_of_paths}
use Rattle.mount_laws.proofs.OnePath.{law_of_one_path}
use Rattle.mount_laws.proofs.RenamedTree.{is-it, change-there, settled-here, settled-there, came-from}
use Rattle.notice_laws.specs.Places.{LawOfNowhere, LawOfLost}

-- a node without a name
module _ (d : NodeId) where
  abbrev IsBare : Tree → Type 0
  IsBare t = count_of (t d) ≡ 0

  -- by a change that leaves counts
  bare-mild : (f : Node → Node) → IsMild f → (t : Tree) (o : Option NodeId) → IsBare t → IsBare (change f t o)
  bare-mild f mild t o h = (change-like f mild t o d).counts ∙ h

  -- where a node loses a name
  bare-fewer : (t : Tree) (o : Option NodeId) → IsBare t → IsBare (change one_fewer t o)
  bare-fewer t o h = fewer-counts t o d ∙ by o
    where
      less : (b : Bool) (n : ℕ) → n ≡ 0 → cond b (n - 1) n ≡ 0
      less true n h = omega arith
      less false n h = h

      by : (o : Option NodeId) → lost o (counts t) d ≡ 0
      by None = h
      by (Some e) = less (same_id e d) (count_of (t d)) h

  -- where it loses its only one
  bare-last : (t : Tree) (o : Option NodeId) → o ≡ Some d → count_of (t d) ≡ 1 → IsBare (change one_fewer t o)
  bare-last t o here h = fewer-counts t o d ∙ by o here
    where
      by : (o : Option NodeId) → o ≡ Some d → lost o (counts t) d ≡ 0
      by None e = cc
      by (Some e) is = ap (λ b. cond b (count_of (t d) - 1) (count_of (t d))) (some-same e d is) ∙ ap (λ n. n - 1) h

  -- where a name leads elsewhere
  bare-way : (t : Tree) (w : Option (NodeId × Name)) (e : Option NodeId) → IsBare t → IsBare (lead_way t w e)
  bare-way t w e h = way-counts t w e d ∙ h

  -- where a node may go
  bare-settled : (ks : List Table) (t : Tree) (o : Option NodeId) → IsBare t → IsBare (settled ks t o)
  bare-settled ks t o h = elim (is-it o d) [
    | inl here ↦ ap count_of (settled-here ks t o d here) ∙ left (is_named (t d) || is_held ks d)
    | inr there ↦ ap count_of (settled-there ks t o d there) ∙ h
  ]
    where
      left : (b : Bool) → count_of (cond b (t d) None) ≡ 0
      left true = h
      left false = refl

  -- where another is made
  bare-made : (t : Tree) (i : ℕ) (w : Option (NodeId × Name)) (x : Node) → d ≢ New i → IsBare t → IsBare (made_way t i w x)
  bare-made t i None x other h = h
  bare-made t i (Some w) x other h =
      bare-way (put t (New i) (Some x)) (Some w) (Some (New i))
      (ap count_of (put-there t (New i) (Some x) d (not-same (New i) d (λ e. other (sym e)))) ∙ h)

  -- where the name of a path goes, having gone from its node
  bare-dropped : (ks : List Table) (t : Tree) (p : Path) → IsBare (change one_fewer t (node_at t p)) → IsBare (dropped ks t p)
  bare-dropped ks t p h =
      let t1 = change one_fewer t (node_at t p) in
      bare-settled ks (lead_way t1 (way_of t p) None) (node_at t p) (bare-way t1 (way_of t p) None h)

  -- where a node moves, the name of what it replaces having gone
  bare-renamed :
      (m : MountOptions) (ks : List Table) (t : Tree) (old new : Path) → IsBare (change one_fewer t (node_at t new)) →
      IsBare (settled ks (renamed m t old new) (node_at t new))
  bare-renamed m ks t old new h =
      let t1 = change one_fewer t (node_at t new) in
      let t2 = change (meta_touched m) t1 (node_at t old) in
      let t3 = lead_way t2 (way_of t new) (node_at t old) in
      bare-settled ks (lead_way t3 (way_of t old) None) (node_at t new)
      (bare-way t3 (way_of t old) None
      (bare-way t2 (way_of t new) (node_at t old)
      (bare-mild (meta_touched m) (meta-mild m) t1 (node_at t old) h)))

  module _ (s : State) (c : ℕ) (old_one : d ≢ New s.serial) (h : IsBare s.tree) where
    -- by a rename, also of an object onto itself
    bare-rename : (old new : Path) → IsBare (tree_after s c (Rename old new))
    bare-rename old new = by (same_found (look s.tree old) (look s.tree new))
      where
        by : (b : Bool) → IsBare (cond b s.tree (settled s.tables (renamed s.options s.tree old new) (node_at s.tree new)))
        by true = h
        by false = bare-renamed s.options s.tables s.tree old new (bare-fewer s.tree (node_at s.tree new) h)

    -- by an open, also one that makes its file
    bare-open : (p : Path) (f : OpenFlags) (mode : ℕ) → IsBare (tree_after s c (Open p f mode))
    bare-open p f mode = by (node_at s.tree p)
      where
        by :
            (o : Option NodeId) →
            IsBare (cond (is_none o) (made_way s.tree s.serial (way_of s.tree p) (Leaf (File []) (fresh mode) (Own false) 1))
            (change (opened f) s.tree o))
        by None = bare-made s.tree s.serial (way_of s.tree p) (Leaf (File []) (fresh mode) (Own false) 1) old_one h
        by (Some e) = bare-mild (opened f) (opened-mild f) s.tree (Some e) h

    -- by a write, also of no bytes
    bare-write : (fd : ℕ) (bytes : List ℕ) → IsBare (tree_after s c (Write fd bytes))
    bare-write fd bytes =
        by (nat_eq (length bytes) 0) (write_place s.tree (handle_of s.tables c fd)) (node_of_handle (handle_of s.tables c fd))
      where
        by : (b : Bool) (at : ℕ) (o : Option NodeId) → IsBare (cond b s.tree (change (wrote s.options.file_limit at bytes) s.tree o))
        by true at o = h
        by false at o = bare-mild (wrote s.options.file_limit at bytes) (λ x. bytes-mild (written (bytes_of_node (Some x)) at (fitting s.options.file_limit at bytes)) x) s.tree o h

    -- by each call, where no path leads to it
    bare-after : IsHidden s.tree d → (call : Call) → IsBare (tree_after s c call)
    bare-after hidden (Stat p) = h
    bare-after hidden (Readlink p) = h
    bare-after hidden (Chmod p mode) = bare-mild _ (attributes-mild s.options (with_mode mode)) s.tree (node_at s.tree p) h
    bare-after hidden (Chown p uid gid) = bare-mild _ (attributes-mild s.options (with_owner uid gid)) s.tree (node_at s.tree p) h
    bare-after hidden (SetAttribute p n v) =
        bare-mild _ (attributes-mild s.options (λ a. record a { user = set_value a.user n v })) s.tree (node_at s.tree p) h
    bare-after hidden (GetAttribute p n) = h
    bare-after hidden (DeleteAttribute p n) =
        bare-mild _ (attributes-mild s.options (λ a. record a { user = drop_value a.user n })) s.tree (node_at s.tree p) h
    bare-after hidden (ListAttributes p) = h
    bare-after hidden (Mkdir p mode) = bare-made s.tree s.serial (way_of s.tree p) (Branch (fresh mode) false fin.empty 1) old_one h
    bare-after hidden (Symlink target p) =
        bare-made s.tree s.serial (way_of s.tree p) (Leaf (SymbolicLink target) (fresh 0o777) (Own false) 1) old_one h
    bare-after hidden (Open p f mode) = bare-open p f mode
    bare-after hidden (Unlink p) = bare-dropped s.tables s.tree p (bare-fewer s.tree (node_at s.tree p) h)
    bare-after hidden (Rmdir p) = bare-dropped s.tables s.tree p (bare-fewer s.tree (node_at s.tree p) h)
    bare-after hidden (Hardlink old new) =
        bare-way (change (one_more s.options) s.tree (node_at s.tree old)) (way_of s.tree new) (node_at s.tree old)
        (ap count_of (change-there (one_more s.options) s.tree (node_at s.tree old) d (hidden old)) ∙ h)
    bare-after hidden (Rename old new) = bare-rename old new
    bare-after hidden (Read fd n) = h
    bare-after hidden (Write fd bytes) = bare-write fd bytes
    bare-after hidden (Seek fd offset whence) = h
    bare-after hidden (Truncate fd size) =
        bare-mild _ (λ x. bytes-mild (sized (bytes_of_node (Some x)) size) x) s.tree (node_of_handle (handle_of s.tables c fd)) h
    bare-after hidden (Fstat fd) = h
    bare-after hidden (ListNames fd n) = h
    bare-after hidden (Close fd) = bare-settled (with_handle s.tables c fd None) s.tree (node_of_handle (handle_of s.tables c fd)) h
    bare-after hidden (Arm slot p mask) = h
    bare-after hidden (Disarm number) = h
    bare-after hidden (TakeNotices n) = h

  -- no path comes to lead to it
  hidden-same : (t u : Tree) → LeadsSame t u → IsHidden t d → IsHidden u d
  hidden-same t u same hidden q h = hidden q (sym (same q) ∙ h)

  -- where a path leads to another
  hidden-also : (t u : Tree) (p : Path) (e : NodeId) → e ≢ d → LeadsAlso t u p e → IsHidden t d → IsHidden u d
  hidden-also t u p e other leads hidden q h = elim (cases_Bool (same_path q p)) [
    | inl y ↦ (let is : Some e ≡ Some d = sym leads.here ∙ ap (node_at u) (sym ((paths_tell q p).0 y)) ∙ h in other cc)
    | inr n ↦ hidden q (sym (leads.others q (λ y. let z : false ≡ true = sym n ∙ (paths_tell q p).1 y in cc)) ∙ h)
  ]

  -- where a path leads nowhere
  hidden-less : (t u : Tree) (p : Path) → LeadsNoMore t u p → IsHidden t d → IsHidden u d
  hidden-less t u p leads hidden q h = elim (cases_Bool (same_path q p)) [
    | inl y ↦ (let z : None ≡ Some d = sym leads.gone ∙ ap (node_at u) (sym ((paths_tell q p).0 y)) ∙ h in cc)
    | inr n ↦ hidden q (sym (leads.others q (λ y. let z : false ≡ true = sym n ∙ (paths_tell q p).1 y in cc)) ∙ h)
  ]

  -- where paths lead elsewhere
  hidden-moved : (t u : Tree) (old new : Path) → LeadsElsewhere t u old new → IsHidden t d → IsHidden u d
  hidden-moved t u old new leads hidden q h = elim (came-from old new q) [
    | inl from ↦ hidden from.0 (sym (leads.follows from.0 q from.1) ∙ h)
    | inr left ↦ (let z : None ≡ Some d = sym (leads.gone left.0) ∙ ap (node_at u) (sym left.1) ∙ h in cc)
  ]

  module _ (s : State) (u : Tree) (old_one : d ≢ New s.serial) (hidden : IsHidden s.tree d) where
    -- where a node is made
    hidden-made : (p : Path) → LeadsAlso s.tree u p (New s.serial) → IsHidden u d
    hidden-made p leads = hidden-also s.tree u p (New s.serial) (λ e. old_one (sym e)) leads hidden

    -- where an open may make one
    hidden-opened : (o : Option NodeId) (p : Path) → LeadsIfMade o s.tree u p (New s.serial) → IsHidden u d
    hidden-opened None p leads = hidden-made p leads
    hidden-opened (Some e) p leads = hidden-same s.tree u leads hidden

    -- where a rename may move one
    hidden-renamed : (b : Bool) (old new : Path) → LeadsIfMoved b s.tree u old new → IsHidden u d
    hidden-renamed true old new leads = hidden-same s.tree u leads hidden
    hidden-renamed false old new leads = hidden-moved s.tree u old new leads hidden

    -- by each call
    hidden-by : (call : Call) → LeadsBy s call u → IsHidden u d
    hidden-by (Stat p) l = hidden-same s.tree u l hidden
    hidden-by (Readlink p) l = hidden-same s.tree u l hidden
    hidden-by (Chmod p mode) l = hidden-same s.tree u l hidden
    hidden-by (Chown p uid gid) l = hidden-same s.tree u l hidden
    hidden-by (SetAttribute p n v) l = hidden-same s.tree u l hidden
    hidden-by (GetAttribute p n) l = hidden-same s.tree u l hidden
    hidden-by (DeleteAttribute p n) l = hidden-same s.tree u l hidden
    hidden-by (ListAttributes p) l = hidden-same s.tree u l hidden
    hidden-by (Mkdir p mode) l = hidden-made p l
    hidden-by (Symlink target p) l = hidden-made p l
    hidden-by (Open p f mode) l = hidden-opened (node_at s.tree p) p l
    hidden-by (Unlink p) l = hidden-less s.tree u p l hidden
    hidden-by (Rmdir p) l = hidden-less s.tree u p l hidden
    hidden-by (Hardlink old new) l = hidden-also s.tree u new l.0 (λ e. hidden old (l.1 ∙ ap Some e)) l.2 hidden
    hidden-by (Rename old new) l = hidden-renamed (same_found (look s.tree old) (look s.tree new)) old new l
    hidden-by (Read fd n) l = hidden-same s.tree u l hidden
    hidden-by (Write fd bytes) l = hidden-same s.tree u l hidden
    hidden-by (Seek fd offset whence) l = hidden-same s.tree u l hidden
    hidden-by (Truncate fd size) l = hidden-same s.tree u l hidden
    hidden-by (Fstat fd) l = hidden-same s.tree u l hidden
    hidden-by (ListNames fd n) l = hidden-same s.tree u l hidden
    hidden-by (Close fd) l = hidden-same s.tree u l hidden
    hidden-by (Arm slot p mask) l = hidden-same s.tree u l hidden
    hidden-by (Disarm number) l = hidden-same s.tree u l hidden
    hidden-by (TakeNotices n) l = hidden-same s.tree u l hidden

-- what is nowhere stays nowhere
pub law_of_nowhere : LawOfNowhere
law_of_nowhere U V lowers s c call k d at old =
    (hidden-by d s (tree_after s c call) not_new at.0 call leads, bare-after d s c not_new at.1 at.0 call)
  where
    not_new : d ≢ New s.serial
    not_new e = let h = old s.serial e in absurd (omega arith)

    leads : LeadsBy s call (tree_after s c call)
    leads = law_of_paths s c call k.before.kept (law_of_one_path U lowers s k.before).directories k.allowed

-- what loses its only name is nowhere
pub law_of_lost : LawOfLost
law_of_lost U V lowers s c call k d lost one count hidden = (hidden, bare call lost one)
  where
    dropped_bare : (p : Path) → node_at s.tree p ≡ Some d → count_of (dropped s.tables s.tree p d) ≡ 0
    dropped_bare p at = bare-dropped d s.tables s.tree p (bare-last d s.tree (node_at s.tree p) at count)

    renamed_bare :
        (b : Bool) (old new : Path) → cond b None (node_at s.tree new) ≡ Some d →
        count_of (cond b s.tree (settled s.tables (renamed s.options s.tree old new) (node_at s.tree new)) d) ≡ 0
    renamed_bare true old new at = cc
    renamed_bare false old new at =
        bare-renamed d s.options s.tables s.tree old new (bare-last d s.tree (node_at s.tree new) at count)

    bare : (call : Call) → loses s c call ≡ Some d → names_lost call ≡ 1 → count_of (tree_after s c call d) ≡ 0
    bare (Unlink p) at one = dropped_bare p at
    bare (Rmdir p) at one = dropped_bare p at
    bare (Rename old new) at one = renamed_bare (same_found (look s.tree old) (look s.tree new)) old new at
    bare (Close fd) at one = absurd (omega arith)
    bare (Stat p) at one = cc
    bare (Readlink p) at one = cc
    bare (Chmod p mode) at one = cc
    bare (Chown p uid gid) at one = cc
    bare (SetAttribute p n v) at one = cc
    bare (GetAttribute p n) at one = cc
    bare (DeleteAttribute p n) at one = cc
    bare (ListAttributes p) at one = cc
    bare (Mkdir p mode) at one = cc
    bare (Symlink target p) at one = cc
    bare (Open p f mode) at one = cc
    bare (Hardlink old new) at one = cc
    bare (Read fd n) at one = cc
    bare (Write fd bytes) at one = cc
    bare (Seek fd offset whence) at one = cc
    bare (Truncate fd size) at one = cc
    bare (Fstat fd) at one = cc
    bare (ListNames fd n) at one = cc
    bare (Arm slot p mask) at one = cc
    bare (Disarm number) at one = cc
    bare (TakeNotices n) at one = cc
