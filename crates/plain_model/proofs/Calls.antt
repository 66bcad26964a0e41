-- Each call that is not refused leaves a node exactly while it has a name or an open handle.
use Rattle.std.proofs.Common.{◌≡◌, ℕ, ◌+◌, ℤ, Bool, true, false, not, cond, ◌&&◌, ◌||◌, List, [], ◌∷◌, Option, None, Some, refl, sym, ap, subst, ◌∙◌, inl, inr, is_none, is_some, nat_eq, length}
use Rattle.std.specs.List.{IsDistinct}
use Rattle.std.specs.Option.{unwrap_or}
use Rattle.std.specs.FinMap as fin
use Rattle.std.proofs.lemmas.Bool.{cases_Bool, false≢true}
use Rattle.ov_base.specs.declared.bytes.Content.TheVariants.{File, SymbolicLink}
use Rattle.ov_base.specs.Calls.{Call}
use Rattle.ov_base.specs.declared.call.CallOf.TheVariants.{Stat, Readlink, Chmod, Chown, SetAttribute, GetAttribute, DeleteAttribute, ListAttributes, Mkdir, Symlink, Open, Unlink, Rmdir, Hardlink, Rename, Read, Write, Seek, Truncate, Fstat, ListNames, Close, Arm, Disarm, TakeNotices}
use Rattle.ov_base.specs.declared.call.OpenFlags.{OpenFlags}
use Rattle.ov_base.specs.declared.errno.Errno.TheVariants.{ENOENT, EEXIST, EISDIR, ENOTDIR, EINVAL, ELOOP, EMFILE}
use Rattle.ov_base.specs.declared.node_id.NodeId.{NodeId}
use Rattle.ov_base.specs.declared.node_id.NodeId.TheVariants.{New}
use Rattle.plain_model.specs.Layers.{Name, Path}
use Rattle.plain_model.specs.Tree.{same_id, Node, Branch, Leaf, Own, Tree, node_at, node_of, is_folder, count_of, IsKept}
use Rattle.plain_model.specs.Machine.{Handle, State, DESCRIPTORS_MAX, Look, look, is_found, same_found, is_link, bytes_of_node, handle_of, handle_node, lowest_free, place_of, write_place}
use Rattle.plain_model.specs.Refusals.{refusal, open_refusal, walked, when, bad_mode, bad_flags}
use Rattle.plain_model.specs.Changes.{change, on_way, way_of, holds, is_held, with_attributes, with_mode, with_owner, set_value, drop_value, sized, written, fitting, node_of_handle, with_handle, wrote, opened, fresh, settled, made_way, new_handle, opens, re_ways, read_bytes, renamed, sought, moved_to, rewound, listed_on, tree_after, tables_after}
use Rattle.plain_model.specs.Settling.{clients_of}
use Rattle.plain_model.proofs.Paths.{ids_tell}
use Rattle.plain_model.proofs.Keeping.{Like, IsMild, change-like}
use Rattle.plain_model.proofs.Kept.{at-path, by-path, bytes-mild, attributes-mild, opened-mild, open-reached}
use Rattle.plain_model.proofs.Looking.{or-second, when-not}
use Rattle.plain_model.proofs.Held.{with-held, ways-held, held-by, lowest-none}
use Rattle.plain_model.proofs.Lasting.{Lasts, AllLast, some-named, named-lasts, as-named-lasts, by-counts, settled-last, mild-lasts, dropped-lasts, renamed-lasts, linked-lasts, made-lasts}

-- a handle stays on its node as its place and its listing change
moved-holds : (x : NodeId) (at : ℕ) (h : Option Handle) → holds x (moved_to at h) ≡ holds x h
moved-holds x at None = refl
moved-holds x at (Some h) = refl

rewound-holds : (x : NodeId) (b : Bool) (h : Option Handle) → holds x (rewound b h) ≡ holds x h
rewound-holds x b None = refl
rewound-holds x true (Some h) = refl
rewound-holds x false (Some h) = refl

listed-holds : (x : NodeId) (t : Tree) (n : ℕ) (h : Option Handle) → holds x (listed_on t n h) ≡ holds x h
listed-holds x t n None = refl
listed-holds x t n (Some h) = refl

-- an open that is not refused has a free descriptor
free-descriptor : (f : OpenFlags) (mode : ℕ) (l : Look) (o : Option Node) (free : Option ℕ) → open_refusal f mode l o free ≡ None → is_none free ≡ false
free-descriptor f mode l o free r =
    when-not (is_none free) EMFILE
    (or-second (when (is_folder o && (f.writes || f.create)) EISDIR) _
    (or-second (when (is_found l && f.directory && not (is_folder o)) ENOTDIR) _
    (or-second (when (is_link o) ELOOP) _
    (or-second (when (is_found l && f.create && f.exclusive) EEXIST) _
    (or-second (when (not (is_found l) && not f.create) ENOENT) _
    (or-second (walked l) _ (or-second (bad_mode mode) _ (or-second (when (bad_flags f) EINVAL) _ r))))))))

-- so has one by the client's table
open-free : (s : State) (c : ℕ) (p : Path) (f : OpenFlags) (mode : ℕ) → refusal s c (Open p f mode) ≡ None → is_none (lowest_free s.tables c) ≡ false
open-free s c p f mode r = free-descriptor f mode (look s.tree p) (node_of s.tree (node_at s.tree p)) (lowest_free s.tables c) (by-path s c (Open p f mode) r)

-- an open that makes its file has a way in
open-way : (s : State) (c : ℕ) (p : Path) (f : OpenFlags) (mode : ℕ) → refusal s c (Open p f mode) ≡ None → node_at s.tree p ≡ None → (w : NodeId × Name) × (way_of s.tree p ≡ Some w)
open-way s c [] f mode r free = absurd (false≢true (ap is_none free))
open-way s c (n ∷ q) f mode r free =
    let z = open-reached s c n q f mode r (ap is_none free) in
    ((z.dir, n), ap (λ o. on_way o n) z.at)

module _ (s : State) (c : ℕ) (k : IsKept s.tree s.serial) (apart : IsDistinct nat_eq (clients_of s.tables)) (l : AllLast s.tree s.tables) where
  -- a descriptor whose handle stays on its node
  stays : (fd : ℕ) (h : Option Handle) → ((x : NodeId) → holds x h ≡ holds x (handle_of s.tables c fd)) → (x : NodeId) → is_held (with_handle s.tables c fd h) x ≡ is_held s.tables x
  stays fd h e x = with-held s.tables c fd h x apart (e x)

  -- so no node comes or goes
  handle-lasts : (fd : ℕ) (h : Option Handle) → ((x : NodeId) → holds x h ≡ holds x (handle_of s.tables c fd)) → AllLast s.tree (with_handle s.tables c fd h)
  handle-lasts fd h e d = subst (Lasts (s.tree d)) (sym (stays fd h e d)) (l d)

  -- a new object
  make-lasts : (w : Option (NodeId × Name)) (x : Node) → count_of (Some x) ≡ 1 → AllLast (made_way s.tree s.serial w x) s.tables
  make-lasts None x one = l
  make-lasts (Some w) x one = made-lasts s.tables s.tables s.tree s.serial w x one (λ d f. refl) l

  -- a descriptor closes
  close-lasts : (fd : ℕ) → AllLast (tree_after s c (Close fd)) (tables_after s c (Close fd))
  close-lasts fd = settled-last (with_handle s.tables c fd None) s.tree (node_of_handle (handle_of s.tables c fd)) there other
    where
      as-before : (d : NodeId) → holds d (handle_of s.tables c fd) ≡ false → is_held (with_handle s.tables c fd None) d ≡ is_held s.tables d
      as-before d f = with-held s.tables c fd None d apart (sym f)

      there : (d : NodeId) → is_held (with_handle s.tables c fd None) d ≡ true → is_some (s.tree d) ≡ true
      there d h = elim (cases_Bool (holds d (handle_of s.tables c fd))) [
        | inl y ↦ (l d).there (held-by s.tables c fd d y)
        | inr f ↦ (l d).there (sym (as-before d f) ∙ h)
      ]

      apart-from : (d : NodeId) (h : Option Handle) → (node_of_handle h ≡ Some d → ⊥) → holds d h ≡ false
      apart-from d None other = refl
      apart-from d (Some h) other = elim (cases_Bool (same_id d h.node)) [
        | inl y ↦ absurd (other (ap Some (sym ((ids_tell d h.node).0 y))))
        | inr f ↦ f
      ]

      other : (d : NodeId) → (node_of_handle (handle_of s.tables c fd) ≡ Some d → ⊥) → Lasts (s.tree d) (is_held (with_handle s.tables c fd None) d)
      other d h = subst (Lasts (s.tree d)) (sym (as-before d (apart-from d (handle_of s.tables c fd) h))) (l d)

  -- a descriptor opens
  module _ (p : Path) (f : OpenFlags) (mode : ℕ) (r : refusal s c (Open p f mode) ≡ None) where
    abbrev lowest : ℕ
    lowest = unwrap_or (lowest_free s.tables c) DESCRIPTORS_MAX

    gets : (h : Handle) (d : NodeId) → same_id d h.node ≡ false → is_held (with_handle s.tables c lowest (Some h)) d ≡ is_held s.tables d
    gets h d f2 = with-held s.tables c lowest (Some h) d apart (f2 ∙ sym (ap (holds d) (lowest-none s.tables c (open-free s c p f mode r))))

    found-lasts : (e : NodeId) → node_at s.tree p ≡ Some e → (h : Handle) → h.node ≡ e → AllLast (change (opened f) s.tree (Some e)) (with_handle s.tables c lowest (Some h))
    found-lasts e at h on d = elim (cases_Bool (same_id d e)) [
      | inl y ↦
          let same : d ≡ e = (ids_tell d e).0 y in
          named-lasts (change (opened f) s.tree (Some e) d) (is_held (with_handle s.tables c lowest (Some h)) d)
          (some-named (change (opened f) s.tree (Some e) d) (λ z. at-path s.tree s.serial k p e at (ap (λ x. count_of (s.tree x)) (sym same) ∙ sym like.counts ∙ z)))
      | inr n ↦
          as-named-lasts (s.tree d) (change (opened f) s.tree (Some e) d) (is_held s.tables d) (is_held (with_handle s.tables c lowest (Some h)) d)
          (by-counts (s.tree d) (change (opened f) s.tree (Some e) d) like.stands like.counts) (gets h d (ap (same_id d) on ∙ n)) (l d)
    ]
      where
        like : Like (s.tree d) (change (opened f) s.tree (Some e) d)
        like = change-like (opened f) (opened-mild f) s.tree (Some e) d

    new-lasts : (w : NodeId × Name) (h : Handle) → h.node ≡ New s.serial → AllLast (made_way s.tree s.serial (Some w) (Leaf (File []) (fresh mode) (Own false) 1)) (with_handle s.tables c lowest (Some h))
    new-lasts w h on = made-lasts s.tables (with_handle s.tables c lowest (Some h)) s.tree s.serial w (Leaf (File []) (fresh mode) (Own false) 1) refl (λ d n. gets h d (ap (same_id d) on ∙ flip d n)) l
      where
        flip : (d : NodeId) → same_id (New s.serial) d ≡ false → same_id d (New s.serial) ≡ false
        flip d n = elim (cases_Bool (same_id d (New s.serial))) [
          | inl y ↦ absurd (false≢true (sym n ∙ (ids_tell (New s.serial) d).1 (sym ((ids_tell d (New s.serial)).0 y))))
          | inr f ↦ f
        ]

    open-lasts : AllLast (tree_after s c (Open p f mode)) (tables_after s c (Open p f mode))
    open-lasts = by (node_at s.tree p) refl
      where
        by : (o : Option NodeId) → node_at s.tree p ≡ o → AllLast (cond (is_none o) (made_way s.tree s.serial (way_of s.tree p) (Leaf (File []) (fresh mode) (Own false) 1)) (change (opened f) s.tree o)) (with_handle s.tables c lowest (Some (new_handle f (opens o s.serial) (way_of s.tree p) (node_of s.tree o))))
        by (Some e) at = found-lasts e at (new_handle f e (way_of s.tree p) (s.tree e)) refl
        by None at =
            let w = open-way s c p f mode r at in
            subst (λ z. AllLast (made_way s.tree s.serial z (Leaf (File []) (fresh mode) (Own false) 1)) (with_handle s.tables c lowest (Some (new_handle f (New s.serial) z None)))) (sym w.1)
            (new-lasts w.0 (new_handle f (New s.serial) (Some w.0) None) refl)

  -- a write of no bytes changes nothing; else the handle's place moves
  write-lasts : (fd : ℕ) (bytes : List ℕ) → AllLast (tree_after s c (Write fd bytes)) (tables_after s c (Write fd bytes))
  write-lasts fd bytes = by (nat_eq (length bytes) 0)
    where
      by : (b : Bool) → AllLast (cond b s.tree (change (wrote s.options.file_limit (write_place s.tree (handle_of s.tables c fd)) bytes) s.tree (node_of_handle (handle_of s.tables c fd)))) (cond b s.tables (with_handle s.tables c fd (moved_to (write_place s.tree (handle_of s.tables c fd) + length (fitting s.options.file_limit (write_place s.tree (handle_of s.tables c fd)) bytes)) (handle_of s.tables c fd))))
      by true = l
      by false =
          let at = write_place s.tree (handle_of s.tables c fd) in
          mild-lasts (wrote s.options.file_limit at bytes) (λ x. bytes-mild (written (bytes_of_node (Some x)) at (fitting s.options.file_limit at bytes)) x) s.tables
          (with_handle s.tables c fd (moved_to (at + length (fitting s.options.file_limit at bytes)) (handle_of s.tables c fd)))
          (stays fd (moved_to (at + length (fitting s.options.file_limit at bytes)) (handle_of s.tables c fd)) (λ x. moved-holds x (at + length (fitting s.options.file_limit at bytes)) (handle_of s.tables c fd)))
          s.tree (node_of_handle (handle_of s.tables c fd)) l

  -- a place moves
  seek-lasts : (fd : ℕ) (offset : ℤ) (whence : ℕ) → AllLast s.tree (tables_after s c (Seek fd offset whence))
  seek-lasts fd offset whence =
      let h = handle_of s.tables c fd in
      let at = sought s c fd offset whence in
      let b = is_folder (handle_node s.tree h) in
      handle-lasts fd (rewound b (moved_to at h)) (λ x. rewound-holds x b (moved_to at h) ∙ moved-holds x at h)

  read-lasts : (fd n : ℕ) → AllLast s.tree (tables_after s c (Read fd n))
  read-lasts fd n =
      let h = handle_of s.tables c fd in
      let at = place_of h + length (read_bytes s.tree h n) in
      handle-lasts fd (moved_to at h) (λ x. moved-holds x at h)

  -- a rename of an object onto itself changes nothing
  rename-lasts : (old new : Path) → AllLast (tree_after s c (Rename old new)) (tables_after s c (Rename old new))
  rename-lasts old new = by (same_found (look s.tree old) (look s.tree new))
    where
      by : (b : Bool) → AllLast (cond b s.tree (settled s.tables (renamed s.options s.tree old new) (node_at s.tree new))) (cond b s.tables (re_ways s.tables (node_at s.tree old) (way_of s.tree old) (way_of s.tree new)))
      by true = l
      by false = λ d.
          subst (Lasts (settled s.tables (renamed s.options s.tree old new) (node_at s.tree new) d)) (sym (ways-held s.tables (node_at s.tree old) (way_of s.tree old) (way_of s.tree new) d))
          (renamed-lasts s.options s.tables s.tree (node_at s.tree old) (node_at s.tree new) (way_of s.tree old) (way_of s.tree new) l d)

  -- a node's attributes or bytes change
  tree-lasts : (f : Node → Node) → IsMild f → (o : Option NodeId) → AllLast (change f s.tree o) s.tables
  tree-lasts f mild o = mild-lasts f mild s.tables s.tables (λ x. refl) s.tree o l

  -- each call that is not refused
  pub call-lasts : (call : Call) → refusal s c call ≡ None → AllLast (tree_after s c call) (tables_after s c call)
  call-lasts (Stat p) r = l
  call-lasts (Readlink p) r = l
  call-lasts (Chmod p mode) r = tree-lasts (with_attributes s.options (with_mode mode)) (attributes-mild s.options (with_mode mode)) (node_at s.tree p)
  call-lasts (Chown p uid gid) r = tree-lasts (with_attributes s.options (with_owner uid gid)) (attributes-mild s.options (with_owner uid gid)) (node_at s.tree p)
  call-lasts (SetAttribute p n v) r = tree-lasts _ (attributes-mild s.options (λ a. record a { user = set_value a.user n v })) (node_at s.tree p)
  call-lasts (GetAttribute p n) r = l
  call-lasts (DeleteAttribute p n) r = tree-lasts _ (attributes-mild s.options (λ a. record a { user = drop_value a.user n })) (node_at s.tree p)
  call-lasts (ListAttributes p) r = l
  call-lasts (Mkdir p mode) r = make-lasts (way_of s.tree p) (Branch (fresh mode) false fin.empty 1) refl
  call-lasts (Symlink target p) r = make-lasts (way_of s.tree p) (Leaf (SymbolicLink target) (fresh 0o777) (Own false) 1) refl
  call-lasts (Open p f mode) r = open-lasts p f mode r
  call-lasts (Unlink p) r = dropped-lasts s.tables s.tree (node_at s.tree p) (way_of s.tree p) l
  call-lasts (Rmdir p) r = dropped-lasts s.tables s.tree (node_at s.tree p) (way_of s.tree p) l
  call-lasts (Hardlink old new) r = linked-lasts s.options s.tables s.tree (node_at s.tree old) (way_of s.tree new) l
  call-lasts (Rename old new) r = rename-lasts old new
  call-lasts (Read fd n) r = read-lasts fd n
  call-lasts (Write fd bytes) r = write-lasts fd bytes
  call-lasts (Seek fd offset whence) r = seek-lasts fd offset whence
  call-lasts (Truncate fd size) r = tree-lasts _ (λ x. bytes-mild (sized (bytes_of_node (Some x)) size) x) (node_of_handle (handle_of s.tables c fd))
  call-lasts (Fstat fd) r = l
  call-lasts (ListNames fd n) r = handle-lasts fd (listed_on s.tree n (handle_of s.tables c fd)) (λ x. listed-holds x s.tree n (handle_of s.tables c fd))
  call-lasts (Close fd) r = close-lasts fd
  call-lasts (Arm slot p mask) r = l
  call-lasts (Disarm number) r = l
  call-lasts (TakeNotices n) r = l
