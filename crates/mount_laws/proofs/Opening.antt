-- An open of any flags on the merge of layers, as the layers tell it.
use Rattle.std.proofs.Common.{◌≡◌, ℕ, zero, suc, Bool, true, false, not, cond, ◌&&◌, ◌||◌, List, [], ◌∷◌, Option, None, Some, refl, sym, ap, ◌∙◌, is_some, is_none}
use Rattle.std.specs.Option.{unwrap_or}
use Rattle.std.proofs.lemmas.Bool.{false≢true}
use Rattle.ov_base.specs.declared.bytes.Content.{Content}
use Rattle.ov_base.specs.declared.bytes.Content.TheVariants.{File, SymbolicLink}
use Rattle.ov_base.specs.declared.call.CallOf.TheVariants.{Open}
use Rattle.ov_base.specs.declared.call.OpenFlags.{OpenFlags}
use Rattle.ov_base.specs.declared.errno.Errno.{Errno}
use Rattle.ov_base.specs.declared.errno.Errno.TheVariants.{ENOENT, EEXIST, ENOTDIR, EISDIR, EINVAL, EMFILE, ELOOP}
use Rattle.ov_base.specs.declared.node_id.NodeId.{NodeId}
use Rattle.ov_base.specs.declared.reply.Reply.TheVariants as reply
use Rattle.plain_model.specs.Layers.{Path, Layer, Shown, Folder, Contents, shows, is_directory}
use Rattle.plain_model.specs.Tree.{Node, Branch, Leaf, Own, Untouched, Tree, node_at, node_of, face, Sight, SeenLeaf, see, is_folder}
use Rattle.plain_model.specs.Machine.{View, Live, Handle, Table, State, Look, look, is_found, is_link, lowest_free, DESCRIPTORS_MAX}
use Rattle.plain_model.specs.Refusals.{◌or_else◌, when, walked, bad_flags, bad_mode, refusal}
use Rattle.plain_model.specs.Changes.{change, opened, over_node, fresh, made_way, opens, way_of, new_handle, view_of, view_by, with_bytes, touched, with_handle, next_if}
use Rattle.plain_model.proofs.Looking.{when-not, refusal-writable}
use Rattle.mount_laws.specs.Looks.{or_else as first, parents_fault, shows_link, IsMountOf}
use Rattle.mount_laws.specs.Opening.{shown_fault, opening_fault, LawOfOpenRefusal, inode_view, shown_view, live_handle, OpensReading, LawOfOpenedForReading, OpensWriting, LawOfOpenedForWriting, OpensMaking, LawOfOpenedMaking}
use Rattle.mount_laws.proofs.Looks.{none-of, chain-two, at-some, to-parents, finds}
use Rattle.mount_laws.proofs.Opens.{put-same, folder-at, link-at}
use Rattle.mount_laws.proofs.Links.{first-none, second-none}

-- the machine's refusals of an open, with those for what is shown put together
chain :
    (a b w d e g h i j : Option Errno) →
    ((a or_else b or_else w or_else d or_else e or_else g or_else h or_else i or_else j) or_else None) ≡
    first a (first b (first w (first (first d (first e (first g (first h i)))) j)))
chain (Some a) b w d e g h i j = refl
chain None (Some b) w d e g h i j = refl
chain None None (Some w) d e g h i j = refl
chain None None None (Some d) e g h i j = refl
chain None None None None (Some e) g h i j = refl
chain None None None None None (Some g) h i j = refl
chain None None None None None None (Some h) i j = refl
chain None None None None None None None i j = chain-two i j

-- what is not there is none
not-some : (s : Option Shown) → not (is_some s) ≡ is_none s
not-some None = refl
not-some (Some x) = refl

-- the refusals for what is there, by whether nothing is, something, a symbolic link, and a directory
abbrev fault_by : OpenFlags → Bool → Bool → Bool → Bool → Option Errno
fault_by f none some link folder =
    first (when (none && not f.create) ENOENT)
    (first (when (some && f.create && f.exclusive) EEXIST)
    (first (when link ELOOP)
    (first (when (some && f.directory && not folder) ENOTDIR)
    (when (folder && (f.writes || f.create)) EISDIR))))

module _ (U : Layer) (lowers : List Layer) (s : State) (m : IsMountOf U lowers s) (p : Path) (f : OpenFlags) where
  abbrev l : Look
  l = look s.tree p

  abbrev o : Option Node
  o = node_of s.tree (node_at s.tree p)

  -- the walk finds nothing where nothing is shown
  absent : not (is_found l) ≡ is_none (shows 0 (U ∷ lowers) p)
  absent = ap not (finds U lowers s m p) ∙ not-some (shows 0 (U ∷ lowers) p)

  -- the refusals for what is there are told by what is shown
  no-shown : fault_by f (not (is_found l)) (is_found l) (is_link o) (is_folder o) ≡ shown_fault f (shows 0 (U ∷ lowers) p)
  no-shown = λ i. fault_by f (absent i) (finds U lowers s m p i) (link-at U lowers s m p i) (folder-at U lowers s m p i)

  -- the refusals of an open are told by the layers
  refused : (c mode : ℕ) → refusal s c (Open p f mode) ≡ opening_fault (U ∷ lowers) p f mode (lowest_free s.tables c)
  refused c mode =
      refusal-writable s c (Open p f mode) m.writable
      ∙ chain
      (when (bad_flags f) EINVAL)
      (bad_mode mode)
      (walked l)
      (when (not (is_found l) && not f.create) ENOENT)
      (when (is_found l && f.create && f.exclusive) EEXIST)
      (when (is_link o) ELOOP)
      (when (is_found l && f.directory && not (is_folder o)) ENOTDIR)
      (when (is_folder o && (f.writes || f.create)) EISDIR)
      (when (is_none (lowest_free s.tables c)) EMFILE)
      ∙ (λ i.
      first (when (bad_flags f) EINVAL)
      (first (bad_mode mode)
      (first (to-parents U lowers s m p i)
      (first (no-shown i)
      (when (is_none (lowest_free s.tables c)) EMFILE)))))

-- the refusals of an open are told by the layers
pub law_of_open_refusal : LawOfOpenRefusal
law_of_open_refusal U lowers s m c p f mode = refused U lowers s m p f c mode

-- an open for reading leaves the node as it is
unchanged : (f : OpenFlags) → f.writes ≡ false → (o : Option Node) → over_node (opened f) o ≡ o
unchanged f h None = refl
unchanged f h (Some x) = ap (λ b. Some (cond b (cond f.truncate (with_bytes [] (touched x)) (touched x)) x)) h

-- a handle that writes sees its node as it comes to be
live : (f : OpenFlags) → f.writes ≡ true → (o : Option Node) → view_of f o ≡ Live
live f h None = refl
live f h (Some (Branch a b names c)) = refl
live f h (Some (Leaf (File bytes) a u l)) = ap (λ b. cond b Live (view_by u bytes a)) h
live f h (Some (Leaf (SymbolicLink target) a u l)) = refl

-- what a handle for reading sees, by what is seen of its node
abbrev seen_view : Option Sight → View
seen_view (Some (SeenLeaf (File bytes) a u l)) = view_by u bytes a
seen_view _ = Live

-- a handle for reading sees what is seen of its node
face-view : (f : OpenFlags) → f.writes ≡ false → (o : Option Node) → view_of f o ≡ seen_view (face o)
face-view f h None = refl
face-view f h (Some (Branch a b names c)) = refl
face-view f h (Some (Leaf (File bytes) a u l)) = ap (λ b. cond b Live (view_by u bytes a)) h
face-view f h (Some (Leaf (SymbolicLink target) a u l)) = refl

-- what is seen of what is shown
see-view : (b : Bool) (s : Option Shown) → seen_view (see b s) ≡ shown_view s
see-view b None = refl
see-view b (Some (Folder j k a)) = refl
see-view b (Some (Contents zero k None)) = refl
see-view b (Some (Contents (suc j) k None)) = refl
see-view b (Some (Contents zero k (Some inode))) = by inode.content inode.mark
  where
    by :
        (x : Content) (mark : Option Path) →
        seen_view (Some (SeenLeaf x inode.attributes (Own (is_some mark)) inode.links)) ≡
        inode_view zero (Some (record inode { content = x; mark = mark }))
    by (File bytes) None = refl
    by (File bytes) (Some q) = refl
    by (SymbolicLink target) mark = refl
see-view b (Some (Contents (suc j) k (Some inode))) = by inode.content
  where
    by :
        (x : Content) →
        seen_view (Some (SeenLeaf x inode.attributes (Untouched inode.links) inode.links)) ≡
        inode_view (suc j) (Some (record inode { content = x }))
    by (File bytes) = refl
    by (SymbolicLink target) = refl

-- what is opened is no directory that is to be written or made
last-shown : (f : OpenFlags) (s : Option Shown) → shown_fault f s ≡ None → is_directory s && (f.writes || f.create) ≡ false
last-shown f s h =
    when-not (is_directory s && (f.writes || f.create)) EISDIR
    (second-none (when (is_some s && f.directory && not (is_directory s)) ENOTDIR) _
    (second-none (when (shows_link s) ELOOP) _
    (second-none (when (is_some s && f.create && f.exclusive) EEXIST) _
    (second-none (when (is_none s && not f.create) ENOENT) _ h))))

module _ (Ls : List Layer) (p : Path) (f : OpenFlags) (mode : ℕ) (free : Option ℕ) (fine : opening_fault Ls p f mode free ≡ None) where
  -- what is shown is no fault, nor is the table
  last-two : first (shown_fault f (shows 0 Ls p)) (when (is_none free) EMFILE) ≡ None
  last-two = second-none (parents_fault Ls p) _ (second-none (bad_mode mode) _ (second-none (when (bad_flags f) EINVAL) _ fine))

  -- a descriptor is free
  is-free : (fd : ℕ) × (free ≡ Some fd)
  is-free = by free (when-not (is_none free) EMFILE (second-none (shown_fault f (shows 0 Ls p)) _ last-two))
    where
      by : (o : Option ℕ) → is_none o ≡ false → (fd : ℕ) × (o ≡ Some fd)
      by None h = absurd (false≢true (sym h))
      by (Some fd) h = (fd, refl)

  -- no directory is opened to be written
  no-folder : f.writes ≡ true → is_directory (shows 0 Ls p) ≡ false
  no-folder w =
      by (is_directory (shows 0 Ls p)) (
      ap (λ b. is_directory (shows 0 Ls p) && (b || f.create)) (sym w)
      ∙ last-shown f (shows 0 Ls p) (first-none (shown_fault f (shows 0 Ls p)) _ last-two)
      )
    where
      by : (b : Bool) → b && (true || f.create) ≡ false → b ≡ false
      by true h = h
      by false h = h

-- what a path leads to where something is shown
node-there : (o : Option NodeId) → is_some o ≡ true → (d : NodeId) × (o ≡ Some d)
node-there None h = absurd (false≢true h)
node-there (Some d) h = (d, refl)

module _
    (U : Layer) (lowers : List Layer) (s : State) (m : IsMountOf U lowers s) (c : ℕ) (p : Path) (f : OpenFlags) (mode : ℕ)
    (fine : opening_fault (U ∷ lowers) p f mode (lowest_free s.tables c) ≡ None)
  where
    abbrev new : Node
    new = Leaf (File []) (fresh mode) (Own false) 1

    -- the tree after an open of what the path leads to
    abbrev tree_by : Option NodeId → Tree
    tree_by o = cond (is_none o) (made_way s.tree s.serial (way_of s.tree p) new) (change (opened f) s.tree o)

    -- the descriptors after an open that leads to a handle
    abbrev tables_by : Option ℕ → Handle → List Table
    tables_by o h = with_handle s.tables c (unwrap_or o DESCRIPTORS_MAX) (Some h)

    abbrev handle_by : Option NodeId → Handle
    handle_by o = new_handle f (opens o s.serial) (way_of s.tree p) (node_of s.tree o)

    -- a descriptor is free
    free : (fd : ℕ) × (lowest_free s.tables c ≡ Some fd)
    free = is-free (U ∷ lowers) p f mode (lowest_free s.tables c) fine

    -- the answer is the free descriptor
    answer : reply.Descriptor (unwrap_or (lowest_free s.tables c) DESCRIPTORS_MAX) ≡ reply.Descriptor free.0
    answer = ap (λ o. reply.Descriptor (unwrap_or o DESCRIPTORS_MAX)) free.1

    -- the node of what is shown is a directory where one is shown
    folder : (d : NodeId) → node_at s.tree p ≡ Some d → is_folder (s.tree d) ≡ is_directory (shows 0 (U ∷ lowers) p)
    folder d at = ap (λ o. is_folder (node_of s.tree o)) (sym at) ∙ folder-at U lowers s m p

    -- an open for reading, for writing, and of nothing that is shown
    reading : is_some (shows 0 (U ∷ lowers) p) ≡ true → f.writes ≡ false → OpensReading (U ∷ lowers) s c p f mode
    reading h w =
        let n = node-there (node_at s.tree p) (at-some U lowers s m p ∙ h) in
        let kept : tree_by (node_at s.tree p) ≡ s.tree = ap tree_by n.1 ∙ (λ i x. put-same s.tree n.0 _ (unchanged f w (s.tree n.0)) x i) in
        record {
          node = n.0;
          at = n.1;
          descriptor = free.0;
          free = free.1;
          answer = answer;
          state = λ i. record s {
            tree = kept i;
            serial = next_if (is_none (n.1 i)) s.serial;
            tables = tables_by (free.1 i) (handle_by (n.1 i));
          };
          view =
              face-view f w (s.tree n.0)
              ∙ ap (λ o. seen_view (face (node_of s.tree o))) (sym n.1)
              ∙ ap seen_view (m.shows.sights p)
              ∙ see-view _ (shows 0 (U ∷ lowers) p);
          folder = folder n.0 n.1;
        }

    writing : is_some (shows 0 (U ∷ lowers) p) ≡ true → f.writes ≡ true → OpensWriting s c p f mode
    writing h w =
        let n = node-there (node_at s.tree p) (at-some U lowers s m p ∙ h) in
        let made : handle_by (node_at s.tree p) ≡ live_handle f n.0 (way_of s.tree p) =
        ap handle_by n.1 ∙ (λ i. record (handle_by (Some n.0)) { view = live f w (s.tree n.0) i }) in
        record {
          node = n.0;
          at = n.1;
          descriptor = free.0;
          free = free.1;
          answer = answer;
          state = λ i. record s {
            tree = tree_by (n.1 i);
            serial = next_if (is_none (n.1 i)) s.serial;
            tables = tables_by (free.1 i) (made i);
          };
          folder = folder n.0 n.1 ∙ no-folder (U ∷ lowers) p f mode (lowest_free s.tables c) fine w;
        }

    making : shows 0 (U ∷ lowers) p ≡ None → OpensMaking s c p f mode
    making h =
        let absent : node_at s.tree p ≡ None = none-of (node_at s.tree p) (at-some U lowers s m p ∙ ap is_some h) in
        record {
          absent = absent;
          descriptor = free.0;
          free = free.1;
          answer = answer;
          state = λ i. record s {
            tree = tree_by (node_at s.tree p);
            serial = next_if (is_none (absent i)) s.serial;
            tables = tables_by (free.1 i) (handle_by (absent i));
          };
        }

-- an open for reading of what is shown is told by the layers
pub law_of_opened_for_reading : LawOfOpenedForReading
law_of_opened_for_reading U lowers s m c p f mode fine h w = reading U lowers s m c p f mode fine h w

-- an open for writing of what is shown is told by the layers
pub law_of_opened_for_writing : LawOfOpenedForWriting
law_of_opened_for_writing U lowers s m c p f mode fine h w = writing U lowers s m c p f mode fine h w

-- an open where nothing is shown is told by the layers
pub law_of_opened_making : LawOfOpenedMaking
law_of_opened_making U lowers s m c p f mode fine h = making U lowers s m c p f mode fine h
