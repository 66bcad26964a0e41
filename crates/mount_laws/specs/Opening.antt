-- What an open of any flags does on the merge of layers, told by what the layers show (POSIX.1-2017, open(), as Linux's namei.c asks for
-- its errors; overlayfs.rst, "Non-standard behavior": who reads a file of a lower layer keeps what was there as it was opened).
use Rattle.std.specs.Prelude.{◌≡◌, ℕ, suc, true, false, not, ◌&&◌, ◌||◌, List, ◌∷◌, Option, None, Some, is_none, is_some}
use Rattle.ov_base.specs.declared.bytes.Content.TheVariants as content
use Rattle.ov_base.specs.declared.call.CallOf.TheVariants as call
use Rattle.ov_base.specs.declared.call.OpenFlags.{OpenFlags}
use Rattle.ov_base.specs.declared.errno.Errno.{Errno}
use Rattle.ov_base.specs.declared.errno.Errno.TheVariants as errno
use Rattle.ov_base.specs.declared.node_id.NodeId.{NodeId}
use Rattle.ov_base.specs.declared.node_id.NodeId.TheVariants.{New}
use Rattle.ov_base.specs.declared.reply.Reply.TheVariants as reply
use Rattle.plain_model.specs.Layers.{Name, Path, Inode, Layer, Shown, Contents, shows, is_directory}
use Rattle.plain_model.specs.Tree.{origin_in, node_at, is_folder}
use Rattle.plain_model.specs.Machine.{View, Live, Handle, State, lowest_free}
use Rattle.plain_model.specs.Refusals.{when, bad_flags, bad_mode, refusal}
use Rattle.plain_model.specs.Changes.{change, opened, way_of, new_handle, view_by, view_of, with_handle, after}
use Rattle.plain_model.specs.Replies.{reply_of}
use Rattle.mount_laws.specs.Looks.{or_else, parents_fault, shows_link, IsMountOf}

-- Why what a path shows isn't opened: nothing is there to open, or something where a new file is asked for; a symbolic link; no directory
-- where one is asked for; a directory, to be written or made.
abbrev pub shown_fault : OpenFlags → Option Shown → Option Errno
shown_fault f s =
    or_else (when (is_none s && not f.create) errno.ENOENT)
    (or_else (when (is_some s && f.create && f.exclusive) errno.EEXIST)
    (or_else (when (shows_link s) errno.ELOOP)
    (or_else (when (is_some s && f.directory && not (is_directory s)) errno.ENOTDIR)
    (when (is_directory s && (f.writes || f.create)) errno.EISDIR))))

-- why an open is refused: the flags, the mode, the parents, what is shown, and last the client's table, free being its lowest free
-- descriptor
abbrev pub opening_fault : List Layer → Path → OpenFlags → ℕ → Option ℕ → Option Errno
opening_fault Ls p f mode free =
    or_else (when (bad_flags f) errno.EINVAL)
    (or_else (bad_mode mode)
    (or_else (parents_fault Ls p)
    (or_else (shown_fault f (shows 0 Ls p))
    (when (is_none free) errno.EMFILE))))

abbrev pub LawOfOpenRefusal : Type 0
LawOfOpenRefusal =
    (U : Layer) (lowers : List Layer) (s : State) → IsMountOf U lowers s → (c : ℕ) (p : Path) (f : OpenFlags) (mode : ℕ) →
    refusal s c (call.Open p f mode) ≡ opening_fault (U ∷ lowers) p f mode (lowest_free s.tables c)

-- what a handle for reading alone sees of an inode of the layer j: a file of a lower layer as it is now, a marked one of the upper with the
-- bytes that it has now, all else as it comes to be
abbrev pub inode_view : ℕ → Option Inode → View
inode_view j (Some i) = elim i.content [ content.File bytes ↦ view_by (origin_in j i) bytes i.attributes | content.SymbolicLink target ↦ Live ]
inode_view j None = Live

abbrev pub shown_view : Option Shown → View
shown_view (Some (Contents j k inode)) = inode_view j inode
shown_view _ = Live

-- An open for reading of what is shown gives the lowest free descriptor, which leads to a new handle on its node; all else stays. What
-- the handle sees is told by the layers.
pub record OpensReading (Ls : List Layer) (s : State) (c : ℕ) (p : Path) (f : OpenFlags) (mode : ℕ) : Type 0 where
  pub node : NodeId
  pub at : node_at s.tree p ≡ Some node
  pub descriptor : ℕ
  pub free : lowest_free s.tables c ≡ Some descriptor
  pub answer : reply_of s c (call.Open p f mode) ≡ reply.Descriptor descriptor
  pub state :
      after s c (call.Open p f mode) ≡ record s {
        tables = with_handle s.tables c descriptor (Some (new_handle f node (way_of s.tree p) (s.tree node)));
      }
  pub view : view_of f (s.tree node) ≡ shown_view (shows 0 Ls p)
  pub folder : is_folder (s.tree node) ≡ is_directory (shows 0 Ls p)

abbrev pub LawOfOpenedForReading : Type 0
LawOfOpenedForReading =
    (U : Layer) (lowers : List Layer) (s : State) → IsMountOf U lowers s → (c : ℕ) (p : Path) (f : OpenFlags) (mode : ℕ) →
    opening_fault (U ∷ lowers) p f mode (lowest_free s.tables c) ≡ None → is_some (shows 0 (U ∷ lowers) p) ≡ true → f.writes ≡ false →
    OpensReading (U ∷ lowers) s c p f mode

-- a new handle that sees its node as it comes to be
abbrev pub live_handle : OpenFlags → NodeId → Option (NodeId × Name) → Handle
live_handle f d way = record {
  node = d;
  reads = f.reads;
  writes = f.writes;
  append = f.append;
  place = 0;
  way = way;
  view = Live;
  listed = None;
}

-- An open for writing of what is shown gives the lowest free descriptor, which leads to a new handle on its node, a file. Write access
-- makes the file the upper's own, and TRUNC empties it; all else stays.
pub record OpensWriting (s : State) (c : ℕ) (p : Path) (f : OpenFlags) (mode : ℕ) : Type 0 where
  pub node : NodeId
  pub at : node_at s.tree p ≡ Some node
  pub descriptor : ℕ
  pub free : lowest_free s.tables c ≡ Some descriptor
  pub answer : reply_of s c (call.Open p f mode) ≡ reply.Descriptor descriptor
  pub state :
      after s c (call.Open p f mode) ≡ record s {
        tree = change (opened f) s.tree (Some node);
        tables = with_handle s.tables c descriptor (Some (live_handle f node (way_of s.tree p)));
      }
  pub folder : is_folder (s.tree node) ≡ false

abbrev pub LawOfOpenedForWriting : Type 0
LawOfOpenedForWriting =
    (U : Layer) (lowers : List Layer) (s : State) → IsMountOf U lowers s → (c : ℕ) (p : Path) (f : OpenFlags) (mode : ℕ) →
    opening_fault (U ∷ lowers) p f mode (lowest_free s.tables c) ≡ None → is_some (shows 0 (U ∷ lowers) p) ≡ true → f.writes ≡ true →
    OpensWriting s c p f mode

-- An open where nothing is shown gives the lowest free descriptor, which leads to a new handle on the node of the next serial. What
-- becomes of the tree is told apart (`MakesFile`); all else stays.
pub record OpensMaking (s : State) (c : ℕ) (p : Path) (f : OpenFlags) (mode : ℕ) : Type 0 where
  pub absent : node_at s.tree p ≡ None
  pub descriptor : ℕ
  pub free : lowest_free s.tables c ≡ Some descriptor
  pub answer : reply_of s c (call.Open p f mode) ≡ reply.Descriptor descriptor
  pub state :
      after s c (call.Open p f mode) ≡ record s {
        tree = (after s c (call.Open p f mode)).tree;
        serial = suc s.serial;
        tables = with_handle s.tables c descriptor (Some (live_handle f (New s.serial) (way_of s.tree p)));
      }

abbrev pub LawOfOpenedMaking : Type 0
LawOfOpenedMaking =
    (U : Layer) (lowers : List Layer) (s : State) → IsMountOf U lowers s → (c : ℕ) (p : Path) (f : OpenFlags) (mode : ℕ) →
    opening_fault (U ∷ lowers) p f mode (lowest_free s.tables c) ≡ None → shows 0 (U ∷ lowers) p ≡ None → OpensMaking s c p f mode
