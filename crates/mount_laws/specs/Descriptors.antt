-- What calls by a descriptor do: on a file, on a directory, and where it is not open (POSIX.1-2017, read(), write(), lseek(), ftruncate(),
-- fstat() and close()).
use Rattle.std.specs.Prelude.{◌≡◌, ◌≢◌, ℕ, ◌+◌, ℤ, pos, ◌+ℤ◌, int_lt, nat_abs, false, true, not, cond, ◌&&◌, List, [], None, Some, nat_eq, nat_lt, length, take, drop}
use Rattle.ov_base.specs.declared.call.CallOf.TheVariants as call
use Rattle.ov_base.specs.declared.errno.Errno.TheVariants as errno
use Rattle.ov_base.specs.declared.reply.Reply.TheVariants as reply
use Rattle.plain_model.specs.Tree.{Node, is_folder}
use Rattle.plain_model.specs.Machine.{Live, Handle, State, bytes_of_node, bytes_seen, handle_of}
use Rattle.plain_model.specs.Refusals.{TRANSFER_MAX, PLACE_MAX, when, refusal}
use Rattle.plain_model.specs.Changes.{with_bytes, change, sized, fitting, wrote, settled, with_handle, after}
use Rattle.plain_model.specs.Replies.{stat_of, stat_seen, reply_of}
use Rattle.mount_laws.specs.Looks.{or_else}

-- a law of each open handle, and of those that are not on a directory
abbrev pub OnHandles : (State → ℕ → ℕ → Handle → Type 0) → Type 0
OnHandles P = (s : State) (c fd : ℕ) (h : Handle) → handle_of s.tables c fd ≡ Some h → P s c fd h

abbrev pub OnFiles : (State → ℕ → ℕ → Handle → Type 0) → Type 0
OnFiles P = OnHandles (λ s c fd h. is_folder (s.tree h.node) ≡ false → P s c fd h)

-- the bytes that a handle sees, and of these the next n
abbrev pub seen : State → Handle → List ℕ
seen s h = bytes_seen h.view (s.tree h.node)

abbrev pub next_bytes : State → Handle → ℕ → List ℕ
next_bytes s h n = take n (drop h.place (seen s h))

-- A read is refused for its count, then for want of access. It gives the next bytes, and leaves the handle after them.
pub record ReadsFile (s : State) (c fd : ℕ) (h : Handle) : Type 0 where
  pub refused :
      (n : ℕ) → refusal s c (call.Read fd n) ≡ or_else (when (nat_lt TRANSFER_MAX n) errno.EINVAL) (when (not h.reads) errno.EBADF)
  pub answer : (n : ℕ) → reply_of s c (call.Read fd n) ≡ reply.Read (next_bytes s h n)
  pub state :
      (n : ℕ) → after s c (call.Read fd n) ≡ record s {
        tables = with_handle s.tables c fd (Some (record h { place = h.place + length (next_bytes s h n) }));
      }

abbrev pub LawOfRead : Type 0
LawOfRead = OnFiles ReadsFile

-- where a write begins: at the end where the handle appends
abbrev pub write_start : State → Handle → ℕ
write_start s h = cond h.append (length (bytes_of_node (s.tree h.node))) h.place

-- A write is refused for its count, for want of access, and where no byte fits. What fits of it goes to the file, and the handle is left
-- after that; a write of nothing changes nothing.
pub record WritesFile (s : State) (c fd : ℕ) (h : Handle) : Type 0 where
  pub refused :
      (bytes : List ℕ) → refusal s c (call.Write fd bytes) ≡
      or_else (when (nat_lt TRANSFER_MAX (length bytes)) errno.EINVAL)
      (or_else (when (not h.writes) errno.EBADF)
      (when (nat_lt 0 (length bytes) && not (nat_lt (write_start s h) s.options.file_limit)) errno.EFBIG))
  pub answer : (bytes : List ℕ) → reply_of s c (call.Write fd bytes) ≡ reply.Written (length (fitting s.options.file_limit (write_start s h) bytes))
  pub nothing : after s c (call.Write fd []) ≡ s
  pub state :
      (bytes : List ℕ) → bytes ≢ [] → after s c (call.Write fd bytes) ≡ record s {
        tree = change (wrote s.options.file_limit (write_start s h) bytes) s.tree (Some h.node);
        tables = with_handle s.tables c fd (Some (record h { place = write_start s h + length (fitting s.options.file_limit (write_start s h) bytes) }));
      }

abbrev pub LawOfWrite : Type 0
LawOfWrite = OnHandles WritesFile

-- where a seek leads: from the start, the place or the end
abbrev pub seek_place : State → Handle → ℤ → ℕ → ℤ
seek_place s h offset whence = pos (cond (nat_eq whence 0) 0 (cond (nat_eq whence 1) h.place (length (seen s h)))) +ℤ offset

-- A seek is refused for its base, then beyond the greatest place, then before the start. It leaves the handle where it leads.
pub record SeeksFile (s : State) (c fd : ℕ) (h : Handle) : Type 0 where
  pub refused :
      (offset : ℤ) (whence : ℕ) → refusal s c (call.Seek fd offset whence) ≡
      or_else (when (nat_lt 2 whence) errno.EINVAL)
      (or_else (when (int_lt PLACE_MAX (seek_place s h offset whence)) errno.EOVERFLOW)
      (when (int_lt (seek_place s h offset whence) (pos 0)) errno.EINVAL))
  pub answer : (offset : ℤ) (whence : ℕ) → reply_of s c (call.Seek fd offset whence) ≡ reply.Place (nat_abs (seek_place s h offset whence))
  pub state :
      (offset : ℤ) (whence : ℕ) → after s c (call.Seek fd offset whence) ≡ record s {
        tables = with_handle s.tables c fd (Some (record h { place = nat_abs (seek_place s h offset whence) }));
      }

abbrev pub LawOfFileSeek : Type 0
LawOfFileSeek = OnFiles SeeksFile

-- a file cut or filled with zeros to a size
abbrev pub resized : ℕ → Node → Node
resized size x = with_bytes (sized (bytes_of_node (Some x)) size) x

-- a truncation is refused for want of access, then for its size; it gives the file the size, and all else stays
pub record TruncatesFile (s : State) (c fd : ℕ) (h : Handle) : Type 0 where
  pub refused :
      (size : ℕ) → refusal s c (call.Truncate fd size) ≡
      or_else (when (not h.writes) errno.EINVAL) (when (nat_lt s.options.file_limit size) errno.EFBIG)
  pub answer : (size : ℕ) → reply_of s c (call.Truncate fd size) ≡ reply.Done
  pub state : (size : ℕ) → after s c (call.Truncate fd size) ≡ record s { tree = change (resized size) s.tree (Some h.node) }

abbrev pub LawOfTruncate : Type 0
LawOfTruncate = OnHandles TruncatesFile

-- an fstat is never refused, answers the status of what the handle sees, and changes nothing
pub record Fstats (s : State) (c fd : ℕ) (h : Handle) : Type 0 where
  pub refused : refusal s c (call.Fstat fd) ≡ None
  pub answer : reply_of s c (call.Fstat fd) ≡ stat_seen h.view (s.tree h.node)
  pub state : after s c (call.Fstat fd) ≡ s

abbrev pub LawOfFstat : Type 0
LawOfFstat = OnHandles Fstats

-- a close is never refused; it frees the descriptor, and the node goes where it has neither name nor handle then
pub record ClosesHandle (s : State) (c fd : ℕ) (h : Handle) : Type 0 where
  pub refused : refusal s c (call.Close fd) ≡ None
  pub answer : reply_of s c (call.Close fd) ≡ reply.Done
  pub state :
      after s c (call.Close fd) ≡ record s {
        tree = settled (with_handle s.tables c fd None) s.tree (Some h.node);
        tables = with_handle s.tables c fd None;
      }

abbrev pub LawOfHandleClose : Type 0
LawOfHandleClose = OnHandles ClosesHandle

-- a file has no names to list
pub record ListsNoFile (s : State) (c fd : ℕ) (h : Handle) : Type 0 where
  pub refused : (n : ℕ) → refusal s c (call.ListNames fd n) ≡ Some errno.ENOTDIR

abbrev pub LawOfFileList : Type 0
LawOfFileList = OnFiles ListsNoFile

-- A directory is not read, nor written or truncated by a handle without write access; an fstat by a handle that sees it as it is answers
-- its status.
pub record RefusesDirectory (s : State) (c fd : ℕ) (h : Handle) : Type 0 where
  pub reading : (n : ℕ) → refusal s c (call.Read fd n) ≡ or_else (when (nat_lt TRANSFER_MAX n) errno.EINVAL) (Some errno.EISDIR)
  pub writing :
      h.writes ≡ false → (bytes : List ℕ) →
      refusal s c (call.Write fd bytes) ≡ or_else (when (nat_lt TRANSFER_MAX (length bytes)) errno.EINVAL) (Some errno.EBADF)
  pub sizing : h.writes ≡ false → (size : ℕ) → refusal s c (call.Truncate fd size) ≡ Some errno.EINVAL
  pub status : h.view ≡ Live → reply_of s c (call.Fstat fd) ≡ stat_of (s.tree h.node)

abbrev pub LawOfDirectoryHandle : Type 0
LawOfDirectoryHandle = OnHandles (λ s c fd h. is_folder (s.tree h.node) ≡ true → RefusesDirectory s c fd h)

-- a descriptor that is not open is refused by these calls too
pub record IsUnopened (s : State) (c fd : ℕ) : Type 0 where
  pub reading : (n : ℕ) → refusal s c (call.Read fd n) ≡ Some errno.EBADF
  pub writing : (bytes : List ℕ) → refusal s c (call.Write fd bytes) ≡ Some errno.EBADF
  pub sizing : (size : ℕ) → refusal s c (call.Truncate fd size) ≡ Some errno.EBADF
  pub status : refusal s c (call.Fstat fd) ≡ Some errno.EBADF

abbrev pub LawOfUnopened : Type 0
LawOfUnopened = (s : State) (c fd : ℕ) → handle_of s.tables c fd ≡ None → IsUnopened s c fd
