-- Calls by a descriptor: each column of the machine, where the descriptor's handle is known.
use Rattle.std.proofs.Common.{◌≡◌, ◌≢◌, ℕ, ◌+◌, Bool, false, not, cond, ◌&&◌, ◌||◌, List, [], ◌∷◌, Option, None, Some, refl, ap, ◌∙◌, length, arith}
use Rattle.std.specs.Prelude.{ℤ, pos, ◌+ℤ◌, nat_abs, int_lt, nat_eq, nat_lt}
use Rattle.std.proofs.lemmas.Bool.Decides.{nat_tests}
use Rattle.ov_base.specs.Calls.{Call}
use Rattle.ov_base.specs.declared.call.CallOf.TheVariants.{Read, Write, Seek, Truncate, Fstat, ListNames, Close}
use Rattle.ov_base.specs.declared.errno.Errno.{Errno}
use Rattle.ov_base.specs.declared.errno.Errno.TheVariants.{EBADF, EISDIR, EINVAL, EFBIG, ENOTDIR, EOVERFLOW}
use Rattle.ov_base.specs.declared.reply.Reply.TheVariants as reply
use Rattle.plain_model.specs.Tree.{node_at, node_of, is_folder}
use Rattle.plain_model.specs.Machine.{Handle, State, look, handle_of, handle_node, place_of, write_place, seek_base}
use Rattle.plain_model.specs.Refusals.{◌or_else◌, TRANSFER_MAX, PLACE_MAX, when, path_of, descriptor_of, path_refusal, descriptor_refusal, writes, refusal}
use Rattle.plain_model.specs.Changes.{change, wrote, settled, fitting, read_bytes, sought, moved_to, rewound, node_of_handle, with_handle, after}
use Rattle.plain_model.specs.Replies.{stat_of_handle, stat_seen}
use Rattle.plain_model.proofs.Looking.{refusal-reading}
use Rattle.mount_laws.specs.Looks.{or_else as first}
use Rattle.mount_laws.specs.Descriptors.{write_start, seek_place, resized, LawOfRead, LawOfWrite, LawOfFileSeek, LawOfTruncate, LawOfFstat, LawOfHandleClose, LawOfFileList, LawOfDirectoryHandle, LawOfUnopened}

-- the first of two refusals and of three is the first of the faults
two : (a b : Option Errno) → (a or_else b) ≡ first a b
two None b = refl
two (Some a) b = refl

three : (a b d : Option Errno) → (a or_else b or_else d) ≡ first a (first b d)
three None b d = two b d
three (Some a) b d = refl

-- a call that names no path and writes nothing to a mount is refused as the handle of its descriptor says
by-handle :
    (s : State) (c : ℕ) (call : Call) (o : Option Handle) → handle_of s.tables c (descriptor_of call) ≡ o → writes s call ≡ false →
    path_refusal s (look s.tree (path_of call)) (node_of s.tree (node_at s.tree (path_of call))) c call ≡ None →
    refusal s c call ≡ descriptor_refusal s o (handle_node s.tree o) c call
by-handle s c call o on reads pathless =
    refusal-reading s c call reads
    ∙ (λ i. pathless i or_else descriptor_refusal s (on i) (handle_node s.tree (on i)) c call)

-- a read by a handle on a file
pub law_of_read : LawOfRead
law_of_read s c fd h on file = record {
  refused = λ n.
      by-handle s c (Read fd n) (Some h) on refl refl
      ∙ ap (λ b. when (nat_lt TRANSFER_MAX n) EINVAL or_else when b EISDIR or_else when (not h.reads) EBADF) file
      ∙ two (when (nat_lt TRANSFER_MAX n) EINVAL) (when (not h.reads) EBADF);
  answer = λ n. ap (λ o. reply.Read (read_bytes s.tree o n)) on;
  state = λ n i. record s { tables = with_handle s.tables c fd (moved_to (place_of (on i) + length (read_bytes s.tree (on i) n)) (on i)) };
}

-- why a write is refused where no byte fits
abbrev no-room : State → Handle → List ℕ → Option Errno
no-room s h bytes = when (nat_lt 0 (length bytes) && not (nat_lt (write_start s h) s.options.file_limit)) EFBIG

-- a write
pub law_of_write : LawOfWrite
law_of_write s c fd h on = record {
  refused = λ bytes.
      by-handle s c (Write fd bytes) (Some h) on refl refl
      ∙ three (when (nat_lt TRANSFER_MAX (length bytes)) EINVAL) (when (not h.writes) EBADF) (no-room s h bytes);
  answer = λ bytes. ap (λ o. reply.Written (length (fitting s.options.file_limit (write_place s.tree o) bytes))) on;
  nothing = refl;
  state = λ bytes some. by bytes some;
}
  where
    written : List ℕ → Option Handle → Option Handle
    written bytes o = moved_to (write_place s.tree o + length (fitting s.options.file_limit (write_place s.tree o) bytes)) o

    by : (bytes : List ℕ) → bytes ≢ [] → after s c (Write fd bytes) ≡ record s {
      tree = change (wrote s.options.file_limit (write_start s h) bytes) s.tree (Some h.node);
      tables = with_handle s.tables c fd (Some (record h { place = write_start s h + length (fitting s.options.file_limit (write_start s h) bytes) }));
    }
    by [] some = absurd (some refl)
    by (b ∷ bytes) some =
        let filled : nat_eq (length (b ∷ bytes)) 0 ≡ false = grind (arith, nat_tests) in
        λ i. record s {
          tree = cond (filled i) s.tree (change (wrote s.options.file_limit (write_place s.tree (on i)) (b ∷ bytes)) s.tree (node_of_handle (on i)));
          tables = cond (filled i) s.tables (with_handle s.tables c fd (written (b ∷ bytes) (on i)));
        }

-- why a seek is refused for its base, on a directory, and for where it leads
abbrev late : ℕ → Option Errno
late whence = when (nat_lt 2 whence) EINVAL

abbrev astray : Bool → ℤ → ℕ → Option Errno
astray folder offset whence = when (folder && not (nat_eq (nat_abs offset) 0 && nat_eq whence 0)) EINVAL

abbrev above : ℤ → Option Errno
above place = when (int_lt PLACE_MAX place) EOVERFLOW

abbrev before : ℤ → Option Errno
before place = when (int_lt place (pos 0)) EINVAL

-- a seek by a handle on a file
pub law_of_file_seek : LawOfFileSeek
law_of_file_seek s c fd h on file = record {
  refused = λ offset whence.
      by-handle s c (Seek fd offset whence) (Some h) on refl refl
      ∙ ap (λ b. late whence or_else astray b offset whence or_else above (seek_place s h offset whence) or_else before (seek_place s h offset whence)) file
      ∙ three (late whence) (above (seek_place s h offset whence)) (before (seek_place s h offset whence));
  answer = λ offset whence. ap (λ o. reply.Place (nat_abs (pos (seek_base s.tree o whence) +ℤ offset))) on;
  state = λ offset whence i. record s { tables = with_handle s.tables c fd (moved offset whence i) };
}
  where
    moved :
        (offset : ℤ) (whence : ℕ) →
        rewound (is_folder (handle_node s.tree (handle_of s.tables c fd))) (moved_to (sought s c fd offset whence) (handle_of s.tables c fd)) ≡
        Some (record h { place = nat_abs (seek_place s h offset whence) })
    moved offset whence =
        ap (λ o. rewound (is_folder (handle_node s.tree o)) (moved_to (nat_abs (pos (seek_base s.tree o whence) +ℤ offset)) o)) on
        ∙ ap (λ b. rewound b (Some (record h { place = nat_abs (seek_place s h offset whence) }))) file

-- a truncation
pub law_of_truncate : LawOfTruncate
law_of_truncate s c fd h on = record {
  refused = λ size.
      by-handle s c (Truncate fd size) (Some h) on refl refl
      ∙ two (when (not h.writes) EINVAL) (when (nat_lt s.options.file_limit size) EFBIG);
  answer = λ size. refl;
  state = λ size i. record s { tree = change (resized size) s.tree (node_of_handle (on i)) };
}

-- an fstat
pub law_of_fstat : LawOfFstat
law_of_fstat s c fd h on = record {
  refused = by-handle s c (Fstat fd) (Some h) on refl refl;
  answer = ap (stat_of_handle s.tree) on;
  state = refl;
}

-- a close
pub law_of_handle_close : LawOfHandleClose
law_of_handle_close s c fd h on = record {
  refused = by-handle s c (Close fd) (Some h) on refl refl;
  answer = refl;
  state = λ i. record s {
    tree = settled (with_handle s.tables c fd None) s.tree (node_of_handle (on i));
    tables = with_handle s.tables c fd None;
  };
}

-- a listing by a handle on a file
pub law_of_file_list : LawOfFileList
law_of_file_list s c fd h on file = record {
  refused = λ n.
      by-handle s c (ListNames fd n) (Some h) on refl refl
      ∙ ap (λ b. when (not b) ENOTDIR or_else when (nat_eq n 0 || nat_lt 256 n) EINVAL) file;
}

-- the calls of files, by a handle on a directory
pub law_of_directory_handle : LawOfDirectoryHandle
law_of_directory_handle s c fd h on folder = record {
  reading = λ n.
      by-handle s c (Read fd n) (Some h) on refl refl
      ∙ ap (λ b. when (nat_lt TRANSFER_MAX n) EINVAL or_else when b EISDIR or_else when (not h.reads) EBADF) folder
      ∙ two (when (nat_lt TRANSFER_MAX n) EINVAL) (Some EISDIR);
  writing = λ bare bytes.
      by-handle s c (Write fd bytes) (Some h) on refl refl
      ∙ ap (λ b. when (nat_lt TRANSFER_MAX (length bytes)) EINVAL or_else when (not b) EBADF or_else no-room s h bytes) bare
      ∙ two (when (nat_lt TRANSFER_MAX (length bytes)) EINVAL) (Some EBADF);
  sizing = λ bare size.
      by-handle s c (Truncate fd size) (Some h) on refl refl
      ∙ ap (λ b. when (not b) EINVAL or_else when (nat_lt s.options.file_limit size) EFBIG) bare;
  status = λ live. ap (stat_of_handle s.tree) on ∙ ap (λ v. stat_seen v (s.tree h.node)) live;
}

-- a descriptor that is not open
pub law_of_unopened : LawOfUnopened
law_of_unopened s c fd none = record {
  reading = λ n. by-handle s c (Read fd n) None none refl refl;
  writing = λ bytes. by-handle s c (Write fd bytes) None none refl refl;
  sizing = λ size. by-handle s c (Truncate fd size) None none refl refl;
  status = by-handle s c (Fstat fd) None none refl refl;
}
