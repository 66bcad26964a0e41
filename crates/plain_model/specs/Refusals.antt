-- Which calls are refused, and by which number: for each call the first line that applies (errors of the POSIX.1-2017 pages of the
-- calls, in the order that Linux's namei.c and open.c, and inotify(7), ask for them).
use Rattle.std.specs.Prelude.{ℕ, ℤ, pos, ◌+ℤ◌, int_lt, nat_abs, Bool, true, false, not, ◌&&◌, ◌||◌, List, [], Option, None, Some, nat_eq, nat_lt, is_none, length, bit_and, codes}
use Rattle.std.specs.List.{list_any, starts_with}
use Rattle.ov_base.specs.Calls.{Call}
use Rattle.ov_base.specs.declared.call.CallOf.TheVariants.{Stat, Readlink, Chmod, Chown, SetAttribute, GetAttribute, DeleteAttribute, ListAttributes, Mkdir, Symlink, Open, Unlink, Rmdir, Hardlink, Rename, Read, Write, Seek, Truncate, Fstat, ListNames, Close, Arm, Disarm, TakeNotices}
use Rattle.ov_base.specs.declared.call.OpenFlags.{OpenFlags}
use Rattle.ov_base.specs.declared.errno.Errno.{Errno}
use Rattle.ov_base.specs.declared.errno.Errno.TheVariants.{EPERM, ENOENT, EBADF, EBUSY, EEXIST, EXDEV, ENOTDIR, EISDIR, EINVAL, EMFILE, EFBIG, ENOSPC, ENAMETOOLONG, ENOTEMPTY, ELOOP, ENODATA, EOVERFLOW, EOPNOTSUPP, EROFS}
use Rattle.ov_base.specs.declared.node_id.NodeId.{NodeId}
use Rattle.plain_model.specs.Layers.{Path}
use Rattle.plain_model.specs.Tree.{same_id, Node, Tree, node_at, node_of, is_folder}
use Rattle.plain_model.specs.Watching.{Watch, EVENTS, ONLYDIR, has_bit, is_numbered}
use Rattle.plain_model.specs.Machine.{Handle, State, Look, Found, Absent, Fails, look, is_found, found, node_found, same_found, is_root, is_below, is_link, has_names, is_base, user_of, value_of, handle_of, handle_node, lowest_free, write_place, seek_base, instance_of, hooks_of, watches_of, armed_of, watch_on}

-- the first refusal of two
infixr 30 ◌or_else◌
abbrev pub ◌or_else◌ : Option Errno → Option Errno → Option Errno
None or_else e = e
Some d or_else e = Some d

abbrev pub when : Bool → Errno → Option Errno
when true e = Some e
when false e = None

abbrev pub unless_same : Bool → Option Errno → Option Errno
unless_same true e = None
unless_same false e = e

-- the walk of a path up to its last name
abbrev pub walked : Look → Option Errno
walked (Fails e) = Some e
walked _ = None

-- the walk of a path, and that its last name is there
abbrev pub there : Look → Option Errno
there (Fails e) = Some e
there (Absent d) = Some ENOENT
there (Found d) = None

-- the most bytes of one read or write
abbrev pub TRANSFER_MAX : ℕ
TRANSFER_MAX = 65536

-- the greatest place of a handle
abbrev pub PLACE_MAX : ℤ
PLACE_MAX = pos 0x7fffffffffffffff

-- the most watch numbers that a client is given
abbrev pub WATCHES_MAX : ℕ
WATCHES_MAX = 0x7fffffff

abbrev pub bad_mode : ℕ → Option Errno
bad_mode mode = when (nat_lt 0o7777 mode) EINVAL

abbrev pub has_nul : List ℕ → Bool
has_nul = list_any (nat_eq 0)

-- the name of an attribute: 1 to 255 bytes without NUL, and of the namespace `user.`
abbrev pub bad_attribute : List ℕ → Option Errno
bad_attribute n =
    when (nat_eq (length n) 0 || nat_lt 255 (length n) || has_nul n) EINVAL
    or_else when (not (starts_with nat_eq n (codes "user.")) || nat_eq (length n) 5) EOPNOTSUPP

-- flags that don't go together: no access, an unknown bit, EXCL without CREAT, TRUNC without write access, DIRECTORY with CREAT
abbrev pub bad_flags : OpenFlags → Bool
bad_flags f = (not f.reads && not f.writes) || f.unknown || (f.exclusive && not f.create) || (f.truncate && not f.writes) || (f.directory && f.create)

-- a mask without an event, or with a bit that no arm takes
abbrev pub bad_mask : ℕ → Bool
bad_mask mask = not (has_bit mask EVENTS) || not (nat_eq (bit_and mask 0xa1000fff) mask)

-- the slot is armed on another object, or the object through another slot
abbrev pub is_busy : List Watch → ℕ → Option NodeId → Bool
is_busy ws slot None = false
is_busy ws slot (Some d) = list_any (λ w. not (same_id d w.node) && nat_eq w.slot slot || same_id d w.node && not (nat_eq w.slot slot)) ws

-- rename: l and k are the walks of the two paths
abbrev pub rename_refusal : Tree → Bool → Path → Path → Look → Look → Option Errno
rename_refusal t redirects old new l k =
    when (is_root old || is_root new) EBUSY
    or_else there l
    or_else walked k
    or_else unless_same (same_found l k) (
    when (is_below old new) EINVAL
    or_else when (is_folder (node_found t l) && is_found k && not (is_folder (node_found t k))) ENOTDIR
    or_else when (not (is_folder (node_found t l)) && is_folder (node_found t k)) EISDIR
    or_else when (is_base (node_found t l) && not redirects) EXDEV
    or_else when (is_folder (node_found t l) && has_names (node_found t k)) ENOTEMPTY
    )

-- open: l is the walk of the path, o what stands there, free the lowest free descriptor
abbrev pub open_refusal : OpenFlags → ℕ → Look → Option Node → Option ℕ → Option Errno
open_refusal f mode l o free =
    when (bad_flags f) EINVAL
    or_else bad_mode mode
    or_else walked l
    or_else when (not (is_found l) && not f.create) ENOENT
    or_else when (is_found l && f.create && f.exclusive) EEXIST
    or_else when (is_link o) ELOOP
    or_else when (is_found l && f.directory && not (is_folder o)) ENOTDIR
    or_else when (is_folder o && (f.writes || f.create)) EISDIR
    or_else when (is_none free) EMFILE

-- the calls by path: l is the walk of the first path, o what stands there, c the client
abbrev pub path_refusal : State → Look → Option Node → ℕ → Call → Option Errno
path_refusal s l o c (Stat p) = there l
path_refusal s l o c (Readlink p) = there l or_else when (not (is_link o)) EINVAL
path_refusal s l o c (Chmod p mode) = bad_mode mode or_else there l or_else when (is_link o) ELOOP
path_refusal s l o c (Chown p uid gid) = there l or_else when (is_link o) ELOOP
path_refusal s l o c (ListAttributes p) = there l or_else when (is_link o) ELOOP
path_refusal s l o c (SetAttribute p n v) =
    bad_attribute n
    or_else when (nat_lt 1024 (length v)) EFBIG
    or_else there l
    or_else when (is_link o) ELOOP
    or_else when (is_none (value_of (user_of o) n) && not (nat_lt (length (user_of o)) 64)) EFBIG
path_refusal s l o c (GetAttribute p n) = bad_attribute n or_else there l or_else when (is_link o) ELOOP or_else when (is_none (value_of (user_of o) n)) ENODATA
path_refusal s l o c (DeleteAttribute p n) = bad_attribute n or_else there l or_else when (is_link o) ELOOP or_else when (is_none (value_of (user_of o) n)) ENODATA
path_refusal s l o c (Mkdir p mode) = bad_mode mode or_else walked l or_else when (is_found l) EEXIST
path_refusal s l o c (Symlink target p) =
    when (nat_lt 4095 (length target)) ENAMETOOLONG
    or_else when (nat_eq (length target) 0) ENOENT
    or_else when (has_nul target) EINVAL
    or_else walked l
    or_else when (is_found l) EEXIST
path_refusal s l o c (Open p f mode) = open_refusal f mode l o (lowest_free s.tables c)
path_refusal s l o c (Unlink p) = when (is_root p) EBUSY or_else there l or_else when (is_folder o) EISDIR
path_refusal s l o c (Rmdir p) = when (is_root p) EBUSY or_else there l or_else when (not (is_folder o)) ENOTDIR or_else when (has_names o) ENOTEMPTY
path_refusal s l o c (Hardlink old new) = there l or_else walked (look s.tree new) or_else when (is_found (look s.tree new)) EEXIST or_else when (is_folder o) EPERM
path_refusal s l o c (Rename old new) = rename_refusal s.tree s.options.redirects old new l (look s.tree new)
path_refusal s l o c (Arm slot p mask) =
    when (not (nat_lt slot (hooks_of (instance_of s.instances c)))) EINVAL
    or_else when (bad_mask mask) EINVAL
    or_else there l
    or_else when (is_link o) ELOOP
    or_else when (has_bit mask ONLYDIR && not (is_folder o)) ENOTDIR
    or_else when (is_busy (watches_of (instance_of s.instances c)) slot (found l)) EBUSY
    or_else when (is_none (watch_on (watches_of (instance_of s.instances c)) (found l)) && not (nat_lt (armed_of (instance_of s.instances c)) WATCHES_MAX)) ENOSPC
path_refusal s l o c _ = None

-- whether a handle may read, and write
abbrev pub can_read : Option Handle → Bool
can_read None = false
can_read (Some h) = h.reads

abbrev pub can_write : Option Handle → Bool
can_write None = false
can_write (Some h) = h.writes

-- the calls by descriptor and the others: h is the open handle, x its node, c the client
abbrev pub descriptor_refusal : State → Option Handle → Option Node → ℕ → Call → Option Errno
descriptor_refusal s h x c (Read fd n) =
    when (is_none h) EBADF
    or_else when (nat_lt TRANSFER_MAX n) EINVAL
    or_else when (is_folder x) EISDIR
    or_else when (not (can_read h)) EBADF
descriptor_refusal s h x c (Write fd bytes) =
    when (is_none h) EBADF
    or_else when (nat_lt TRANSFER_MAX (length bytes)) EINVAL
    or_else when (not (can_write h)) EBADF
    or_else when (nat_lt 0 (length bytes) && not (nat_lt (write_place s.tree h) s.options.file_limit)) EFBIG
descriptor_refusal s h x c (Seek fd offset whence) =
    when (is_none h) EBADF
    or_else when (nat_lt 2 whence) EINVAL
    or_else when (is_folder x && not (nat_eq (nat_abs offset) 0 && nat_eq whence 0)) EINVAL
    or_else when (int_lt PLACE_MAX (pos (seek_base s.tree h whence) +ℤ offset)) EOVERFLOW
    or_else when (int_lt (pos (seek_base s.tree h whence) +ℤ offset) (pos 0)) EINVAL
descriptor_refusal s h x c (Truncate fd size) = when (is_none h) EBADF or_else when (not (can_write h)) EINVAL or_else when (nat_lt s.options.file_limit size) EFBIG
descriptor_refusal s h x c (Fstat fd) = when (is_none h) EBADF
descriptor_refusal s h x c (Close fd) = when (is_none h) EBADF
descriptor_refusal s h x c (ListNames fd n) = when (is_none h) EBADF or_else when (not (is_folder x)) ENOTDIR or_else when (nat_eq n 0 || nat_lt 256 n) EINVAL
descriptor_refusal s h x c (Disarm number) = when (not (list_any (is_numbered number) (watches_of (instance_of s.instances c)))) EINVAL
descriptor_refusal s h x c (TakeNotices n) = when (nat_lt 65 n) EINVAL
descriptor_refusal s h x c _ = None

-- the path that a call names first
abbrev pub path_of : Call → Path
path_of (Stat p) = p
path_of (Readlink p) = p
path_of (Chmod p mode) = p
path_of (Chown p uid gid) = p
path_of (SetAttribute p n v) = p
path_of (GetAttribute p n) = p
path_of (DeleteAttribute p n) = p
path_of (ListAttributes p) = p
path_of (Mkdir p mode) = p
path_of (Symlink target p) = p
path_of (Open p f mode) = p
path_of (Unlink p) = p
path_of (Rmdir p) = p
path_of (Hardlink old new) = old
path_of (Rename old new) = old
path_of (Arm slot p mask) = p
path_of _ = []

-- the descriptor that a call names
abbrev pub descriptor_of : Call → ℕ
descriptor_of (Read fd n) = fd
descriptor_of (Write fd bytes) = fd
descriptor_of (Seek fd offset whence) = fd
descriptor_of (Truncate fd size) = fd
descriptor_of (Fstat fd) = fd
descriptor_of (ListNames fd n) = fd
descriptor_of (Close fd) = fd
descriptor_of _ = 0

-- whether a call writes to the mount; opening for reading does where it makes the file, and a rename where it moves something
abbrev pub writes : State → Call → Bool
writes s (Chmod p mode) = true
writes s (Chown p uid gid) = true
writes s (SetAttribute p n v) = true
writes s (DeleteAttribute p n) = true
writes s (Mkdir p mode) = true
writes s (Symlink target p) = true
writes s (Open p f mode) = f.writes || is_none (node_at s.tree p)
writes s (Unlink p) = true
writes s (Rmdir p) = true
writes s (Hardlink old new) = true
writes s (Rename old new) = not (same_found (look s.tree old) (look s.tree new))
writes s _ = false

-- the refusal of a client's call in a state where all may be written, or none
abbrev pub writable_refusal : State → ℕ → Call → Option Errno
writable_refusal s c call =
    path_refusal s (look s.tree (path_of call)) (node_of s.tree (node_at s.tree (path_of call))) c call
    or_else descriptor_refusal s (handle_of s.tables c (descriptor_of call)) (handle_node s.tree (handle_of s.tables c (descriptor_of call))) c call

-- the refusal of a client's call in a state, or none; that nothing may be written is told last
abbrev pub refusal : State → ℕ → Call → Option Errno
refusal s c call = writable_refusal s c call or_else when (writes s call && s.options.read_only) EROFS
