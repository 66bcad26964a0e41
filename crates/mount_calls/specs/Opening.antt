-- What an open opens, and why calls by a descriptor are refused.
use Rattle.std.specs.Prelude.{OnOk, ◌≡◌, ℕ, ℤ, nat_abs, nat_eq, nat_lt, not, ◌&&◌, ◌||◌, Option, None, Some, Result, Ok, Err, cond, is_none}
use Rattle.std.specs.declared.alloc.AllocError.{AllocError}
use Rattle.ov_base.specs.declared.call.OpenFlags.{OpenFlags}
use Rattle.ov_base.specs.declared.errno.Errno.{Errno}
use Rattle.ov_base.specs.declared.errno.Errno.TheVariants.{EBADF, EFBIG, EINVAL, EISDIR, ELOOP, ENOTDIR}
use Rattle.open_handles.specs.declared.handle.Handle as handles
use Rattle.open_handles.specs.declared.handle.Handle.TheVariants.{Directory, File}
use Rattle.open_handles.specs.declared.handle.OpenDirectory.{OpenDirectory}
use Rattle.open_handles.specs.Listings.{Opens}
use Rattle.object_table.specs.Opened.{At}
use Rattle.plain_model.specs.Layers.{Path, Shown}
use Rattle.mount_calls.specs.declared.clients.Clients.{Clients}
use Rattle.mount_calls.specs.Attaching.{ChangesClient, located}
use Rattle.open_handles.specs.declared.open_file.FileSource.TheVariants.{Upper, Lower}
use Rattle.open_handles.specs.declared.open_file.OpenFile.{OpenFile}
use Rattle.open_handles.specs.Places.{base_of, sought_from}
use Rattle.plain_model.specs.Refusals.{when}
use Rattle.mount_laws.specs.Looks.{or_else, shows_link}

-- why a seek is refused that is told by what is open alone: nothing is open, or it isn't to the start of a directory
abbrev pub seek_fault : Option handles.Handle → ℤ → ℕ → Option Errno
seek_fault None offset whence = Some EBADF
seek_fault (Some (Directory o)) offset whence = when (not (nat_eq (nat_abs offset) 0 && nat_eq whence 0)) EINVAL
seek_fault (Some (File f)) offset whence = None

-- where a seek in a file of so many bytes leads, or why it is refused: for its whence, then for its place
abbrev pub seek_place : OpenFile → ℕ → ℤ → ℕ → Result ℕ Errno
seek_place f size offset whence = elim (base_of f.place size whence) [ Ok base ↦ sought_from base offset | Err e ↦ Err e ]

-- the most bytes of one read or write
abbrev pub TRANSFER_MAX : ℕ
TRANSFER_MAX = 65536

-- why a read is refused: nothing is open, too many bytes, a directory, a file that isn't open for reading
abbrev pub read_fault : Option handles.Handle → ℕ → Option Errno
read_fault None count = Some EBADF
read_fault (Some (Directory o)) count = or_else (when (nat_lt TRANSFER_MAX count) EINVAL) (Some EISDIR)
read_fault (Some (File f)) count = or_else (when (nat_lt TRANSFER_MAX count) EINVAL) (when (not f.reads) EBADF)

-- the upper's file to which an open file writes
abbrev pub written_key : OpenFile → Option ℕ
written_key f = elim f.source [ Upper k ↦ cond f.writes (Some k) None | Lower layer k ↦ None ]

-- why a write of so many bytes is refused before its place is asked for: nothing is open, too many bytes, or no write access
abbrev pub write_fault : Option handles.Handle → ℕ → Option Errno
write_fault None count = Some EBADF
write_fault (Some (Directory o)) count = or_else (when (nat_lt TRANSFER_MAX count) EINVAL) (Some EBADF)
write_fault (Some (File f)) count = or_else (when (nat_lt TRANSFER_MAX count) EINVAL) (when (is_none (written_key f)) EBADF)

-- why a truncation is refused: nothing is open, no write access, or a size over the most bytes of a file
abbrev pub truncate_fault : ℕ → Option handles.Handle → ℕ → Option Errno
truncate_fault limit None size = Some EBADF
truncate_fault limit (Some (Directory o)) size = Some EINVAL
truncate_fault limit (Some (File f)) size = or_else (when (is_none (written_key f)) EINVAL) (when (nat_lt limit size) EFBIG)

-- why a list is refused: nothing is open, or a file, or it asks for no names or too many
abbrev pub list_fault : Option handles.Handle → ℕ → Option Errno
list_fault None n = Some EBADF
list_fault (Some (File f)) n = Some ENOTDIR
list_fault (Some (Directory o)) n = when (nat_eq n 0 || nat_lt 256 n) EINVAL

-- why a file or symbolic link that is shown isn't opened for reading: the link, and no directory where one is asked for
abbrev pub inode_refusal : OpenFlags → Option Shown → Option Errno
inode_refusal f s = or_else (when (shows_link s) ELOOP) (when f.directory ENOTDIR)

-- a file is opened under a client's lowest free descriptor
abbrev pub OpensFile : Clients → Clients → ℕ → ℕ → OpenFile → Result (Unit {0}) AllocError → Type 0
OpensFile old new client d f result = ChangesClient old new client (λ before after. Opens before after d (File f) result)

-- the directory at a path is opened under a client's lowest free descriptor
pub record OpensAt (old new : Clients) (client d : ℕ) (p : Path) (result : Result (Unit {0}) AllocError) : Type 0 where
  pub handle : OpenDirectory
  pub fresh : handle.listing ≡ None
  pub stands : OnOk result (located new handle ≡ Some (At p))
  pub changes : ChangesClient old new client (λ before after. Opens before after d (Directory handle) result)
