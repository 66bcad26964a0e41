-- How clients come and go.
use Rattle.std.specs.Prelude.{◌≡◌, ◌≢◌, ◌≤◌, ℕ, ◌+◌, Bool, List, [], Option, Some, None, is_some, nat_lt, cond, true}
use Rattle.std.specs.Option.{option_and_then}
use Rattle.std.specs.BTreeMap.{get, btree_map_len}
use Rattle.std.specs.Ordering.{nat_cmp}
use Rattle.ov_base.specs.declared.errno.Errno.{Errno}
use Rattle.ov_base.specs.declared.errno.Errno.TheVariants.{EINVAL, ENFILE}
use Rattle.mount_calls.specs.declared.clients.Clients.{Clients}
use Rattle.plain_model.specs.Layers.{Path}
use Rattle.open_handles.specs.declared.descriptors.Descriptors.{Descriptors}
use Rattle.open_handles.specs.declared.handle.Handle as handles
use Rattle.open_handles.specs.declared.handle.Handle.TheVariants.{Directory}
use Rattle.open_handles.specs.declared.handle.OpenDirectory.{OpenDirectory}
use Rattle.open_handles.specs.declared.open_file.OpenFile.{OpenFile}
use Rattle.open_handles.specs.Descriptors as slots
use Rattle.open_handles.specs.Listings.{directory_in, file_in}
use Rattle.object_table.specs.Opened.{Location, opened, path_in}

-- what a client has open under a descriptor
abbrev pub opened_by : Clients → ℕ → ℕ → Option handles.Handle
opened_by clients n d = option_and_then (λ (e : Descriptors). slots.opened e.slots.items d) (get nat_cmp clients.attached n)

-- the directory to which a descriptor of a client leads, if it leads to one
abbrev pub directory_by : Clients → ℕ → ℕ → Option OpenDirectory
directory_by clients n d = directory_in (opened_by clients n d)

-- the file to which a descriptor of a client leads, if it leads to one
abbrev pub file_by : Clients → ℕ → ℕ → Option OpenFile
file_by clients n d = file_in (opened_by clients n d)

-- where the directory of a handle stands
abbrev pub located : Clients → OpenDirectory → Option Location
located clients o = opened clients.directories o.directory

-- the path of the directory of a handle, if it wasn't removed
abbrev pub path_of : Clients → OpenDirectory → Option Path
path_of clients o = option_and_then path_in (located clients o)

-- each directory that a client has open still stands where it stood
abbrev pub KeepsPlaces : Clients → Clients → Type 0
KeepsPlaces old new = (c d : ℕ) (o : OpenDirectory) (l : Location) → opened_by new c d ≡ Some (Directory o) → located old o ≡ Some l → located new o ≡ Some l

-- the next number is attached, with no descriptors, and every other client stays as it is
pub record Attaches (old new : Clients) (n : ℕ) : Type 0 where
  pub next : n ≡ old.next
  pub fresh : get nat_cmp old.attached n ≡ None
  pub descriptors : Descriptors
  pub there : get nat_cmp new.attached n ≡ Some descriptors
  pub none : descriptors.slots.items ≡ []
  pub others : (m : ℕ) → m ≢ n → get nat_cmp new.attached m ≡ get nat_cmp old.attached m
  pub places : new.directories ≡ old.directories
  pub rises : new.next ≡ n + 1

-- the client that came last was taken back, and every other client stays as it is
pub record TakesBack (old new : Clients) (n : ℕ) : Type 0 where
  pub gone : get nat_cmp new.attached n ≡ None
  pub others : (m : ℕ) → m ≢ n → get nat_cmp new.attached m ≡ get nat_cmp old.attached m
  pub places : new.directories ≡ old.directories
  pub next : new.next ≡ n

-- the client isn't attached any more, and every other client stays as it is
pub record Detaches (old new : Clients) (n : ℕ) : Type 0 where
  pub gone : get nat_cmp new.attached n ≡ None
  pub others : (m : ℕ) → m ≢ n → get nat_cmp new.attached m ≡ get nat_cmp old.attached m
  pub next : new.next ≡ old.next

-- the same clients are attached, and every client but this one stays as it is
pub record KeepsOthers (old new : Clients) (n : ℕ) : Type 0 where
  pub attached : is_some (get nat_cmp old.attached n) ≡ true → is_some (get nat_cmp new.attached n) ≡ true
  pub others : (m : ℕ) → m ≢ n → get nat_cmp new.attached m ≡ get nat_cmp old.attached m
  pub next : new.next ≡ old.next

-- why a client with so many hooks can't be attached where so many are, the first of two faults
abbrev pub attach_refusal : ℕ → ℕ → Option Errno
attach_refusal hooks attached = cond (nat_lt 16 hooks) (Some EINVAL) (cond (nat_lt attached 64) None (Some ENFILE))

-- 64 clients are attached
abbrev pub HasNoRoom : Clients → Type 0
HasNoRoom clients = 64 ≤ btree_map_len clients.attached

-- whether a client is attached
abbrev pub is_attached : Clients → ℕ → Bool
is_attached clients n = is_some (get nat_cmp clients.attached n)

-- the same clients are attached, and the next number is the same
pub record KeepsAttached (old new : Clients) : Type 0 where
  pub attached : (n : ℕ) → is_attached new n ≡ is_attached old n
  pub next : new.next ≡ old.next

-- the same clients are attached with what they have open, and the next number is the same
pub record IsSame (old new : Clients) : Type 0 where
  pub attached : new.attached.entries ≡ old.attached.entries
  pub places : new.directories ≡ old.directories
  pub next : new.next ≡ old.next

-- an attached client's descriptors change so, and every other client stays as it is
pub record ChangesClient (old new : Clients) (n : ℕ) (change : List (Option handles.Handle) → List (Option handles.Handle) → Type 0) : Type 0 where
  pub before : Descriptors
  pub was : get nat_cmp old.attached n ≡ Some before
  pub after : Descriptors
  pub is : get nat_cmp new.attached n ≡ Some after
  pub changes : change before.slots.items after.slots.items
  pub others : (m : ℕ) → m ≢ n → get nat_cmp new.attached m ≡ get nat_cmp old.attached m
  pub places : KeepsPlaces old new
  pub next : new.next ≡ old.next
