-- How many handles of all clients hold a directory, and a file of the upper.
use Rattle.std.specs.Prelude.{◌≡◌, ℕ, zero, suc, ◌+◌, List, Option, None, cond, nat_eq}
use Rattle.std.specs.Option.{option_map_or}
use Rattle.open_handles.specs.declared.descriptors.Descriptors.{Descriptors}
use Rattle.open_handles.specs.declared.handle.Handle.{Handle}
use Rattle.object_table.specs.Dentries.{Dentries}
use Rattle.open_handles.specs.FileHolders.{HeldFiles, file_holders}
use Rattle.open_handles.specs.Holding.{handles_on, files_on}
use Rattle.object_table.specs.Opened.{opened, holders}

-- the sum of a count over all clients with a number below this one
abbrev pub sum_below : (Option Descriptors → ℕ) → (ℕ → Option Descriptors) → ℕ → ℕ
sum_below count clients zero = 0
sum_below count clients (suc n) = count (clients n) + sum_below count clients n

-- how many of a client's descriptors hold the directory of this number; none where it isn't attached
abbrev pub handles_by : Option Descriptors → ℕ → ℕ
handles_by client k = option_map_or (λ (e : Descriptors). handles_on e.slots.items k) client 0

-- the same of all clients with a number below this one
abbrev pub handles_below : (ℕ → Option Descriptors) → ℕ → ℕ → ℕ
handles_below clients n k = sum_below (λ client. handles_by client k) clients n

-- how many of a client's descriptors hold the upper's file of this key; none where it isn't attached
abbrev pub files_by : Option Descriptors → ℕ → ℕ
files_by client k = option_map_or (λ (e : Descriptors). files_on e.slots.items k) client 0

-- the same of all clients with a number below this one
abbrev pub files_below : (ℕ → Option Descriptors) → ℕ → ℕ → ℕ
files_below clients n k = sum_below (λ client. files_by client k) clients n

-- the handles on directories in these slots are closed: a directory that another one holds stands where it stood
pub record ClosesAll (old new : Dentries) (slots : List (Option Handle)) : Type 0 where
  pub counted : (k : ℕ) → holders new k + handles_on slots k ≡ holders old k
  pub located : (k : ℕ) → opened new k ≡ cond (nat_eq (holders new k) 0) None (opened old k)

-- the handles on files of the upper in these slots are closed
abbrev pub ReleasesAll : HeldFiles → HeldFiles → List (Option Handle) → Type 0
ReleasesAll old new slots = (k : ℕ) → file_holders new k + files_on slots k ≡ file_holders old k
