-- How many of a client's descriptors hold a directory, and a file of the upper.
use Rattle.std.specs.Prelude.{ℕ, ◌+◌, List, [], ◌∷◌, Option, Some, None, cond, nat_eq}
use Rattle.open_handles.specs.declared.handle.Handle.{Handle}
use Rattle.open_handles.specs.declared.handle.Handle.TheVariants.{Directory, File}
use Rattle.open_handles.specs.declared.open_file.FileSource.{FileSource}
use Rattle.open_handles.specs.declared.open_file.FileSource.TheVariants.{Upper, Lower}

-- 1 where what stands open holds the directory of this number, else 0
abbrev pub holds : Option Handle → ℕ → ℕ
holds None k = 0
holds (Some (Directory o)) k = cond (nat_eq o.directory k) 1 0
holds (Some (File f)) k = 0

-- how many of these slots hold the directory of this number
abbrev pub handles_on : List (Option Handle) → ℕ → ℕ
handles_on [] k = 0
handles_on (slot ∷ slots) k = holds slot k + handles_on slots k

-- 1 where bytes are those of the upper's file of this key, else 0
abbrev pub is_upper : FileSource → ℕ → ℕ
is_upper (Upper key) k = cond (nat_eq key k) 1 0
is_upper (Lower layer key) k = 0

-- 1 where what stands open holds the upper's file of this key, else 0
abbrev pub holds_file : Option Handle → ℕ → ℕ
holds_file None k = 0
holds_file (Some (Directory o)) k = 0
holds_file (Some (File f)) k = is_upper f.source k

-- how many of these slots hold the upper's file of this key
abbrev pub files_on : List (Option Handle) → ℕ → ℕ
files_on [] k = 0
files_on (slot ∷ slots) k = holds_file slot k + files_on slots k
