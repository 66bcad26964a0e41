-- How many handles hold each file of the upper, by its key.
use Rattle.std.specs.Prelude.{◌≡◌, ◌≢◌, ℕ, Some, unwrap_or, nat_eq}
use Rattle.std.specs.HashMap.{HashMap, get, spare}
use Rattle.std.specs.declared.random_state.RandomState.{RandomState}

-- the files that handles hold, each with how many do
abbrev pub HeldFiles : Type 0
HeldFiles = HashMap ℕ ℕ RandomState

-- as many handles of one file as can be counted
abbrev pub HOLDERS_MAX : ℕ
HOLDERS_MAX = 0xffffffffffffffff

-- how many handles hold the file of a key
abbrev pub file_holders : HeldFiles → ℕ → ℕ
file_holders t k = unwrap_or (get nat_eq t k) 0

-- how many more files can be held without memory
abbrev pub room : HeldFiles → ℕ
room t = spare t

-- only files that a handle holds have an entry
abbrev pub AreHeld : HeldFiles → Type 0
AreHeld t = (k : ℕ) → get nat_eq t k ≢ Some 0

-- so many handles hold the file of this key now, and every other as many as before
pub record CountsFile (old new : HeldFiles) (k count : ℕ) : Type 0 where
  pub here : file_holders new k ≡ count
  pub others : (j : ℕ) → j ≢ k → file_holders new j ≡ file_holders old j

-- as many handles hold each file as before
abbrev pub SameCounts : HeldFiles → HeldFiles → Type 0
SameCounts old new = (k : ℕ) → file_holders new k ≡ file_holders old k
