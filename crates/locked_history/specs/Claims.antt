-- What a receipt claims, and what a note of a cell knows.
use Rattle.std.specs.Prelude.{◌≡◌, ℕ, ◌<◌, Bool, false, not, nat_lt, slice_get, Option, Some, List, length, slice_index}
use Rattle.ov_base.specs.Calls.{Call}
use Rattle.ov_base.specs.declared.reply.Reply.{Reply}
use Rattle.plain_model.specs.Runs as runs
use Rattle.locked_history.specs.declared.entry.Entry.{Entry}
use Rattle.locked_history.specs.declared.entry.Deed.TheVariants.{Called, Detached}
use Rattle.locked_history.specs.Entries.{entry_in, told}

-- a place of the history, the entry that stands there, and whether the receipt is counted
pub record Claim : Type 0 where
  pub place : ℕ
  pub entry : Entry
  pub counted : Bool

-- the note is of the cell of this place, and knows its entry
pub record IsNoteOf (cells : List ℕ) (place name : ℕ) (seen : Option Entry) : Type 0 where
  pub within : place < length cells
  pub cell : name ≡ slice_index cells place
  pub known : seen ≡ Some (entry_in seen)

-- the entry of a client's attach with hooks of these tags
abbrev pub IsAttachOf : Entry → ℕ → List ℕ → Type 0
IsAttachOf e client tags = (e.client ≡ client) × (e.number ≡ 1) × (told e.deed ≡ runs.Attached tags)

-- the entry of this call of a client, of this number, with some reply
abbrev pub IsCallOf : Entry → ℕ → ℕ → Call → Type 0
IsCallOf e client number call = (e.client ≡ client) × (e.number ≡ number) × ((reply : Reply) × (e.deed ≡ Called call reply))

-- the entry of a client's detach, of this number
abbrev pub IsDetachOf : Entry → ℕ → ℕ → Type 0
IsDetachOf e client number = (e.client ≡ client) × (e.number ≡ number) × (e.deed ≡ Detached)

-- the receipt without its share
abbrev pub uncounted : Claim → Claim
uncounted r = record r { counted = false }

-- its place is below the end of this history, and its entry stands there; or it is past the end
abbrev pub StandsIn : List Entry → Claim → Type 0
StandsIn entries r = r.place < length entries → slice_get entries r.place ≡ Some r.entry

abbrev pub is_past_end : List Entry → Claim → Bool
is_past_end entries r = not (nat_lt r.place (length entries))
