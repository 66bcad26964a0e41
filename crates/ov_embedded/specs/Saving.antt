-- The upper as a manifest.
use Rattle.std.specs.Prelude.{◌≡◌, ℕ, false, true, min, List, length, drop, Result, Ok, Err}
use Rattle.ov_server.specs.Plays.{layers_in}
use Rattle.ov_server.specs.Rosters.{is_layer}
use Rattle.overlay_core.specs.Views.{core_read_only}
use Rattle.ov_embedded.specs.Calling.{IsCopied}
use Rattle.ov_embedded.specs.declared.mounted.Mounted.{Mounted}
use Rattle.ov_embedded.specs.declared.outcome.Outcome.{Outcome}
use Rattle.ov_embedded.specs.declared.outcome.Outcome.TheVariants as outcome
use Rattle.ov_embedded.specs.declared.saving.Saved.{Saved}

-- the text of an upper is kept, and so long it is, and nothing else has changed; or the mount is
-- the very same. That the text is the program's is by its own code: no clause of that spells it
abbrev pub Saves : Mounted → Mounted → Result Saved Outcome → Type 0
Saves old new (Ok told) =
    (core_read_only old.core ≡ false) × (told.length ≡ length new.saved.items)
    × (new.core ≡ old.core) × (new.reply ≡ old.reply) × (new.jobs ≡ old.jobs)
    × (new.begun ≡ old.begun)
Saves old new (Err outcome.NoUpper) = (new ≡ old) × (core_read_only old.core ≡ true)
Saves old new (Err outcome.NoMemory) = new ≡ old
Saves old new (Err _) = ⊥

-- the lines of the layer of a number are kept in that text's place, and so long they are, and
-- nothing else has changed; or the mount is the very same. That they are the program's is by its own
-- code: no clause of that spells them
abbrev pub ListsLayer : ℕ → Mounted → Mounted → Result ℕ Outcome → Type 0
ListsLayer index old new (Ok told) =
    (is_layer (layers_in old.core) index ≡ true) × (told ≡ length new.saved.items)
    × (new.core ≡ old.core) × (new.reply ≡ old.reply) × (new.jobs ≡ old.jobs)
    × (new.begun ≡ old.begun)
ListsLayer index old new (Err outcome.NoLayer) =
    (new ≡ old) × (is_layer (layers_in old.core) index ≡ false)
ListsLayer index old new (Err outcome.NoMemory) = new ≡ old
ListsLayer index old new (Err _) = ⊥

-- so many of some bytes, from a place on, stand first in some room, which is else as it was
abbrev pub IsPieceOf : List ℕ → ℕ → List ℕ → List ℕ → ℕ → Type 0
IsPieceOf bytes at before after count =
    (left : ℕ) × IsCopied (drop at bytes) before after left × (count ≡ min left (length before))

-- A PIECE OF WHAT WAS SAVED LAST goes into some room
abbrev pub Recalls : ℕ → List ℕ → List ℕ → Mounted → Mounted → Result ℕ Outcome → Type 0
Recalls at before after old new (Ok count) =
    (new ≡ old) × IsPieceOf old.saved.items at before after count
Recalls at before after old new (Err _) = ⊥
