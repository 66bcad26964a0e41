-- The descriptors of a client: a slot for each number up to the greatest that was open.
use Rattle.std.specs.Prelude.{◌≡◌, ◌≢◌, ℕ, ◌<◌, List, true, Option, Some, None, is_some}
use Rattle.std.specs.List.{slice_get}

-- what stands in a slot
abbrev pub in_slot : {D : Type 0} → Option (Option D) → Option D
in_slot None = None
in_slot (Some slot) = slot

-- what is open under a descriptor
abbrev pub opened : {D : Type 0} → List (Option D) → ℕ → Option D
opened slots d = in_slot (slice_get slots d)

-- all 64 descriptors are open
abbrev pub IsFull : {D : Type 0} → List (Option D) → Type 0
IsFull slots = (k : ℕ) → k < 64 → is_some (opened slots k) ≡ true

-- this is the lowest descriptor that isn't open
pub record IsLowestFree {D : Type 0} (slots : List (Option D)) (d : ℕ) : Type 0 where
  pub in_range : d < 64
  pub free : opened slots d ≡ None
  pub lowest : (k : ℕ) → k < d → is_some (opened slots k) ≡ true

-- only what is open under one descriptor changed
pub record SetsSlot {D : Type 0} (old new : List (Option D)) (d : ℕ) (value : Option D) : Type 0 where
  pub here : opened new d ≡ value
  pub others : (k : ℕ) → k ≢ d → opened new k ≡ opened old k
