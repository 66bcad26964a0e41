-- Which descriptor of a client is free.
use Rattle.std.specs.Prelude.{◌≡◌, ℕ, ◌<◌, true, None, is_some}
use Rattle.mount_calls.specs.declared.clients.Clients.{Clients}
use Rattle.mount_calls.specs.Attaching.{opened_by}

-- the lowest descriptor of a client that isn't open
pub record IsLowestFree (clients : Clients) (c d : ℕ) : Type 0 where
  pub in_range : d < 64
  pub free : opened_by clients c d ≡ None
  pub lowest : (k : ℕ) → k < d → is_some (opened_by clients c k) ≡ true

-- a client has all its descriptors open
abbrev pub IsFull : Clients → ℕ → Type 0
IsFull clients c = (d : ℕ) → d < 64 → is_some (opened_by clients c d) ≡ true
