-- Which clients watch each object, as an index by the objects' numbers has it.
use Rattle.std.specs.Prelude.{◌≡◌, ◌≢◌, ℕ, List, [], nat_eq, slice_index_or}
use Rattle.std.specs.List.{list_any, IsDistinct}
use Rattle.plain_model.specs.Watching.{Instance}
use Rattle.watch_table.specs.Clients.{watches}

-- the clients of each object, in a row by the objects' numbers
abbrev pub Watched : Type 0
Watched = List (List ℕ)

-- the clients that watch the object of a number; an object past the row's end has none
abbrev pub watchers_of : Watched → ℕ → List ℕ
watchers_of t object = slice_index_or t object []

-- these clients watch the object now, and every other has the same as before
pub record SetsWatchers (old new : Watched) (object : ℕ) (clients : List ℕ) : Type 0 where
  pub here : watchers_of new object ≡ clients
  pub others : (n : ℕ) → n ≢ object → watchers_of new n ≡ watchers_of old n

-- the same clients watch each object as before
abbrev pub SameWatchers : Watched → Watched → Type 0
SameWatchers old new = (n : ℕ) → watchers_of new n ≡ watchers_of old n

-- an index of instances: for each object exactly the clients that watch it, each once
pub record IsIndexOf (es : List Instance) (t : Watched) : Type 0 where
  pub exact : (object c : ℕ) → list_any (nat_eq c) (watchers_of t object) ≡ watches es object c
  pub once : (object : ℕ) → IsDistinct nat_eq (watchers_of t object)
