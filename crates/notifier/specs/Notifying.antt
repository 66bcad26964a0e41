-- What is counted of what a mount keeps for watches, and what its steps make of it.
use Rattle.std.specs.Prelude.{◌≡◌, ◌≢◌, ℕ, ◌+◌, ◌<◌, true, false, cond, List, [], Option, None, Some, count_by, nat_eq}
use Rattle.plain_model.specs.Layers.{Path}
use Rattle.plain_model.specs.Watching.{MOVES, OTHERS, Instance, Rule, Subject, AllHear, is_one_of}
use Rattle.object_table.specs.Objects.{Objects, Spot, At, Upper, spot_of, holders_of, room, IsVacant, NoneBelow}
use Rattle.open_handles.specs.TrackedHandles.{clients_of, tracked_by, uses}
use Rattle.watch_table.specs.Listening.{is_on}
use Rattle.notice_laws.specs.declared.object.Object.{Object}
use Rattle.notice_laws.specs.declared.object.Object.TheVariants as object
use Rattle.notice_laws.specs.declared.pin.Pin.{Pin}
use Rattle.notice_laws.specs.Notified.{Notified}
use Rattle.notice_laws.specs.Opens.{AreFewer}

-- how many clients watch the object of a number
abbrev pub watchers : List Instance → ℕ → ℕ
watchers es n = count_by (λ e. is_on n e.watches) es

-- how often a rename that is under way holds the object of a number
abbrev pub pinned_times : Option Pin → ℕ → ℕ
pinned_times None n = 0
pinned_times (Some pin) n = cond (nat_eq pin.number n) pin.count 0

-- HOLDERS COUNTED: an object is held for each handle that uses it, once for each client that watches it, and as often as a rename holds it
-- that is under way.
abbrev pub AreCounted : Notified → Type 0
AreCounted k = (n : ℕ) → holders_of k.objects n ≡ uses k.handles n + watchers k.instances n + pinned_times k.pinned n

-- bits of an event that is not a rename's
abbrev pub IsOther : ℕ → Type 0
IsOther bits = (is_one_of MOVES bits ≡ false) × (is_one_of OTHERS bits ≡ true)

-- Subjects were told: the watches that they end are gone, and no more is tracked; all else is as it was.
pub record IsTold (shows : Rule) (old new : Notified) (ss : List Subject) : Type 0 where
  pub hears : AllHear shows ss old.instances new.instances
  pub objects : AreFewer old.objects new.objects
  pub handles : new.handles ≡ old.handles
  pub renames : new.renames ≡ old.renames

-- there is room for a file of a lower layer that is tracked at a path to come into the upper
abbrev pub HasRoom : Objects → Path → Object → Type 0
HasRoom objects p object.Lower = (n : ℕ) → spot_of objects n ≡ Some (At p) → 0 < room objects
HasRoom objects p object.Directory = Unit {0}
HasRoom objects p (object.Upper key last) = Unit {0}
HasRoom objects p object.Other = Unit {0}

-- a path isn't the root's, and nothing is tracked below it, as below a file or a directory without names
abbrev pub IsBareAt : Objects → Path → Type 0
IsBareAt objects p = (p ≢ []) × NoneBelow objects p

-- nothing is tracked under the key by which such a file comes there, nor below the file
abbrev pub IsFree : Objects → Path → Object → ℕ → Type 0
IsFree objects p object.Lower key = (n : ℕ) → spot_of objects n ≡ Some (At p) → IsVacant objects (Upper key) × IsBareAt objects p
IsFree objects p object.Directory key = Unit {0}
IsFree objects p (object.Upper k last) key = Unit {0}
IsFree objects p object.Other key = Unit {0}

-- a file of a lower layer that is tracked at a path may come into the upper under a key
abbrev pub MayLift : Objects → Path → Object → ℕ → Type 0
MayLift objects p o key = HasRoom objects p o × IsFree objects p o key

-- each object that is tracked still was tracked, and its spot became what a change makes of it
abbrev pub Becomes : (Spot → Spot → Type 0) → Objects → Objects → Type 0
Becomes becomes old new = (n : ℕ) (spot : Spot) → spot_of new n ≡ Some spot → (was : Spot) × (spot_of old n ≡ Some was) × becomes was spot

-- all is as before: what is tracked, what descriptors are on, and what clients watch
pub record IsAsBefore (old new : Notified) : Type 0 where
  pub objects : new.objects ≡ old.objects
  pub clients : clients_of new.handles ≡ clients_of old.handles
  pub slots : (c d : ℕ) → tracked_by new.handles c d ≡ tracked_by old.handles c d
  pub instances : new.instances ≡ old.instances
  pub renames : new.renames ≡ old.renames
