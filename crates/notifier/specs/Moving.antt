-- What a rename holds beforehand, and when it takes no memory.
use Rattle.std.specs.Prelude.{◌≡◌, ◌⊎◌, ℕ, suc, zero, ◌+◌, ◌<◌, ◌^◌, true, [], ◌∷◌, Option, None, Some}
use Rattle.plain_model.specs.Layers.{Path}
use Rattle.plain_model.specs.Laws.{IsOutside}
use Rattle.open_handles.specs.declared.tracked_client.Way.{Way}
use Rattle.object_table.specs.Objects.{Objects, At, Holds, IsPrepared, IsVacant, Upper, spot_of}
use Rattle.open_handles.specs.TrackedHandles.{TrackedTables, handles_by}
use Rattle.notice_laws.specs.declared.object.Object.{Object}
use Rattle.notice_laws.specs.declared.object.Object.TheVariants as object
use Rattle.notice_laws.specs.declared.pin.Pin.{Pin}
use Rattle.notice_laws.specs.Notified.{AreKnown, Notified}
use Rattle.notice_laws.specs.Objects.{IsNumberOf, IsWayTo}
use Rattle.notice_laws.specs.Opens.{AreFewer}
use Rattle.notice_laws.specs.Steps.{IsSpotOf, is_last_name}
use Rattle.notifier.specs.Notifying.{AreCounted, HasRoom, IsBareAt}
use Rattle.notifier.specs.Opening.{AreHeld}

-- how many handles are on the object of a number by exactly this way
abbrev pub led_by : TrackedTables → Option ℕ → Option Way → ℕ
led_by ks (Some n) (Some w) = handles_by ks n w
led_by ks (Some n) None = 0
led_by ks None w = 0

-- the directory of the new way is held as often as handles get that way
abbrev pub IsPin : Option Way → ℕ → Option Pin → Type 0
IsPin to zero pin = pin ≡ None
IsPin None (suc count) pin = ⊥
IsPin (Some w) (suc count) pin = pin ≡ Some (record { number = w.directory; count = suc count })

-- what a rename of what stands at p, o, to q holds is the directory of q, once for each handle that came by the way to p
pub record IsPinned (k : Notified) (p q : Path) (o : Object) : Type 0 where
  pub number : Option ℕ
  pub found : IsNumberOf k.objects p o number
  pub from : Option Way
  pub left : IsWayTo k.objects p from
  pub pin : (to : Option Way) → IsWayTo k.objects q to → IsPin to (led_by k.handles number from) k.pinned

-- so the rename takes no memory: there is room where a file of a lower layer is copied up by it, and for a directory that goes along
pub record IsReady (k : Notified) (p q : Path) (o : Object) : Type 0 where
  pub pinned : IsPinned k p q o
  pub counted : k.renames + 1 < 2 ^ 64
  pub room : HasRoom k.objects p o
  pub prepared : o ≡ object.Directory → IsPrepared k.objects p q

-- A directory may take the place q from p, where e stands: it is none below itself, and a directory is replaced, or nothing.
pub record IsPlaceFor (k : Notified) (p q : Path) (e : Object) : Type 0 where
  pub apart : IsOutside p q
  pub replaced : (e ≡ object.Directory) ⊎ ((e ≡ object.Other) × IsVacant k.objects (At q))

-- Nothing is tracked below a file of a lower layer that comes from p to q, nor under the key by which it comes there, but what is replaced
-- and has no other name.
abbrev pub IsFreeFor : Objects → Path → Path → Object → Object → ℕ → Type 0
IsFreeFor objects p q object.Lower e key =
    (n : ℕ) → spot_of objects n ≡ Some (At p) →
    ((m : ℕ) → spot_of objects m ≡ Some (Upper key) → (is_last_name e ≡ true) × IsSpotOf q e (Upper key)) × IsBareAt objects p
IsFreeFor objects p q object.Directory e key = Unit {0}
IsFreeFor objects p q (object.Upper k last) e key = Unit {0}
IsFreeFor objects p q object.Other e key = Unit {0}

-- one may hold what is at a path, and nothing else is tracked that wasn't
pub record HoldsMore (old new : Objects) (p : Path) : Type 0 where
  pub held : Objects
  pub number : ℕ
  pub holds : Holds old held (At p) number
  pub fewer : AreFewer held new

-- more may hold what is at a path, and nothing else is tracked that wasn't
abbrev pub MayHoldAt : Objects → Objects → Path → Type 0
MayHoldAt old new p = AreFewer old new ⊎ HoldsMore old new p

-- so it is with the directory of a path
abbrev pub MayHold : Objects → Objects → Path → Type 0
MayHold old new [] = AreFewer old new
MayHold old new (n ∷ p) = MayHoldAt old new p

-- what is at a path is held so often for a rename
abbrev pub IsPinOf : Notified → Path → ℕ → Type 0
IsPinOf k p count = (n : ℕ) × (k.pinned ≡ Some (record { number = n; count = count })) × (spot_of k.objects n ≡ Some (At p))

-- what a rename held is let go: nothing else is tracked that wasn't, and all else stays
pub record LetsGo (old new : Notified) : Type 0 where
  pub fewer : AreFewer old.objects new.objects
  pub rest : new ≡ record old { objects = new.objects; pinned = None }

-- A RENAME IS PREPARED: what an earlier one held was let go, and then the directory of q may be
-- held.
pub record IsHeldFor (old new : Notified) (q : Path) : Type 0 where
  pub mid : Notified
  pub dropped : LetsGo old mid
  pub known : AreKnown mid
  pub counted : AreCounted mid
  pub held : AreHeld mid.objects
  pub holds : MayHold mid.objects new.objects q
  pub rest : new ≡ record mid { objects = new.objects; pinned = new.pinned }
