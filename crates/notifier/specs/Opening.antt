-- What is taken for an open before the mount changes: what its handle uses is held, and its descriptor is on it.
use Rattle.std.specs.Prelude.{◌≡◌, ◌↔◌, ◌+◌, ◌<◌, ℕ, [], ◌∷◌, Option, None, Some}
use Rattle.plain_model.specs.Layers.{Path}
use Rattle.open_handles.specs.declared.tracked_client.TrackedHandle.{TrackedHandle}
use Rattle.open_handles.specs.declared.tracked_client.Way.{Way}
use Rattle.object_table.specs.Objects.{Objects, Spot, At, Nowhere, spot_of, holders_of, Holds, SameSpots, SetsSpot}
use Rattle.open_handles.specs.TrackedHandles.{SetsTracked, clients_of, handle_uses, tracked_by}
use Rattle.notice_laws.specs.declared.object.Object.{Object}
use Rattle.notice_laws.specs.Notified.{Notified}
use Rattle.notice_laws.specs.Objects.{IsNumberOf}
use Rattle.notice_laws.specs.Opens.{AreFewer}
use Rattle.notice_laws.specs.Steps.{IsSpotOf}

-- the directory of a path is held once more, for this way in; the root has none
abbrev pub HoldsWay : Objects → Objects → Path → Option Way → Type 0
HoldsWay old new [] r = (r ≡ None) × SameSpots old new
HoldsWay old new (n ∷ p) None = ⊥
HoldsWay old new (n ∷ p) (Some w) = Holds old new (At p) w.directory × (w.name ≡ n)

-- a number has a spot exactly where somebody holds it
abbrev pub AreHeld : Objects → Type 0
AreHeld t = (n : ℕ) → (spot_of t n ≡ None) ↔ (holders_of t n ≡ 0)

-- one more holds what stands at p, o
pub record HoldsObject (old new : Objects) (p : Path) (o : Object) (n : ℕ) : Type 0 where
  pub spot : Spot
  pub stands : IsSpotOf p o spot
  pub holds : Holds old new spot n

-- For a handle on what stands at p, o, its way in is held, and then the object.
pub record HoldsBoth (old new : Objects) (p : Path) (o : Object) (h : TrackedHandle) : Type 0 where
  pub mid : Objects
  pub way : HoldsWay old mid p h.way
  pub object : HoldsObject mid new p o h.object

-- For a handle on a file that is to be made at p, its way in is held, and then a number that was nobody's, which is nowhere.
pub record HoldsNew (old new : Objects) (p : Path) (h : TrackedHandle) : Type 0 where
  pub mid : Objects
  pub way : HoldsWay old mid p h.way
  pub unknown : spot_of mid h.object ≡ None
  pub object : SetsSpot mid new h.object (Some Nowhere) 1

-- so many hold each object besides, and what somebody held is where it was
pub record HoldsFor (old new : Objects) (more : ℕ → ℕ) : Type 0 where
  pub kept : (n : ℕ) → 0 < holders_of old n → spot_of new n ≡ spot_of old n
  pub holders : (n : ℕ) → holders_of new n ≡ holders_of old n + more n

-- A client's free descriptor is on a handle now, for which what it uses is held.
pub record Readies (old new : Notified) (c fd : ℕ) (h : TrackedHandle) : Type 0 where
  pub objects : HoldsFor old.objects new.objects (λ n. handle_uses n h)
  pub free : tracked_by old.handles c fd ≡ None
  pub sets : SetsTracked old.handles new.handles c fd (Some h)
  pub instances : new.instances ≡ old.instances
  pub renames : new.renames ≡ old.renames
  pub pinned : new.pinned ≡ old.pinned

-- AN OPEN IS READY: a client's free descriptor is on what stands at p, o, by the way in to it.
pub record IsReady (old new : Notified) (c fd : ℕ) (p : Path) (o : Object) : Type 0 where
  pub handle : TrackedHandle
  pub holds : HoldsBoth old.objects new.objects p o handle
  pub readies : Readies old new c fd handle

-- AN OPEN THAT MAKES ITS FILE IS READY: a client's free descriptor is on the file that is to be made at p, by the way in to it.
pub record IsReadyNew (old new : Notified) (c fd : ℕ) (p : Path) : Type 0 where
  pub handle : TrackedHandle
  pub holds : HoldsNew old.objects new.objects p handle
  pub readies : Readies old new c fd handle

-- a client's descriptor is on what stands at p, o
abbrev pub IsOpenAt : Notified → ℕ → ℕ → Path → Object → Type 0
IsOpenAt k c fd p o = (h : TrackedHandle) × (tracked_by k.handles c fd ≡ Some h) × IsNumberOf k.objects p o (Some h.object)

-- a client's descriptor is on an object that is nowhere
abbrev pub IsOpenNowhere : Notified → ℕ → ℕ → Type 0
IsOpenNowhere k c fd = (h : TrackedHandle) × (tracked_by k.handles c fd ≡ Some h) × (spot_of k.objects h.object ≡ Some Nowhere)

-- what is tracked was tracked, where it is and by as many held
pub record AreNoMore (old new : Objects) : Type 0 where
  pub spots : AreFewer old new
  pub holders : (n : ℕ) → holders_of new n ≡ holders_of old n

-- all is as before
pub record IsBack (old new : Notified) : Type 0 where
  pub objects : AreNoMore old.objects new.objects
  pub clients : clients_of new.handles ≡ clients_of old.handles
  pub slots : (c d : ℕ) → tracked_by new.handles c d ≡ tracked_by old.handles c d
  pub instances : new.instances ≡ old.instances
  pub renames : new.renames ≡ old.renames
  pub pinned : new.pinned ≡ old.pinned
