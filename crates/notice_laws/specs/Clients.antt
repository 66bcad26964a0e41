-- What is kept for watches as a mount begins, as clients come and go, and by the calls on watches (inotify_add_watch(2),
-- inotify_rm_watch(2) and inotify(7)).
use Rattle.std.specs.Prelude.{◌≡◌, ℕ, ℤ, not, List, [], ◌∷◌, ◌++◌, None, Some, nat_eq, filter, drop}
use Rattle.ov_base.specs.declared.call.CallOf.TheVariants.{Arm, Disarm, TakeNotices}
use Rattle.ov_base.specs.declared.node_id.NodeId.TheVariants.{New}
use Rattle.plain_model.specs.Layers.{Path, Layer}
use Rattle.plain_model.specs.Tree.{Tree}
use Rattle.plain_model.specs.Watching.{IGNORED, Only, Rule, silent}
use Rattle.plain_model.specs.Machine.{MountOptions, State, opening, instance_of}
use Rattle.plain_model.specs.Changes.{armed_on, at_client}
use Rattle.plain_model.specs.Runs.{joined, without_instance, without_table}
use Rattle.plain_model.specs.Alike.{AnswersAlike}
use Rattle.object_table.specs.Objects.{spot_of}
use Rattle.open_handles.specs.TrackedHandles.{clients_of, tracked_by}
use Rattle.notice_laws.specs.declared.object.Object.{Object}
use Rattle.notice_laws.specs.Notified.{Notified, AreKnown, stands_for, Tracks, Passes, Resumes}
use Rattle.notice_laws.specs.Objects.{IsObject, IsNumberOf}
use Rattle.notice_laws.specs.Opens.{AreFewer}
use Rattle.notice_laws.specs.Telling.{Tells, Stays}

-- a mount begins with nothing tracked, no client and no rename
abbrev pub LawOfBegun : Type 0
LawOfBegun =
    (U : Layer) (t : Tree) (options : MountOptions) (k : Notified) → ((n : ℕ) → spot_of k.objects n ≡ None) →
    k.handles ≡ [] → k.instances ≡ [] → k.renames ≡ 0 → Tracks U (opening t options) k

-- a client comes: it has nothing open and no watch
pub record Joins (old new : Notified) (c : ℕ) (tags : List ℕ) : Type 0 where
  pub objects : AreFewer old.objects new.objects
  pub clients : clients_of new.handles ≡ clients_of old.handles ++ c ∷ []
  pub slots : (k i : ℕ) → tracked_by new.handles k i ≡ tracked_by old.handles k i
  pub instances : new.instances ≡ old.instances ++ silent c tags ∷ []
  pub renames : new.renames ≡ old.renames

abbrev pub LawOfJoined : Type 0
LawOfJoined =
    (U : Layer) (s : State) (tags : List ℕ) (old new : Notified) → Tracks U s old → AreKnown new → Joins old new s.arrived tags →
    Tracks U (joined s tags) new

-- a client that goes has no watches first
pub record Mutes (old new : Notified) (c : ℕ) : Type 0 where
  pub objects : AreFewer old.objects new.objects
  pub handles : new.handles ≡ old.handles
  pub instances : new.instances ≡ filter (λ e. not (nat_eq e.client c)) old.instances
  pub renames : new.renames ≡ old.renames

abbrev pub LawOfMuted : Type 0
LawOfMuted =
    (U : Layer) (s : State) (c : ℕ) (old new : Notified) → Tracks U s old → AreKnown new → Mutes old new c →
    Tracks U (without_instance s c) new

-- and at last, with nothing open, no descriptors
pub record Departs (old new : Notified) (c : ℕ) : Type 0 where
  pub bare : (i : ℕ) → tracked_by old.handles c i ≡ None
  pub objects : AreFewer old.objects new.objects
  pub clients : clients_of new.handles ≡ filter (λ k. not (nat_eq k c)) (clients_of old.handles)
  pub slots : (k i : ℕ) → tracked_by new.handles k i ≡ tracked_by old.handles k i
  pub instances : new.instances ≡ old.instances
  pub renames : new.renames ≡ old.renames

abbrev pub LawOfDeparted : Type 0
LawOfDeparted =
    (U : Layer) (s : State) (c : ℕ) (old new : Notified) → Tracks U s old → AreKnown new → Departs old new c →
    Tracks U (without_table s c) new

-- what calls ask of a client's instance is answered alike
abbrev pub LawOfAsked : Type 0
LawOfAsked =
    (U : Layer) (s : State) (k : Notified) → (t : Tracks U s k) → (c : ℕ) →
    AnswersAlike (stands_for k.objects t.bearers) (instance_of k.instances c) (instance_of s.instances c)

-- a slot is armed on what stands at p, by its number
pub record Armed (old new : Notified) (c slot mask : ℕ) (p : Path) (o : Object) : Type 0 where
  pub number : ℕ
  pub found : IsNumberOf old.objects p o (Some number)
  pub instances : new.instances ≡ at_client c (armed_on slot (Some (New number)) mask) old.instances
  pub objects : AreFewer old.objects new.objects
  pub handles : new.handles ≡ old.handles
  pub renames : new.renames ≡ old.renames

abbrev pub LawOfArmed : Rule → Type 0
LawOfArmed shows =
    (U V : Layer) (lowers : List Layer) (s : State) (c slot mask : ℕ) (p : Path) → Passes U V lowers s c (Arm slot p mask) →
    (o : Object) → IsObject U lowers p o → (old new : Notified) → Tracks U s old → AreKnown new →
    Armed old new c slot mask p o → Resumes shows V s c (Arm slot p mask) new

-- a watch is taken away: it is told so, and gone
pub record Disarmed (shows : Rule) (old new : Notified) (c : ℕ) (number : ℤ) : Type 0 where
  pub tells : Tells shows old new (record { aim = Only c number; bits = IGNORED; cookie = 0; name = None } ∷ []) Stays
  pub handles : new.handles ≡ old.handles
  pub renames : new.renames ≡ old.renames

abbrev pub LawOfDisarmed : Rule → Type 0
LawOfDisarmed shows =
    (U V : Layer) (lowers : List Layer) (s : State) (c : ℕ) (number : ℤ) → Passes U V lowers s c (Disarm number) →
    (old new : Notified) → Tracks U s old → AreKnown new → Disarmed shows old new c number → Resumes shows V s c (Disarm number) new

-- notices are read
pub record Takes (old new : Notified) (c count : ℕ) : Type 0 where
  pub instances : new.instances ≡ at_client c (λ e. record e { queue = drop count e.queue }) old.instances
  pub objects : new.objects ≡ old.objects
  pub handles : new.handles ≡ old.handles
  pub renames : new.renames ≡ old.renames

abbrev pub LawOfTaken : Rule → Type 0
LawOfTaken shows =
    (U V : Layer) (lowers : List Layer) (s : State) (c count : ℕ) → Passes U V lowers s c (TakeNotices count) →
    (old new : Notified) → Tracks U s old → Takes old new c count → Resumes shows V s c (TakeNotices count) new
