-- What an instance keeps, when it refuses to arm, and what the calls of one client make of it.
use Rattle.std.specs.Prelude.{◌≡◌, ℕ, ◌≤◌, not, cond, Bool, ◌&&◌, List, Option, None, Some, is_none, nat_eq, nat_lt, length, All, map, slice_index_or}
use Rattle.std.specs.List.{list_any, IsDistinct}
use Rattle.ov_base.specs.declared.errno.Errno.{Errno}
use Rattle.ov_base.specs.declared.errno.Errno.TheVariants.{EINVAL, EBUSY, ENOSPC}
use Rattle.ov_base.specs.declared.node_id.NodeId.{NodeId}
use Rattle.ov_base.specs.declared.node_id.NodeId.TheVariants.{New}
use Rattle.ov_base.specs.declared.notice.Event.{Event}
use Rattle.plain_model.specs.Watching.{Watch, Instance, Subject, Rule, events, asked, passed, Puts}
use Rattle.plain_model.specs.Tree.{same_id}
use Rattle.plain_model.specs.Machine.{watch_on}
use Rattle.plain_model.specs.Changes.{re_mask}
use Rattle.plain_model.specs.Refusals.{◌or_else◌, when, bad_mask, is_busy, WATCHES_MAX}
use Rattle.plain_model.specs.Runs.{HOOKS_MAX}
pub use Rattle.plain_model.specs.Instances.{IsWatch}

-- What an instance keeps. No two of its watches have one slot, so they are at most as many as its hooks.
pub record IsInstance (e : Instance) : Type 0 where
  pub hooks : length e.tags ≤ HOOKS_MAX
  pub watches : All (IsWatch (length e.tags) e.armed) e.watches
  pub few : e.armed ≤ WATCHES_MAX
  pub numbers : IsDistinct nat_eq (map {A = Watch} (λ w. w.number) e.watches)
  pub slots : IsDistinct nat_eq (map {A = Watch} (λ w. w.slot) e.watches)
  pub objects : IsDistinct same_id (map {A = Watch} (λ w. w.node) e.watches)

-- the refusals of arm once the slot and the mask are good and an object stands at the path: of these watches, and so many numbers given
abbrev pub arm_refusal : List Watch → ℕ → ℕ → NodeId → Option Errno
arm_refusal ws armed slot d =
    when (is_busy ws slot (Some d)) EBUSY
    or_else when (is_none (watch_on ws (Some d)) && not (nat_lt armed WATCHES_MAX)) ENOSPC

-- the same of an object that nobody watches: the slot has a watch, or all numbers were given
abbrev pub new_refusal : List Watch → ℕ → ℕ → Option Errno
new_refusal ws armed slot =
    when (list_any (λ w. nat_eq w.slot slot) ws) EBUSY
    or_else when (not (nat_lt armed WATCHES_MAX)) ENOSPC

-- the same of the object of a number, or of one that has none yet, which nobody watches
abbrev pub number_refusal : List Watch → ℕ → ℕ → Option ℕ → Option Errno
number_refusal ws armed slot (Some n) = arm_refusal ws armed slot (New n)
number_refusal ws armed slot None = new_refusal ws armed slot

-- the refusals of arm before the path is walked
abbrev pub slot_refusal : ℕ → ℕ → ℕ → Option Errno
slot_refusal hooks slot mask = when (not (nat_lt slot hooks)) EINVAL or_else when (bad_mask mask) EINVAL

-- whether one of these watches is on the object of a number
abbrev pub is_on : ℕ → List Watch → Bool
is_on object ws = list_any (λ w. same_id (New object) w.node) ws

-- a watch where the node d is armed again
abbrev pub rearmed : NodeId → ℕ → Watch → Watch
rearmed d mask w = cond (same_id d w.node) (re_mask mask w) w

-- what a subject asks at one watch of a client whose hooks have these tags
abbrev pub asked_of : ℕ → List ℕ → Subject → Watch → List (ℕ × Event)
asked_of c tags s w = map (λ v. (slice_index_or tags w.slot 0, v)) (events c s w)

-- the event of a subject, for a watch of any number
abbrev pub IsEventOf : Subject → Event → Type 0
IsEventOf s v = v ≡ record { watch = v.watch; bits = s.bits; cookie = s.cookie; name = s.name }

-- a client hears one subject
pub record HearsOne (shows : Rule) (s : Subject) (old new : Instance) : Type 0 where
  pub watches : new ≡ record (passed old s) { queue = new.queue }
  pub queue : Puts shows (asked old s) old.queue new.queue
