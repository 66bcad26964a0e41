-- What the inotify instances of every run keep (inotify_add_watch(2): each watch has a number of its own, and an object has one watch of a
-- client at most; inotify(7): the queue of unread events has a limit).
use Rattle.std.specs.Prelude.{◌≡◌, ◌≢◌, ℕ, ◌<◌, ◌≤◌, List, nat_eq, bit_and, length, map}
use Rattle.std.specs.List.{All, AllPairs, IsDistinct}
use Rattle.plain_model.specs.Tree.{Tree}
use Rattle.plain_model.specs.Watching.{EVENTS, Watch, Instance, Rule, IsQueue}
use Rattle.plain_model.specs.Machine.{MountOptions, State, opening}
use Rattle.plain_model.specs.Refusals.{WATCHES_MAX}
use Rattle.plain_model.specs.Runs.{HOOKS_MAX, Deed, Entry, Does, Run}

-- the clients whose instances these are
abbrev pub hearers_of : List Instance → List ℕ
hearers_of es = map {A = Instance} (λ e. e.client) es

-- A watch of an instance that has so many hooks, and has given so many numbers. Its mask has no
-- bits but those of events.
pub record IsWatch (hooks armed : ℕ) (w : Watch) : Type 0 where
  pub slot : w.slot < hooks
  pub positive : 0 < w.number
  pub given : w.number ≤ armed
  pub events : bit_and w.mask EVENTS ≡ w.mask

-- two watches of one instance, the earlier one first: the numbers rise, and the slots and the nodes differ
pub record AreApart (v w : Watch) : Type 0 where
  pub rising : v.number < w.number
  pub slots : v.slot ≢ w.slot
  pub nodes : v.node ≢ w.node

-- what an instance keeps
pub record IsInstance (e : Instance) : Type 0 where
  pub hooks : length e.tags ≤ HOOKS_MAX
  pub watches : All (IsWatch (length e.tags) e.armed) e.watches
  pub apart : AllPairs AreApart e.watches
  pub few : e.armed ≤ WATCHES_MAX
  pub unread : IsQueue e.queue

-- what the instances of a state keep: no two are one client's, and each client's number was given
pub record AreInstances (s : State) : Type 0 where
  pub apart : IsDistinct nat_eq (hearers_of s.instances)
  pub before : All (λ c. c < s.arrived) (hearers_of s.instances)
  pub each : All IsInstance s.instances

-- whatever a client does, the instances keep it
abbrev pub LawOfInstances : Rule → Type 0
LawOfInstances shows = (old new : State) (c : ℕ) (deed : Deed) → AreInstances old → Does shows old c deed new → AreInstances new

-- so they have it in the last state of every run of a mount
abbrev pub LawOfInstancesOfRuns : Rule → Type 0
LawOfInstancesOfRuns shows =
    (t : Tree) (options : MountOptions) (es : List Entry) (last : State) → Run shows (opening t options) es last → AreInstances last
