-- What every state of a mount keeps beside what its tree keeps (POSIX.1-2017: a file whose last name goes stays while it is open; 2.14 File
-- Descriptor Allocation).
use Rattle.std.specs.Prelude.{◌≡◌, ℕ, ◌<◌, ◌≤◌, true, ◌||◌, List, nat_eq, is_some, length, map}
use Rattle.std.specs.List.{All, IsDistinct}
use Rattle.ov_base.specs.declared.node_id.NodeId.{NodeId}
use Rattle.plain_model.specs.Layers.{Layer}
use Rattle.plain_model.specs.Tree.{Tree, IsKept}
use Rattle.plain_model.specs.Merging.{IsMerge}
use Rattle.plain_model.specs.Watching.{Rule, Instance}
use Rattle.plain_model.specs.Machine.{DESCRIPTORS_MAX, Table, MountOptions, State, opening}
use Rattle.plain_model.specs.Changes.{is_named, is_held}
use Rattle.plain_model.specs.Runs.{CLIENTS_MAX, is_attached, Deed, Entry, Does, Run}

-- the clients whose descriptors these are
abbrev pub clients_of : List Table → List ℕ
clients_of ks = map {A = Table} (λ k. k.client) ks

-- What a state keeps beside what its tree keeps: a node is there exactly while it has a name or an open handle; the attached clients are
-- at most 64, no two have one number, and each number was given; each client has all its descriptors and, in the same order, its instance.
pub record IsSettled (s : State) : Type 0 where
  pub named : (d : NodeId) → is_some (s.tree d) ≡ true → is_named (s.tree d) || is_held s.tables d ≡ true
  pub there : (d : NodeId) → is_held s.tables d ≡ true → is_some (s.tree d) ≡ true
  pub apart : IsDistinct nat_eq (clients_of s.tables)
  pub before : (c : ℕ) → is_attached s c ≡ true → c < s.arrived
  pub full : All (λ (k : Table). length k.handles ≡ DESCRIPTORS_MAX) s.tables
  pub heard : map {A = Instance} (λ e. e.client) s.instances ≡ clients_of s.tables
  pub few : length s.tables ≤ CLIENTS_MAX

-- the rule by which callbacks may answer anything: what a step of any rule does, a step of this one does
abbrev pub Anything : Rule
Anything tag event answer = Unit {0}

-- a mount begins settled
abbrev pub LawOfSettledOpening : Type 0
LawOfSettledOpening =
    (U : Layer) (lowers : List Layer) (t : Tree) (options : MountOptions) → IsMerge U lowers t → IsSettled (opening t options)

-- whatever a client does, and whatever callbacks answer, a settled state stays one
abbrev pub LawOfSettling : Type 0
LawOfSettling =
    (old new : State) (c : ℕ) (deed : Deed) →
    IsKept old.tree old.serial → IsSettled old → Does Anything old c deed new → IsSettled new

-- so a run from a settled state ends in one
abbrev pub LawOfSettledRuns : Type 0
LawOfSettledRuns =
    (es : List Entry) (old new : State) →
    IsKept old.tree old.serial → IsSettled old → Run Anything old es new → IsSettled new
