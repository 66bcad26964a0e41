-- One step of the plain machine, its runs, and the histories of a mount: what clients see happens as if one call at a time was made
-- on one plain tree (linearizability: Herlihy and Wing, 1990; the calls are those of POSIX.1-2017 and inotify(7)).
use Rattle.std.specs.Prelude.{◌≡◌, ℕ, suc, ◌≤◌, ◌<◌, Bool, true, false, not, List, [], ◌∷◌, ◌++◌, Option, None, Some, nat_eq, length, filter, count_by, IsTrue, ◌↔◌}
use Rattle.std.specs.List.{list_any}
use Rattle.ov_base.specs.Calls.{Call}
use Rattle.ov_base.specs.declared.call.CallOf.TheVariants.{Close}
use Rattle.ov_base.specs.declared.errno.Errno.{Errno}
use Rattle.ov_base.specs.declared.reply.Reply.{Reply}
use Rattle.ov_base.specs.declared.reply.Reply.TheVariants.{Refused}
use Rattle.plain_model.specs.Tree.{IsKept}
use Rattle.plain_model.specs.Watching.{silent, Rule, AllHear}
use Rattle.plain_model.specs.Machine.{Handle, State, free_table, handles_of}
use Rattle.plain_model.specs.Refusals.{refusal}
use Rattle.plain_model.specs.Changes.{makes, next_if, tree_after, after}
use Rattle.plain_model.specs.Replies.{reply_of}
use Rattle.plain_model.specs.Subjects.{subjects}

-- A call that is not refused: its reply, all of the state but the instances by its columns, and the
-- instances by what the callbacks made of the events.
pub record Taken (shows : Rule) (old : State) (c : ℕ) (call : Call) (reply : Reply) (new : State) : Type 0 where
  pub answer : reply ≡ reply_of old c call
  pub state : new ≡ record (after old c call) { instances = new.instances }
  pub heard : AllHear shows (subjects old c call) (after old c call).instances new.instances

-- a call by its refusal: refused, it changes nothing
abbrev pub Answered : Option Errno → Rule → State → ℕ → Call → Reply → State → Type 0
Answered (Some e) shows old c call reply new = (reply ≡ Refused e) × (new ≡ old)
Answered None shows old c call reply new = Taken shows old c call reply new

-- each call that is not refused keeps what trees keep, so every state of a run has it
abbrev pub LawOfNames : Type 0
LawOfNames = (s : State) (c : ℕ) (call : Call) → IsKept s.tree s.serial → refusal s c call ≡ None → IsKept (tree_after s c call) (next_if (makes s call) s.serial)

-- from the old state, the machine may give this reply to the client's call and go on to the new state
abbrev pub Step : Rule → State → ℕ → Call → Reply → State → Type 0
Step shows old c call reply new = Answered (refusal old c call) shows old c call reply new

abbrev pub is_attached : State → ℕ → Bool
is_attached s c = list_any (λ k. nat_eq k.client c) s.tables

-- the most hooks of a client, and the most clients at a time
abbrev pub HOOKS_MAX : ℕ
HOOKS_MAX = 16

abbrev pub CLIENTS_MAX : ℕ
CLIENTS_MAX = 64

-- a client comes: the next number, free descriptors, its hooks' tags, an empty queue
abbrev pub joined : State → List ℕ → State
joined s tags = record s {
  arrived = suc s.arrived;
  tables = s.tables ++ free_table s.arrived ∷ [];
  instances = s.instances ++ silent s.arrived tags ∷ [];
}

-- a client goes: its watches unheard first, its descriptors last
abbrev pub without_instance : State → ℕ → State
without_instance s c = record s { instances = filter (λ e. not (nat_eq e.client c)) s.instances }

abbrev pub without_table : State → ℕ → State
without_table s c = record s { tables = filter (λ k. not (nat_eq k.client c)) s.tables }

-- closing the open handles from descriptor i on, in rising order
abbrev pub Closes : Rule → State → ℕ → ℕ → List (Option Handle) → State → Type 0
Closes shows old c i [] new = new ≡ old
Closes shows old c i (None ∷ hs) new = Closes shows old c (suc i) hs new
Closes shows old c i (Some h ∷ hs) new = (reply : Reply) × (mid : State) × Step shows old c (Close i) reply mid × Closes shows mid c (suc i) hs new

abbrev pub Leaves : Rule → State → ℕ → State → Type 0
Leaves shows old c new = (mid : State) × Closes shows (without_instance old c) c 0 (handles_of old.tables c) mid × (new ≡ without_table mid c)

-- what an entry of a history tells: a client came with these tags, made a call and got a reply, or went
pub data Deed : Type 0 where
  Attached : List ℕ → Deed
  Called : Call → Reply → Deed
  Detached : Deed

-- an entry of a history: whose it is, which of that client's it is, and what it tells
pub record Entry : Type 0 where
  pub client : ℕ
  pub number : ℕ
  pub deed : Deed

-- from the old state to the new one a client does this
abbrev pub Does : Rule → State → ℕ → Deed → State → Type 0
Does shows old c (Attached tags) new = (c ≡ old.arrived) × (length tags ≤ HOOKS_MAX) × (length old.tables < CLIENTS_MAX) × (new ≡ joined old tags)
Does shows old c (Called call reply) new = IsTrue (is_attached old c) × Step shows old c call reply new
Does shows old c Detached new = IsTrue (is_attached old c) × Leaves shows old c new

-- entries, each one step, from a state to a state
abbrev pub Run : Rule → State → List Entry → State → Type 0
Run shows old [] new = new ≡ old
Run shows old (e ∷ es) new = (mid : State) × Does shows old e.client e.deed mid × Run shows mid es new

abbrev pub is_of : ℕ → Entry → Bool
is_of c e = nat_eq e.client c

abbrev pub is_attach : Deed → Bool
is_attach (Attached tags) = true
is_attach _ = false

abbrev pub is_detach : Deed → Bool
is_detach Detached = true
is_detach _ = false

-- an entry is its client's next one after others: attach is the first, and none follows detach
pub record IsNext (before : List Entry) (e : Entry) : Type 0 where
  pub numbered : e.number ≡ suc (count_by (is_of e.client) before)
  pub attach_first : IsTrue (is_attach e.deed) ↔ (e.number ≡ 1)
  pub not_left : filter (λ x. is_detach x.deed) (filter (is_of e.client) before) ≡ []

-- each entry is its client's next one
abbrev pub IsNumberedAfter : List Entry → List Entry → Type 0
IsNumberedAfter before [] = Unit {0}
IsNumberedAfter before (e ∷ es) = IsNext before e × IsNumberedAfter (before ++ e ∷ []) es

-- a history from the opening state to the last one
pub record IsLegal (shows : Rule) (opening : State) (es : List Entry) (last : State) : Type 0 where
  pub run : Run shows opening es last
  pub numbered : IsNumberedAfter [] es
