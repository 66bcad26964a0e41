-- Watches: whom a change tells of, which watches that reaches, what their callbacks are asked, and the queues of notices (inotify(7)).
use Rattle.std.specs.Prelude.{◌≡◌, ◌≢◌, ◌↔◌, ℕ, ◌<◌, ◌≤◌, ◌^◌, ◌+◌, ℤ, pos, negsuc, Bool, true, false, cond, not, ◌&&◌, ◌||◌, List, [], ◌∷◌, ◌++◌, Option, None, Some, nat_eq, nat_lt, bit_and, length, filter, flat_map, map, slice_index_or, IfSome, IsTrue}
use Rattle.std.specs.List.{All, list_any}
use Rattle.std.specs.Ordering.{int_eq}
use Rattle.ov_base.specs.Names.{is_name}
use Rattle.ov_base.specs.declared.node_id.NodeId.{NodeId}
use Rattle.ov_base.specs.declared.notice.Event.{Event}
use Rattle.ov_base.specs.declared.notice.Notice.{Notice}
use Rattle.plain_model.specs.Layers.{Name, same_name}
use Rattle.plain_model.specs.Tree.{same_id}

-- the bits of events and masks, as sys/inotify.h has them
abbrev pub ACCESS : ℕ
ACCESS = 1

abbrev pub MODIFY : ℕ
MODIFY = 2

abbrev pub ATTRIB : ℕ
ATTRIB = 4

abbrev pub CLOSE_WRITE : ℕ
CLOSE_WRITE = 8

abbrev pub CLOSE_NOWRITE : ℕ
CLOSE_NOWRITE = 0x10

abbrev pub OPEN : ℕ
OPEN = 0x20

abbrev pub MOVED_FROM : ℕ
MOVED_FROM = 0x40

abbrev pub MOVED_TO : ℕ
MOVED_TO = 0x80

abbrev pub CREATE : ℕ
CREATE = 0x100

abbrev pub DELETE : ℕ
DELETE = 0x200

abbrev pub DELETE_SELF : ℕ
DELETE_SELF = 0x400

abbrev pub MOVE_SELF : ℕ
MOVE_SELF = 0x800

abbrev pub Q_OVERFLOW : ℕ
Q_OVERFLOW = 0x4000

abbrev pub IGNORED : ℕ
IGNORED = 0x8000

abbrev pub ONLYDIR : ℕ
ONLYDIR = 0x01000000

abbrev pub MASK_ADD : ℕ
MASK_ADD = 0x20000000

abbrev pub ISDIR : ℕ
ISDIR = 0x40000000

abbrev pub ONESHOT : ℕ
ONESHOT = 0x80000000

-- the bits of all events that a watch may ask for
abbrev pub EVENTS : ℕ
EVENTS = 0xfff

-- whether two masks share a bit
abbrev pub has_bit : ℕ → ℕ → Bool
has_bit mask bits = not (nat_eq (bit_and mask bits) 0)

-- whom a subject is for: the watches on a node, or one watch of a client alone
pub data Aim : Type 0 where
  On : NodeId → Aim
  Only : ℕ → ℤ → Aim

-- what a call tells: whom, which bits, the cookie of a rename, and the name in the directory that is told
pub record Subject : Type 0 where
  pub aim : Aim
  pub bits : ℕ
  pub cookie : ℕ
  pub name : Option Name

-- a watch of a client: its number, the slot whose callback answers, its node, the events it asks for, and whether it ends with the first
pub record Watch : Type 0 where
  pub number : ℕ
  pub slot : ℕ
  pub node : NodeId
  pub mask : ℕ
  pub once : Bool

-- A client's inotify instance: the tags of its hooks by slot, its watches in the order of their numbers, how many numbers it was given,
-- and the notices that it has not read.
pub record Instance : Type 0 where
  pub client : ℕ
  pub tags : List ℕ
  pub watches : List Watch
  pub armed : ℕ
  pub queue : List Notice

-- a client's instance as it begins
abbrev pub silent : ℕ → List ℕ → Instance
silent c tags = record { client = c; tags = tags; watches = []; armed = 0; queue = [] }

-- whether a watch has this number, as a client gives it
abbrev pub is_numbered : ℤ → Watch → Bool
is_numbered number w = int_eq number (pos w.number)

-- whether a subject is for a watch of the client c
abbrev pub is_aimed : ℕ → Aim → Watch → Bool
is_aimed c (On d) w = same_id d w.node
is_aimed c (Only k number) w = nat_eq c k && is_numbered number w

-- whether a subject ends the watches that it reaches
abbrev pub is_last : Subject → Bool
is_last s = nat_eq s.bits IGNORED

-- whether a subject reaches a watch: the last one whatever its mask, any other where they share an event
abbrev pub reaches : ℕ → Subject → Watch → Bool
reaches c s w = is_aimed c s.aim w && (is_last s || has_bit s.bits w.mask)

-- the events of a subject at a watch: none, or its own, and after that IGNORED where the watch asked for one event alone
abbrev pub events : ℕ → Subject → Watch → List Event
events c s w =
    cond (reaches c s w)
    (record { watch = w.number; bits = s.bits; cookie = s.cookie; name = s.name }
    ∷ cond (w.once && not (is_last s)) (record { watch = w.number; bits = IGNORED; cookie = 0; name = None } ∷ []) [])
    []

-- whether the watch ends with the subject
abbrev pub ends : ℕ → Subject → Watch → Bool
ends c s w = reaches c s w && (w.once || is_last s)

-- what one subject asks of a client's callbacks, each with its tag
abbrev pub asked : Instance → Subject → List (ℕ × Event)
asked e s = flat_map (λ w. map (λ v. (slice_index_or e.tags w.slot 0, v)) (events e.client s w)) e.watches

-- the instance after one subject: the watches that go on
abbrev pub passed : Instance → Subject → Instance
passed e s = record e { watches = filter (λ w. not (ends e.client s w)) e.watches }

-- what subjects ask in their order, each of the watches that are left
abbrev pub all_asked : Instance → List Subject → List (ℕ × Event)
all_asked e [] = []
all_asked e (s ∷ ss) = asked e s ++ all_asked (passed e s) ss

-- the instance after subjects
abbrev pub all_passed : Instance → List Subject → Instance
all_passed e [] = e
all_passed e (s ∷ ss) = all_passed (passed e s) ss

abbrev pub same_name_option : Option Name → Option Name → Bool
same_name_option None None = true
same_name_option (Some n) (Some m) = same_name n m
same_name_option _ _ = false

-- whether two notices are told alike
abbrev pub same_notice : Notice → Notice → Bool
same_notice a b = int_eq a.watch b.watch && nat_eq a.mask b.mask && nat_eq a.cookie b.cookie && same_name_option a.name b.name

-- whether the last unread notice is this one
abbrev pub last_is : List Notice → Notice → Bool
last_is [] n = false
last_is (m ∷ []) n = same_notice m n
last_is (m ∷ l ∷ ms) n = last_is (l ∷ ms) n

-- the notice that some are lost
abbrev pub overflow : Notice
overflow = record { watch = negsuc 0; mask = Q_OVERFLOW; cookie = 0; name = None }

-- the most notices that are unread, but for the overflow
abbrev pub QUEUE_MAX : ℕ
QUEUE_MAX = 64

-- A queue after a notice: one like the last changes nothing; below 64 unread it goes last; else the overflow does, where none is unread.
abbrev pub put_notice : List Notice → Notice → List Notice
put_notice q n =
    cond (last_is q n) q
    (cond (nat_lt (length q) QUEUE_MAX) (q ++ n ∷ [])
    (cond (list_any (same_notice overflow) q) q
    (q ++ overflow ∷ [])))

-- a queue has at most 65 places, and where it has more than 64, one of them is the overflow's
pub record IsQueue (q : List Notice) : Type 0 where
  pub short : length q ≤ 65
  pub full : QUEUE_MAX < length q → list_any (same_notice overflow) q ≡ true

-- a queue stays one
abbrev pub LawOfQueues : Type 0
LawOfQueues = (q : List Notice) (n : Notice) → IsQueue q → IsQueue (put_notice q n)

-- a queue after a callback's answer
abbrev pub put_answer : List Notice → Option Notice → List Notice
put_answer q None = q
put_answer q (Some n) = put_notice q n

-- what a rule shows: the answers that a callback of this tag may give to this event
abbrev pub Rule : Type 1
Rule = ℕ → Event → Option Notice → Type 0

-- a queue after the answers to what was asked, each one that the rule shows
abbrev pub Puts : Rule → List (ℕ × Event) → List Notice → List Notice → Type 0
Puts shows [] old new = new ≡ old
Puts shows (a ∷ rest) old new = (answer : Option Notice) × shows a.0 a.1 answer × Puts shows rest (put_answer old answer) new

-- One client hears subjects. All but its queue is as `all_passed` leaves it, and the queue is what
-- the callbacks' answers make of it.
pub record Hears (shows : Rule) (subjects : List Subject) (old new : Instance) : Type 0 where
  pub watches : new ≡ record (all_passed old subjects) { queue = new.queue }
  pub queue : Puts shows (all_asked old subjects) old.queue new.queue

-- each client hears subjects
abbrev pub AllHear : Rule → List Subject → List Instance → List Instance → Type 0
AllHear shows subjects [] [] = Unit {0}
AllHear shows subjects (e ∷ es) (f ∷ fs) = Hears shows subjects e f × AllHear shows subjects es fs
AllHear shows subjects [] (f ∷ fs) = ⊥
AllHear shows subjects (e ∷ es) [] = ⊥

abbrev pub is_one_of : List ℕ → ℕ → Bool
is_one_of bits b = list_any (nat_eq b) bits

-- the bits of the events of a rename, which have a cookie
abbrev pub MOVES : List ℕ
MOVES = MOVED_FROM ∷ MOVED_TO ∷ (MOVED_FROM + ISDIR) ∷ (MOVED_TO + ISDIR) ∷ []

-- the bits of all other events
abbrev pub OTHERS : List ℕ
OTHERS =
    ACCESS ∷ MODIFY ∷ ATTRIB ∷ CLOSE_WRITE ∷ CLOSE_NOWRITE ∷ OPEN ∷ CREATE ∷ DELETE ∷ DELETE_SELF ∷ MOVE_SELF ∷ IGNORED
    ∷ (ACCESS + ISDIR) ∷ (MODIFY + ISDIR) ∷ (ATTRIB + ISDIR) ∷ (CLOSE_WRITE + ISDIR) ∷ (CLOSE_NOWRITE + ISDIR) ∷ (OPEN + ISDIR) ∷ (CREATE + ISDIR) ∷ (DELETE + ISDIR) ∷ []

-- none, or a name in a directory
abbrev pub IsNameOrNone : Option Name → Type 0
IsNameOrNone name = IfSome name (λ n. IsTrue (is_name n))

-- what every event that a callback is asked is
pub record IsEvent (e : Event) : Type 0 where
  pub positive : 0 < e.watch
  pub fits : e.watch < 2 ^ 31
  pub known : IsTrue (is_one_of MOVES e.bits || is_one_of OTHERS e.bits)
  pub moves : IsTrue (is_one_of MOVES e.bits) ↔ (e.cookie ≢ 0)
  pub named : IsNameOrNone e.name

-- whether a subject is for one watch alone
abbrev pub is_only : Aim → Bool
is_only (On d) = false
is_only (Only c number) = true

-- What every subject of a call is: its bits are those of an event; its cookie is not 0 exactly for the two events of a rename, and has 32
-- bits; where it is for one watch alone, it ends it.
pub record IsSubject (s : Subject) : Type 0 where
  pub known : IsTrue (is_one_of MOVES s.bits || is_one_of OTHERS s.bits)
  pub moves : IsTrue (is_one_of MOVES s.bits) ↔ (s.cookie ≢ 0)
  pub fits : s.cookie < 2 ^ 32
  pub alone : is_only s.aim ≡ true → s.bits ≡ IGNORED

-- what a subject asks at a watch are events, the IGNORED that follows a watch's only event too,
-- where the name that it tells is one
abbrev pub LawOfEvents : Type 0
LawOfEvents =
    (c : ℕ) (s : Subject) (w : Watch) → IsSubject s → IsNameOrNone s.name → 0 < w.number →
    w.number < 2 ^ 31 → All IsEvent (events c s w)
