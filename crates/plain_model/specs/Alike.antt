-- When an engine that tells objects by identities of its own hears as the machine does: its instances are like the state's, watch by watch,
-- and what it tells is like what the state's call tells, but for what no watch is there for.
use Rattle.std.specs.Prelude.{◌≡◌, ◌↔◌, ℕ, ℤ, Bool, true, false, not, List, [], ◌∷◌, ◌++◌, Option, Some, nat_eq, is_none, filter, drop}
use Rattle.std.specs.List.{list_any, AllZip}
use Rattle.ov_base.specs.declared.node_id.NodeId.{NodeId}
use Rattle.plain_model.specs.Watching.{Aim, On, Only, Subject, Watch, Instance, Rule, AllHear, silent, is_numbered, is_aimed}
use Rattle.plain_model.specs.Machine.{instance_of, hooks_of, watches_of, armed_of, watch_on}
use Rattle.plain_model.specs.Refusals.{is_busy}
use Rattle.plain_model.specs.Changes.{armed_on, at_client}
use Rattle.plain_model.specs.Replies.{queue_of, number_of, next_number}

-- which identity of an engine stands for which of a state
abbrev pub Identities : Type 1
Identities = NodeId → NodeId → Type 0

-- two of the engine's are one exactly where the state's are
abbrev pub IsOneToOne : Identities → Type 0
IsOneToOne of = (a b d e : NodeId) → of a d → of b e → (a ≡ b) ↔ (d ≡ e)

-- two watches are alike: their objects are one, and all else is the same
pub record AreAlikeWatches (of : Identities) (v w : Watch) : Type 0 where
  pub number : v.number ≡ w.number
  pub slot : v.slot ≡ w.slot
  pub node : of v.node w.node
  pub mask : v.mask ≡ w.mask
  pub once : v.once ≡ w.once

-- two instances are alike: watch by watch
pub record AreAlikeInstances (of : Identities) (e f : Instance) : Type 0 where
  pub client : e.client ≡ f.client
  pub tags : e.tags ≡ f.tags
  pub watches : AllZip (AreAlikeWatches of) e.watches f.watches
  pub armed : e.armed ≡ f.armed
  pub queue : e.queue ≡ f.queue

-- the engine's instances are like the state's, one by one
abbrev pub AreAllAlike : Identities → List Instance → List Instance → Type 0
AreAllAlike of es fs = AllZip (AreAlikeInstances of) es fs

-- whom subjects are for is the same: one object, or one watch of a client
abbrev pub AreAlikeAims : Identities → Aim → Aim → Type 0
AreAlikeAims of (On a) (On d) = of a d
AreAlikeAims of (Only c number) (Only k other) = (c ≡ k) × (number ≡ other)
AreAlikeAims of _ _ = ⊥

-- two subjects are alike: they are for the same, and tell the same
pub record AreAlikeSubjects (of : Identities) (s t : Subject) : Type 0 where
  pub aim : AreAlikeAims of s.aim t.aim
  pub bits : s.bits ≡ t.bits
  pub cookie : s.cookie ≡ t.cookie
  pub name : s.name ≡ t.name

-- whether one of these instances has a watch that is aimed at
abbrev pub is_watched : List Instance → Aim → Bool
is_watched es aim = list_any (λ e. list_any (is_aimed e.client aim) e.watches) es

-- the subjects that are for a watch of these instances
abbrev pub heard_by : List Instance → List Subject → List Subject
heard_by es ss = filter (λ s. is_watched es s.aim) ss

-- What is told to the engine's instances es is like what is told to the state's instances fs: subject by subject, where some watch is there
-- for it. The others may be told to one side alone, or not alike.
abbrev pub AreToldAlike : Identities → List Instance → List Instance → List Subject → List Subject → Type 0
AreToldAlike of es fs ss ts = AllZip (AreAlikeSubjects of) (heard_by es ss) (heard_by fs ts)

-- The state's instances, having heard ts, are like the engine's new ones; and these have no watch that was not there.
pub record HeardAlike (shows : Rule) (of : Identities) (es fs : List Instance) (ts : List Subject) (new : List Instance) : Type 0 where
  pub heard : List Instance
  pub hears : AllHear shows ts fs heard
  pub alike : AreAllAlike of new heard
  pub fewer : (aim : Aim) → is_watched new aim ≡ true → is_watched es aim ≡ true

-- instances that are alike, and are told alike, go on alike, whatever their callbacks answer
abbrev pub LawOfAlikeHearing : Rule → Identities → Type 0
LawOfAlikeHearing shows of =
    (es fs new : List Instance) (ss ts : List Subject) →
    IsOneToOne of → AreAllAlike of es fs → AreToldAlike of es fs ss ts → AllHear shows ss es new → HeardAlike shows of es fs ts new

-- How what is told is put together: in pairs that are alike, in subjects of one side that no watch is there for, and one part after
-- another. A watch is there for an aim on both sides, or on neither.
pub record TellsAlike (of : Identities) (es fs : List Instance) : Type 0 where
  pub aimed : (s t : Aim) → AreAlikeAims of s t → is_watched es s ≡ is_watched fs t
  pub none : AreToldAlike of es fs [] []
  pub pair : (s t : Subject) (ss ts : List Subject) → AreAlikeSubjects of s t → AreToldAlike of es fs ss ts →
      AreToldAlike of es fs (s ∷ ss) (t ∷ ts)
  pub engine_alone : (s : Subject) (ss ts : List Subject) → is_watched es s.aim ≡ false → AreToldAlike of es fs ss ts →
      AreToldAlike of es fs (s ∷ ss) ts
  pub state_alone : (t : Subject) (ss ts : List Subject) → is_watched fs t.aim ≡ false → AreToldAlike of es fs ss ts →
      AreToldAlike of es fs ss (t ∷ ts)
  pub parts : (ss sz ts tz : List Subject) → AreToldAlike of es fs ss ts → AreToldAlike of es fs sz tz →
      AreToldAlike of es fs (ss ++ sz) (ts ++ tz)

-- What calls ask of a client's instance is the same of alike ones: the numbers of hooks and watches, the queue, and of the watch on an
-- object whether it is there, its number, and whether the slot or the object is taken.
pub record AnswersAlike (of : Identities) (o u : Option Instance) : Type 0 where
  pub hooks : hooks_of o ≡ hooks_of u
  pub armed : armed_of o ≡ armed_of u
  pub next : next_number o ≡ next_number u
  pub queue : queue_of o ≡ queue_of u
  pub numbered : (number : ℤ) → list_any (is_numbered number) (watches_of o) ≡ list_any (is_numbered number) (watches_of u)
  pub free : (a d : NodeId) → of a d → is_none (watch_on (watches_of o) (Some a)) ≡ is_none (watch_on (watches_of u) (Some d))
  pub number : (a d : NodeId) (next : ℕ) → of a d →
      number_of (watch_on (watches_of o) (Some a)) next ≡ number_of (watch_on (watches_of u) (Some d)) next
  pub busy : (a d : NodeId) (slot : ℕ) → of a d → is_busy (watches_of o) slot (Some a) ≡ is_busy (watches_of u) slot (Some d)

-- What calls make of alike instances is alike: a slot is armed, notices are read, a client comes and goes.
pub record ChangesAlike (of : Identities) (es fs : List Instance) (c : ℕ) : Type 0 where
  pub arms : (a d : NodeId) (slot mask : ℕ) → of a d →
      AreAllAlike of (at_client c (armed_on slot (Some a) mask) es) (at_client c (armed_on slot (Some d) mask) fs)
  pub reads : (n : ℕ) → AreAllAlike of (at_client c (λ e. record e { queue = drop n e.queue }) es)
      (at_client c (λ f. record f { queue = drop n f.queue }) fs)
  pub comes : (tags : List ℕ) → AreAllAlike of (es ++ silent c tags ∷ []) (fs ++ silent c tags ∷ [])
  pub goes : AreAllAlike of (filter (λ e. not (nat_eq e.client c)) es) (filter (λ f. not (nat_eq f.client c)) fs)

-- what instances keep that are alike
pub record KeepAlike (of : Identities) (es fs : List Instance) : Type 0 where
  pub tells : TellsAlike of es fs
  pub answers : (c : ℕ) → AnswersAlike of (instance_of es c) (instance_of fs c)
  pub changes : (c : ℕ) → ChangesAlike of es fs c

-- alike instances keep it
abbrev pub LawOfAlikeInstances : Identities → Type 0
LawOfAlikeInstances of = (es fs : List Instance) → IsOneToOne of → AreAllAlike of es fs → KeepAlike of es fs

-- instances that are alike stay so by other identities that stand for each other where a watch is
abbrev pub LawOfOtherIdentities : Identities → Identities → Type 0
LawOfOtherIdentities of now =
    (es fs : List Instance) →
    ((a d : NodeId) → is_watched es (On a) ≡ true → of a d → now a d) → AreAllAlike of es fs → AreAllAlike now es fs
