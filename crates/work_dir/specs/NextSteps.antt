-- Which step of a call is next.
use Rattle.std.specs.Prelude.{◌≡◌, ◌≢◌, ℕ, ◌<◌, ◌≤◌, cond, nat_lt, length, Option, Some, None}
use Rattle.ov_base.specs.declared.errno.Errno.{Errno}
use Rattle.work_dir.specs.declared.limits.TheConstants.{PLACINGS_MAX, BEGINS_MAX}
use Rattle.ov_base.specs.declared.place.Place as source
use Rattle.work_dir.specs.declared.next.Lack.{Lack}
use Rattle.work_dir.specs.declared.next.Lack.TheVariants.{Nothing, Parent, File}
use Rattle.work_dir.specs.declared.next.Next.{Next}
use Rattle.work_dir.specs.declared.next.Next.TheVariants.{Finish, Place, Begin, Copy, AtOnce}
use Rattle.work_dir.specs.Beginnings.{Beginning, is_whole, is_from}

-- a step that may be made so often, and after that all at once
abbrev pub up_to : ℕ → ℕ → Next → Next
up_to most made step = cond (nat_lt made most) step AtOnce

-- A call that lacks a file of so many bytes finishes with a whole temp of that very file, and
-- copies on one that is not whole. With none, or one of another file, it begins one.
abbrev pub next_of_file : source.Place → ℕ → Option Beginning → ℕ → Next
next_of_file d begins (Some t) size =
    cond (is_from d t) (cond (is_whole t size) Finish Copy) (up_to BEGINS_MAX begins (Begin d))
next_of_file d begins None size = up_to BEGINS_MAX begins (Begin d)

-- A call that is refused or lacks nothing finishes. A directory that it lacks is placed, and a file
-- copied.
abbrev pub next_of : Option Errno → Lack → ℕ → ℕ → Option Beginning → ℕ → Next
next_of (Some e) lack placings begins temp size = Finish
next_of None Nothing placings begins temp size = Finish
next_of None (Parent second count) placings begins temp size =
    up_to PLACINGS_MAX placings (Place second count)
next_of None (File d) placings begins temp size = next_of_file d begins temp size

-- the file that is lacking has no temp
abbrev pub IsUnbegun : source.Place → Option Beginning → Type 0
IsUnbegun d (Some t) = t.source ≢ d
IsUnbegun d None = Unit {0}

-- The call may finish: it is refused, lacks nothing, or has a whole temp of the very file that it
-- lacks.
abbrev pub IsReady : Option Errno → Lack → Option Beginning → ℕ → Type 0
IsReady (Some e) lack temp size = Unit {0}
IsReady None Nothing temp size = Unit {0}
IsReady None (Parent second count) temp size = ⊥
IsReady None (File d) (Some t) size = (t.source ≡ d) × (size ≤ length t.bytes)
IsReady None (File d) None size = ⊥

-- there is a temp of the very file that is lacking, not yet whole
abbrev pub IsPartial : Lack → Option Beginning → ℕ → Type 0
IsPartial lack (Some t) size = (lack ≡ File t.source) × (length t.bytes < size)
IsPartial lack None size = ⊥

-- the bound on the steps that the call would need is reached
abbrev pub IsSpent : Lack → ℕ → ℕ → Option Beginning → Type 0
IsSpent Nothing placings begins temp = ⊥
IsSpent (Parent second count) placings begins temp = PLACINGS_MAX ≤ placings
IsSpent (File d) placings begins temp = (BEGINS_MAX ≤ begins) × IsUnbegun d temp

-- What is so where this step is next: only what is lacking is placed, begun or copied, and only
-- below the bounds.
abbrev pub IsDue : Next → Option Errno → Lack → ℕ → ℕ → Option Beginning → ℕ → Type 0
IsDue Finish refused lack placings begins temp size = IsReady refused lack temp size
IsDue (Place second count) refused lack placings begins temp size =
    (refused ≡ None) × (lack ≡ Parent second count) × (placings < PLACINGS_MAX)
IsDue (Begin d) refused lack placings begins temp size =
    (refused ≡ None) × (lack ≡ File d) × (begins < BEGINS_MAX) × IsUnbegun d temp
IsDue Copy refused lack placings begins temp size = (refused ≡ None) × IsPartial lack temp size
IsDue AtOnce refused lack placings begins temp size =
    (refused ≡ None) × IsSpent lack placings begins temp
