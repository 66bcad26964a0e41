-- How many steps a call takes at most: parents that are placed, copies that are begun, pieces that are copied, and the step that finishes it
-- (overlayfs.rst, "Non-directories": a lower file is copied up as a whole before it is changed).
use Rattle.std.specs.Prelude.{ℕ, ◌+◌, ◌*◌, ◌≤◌}

-- the most parents that a call places one at a time, copies that it begins, and pieces of one copy
abbrev pub PLACINGS_MAX : ℕ
PLACINGS_MAX = 256

abbrev pub BEGINS_MAX : ℕ
BEGINS_MAX = 256

abbrev pub CHUNKS_MAX : ℕ
CHUNKS_MAX = 256

-- the most steps of a call
abbrev pub STEPS_MAX : ℕ
STEPS_MAX = 66049

-- what a call has done in its steps so far: parents placed, copies begun, and pieces copied, in all and of the last copy
pub record Work : Type 0 where
  pub placings : ℕ
  pub begins : ℕ
  pub chunks : ℕ
  pub latest : ℕ

-- the work of a call stays within its bounds
pub record IsBounded (w : Work) : Type 0 where
  pub placed : w.placings ≤ PLACINGS_MAX
  pub begun : w.begins ≤ BEGINS_MAX
  pub copied : w.chunks ≤ w.begins * CHUNKS_MAX
  pub last : w.latest ≤ CHUNKS_MAX

-- a call within its bounds finishes in its 66,049th step at the latest
abbrev pub LawOfBounds : Type 0
LawOfBounds = (w : Work) → IsBounded w → w.placings + w.begins + w.chunks + 1 ≤ STEPS_MAX
