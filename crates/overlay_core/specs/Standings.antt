-- Where jobs stand.
use Rattle.std.specs.Prelude.{ℕ}
use Rattle.overlay_core.specs.declared.job.Standing.{Standing}
use Rattle.overlay_core.specs.declared.job.Standing.TheVariants.{Open, Answered, GivenUp}

-- 1 where a job is over: it made its last step
abbrev pub one_if_over : Standing → ℕ
one_if_over Open = 0
one_if_over Answered = 1
one_if_over GivenUp = 1
