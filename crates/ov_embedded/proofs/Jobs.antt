-- What a call in steps comes to, from its parts.
use Rattle.std.proofs.Common.{◌≡◌, ◌≢◌, ℕ, Bool, true, false, List, Option, is_some, Some, None, Ok, Err, IfSome, IsSomeAnd, refl, sym, subst, ap, ◌∙◌}
use Rattle.std.proofs.lemmas.Bool.{false≢true}
use Rattle.std.specs.BTreeMap.{get}
use Rattle.std.specs.Ordering.{nat_cmp}
use Rattle.ov_base.specs.Calls.{Call}
use Rattle.ov_base.specs.declared.errno.Errno.{Errno}
use Rattle.ov_base.specs.declared.errno.Errno.TheVariants.{ENOMEM}
use Rattle.ov_base.specs.declared.reply.Reply.{Reply}
use Rattle.ov_frames.specs.declared.answer.Answer.TheVariants.{NotTaken, Replied}
use Rattle.overlay_core.specs.Steps.{without}
use Rattle.overlay_core.specs.Views.{CoreSame, core_finished, core_work, has_client}
use Rattle.overlay_core.specs.declared.job.Job.{Job}
use Rattle.overlay_core.specs.declared.turn.Turn.{Turn}
use Rattle.overlay_core.specs.declared.turn.Turn.TheVariants as turns
use Rattle.ov_embedded.specs.Calling.{IsRequestOf, Writes}
use Rattle.ov_embedded.specs.Jobs.{KeepsJobs, KeepsOtherJobs, job_of}
use Rattle.ov_embedded.specs.Stepping.{Begins, DropsJob, IsAdvanced, IsEnded, IsStarted, IsTurnedDown, MayStep, Steps, answer_by}
use Rattle.ov_embedded.specs.declared.mounted.Mounted.{Mounted}
use Rattle.ov_embedded.specs.declared.outcome.Outcome.{Outcome}
use Rattle.ov_embedded.specs.declared.outcome.Outcome.TheVariants as outcome

-- a core is the same as itself
same_core : (m : Mounted) → CoreSame m.core m.core
same_core m = record { mount = refl; watches = refl; options = refl; read_only = refl; finished = refl }

-- the path text was refused
turned : (client : ℕ) (bytes : List ℕ) (old new : Mounted) (errno : Errno) (result : Outcome) →
    IsTurnedDown bytes old new errno → Writes new.reply.items (NotTaken errno) result →
    Begins client bytes old new result 0
turned client bytes old new errno outcome.Done t w = (errno, t, w)
turned client bytes old new errno outcome.Unwritten t w = (errno, t, w)
turned client bytes old new errno outcome.NotMounted t w = absurd w
turned client bytes old new errno outcome.NoClient t w = absurd w
turned client bytes old new errno outcome.NoFrame t w = absurd w
turned client bytes old new errno outcome.Leaves t w = absurd w
turned client bytes old new errno outcome.Ended t w = absurd w
turned client bytes old new errno outcome.NoMemory t w = absurd w
turned client bytes old new errno outcome.Full t w = absurd w
turned client bytes old new errno outcome.Fault t w = absurd w
turned client bytes old new errno outcome.Mounted t w = absurd w
turned client bytes old new errno outcome.More t w = absurd w
turned client bytes old new errno outcome.NoJob t w = absurd w
turned client bytes old new errno outcome.NoUpper t w = absurd w
turned client bytes old new errno outcome.Upper t w = absurd w
turned client bytes old new errno outcome.NoLayer t w = absurd w
turned client bytes old new errno (outcome.Refused e) t w = absurd w

pub begins_refused : (client : ℕ) (bytes : List ℕ) (old new : Mounted) (errno : Errno)
    (result : Outcome) →
    IsRequestOf bytes (Ok (Err errno)) → new.core ≡ old.core → KeepsJobs old new →
    Writes new.reply.items (NotTaken errno) result → Begins client bytes old new result 0
begins_refused client bytes old new errno result r same jobs w =
    turned client bytes old new errno result (r, same, jobs) w

-- the call is a job, or memory ran out
pub begins_started : (client : ℕ) (bytes : List ℕ) (old new : Mounted) (call : Call)
    (result : Outcome) (number : ℕ) →
    IsRequestOf bytes (Ok (Ok call)) → has_client old.core client ≡ true →
    CoreSame old.core new.core → new.reply ≡ old.reply →
    IsStarted old client call new result number → Begins client bytes old new result number
begins_started client bytes old new call outcome.More number r is same reply s =
    (r.0, call, r.1, r.2, is, same, reply, s)
begins_started client bytes old new call outcome.NoMemory number r is same reply s = (same, reply, s)
begins_started client bytes old new call outcome.Done number r is same reply s = absurd s
begins_started client bytes old new call outcome.Unwritten number r is same reply s = absurd s
begins_started client bytes old new call outcome.NotMounted number r is same reply s = absurd s
begins_started client bytes old new call outcome.NoClient number r is same reply s = absurd s
begins_started client bytes old new call outcome.NoFrame number r is same reply s = absurd s
begins_started client bytes old new call outcome.Leaves number r is same reply s = absurd s
begins_started client bytes old new call outcome.Ended number r is same reply s = absurd s
begins_started client bytes old new call outcome.Full number r is same reply s = absurd s
begins_started client bytes old new call outcome.Fault number r is same reply s = absurd s
begins_started client bytes old new call outcome.Mounted number r is same reply s = absurd s
begins_started client bytes old new call outcome.NoJob number r is same reply s = absurd s
begins_started client bytes old new call outcome.NoUpper number r is same reply s = absurd s
begins_started client bytes old new call outcome.Upper number r is same reply s = absurd s
begins_started client bytes old new call outcome.NoLayer number r is same reply s = absurd s
begins_started client bytes old new call (outcome.Refused e) number r is same reply s = absurd s

-- the bytes ask for nothing
pub begins_none : (client : ℕ) (bytes : List ℕ) (old : Mounted) (result : Outcome) →
    IsRequestOf bytes (Err result) → Begins client bytes old old result 0
begins_none client bytes old outcome.NoFrame r = (refl, r)
begins_none client bytes old outcome.Leaves r = (refl, r)
begins_none client bytes old outcome.NoMemory r =
    (same_core old, refl, ((λ n. refl), refl, refl))
begins_none client bytes old outcome.Done r = absurd r
begins_none client bytes old outcome.Unwritten r = absurd r
begins_none client bytes old outcome.NotMounted r = absurd r
begins_none client bytes old outcome.NoClient r = absurd r
begins_none client bytes old outcome.Ended r = absurd r
begins_none client bytes old outcome.Full r = absurd r
begins_none client bytes old outcome.Fault r = absurd r
begins_none client bytes old outcome.Mounted r = absurd r
begins_none client bytes old outcome.More r = absurd r
begins_none client bytes old outcome.NoJob r = absurd r
begins_none client bytes old outcome.NoUpper r = absurd r
begins_none client bytes old outcome.Upper r = absurd r
begins_none client bytes old outcome.NoLayer r = absurd r
begins_none client bytes old (outcome.Refused e) r = absurd r

-- the answer to a last step was written or not
ended : (number : ℕ) (old new : Mounted) (last : Turn) (result : Outcome) →
    IsEnded number old new last →
    Writes new.reply.items (answer_by (core_finished old.core) last) result →
    Steps number old new result
ended number old new last outcome.Done e w = (last, e, w)
ended number old new last outcome.Unwritten e w = (last, e, w)
ended number old new last outcome.NotMounted e w = absurd w
ended number old new last outcome.NoClient e w = absurd w
ended number old new last outcome.NoFrame e w = absurd w
ended number old new last outcome.Leaves e w = absurd w
ended number old new last outcome.Ended e w = absurd w
ended number old new last outcome.NoMemory e w = absurd w
ended number old new last outcome.Full e w = absurd w
ended number old new last outcome.Fault e w = absurd w
ended number old new last outcome.Mounted e w = absurd w
ended number old new last outcome.More e w = absurd w
ended number old new last outcome.NoJob e w = absurd w
ended number old new last outcome.NoUpper e w = absurd w
ended number old new last outcome.Upper e w = absurd w
ended number old new last outcome.NoLayer e w = absurd w
ended number old new last (outcome.Refused errno) e w = absurd w

-- what is said of a job that is there
said_of : {A : Type 0} (P : A → Type 0) (o : Option A) (x : A) → o ≡ Some x →
    IfSome o P → P x
said_of P o x e h = subst (λ p. IfSome p P) e h

-- whether this leaves steps to make
abbrev is_more : Turn → Type 0
is_more turns.More = Unit {0}
is_more last = ⊥

module _ (number : ℕ) (old mid gone new : Mounted) where
  -- a job that made its last step was let go, and its answer written
  steps_over : (last : Turn) (result : Outcome) → IsAdvanced number old mid last →
      last ≢ turns.More → KeepsOtherJobs old mid number → CoreSame mid.core gone.core →
      IfSome (job_of mid number) (λ job. core_work gone.core ≡ without (core_work mid.core) job) →
      job_of gone number ≡ None → KeepsOtherJobs mid gone number →
      new.core ≡ gone.core → KeepsJobs gone new →
      Writes new.reply.items (answer_by (core_finished old.core) last) result →
      Steps number old new result
  steps_over last result a over others same work none apart core jobs w =
      let let_go = said_of (λ job. core_work gone.core ≡ without (core_work mid.core) job)
      (job_of mid number) a.1 a.3 work in
      let kept : (n : ℕ) → job_of new n ≡ job_of gone n =
      λ n. ap (λ js. get nat_cmp js n) jobs.0 in
      ended number old new last result (
        mid,
        a.0,
        a.1,
        a.2,
        a.4,
        over,
        subst (λ c. CoreSame mid.core c) (sym core) same,
        ap (λ c. core_work c) core ∙ let_go,
        kept number ∙ none,
        (
          (λ n differ. kept n ∙ (apart.0 n differ ∙ others.0 n differ)),
          jobs.1 ∙ (apart.1 ∙ others.1),
          jobs.2 ∙ (apart.2 ∙ others.2),
        ),
      ) w

  pub steps_done : (place : ℕ) (reply : Reply) (result : Outcome) →
      IsAdvanced number old mid (turns.Done reply) → KeepsOtherJobs old mid number →
      CoreSame mid.core gone.core →
      IfSome (job_of mid number) (λ job. core_work gone.core ≡ without (core_work mid.core) job) →
      job_of gone number ≡ None → KeepsOtherJobs mid gone number →
      new.core ≡ gone.core → KeepsJobs gone new → place ≡ core_finished old.core →
      Writes new.reply.items (Replied place reply) result → Steps number old new result
  steps_done place reply result a others same work none apart core jobs at w =
      steps_over (turns.Done reply) result a (λ e. subst is_more (sym e) tt) others same work none apart core jobs
      (subst (λ n. Writes new.reply.items (Replied n reply) result) at w)

  pub steps_short : (result : Outcome) →
      IsAdvanced number old mid turns.NoMemory → KeepsOtherJobs old mid number →
      CoreSame mid.core gone.core →
      IfSome (job_of mid number) (λ job. core_work gone.core ≡ without (core_work mid.core) job) →
      job_of gone number ≡ None → KeepsOtherJobs mid gone number →
      new.core ≡ gone.core → KeepsJobs gone new →
      Writes new.reply.items (NotTaken ENOMEM) result → Steps number old new result
  steps_short result a others same work none apart core jobs w =
      steps_over turns.NoMemory result a (λ e. subst is_more (sym e) tt) others same work none apart core jobs w

-- a job that has no step to make was let go
pub steps_gone : (number : ℕ) (old new : Mounted) (job : Job) → job_of old number ≡ Some job →
    (MayStep old job → ⊥) → CoreSame old.core new.core →
    IfSome (job_of old number) (λ j. core_work new.core ≡ without (core_work old.core) j) →
    job_of new number ≡ None → KeepsOtherJobs old new number → new.reply ≡ old.reply →
    Steps number old new outcome.NoClient
steps_gone number old new job was may same work none others reply =
    let gone = said_of (λ j. core_work new.core ≡ without (core_work old.core) j)
    (job_of old number) job was work in
    (job, was, may, (same, gone, none, others), reply)

-- what is there, and what isn't
there : {A : Type 0} (o : Option A) → true ≡ is_some o → (x : A) × (o ≡ Some x)
there None h = absurd (false≢true (sym h))
there (Some x) h = (x, refl)

nothing : {A : Type 0} (o : Option A) → false ≡ is_some o → o ≡ None
nothing None h = refl
nothing (Some x) h = absurd (false≢true h)

-- a job is given up
pub drops_done : (number : ℕ) (old new : Mounted) (was : Bool) →
    was ≡ is_some (job_of old number) → was ≡ true → CoreSame old.core new.core →
    IfSome (job_of old number) (λ j. core_work new.core ≡ without (core_work old.core) j) →
    job_of new number ≡ None → KeepsOtherJobs old new number → new.reply ≡ old.reply →
    DropsJob number old new outcome.Done
drops_done number old new was is there_is same work none others reply =
    let x = there (job_of old number) (sym there_is ∙ is) in
    let gone = said_of (λ j. core_work new.core ≡ without (core_work old.core) j)
    (job_of old number) x.0 x.1 work in
    (x.0, x.1, (same, gone, none, others), reply)

-- or there was none
pub drops_none : (number : ℕ) (old new : Mounted) (was : Bool) →
    was ≡ is_some (job_of old number) → was ≡ false → CoreSame old.core new.core →
    job_of new number ≡ None → KeepsOtherJobs old new number → new.reply ≡ old.reply →
    DropsJob number old new outcome.NoJob
drops_none number old new was is there_is_none same none others reply =
    (nothing (job_of old number) (sym there_is_none ∙ is), same, none, others, reply)

-- a job that is there has a step to make
pub may_there : (m : Mounted) (number : ℕ) (job : Job) → job_of m number ≡ Some job →
    MayStep m job → IsSomeAnd (job_of m number) (MayStep m)
may_there m number job was may = subst (λ o. IsSomeAnd o (MayStep m)) (sym was) may

-- which is its own
pub may_of : (m : Mounted) (number : ℕ) (job : Job) → job_of m number ≡ Some job →
    IsSomeAnd (job_of m number) (MayStep m) → MayStep m job
may_of m number job was may = subst (λ o. IsSomeAnd o (MayStep m)) was may
