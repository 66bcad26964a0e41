use Rattle.std.proofs.Common.{◌≡◌, ◌<◌, ◌∙◌, sym, ap, subst, length, true, false, List, Option, get_or, set, rules}
use Rattle.work_dir.specs.declared.table.OpenJob.{OpenJob}
use Rattle.work_dir.specs.OpenJobs.{job_at, is_of, unless_of, Changes}
use Rattle.work_dir.proofs.Jobs.{closed_other, own_within, taken, closed_changes}
use Rattle.work_dir.proofs.table.WorkDir.take_out.Goals as goal

pub returns-then-not-is_own-clause-table : goal.returns-then-not-is_own-clause-table
returns-then-not-is_own-clause-table c =
    let other : is_of c.args.client (job_at c.args.self.now c.args.number) ≡ false = sym c.is_own.ensures ∙ c.if-not-is_own.true in
    closed_other c.args.self.now c.args.number c.args.client other

pub index_mut-requires : goal.index_mut-requires
index_mut-requires c =
    let own : is_of c.args.client (job_at c.args.self.now c.args.number) ≡ true = sym c.is_own.ensures ∙ c.if-not-is_own.false in
    let within : c.args.number < length c.args.self.now = own_within c.args.self.now c.args.number c.args.client own in
    let size : length c.self.inside.jobs.items ≡ length c.args.self.now = ap length c.self.view_is in
    search rules

pub returns-clause-job : goal.returns-clause-job
returns-clause-job c =
    let own : is_of c.args.client (job_at c.args.self.now c.args.number) ≡ true = sym c.is_own.ensures ∙ c.if-not-is_own.false in
    let read : c.index_mut.result.now ≡ get_or c.args.self.now c.args.number c.index_mut.result.now =
    c.index_mut.ensures.value ∙ ap (λ (work : List (Option OpenJob)). get_or work c.args.number c.index_mut.result.now) c.self.view_is in
    c.take.ensures.value ∙ taken c.args.self.now c.args.number c.args.client c.index_mut.result.now own read

pub returns-clause-numbers : goal.returns-clause-numbers
returns-clause-numbers c =
    let own : is_of c.args.client (job_at c.args.self.now c.args.number) ≡ true = sym c.is_own.ensures ∙ c.if-not-is_own.false in
    let changes = closed_changes c.args.self.now c.args.number c.args.client c.take.new.self own c.take.ensures.after in
    subst (λ (items : List (Option OpenJob)). Changes c.args.self.now (set items c.args.number c.take.new.self) c.args.number (unless_of c.args.client (job_at c.args.self.now c.args.number))) (sym c.self.view_is) changes
