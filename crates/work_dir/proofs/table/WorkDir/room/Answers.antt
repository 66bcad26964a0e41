use Rattle.std.proofs.Common.{◌≡◌, ◌++◌, ◌∷◌, [], None, sym, subst, ◌∙◌, rules, length, List, Option, ℕ}
use Rattle.work_dir.specs.declared.table.OpenJob.{OpenJob}
use Rattle.work_dir.specs.OpenJobs.{IsFree, Same}
use Rattle.work_dir.proofs.Jobs.{free_found, full_found, grown_free, grown_same}
use Rattle.work_dir.proofs.table.WorkDir.room.Goals as goal

pub returns-in-Some-first_free-clause-free : goal.returns-in-Some-first_free-clause-free
returns-in-Some-first_free-clause-free c =
    free_found c.args.self.now c.in-Some-first_free.number (sym c.first_free.ensures ∙ c.in-Some-first_free.is)

pub returns-in-Some-first_free-clause-grown : goal.returns-in-Some-first_free-clause-grown
returns-in-Some-first_free-clause-grown c full =
    let number = c.in-Some-first_free.number in
    absurd (full number (free_found c.args.self.now number (sym c.first_free.ensures ∙ c.in-Some-first_free.is)))

pub returns-then-is_err-clause-kept : goal.returns-then-is_err-clause-kept
returns-then-is_err-clause-kept c n free = absurd (full_found c.args.self.now (sym c.first_free.ensures ∙ c.in_default-2.is) n free)

pub returns-2-clause-free : goal.returns-2-clause-free
returns-2-clause-free c =
    let grown : c.push.new.self.items ≡ c.args.self.now ++ None ∷ [] = search rules in
    let number : c.len-number.result ≡ length c.args.self.now = search rules in
    subst (λ (work : List (Option OpenJob)). IsFree work c.len-number.result) (sym grown)
    (subst (λ (n : ℕ). IsFree (c.args.self.now ++ None ∷ []) n) (sym number) (grown_free c.args.self.now))

pub returns-2-clause-kept : goal.returns-2-clause-kept
returns-2-clause-kept c n free = absurd (full_found c.args.self.now (sym c.first_free.ensures ∙ c.in_default-2.is) n free)

pub returns-2-clause-same : goal.returns-2-clause-same
returns-2-clause-same c n =
    let grown : c.push.new.self.items ≡ c.args.self.now ++ None ∷ [] = search rules in
    subst (λ (work : List (Option OpenJob)). Same c.args.self.now work) (sym grown) (grown_same c.args.self.now) n
