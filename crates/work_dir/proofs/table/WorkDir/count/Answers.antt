use Rattle.std.proofs.Common.{◌≡◌, count_by, ◌∙◌, rules}
use Rattle.work_dir.specs.OpenJobs.{has_temp}
use Rattle.work_dir.proofs.Jobs.{no_temps}
use Rattle.work_dir.proofs.table.WorkDir.count.Goals as goal

pub returns-clause-count : goal.returns-clause-count
returns-clause-count c =
    let counted : c.count.result ≡ count_by has_temp c.args.self.now = search rules in
    counted

pub returns-clause-none : goal.returns-clause-none
returns-clause-none c none =
    let counted : c.count.result ≡ count_by has_temp c.args.self.now = search rules in
    counted ∙ no_temps c.args.self.now none
