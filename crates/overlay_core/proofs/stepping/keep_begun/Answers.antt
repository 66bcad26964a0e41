use Rattle.std.proofs.Common.{◌≡◌, None, Some, IfOk, sym, ◌∙◌, subst}
use Rattle.merged_lookup.specs.Merged.{lowers_of}
use Rattle.work_dir.specs.Beginnings.{Beginning}
use Rattle.work_dir.specs.OpenJobs.{job_at, Changes}
use Rattle.overlay_core.specs.Temps.{IsTemp}
use Rattle.overlay_core.proofs.TempFits.{begun-fits, begun-of}
use Rattle.overlay_core.proofs.stepping.keep_begun.Goals as goal

pub returns-clause-kept : goal.returns-clause-kept
returns-clause-kept c =
    let work = c.args.work.now in
    let begins = begun-of (lowers_of c.args.mount.now.layers) c.args.source c.in-Some.bytes.now (sym c.in-Some.ensures) in
    subst (λ (t : Beginning). IfOk c.keep.result (λ n. (job_at work n ≡ None)
    × Changes work c.keep.new.work n (Some (record { client = c.args.job.now.client; temp = Some t }))))
    (c.in_ok-temp.ensures ∙ begins) c.keep.ensures.kept

pub returns-clause-temps : goal.returns-clause-temps
returns-clause-temps c =
    let lowers = lowers_of c.args.mount.now.layers in
    c.keep.ensures.temps lowers c.requires.temps
    (subst (IsTemp lowers) (sym c.in_ok-temp.ensures)
    (begun-fits lowers c.args.source c.in-Some.bytes.now (sym c.in-Some.ensures)))
