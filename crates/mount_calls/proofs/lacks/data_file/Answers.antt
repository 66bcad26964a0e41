use Rattle.std.proofs.Common.{Some, sym, ap, subst}
use Rattle.merged_lookup.specs.Merged.{lowers_of, IsTopmost}
use Rattle.mount_calls.specs.Lacks as lacks
use Rattle.mount_calls.proofs.lacks.data_file.Goals as goal

pub returns-in-Directory : goal.returns-in-Directory
returns-in-Directory c = λ p at.
    let shown = subst (λ x. IsTopmost c.args.layers.now p (Some x)) c.in-Directory.is at in
    sym (ap (lacks.data_at (lowers_of c.args.layers.now)) shown.1)
