use Rattle.std.proofs.Common.{Some, sym, ap, subst}
use Rattle.plain_model.specs.Layers.{shows}
use Rattle.merged_lookup.specs.Merged.{layers_of, IsTopmost}
use Rattle.mount_calls.specs.Lacks as lacks
use Rattle.mount_calls.proofs.Lacking.{copied-none}
use Rattle.mount_calls.proofs.lacks.copied_file.Goals as goal

pub returns-in-Directory : goal.returns-in-Directory
returns-in-Directory c = λ p at.
    let shown = subst (λ x. IsTopmost c.args.layers.now p (Some x)) c.in-Directory.is at in
    sym (copied-none c.args.metacopy (shows 0 (layers_of c.args.layers.now) p) (ap lacks.low_file shown.1))
