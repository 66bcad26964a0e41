use Rattle.std.proofs.Common.{subst}
use Rattle.merged_lookup.specs.Merged.{IsTopmost}
use Rattle.mount_calls.proofs.mount.Mount.open_lack.Goals as goal

pub data_file-file-requires : goal.data_file-file-requires
data_file-file-requires c =
    let m = c.args.self.now in
    let p = c.args.path.now in
    (p, subst (λ t. IsTopmost m.layers p t) c.in-Some.is c.requires.top)
