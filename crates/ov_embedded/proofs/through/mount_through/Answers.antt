use Rattle.std.proofs.Common.{◌≡◌, rules}
use Rattle.std.specs.declared.option.Option.TheVariants.{None, Some}
use Rattle.ov_embedded.proofs.Handled.{mounts_made}
use Rattle.ov_embedded.proofs.through.mount_through.Goals as goal

pub returns-in-Ok : goal.returns-in-Ok
returns-in-Ok c =
    let m = c.in-Ok.mounted.value in
    let gone : c.args.handle.now.mounted ≡ None = search rules in
    let holds : c.of-in-Ok.result.mounted ≡ Some m = search rules in
    mounts_made c.args.manifest.now c.args.blobs.now c.args.lengths.now c.args.handle.now.mounted
    c.of-in-Ok.result.mounted m gone holds c.in-Ok.ensures.mounted c.in-Ok.ensures.fresh
