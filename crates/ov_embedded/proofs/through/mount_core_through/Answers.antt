use Rattle.std.proofs.Common.{◌≡◌, rules}
use Rattle.std.specs.declared.option.Option.TheVariants.{None, Some}
use Rattle.ov_embedded.proofs.Handled.{made_as}
use Rattle.ov_embedded.specs.Mounting.{IsFresh}
use Rattle.ov_embedded.proofs.through.mount_core_through.Goals as goal

pub returns-in-Ok : goal.returns-in-Ok
returns-in-Ok c =
    let m = c.in-Ok.mounted.value in
    let gone : c.args.handle.now.mounted ≡ None = search rules in
    let holds : c.of-in-Ok.result.mounted ≡ Some m = search rules in
    let is : m.core ≡ c.args.core = search rules in
    let fresh : IsFresh m = search rules in
    made_as (λ m. m.core ≡ c.args.core) (λ why. ⊥) c.args.handle.now.mounted
    c.of-in-Ok.result.mounted m gone holds is fresh
