use Rattle.std.proofs.Common.{reverse, sym, subst}
use Rattle.plain_model.specs.Layers.{Path}
use Rattle.merged_lookup.specs.Merged.{layers_of}
use Rattle.make_remove.specs.Removing.{ShowsNoName, Unnames}
use Rattle.copy_up.specs.Showing.{ChangesNoSight, GainsParents}
use Rattle.copy_up.proofs.Keeping.{on-err}
use Rattle.make_remove.proofs.Removing.{rmdir-allowed, rmdir-step}
use Rattle.make_remove.proofs.removals.rmdir.Goals as goal

pub take_away-requires-clause-bare : goal.take_away-requires-clause-bare
take_away-requires-clause-bare c =
    let P : Path → Type 0 = λ p. ShowsNoName (layers_of c.args.layers.now) p in
    subst P c.in-Some.ensures c.requires.bare

pub returns-clause-steps : goal.returns-clause-steps
returns-clause-steps c =
    rmdir-step c.args.layers.now c.take_away.new.layers c.args.path.now (reverse c.in-Some.parents.now) c.in-Some.name.now c.in-Some.ensures
    (rmdir-allowed (layers_of c.args.layers.now) c.args.path.now c.requires.allowed) c.requires.bare c.in_ok-key.ensures.takes

pub returns-clause-unnames : goal.returns-clause-unnames
returns-clause-unnames c = subst (λ p. Unnames c.args.layers.now c.take_away.new.layers p c.in_ok-key.key) (sym c.in-Some.ensures) c.in_ok-key.ensures.unnames

pub returns-in_err-key-clause-no_memory : goal.returns-in_err-key-clause-no_memory
returns-in_err-key-clause-no_memory c =
    on-err _ c.from_residual.result
    (subst (λ p. ChangesNoSight c.args.layers.now c.take_away.new.layers (GainsParents c.args.layers.now c.take_away.new.layers p)) (sym c.in-Some.ensures) c.in_err-key.ensures.no_memory)
