use Rattle.std.proofs.Common.{◌≡◌}
use Rattle.std.proofs.lemmas.Result.{err_from_is_err_and}
use Rattle.toml.specs.View.{table_view}
use Rattle.ov_embedded.proofs.Names.{nameless_whole}
use Rattle.ov_embedded.proofs.naming.names_in.Goals as goal

pub returns-in_err-names-clause-none : goal.returns-in_err-names-clause-none
returns-in_err-names-clause-none c =
    let p = err_from_is_err_and c.from_residual-in_err-names.result
    c.from_residual-in_err-names.ensures.1 in
    rw (p.1, p.2) (nameless_whole c.args.manifest.now (table_view c.in_ok-table.table)
    c.in_err-names.field-0.0 c.in_ok-table.ensures.table c.in_err-names.ensures.memory)
