use Rattle.std.proofs.Common.{◌≡◌, length, rules}
use Rattle.std.proofs.lemmas.Result.{err_from_is_err_and}
use Rattle.toml.specs.View.{table_view}
use Rattle.ov_embedded.proofs.Refusals.{none_blobs, none_layers, none_whole}
use Rattle.ov_embedded.proofs.mounted.Mounted.new.Goals as goal

pub returns-in_err-blobs_of-clause-refused : goal.returns-in_err-blobs_of-clause-refused
returns-in_err-blobs_of-clause-refused c =
    let p = err_from_is_err_and c.from_residual-in_err-blobs_of.result
    c.from_residual-in_err-blobs_of.ensures.1 in
    rw (p.1, p.2) (none_whole c.args.manifest.now c.args.blobs.now c.args.lengths.now
    (table_view c.in_ok-table.table) c.in_err-blobs_of.field-0.0 c.in_ok-table.ensures.table
    c.in_err-blobs_of.ensures.memory)

pub returns-in_err-blobs-clause-refused : goal.returns-in_err-blobs-clause-refused
returns-in_err-blobs-clause-refused c =
    let p = err_from_is_err_and c.from_residual-in_err-blobs.result
    c.from_residual-in_err-blobs.ensures.1 in
    let counted : c.len-count.result ≡ length c.in_ok-blobs_of.field-0.items = search rules in
    rw (p.1, p.2) (none_blobs c.args.manifest.now c.args.blobs.now c.args.lengths.now
    (λ name. name.now) c.in_ok-blobs_of.field-0.items (table_view c.in_ok-table.table)
    c.len-count.result _ c.in_ok-table.ensures.table c.in_ok-blobs_of.ensures.names counted
    c.in_err-blobs.ensures.unfit)
