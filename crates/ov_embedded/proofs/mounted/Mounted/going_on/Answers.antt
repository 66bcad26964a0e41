use Rattle.std.proofs.Common.{◌≡◌, length, rules}
use Rattle.std.proofs.lemmas.Result.{err_from_is_err_and}
use Rattle.toml.specs.View.{table_view}
use Rattle.ov_server.specs.GoingOn.{IsRefusalOf}
use Rattle.ov_server.specs.declared.fault.Fault.TheVariants.{Upper}
use Rattle.ov_embedded.proofs.Manifests.{goes_on}
use Rattle.ov_embedded.proofs.Refusals.{counted, nowhere_alone, nowhere_blamed, nowhere_blobs, nowhere_judged, nowhere_whole}
use Rattle.ov_embedded.proofs.mounted.Mounted.going_on.Goals as goal

pub returns-in-Ok-core_of-clause-mounted : goal.returns-in-Ok-core_of-clause-mounted
returns-in-Ok-core_of-clause-mounted c =
    let upper = table_view c.in-Ok.upper in
    let m = table_view c.in_ok-table.table in
    let joined = table_view c.in-Ok-going_on.joined in
    let names = c.in_ok-blobs_of.field-0.items in
    let mount = rw c.as_slice.ensures.value at c.in-Ok-core_of.ensures.mount in
    let many : c.len-count.result ≡ length names = search rules in
    goes_on c.args.blobs.now c.args.lengths.now c.in_ok-blobs.blobs.items c.in-Ok-core_of.core
    c.of.result.core c.args.saved.now c.args.manifest.now upper m joined c.len-count.result
    c.in-Ok.ensures.table c.in_ok-table.ensures.table c.in-Ok-going_on.ensures.ok
    c.in_ok-blobs.ensures.blobs
    (counted (λ name. name.now) names m c.len-count.result c.in_ok-blobs_of.ensures.names many)
    c.in_ok-blobs.ensures.fits mount c.of.ensures.core

pub returns-in_err-blobs_of-clause-refused : goal.returns-in_err-blobs_of-clause-refused
returns-in_err-blobs_of-clause-refused c =
    let p = err_from_is_err_and c.from_residual-in_err-blobs_of.result
    c.from_residual-in_err-blobs_of.ensures.1 in
    rw (p.1, p.2) (nowhere_whole c.args.manifest.now c.args.blobs.now c.args.lengths.now
    c.args.saved.now (table_view c.in_ok-table.table) c.in_err-blobs_of.field-0.0
    c.in_ok-table.ensures.table c.in_err-blobs_of.ensures.memory)

pub returns-in_err-blobs-clause-refused : goal.returns-in_err-blobs-clause-refused
returns-in_err-blobs-clause-refused c =
    let p = err_from_is_err_and c.from_residual-in_err-blobs.result
    c.from_residual-in_err-blobs.ensures.1 in
    let many : c.len-count.result ≡ length c.in_ok-blobs_of.field-0.items = search rules in
    rw (p.1, p.2) (nowhere_blobs c.args.manifest.now c.args.blobs.now c.args.lengths.now
    c.args.saved.now (λ name. name.now) c.in_ok-blobs_of.field-0.items
    (table_view c.in_ok-table.table) c.len-count.result _ c.in_ok-table.ensures.table
    c.in_ok-blobs_of.ensures.names many c.in_err-blobs.ensures.unfit)

pub returns-in-Err-Upper-clause-refused : goal.returns-in-Err-Upper-clause-refused
returns-in-Err-Upper-clause-refused c =
    let s = table_view c.in-Ok.upper in
    let refused : IsRefusalOf s (Upper c.in-Err-Upper.fault) = search rules in
    nowhere_alone c.args.manifest.now c.args.blobs.now c.args.lengths.now c.args.saved.now s
    c.in-Err-Upper.fault c.in-Ok.ensures.table refused

pub returns-in_err-judge-clause-refused : goal.returns-in_err-judge-clause-refused
returns-in_err-judge-clause-refused c =
    let p = err_from_is_err_and c.from_residual-in_err-judge.result
    c.from_residual-in_err-judge.ensures.1 in
    rw (p.1, p.2) (nowhere_judged c.args.manifest.now c.args.blobs.now c.args.lengths.now
    c.args.saved.now (table_view c.in-Ok.upper) (table_view c.in_ok-table.table)
    (table_view c.in-Ok-going_on.joined) c.in-Ok.ensures.table c.in_ok-table.ensures.table
    c.in-Ok-going_on.ensures.ok _ c.in_err-judge.ensures)

pub returns-clause-refused : goal.returns-clause-refused
returns-clause-refused c =
    let fault = rw c.as_slice.ensures.value at c.in-Err-core_of.ensures.fault in
    nowhere_blamed c.args.manifest.now c.args.blobs.now c.args.lengths.now c.args.saved.now
    (table_view c.in-Ok.upper) (table_view c.in_ok-table.table)
    (table_view c.in-Ok-going_on.joined) c.in-Ok.ensures.table c.in_ok-table.ensures.table
    c.in-Ok-going_on.ensures.ok c.in_ok-blobs.blobs.items c.in-Err-core_of.fault c.whose.result
    c.in_ok-blobs.ensures.blobs fault c.whose.ensures
