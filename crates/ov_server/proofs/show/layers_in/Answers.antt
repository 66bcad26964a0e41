use Rattle.std.proofs.Common.{ap, sym}
use Rattle.std.proofs.lemmas.Result.{err_from_is_err_and}
use Rattle.toml.specs.View.{table_view}
use Rattle.ov_server.specs.Rosters.{Layering}
use Rattle.ov_server.proofs.Manifests.{counted, holds_manifest, refuses_none, refuses_told}
use Rattle.ov_server.proofs.show.layers_in.Goals as goal

pub returns-in_err-upper-clause-manifest : goal.returns-in_err-upper-clause-manifest
returns-in_err-upper-clause-manifest c =
    let p = err_from_is_err_and c.from_residual.result c.from_residual.ensures.1 in
    rw (p.1, p.2) (refuses_told _ c.args.blobs.now (table_view c.args.manifest.now) c.in_err-upper.field-0.0 c.in_err-upper.ensures.told)

pub returns-in-Ok-clause-count : goal.returns-in-Ok-clause-count
returns-in-Ok-clause-count c =
    let told = c.in_ok-upper.ensures in
    rw (rw c.in-Ok.is at c.new.ensures.lowers) (ap (λ (l : Layering). l.1) (sym (counted _ c.args.blobs.now (table_view c.args.manifest.now) c.in_ok-upper.upper c.in_ok-upper.lowers.items told.upper told.spelled)))

pub returns-in-Ok-clause-manifest : goal.returns-in-Ok-clause-manifest
returns-in-Ok-clause-manifest c =
    refuses_none c.args.blobs.now (table_view c.args.manifest.now) c.in-Ok.layers c.in_ok-upper.field-0-2 c.in_ok-upper.ensures.options

pub returns-in-Ok-clause-layers : goal.returns-in-Ok-clause-layers
returns-in-Ok-clause-layers c =
    let told = c.in_ok-upper.ensures in
    holds_manifest c.args.blobs.now (table_view c.args.manifest.now) c.in_ok-upper.upper c.in_ok-upper.lowers.items c.in_ok-upper.field-0-2 c.in-Ok.layers told.options
    (rw (rw c.in-Ok.is at c.new.ensures.upper) c.in_ok-over.ensures.given) (ap (λ v. v.items) (rw c.in-Ok.is at c.new.ensures.lowers)) told.upper told.spelled
