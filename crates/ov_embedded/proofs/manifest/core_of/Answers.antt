use Rattle.std.proofs.Common.{◌≡◌, ◌∙◌, Ok, ap, is_some, sym, subst}
use Rattle.std.specs.Vec.{vec_len}
use Rattle.std.proofs.lemmas.Result.{err_from_is_err_and}
use Rattle.toml.specs.View.{table_view}
use Rattle.overlay_core.specs.Views.{CoreBegins, core_layers, core_options, core_read_only}
use Rattle.ov_wire.specs.ManifestLayers.{AreSpelled, layer_items, manifest_of}
use Rattle.ov_wire.specs.Manifests.{has_upper}
use Rattle.ov_server.proofs.Mountable.{no-fault, sound-number, told-length}
use Rattle.ov_embedded.specs.Mounting.{layers_told}
use Rattle.ov_embedded.proofs.Manifests.{given_upper, held_by, told_fault}
use Rattle.ov_embedded.proofs.manifest.core_of.Goals as goal

pub returns-in_err-upper-clause-fault : goal.returns-in_err-upper-clause-fault
returns-in_err-upper-clause-fault c =
    let p = err_from_is_err_and c.from_residual.result c.from_residual.ensures.1 in
    rw (p.1, p.2) (told_fault c.args.blobs.now (table_view c.args.manifest.now)
    c.in_err-upper.field-0.0 c.in_err-upper.ensures.told)

pub returns-in-Ok-clause-mount : goal.returns-in-Ok-clause-mount
returns-in-Ok-clause-mount c =
    let told = c.in_ok-upper.ensures in
    let core = c.in-Ok.core in
    let upper = c.in_ok-upper.upper in
    let blobs = c.args.blobs.now in
    let m = table_view c.args.manifest.now in
    let given = c.in_ok-upper.options in
    let options : core_options core ≡ given = rw c.in-Ok.is at c.mount.ensures.options in
    let read_only = given_upper upper (core_read_only core)
    (rw c.in-Ok.is at c.mount.ensures.read_only) in
    let lowers = ap (λ v. v.items) (rw c.in-Ok.is at c.mount.ensures.lowers) in
    record {
      options = subst (λ o. manifest_of blobs m ≡ Ok o) (sym options) told.options;
      layers = subst
          (λ limit. AreSpelled limit blobs (layers_told (has_upper m) (core_layers core))
          (layer_items m))
          (sym (ap (λ o. o.file_limit) options))
          (held_by given.file_limit blobs upper c.in_ok-upper.lowers.items (core_layers core)
          (has_upper m) (layer_items m) (rw c.in-Ok.is at c.mount.ensures.upper) lowers
          (sym told.upper) told.spelled);
      upper = sym (read_only ∙ told.upper);
      finished = rw c.in-Ok.is at c.mount.ensures.finished;
      nobody = rw c.in-Ok.is at c.mount.ensures.nobody;
      begins = subst (λ o. CoreBegins core o) (sym options) (rw c.in-Ok.is at c.mount.ensures.begins);
    }

-- layers that a manifest gave are a mount
pub unreachable-requires : goal.unreachable-requires
unreachable-requires c =
    let told = c.in_ok-upper.ensures in
    let upper = c.in_ok-upper.upper in
    let lowers = c.in_ok-upper.lowers in
    let options = c.in_ok-upper.options in
    let within = told-length c.args.blobs.now (table_view c.args.manifest.now) options
    told.options in
    no-fault (vec_len lowers) options upper lowers.items _
    (sound-number (is_some upper) (vec_len lowers) options _ told.some_lower told.two_lowers
    told.few_lowers within.0 within.1)
    told.redirected told.unmarked
    (rw (c.in-Err-Some.is, c.in-Err-Some.enum_told_along-in-Err-Some-1-is) at
    c.mount.ensures.fault)
