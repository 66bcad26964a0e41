use Rattle.std.proofs.Common.{◌≡◌, ◌∙◌, ap, is_some, sym}
use Rattle.std.specs.Prelude.{option_map}
use Rattle.std.specs.Vec.{vec_len}
use Rattle.std.proofs.lemmas.Result.{err_from_is_err_and}
use Rattle.toml.specs.View.{table_view}
use Rattle.layer_tree.specs.Tree.{layer_of}
use Rattle.overlay_core.specs.Views.{core_finished, core_layers, core_options, core_read_only}
use Rattle.overlay_core.proofs.Agreeing.{bounded}
use Rattle.overlay_core.proofs.Histories.{first_places}
use Rattle.ov_server.proofs.Manifests.{counted, given_upper, holds_manifest, refuses_none, refuses_told}
use Rattle.ov_server.proofs.Mountable.{no-fault, sound-number, told-length}
use Rattle.ov_server.proofs.play.core_keeping.Goals as goal

pub returns-in_err-upper-clause-manifest : goal.returns-in_err-upper-clause-manifest
returns-in_err-upper-clause-manifest g c =
    let p = err_from_is_err_and c.from_residual.result c.from_residual.ensures.1 in
    rw (p.1, p.2) (refuses_told _ c.args.blobs.now (table_view c.args.manifest.now) c.in_err-upper.field-0.0 c.in_err-upper.ensures.told)

pub unreachable-requires : goal.unreachable-requires
unreachable-requires g c =
    let told = c.in_ok-upper.ensures in
    let lasts = c.lasting-options.ensures in
    let within = told-length c.args.blobs.now (table_view c.args.manifest.now) c.in_ok-upper.told told.options in
    no-fault (vec_len c.in_ok-upper.lowers) c.lasting-options.result c.in_ok-upper.upper c.in_ok-upper.lowers.items _
    (sound-number (is_some c.in_ok-upper.upper) (vec_len c.in_ok-upper.lowers) c.lasting-options.result _ told.some_lower told.two_lowers told.few_lowers (lasts.least within.0) (lasts.most within.1))
    (λ there marks. lasts.redirects ∙ told.redirected there (sym lasts.metacopy ∙ marks)) told.unmarked (rw (c.in-Err-Some.is, c.in-Err-Some.enum_told_along-in-Err-Some-1-is) at c.mount_keeping.ensures.fault)

pub returns-in-Ok-clause-count : goal.returns-in-Ok-clause-count
returns-in-Ok-clause-count g c =
    let told = c.in_ok-upper.ensures in
    let lowers = rw c.in-Ok.is at c.mount_keeping.ensures.lowers in
    let read_only = given_upper c.in_ok-upper.upper (core_read_only c.in-Ok.core) (rw c.in-Ok.is at c.mount_keeping.ensures.read_only) in
    rw (lowers, read_only) (sym (counted _ c.args.blobs.now (table_view c.args.manifest.now) c.in_ok-upper.upper c.in_ok-upper.lowers.items told.upper told.spelled))

pub returns-in-Ok-clause-manifest : goal.returns-in-Ok-clause-manifest
returns-in-Ok-clause-manifest g c =
    refuses_none c.args.blobs.now (table_view c.args.manifest.now) c.in-Ok.core c.in_ok-upper.told c.in_ok-upper.ensures.options

pub returns-in-Ok-clause-places : goal.returns-in-Ok-clause-places
returns-in-Ok-clause-places g c =
    let options : core_options c.in-Ok.core ≡ c.lasting-options.result = rw c.in-Ok.is at c.mount_keeping.ensures.options in
    let finished : core_finished c.in-Ok.core ≡ 0 = rw c.in-Ok.is at c.mount_keeping.ensures.finished in
    first_places c.in-Ok.core (rw options (bounded (is_some (option_map layer_of c.in_ok-upper.upper)) (vec_len c.in_ok-upper.lowers) c.lasting-options.result ((rw c.in-Ok.is at c.mount_keeping.ensures.mounted).0))) finished (rw c.in-Ok.is at c.mount_keeping.ensures.nobody)

pub returns-in-Ok-clause-begins : goal.returns-in-Ok-clause-begins
returns-in-Ok-clause-begins g c = record {
  nobody = rw c.in-Ok.is at c.mount_keeping.ensures.nobody;
  first = rw c.in-Ok.is at c.mount_keeping.ensures.first;
}

pub returns-in-Ok-clause-mount : goal.returns-in-Ok-clause-mount
returns-in-Ok-clause-mount g c =
    let told = c.in_ok-upper.ensures in
    let core = c.in-Ok.core in
    let upper = c.in_ok-upper.upper in
    let read_only = given_upper upper (core_read_only core) (rw c.in-Ok.is at c.mount_keeping.ensures.read_only) in
    record {
      layers = holds_manifest c.args.blobs.now (table_view c.args.manifest.now) upper c.in_ok-upper.lowers.items c.in_ok-upper.told (core_layers core) told.options
          (rw c.in-Ok.is at c.mount_keeping.ensures.upper) (ap (λ v. v.items) (rw c.in-Ok.is at c.mount_keeping.ensures.lowers)) told.upper told.spelled;
      told = c.in_ok-upper.told;
      is_told = told.options;
      options = rw c.in-Ok.is at c.mount_keeping.ensures.options ∙ c.lasting-options.ensures.told;
      upper = sym (read_only ∙ told.upper);
    }
