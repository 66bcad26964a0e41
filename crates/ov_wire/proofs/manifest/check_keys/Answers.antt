use Rattle.std.proofs.Common.{◌∙◌, sym}
use Rattle.ov_wire.specs.Manifests.{is_top_key}
use Rattle.ov_wire.proofs.Tables.{members_all-view}
use Rattle.ov_wire.proofs.manifest.check_keys.Goals as goal

pub returns-then-has_top_keys : goal.returns-then-has_top_keys
returns-then-has_top_keys c = rw (members_all-view is_top_key c.args.manifest.now.entries, sym c.has_top_keys.ensures ∙ c.if-has_top_keys.true)

pub returns-else-has_top_keys : goal.returns-else-has_top_keys
returns-else-has_top_keys c = rw (members_all-view is_top_key c.args.manifest.now.entries, sym c.has_top_keys.ensures ∙ c.if-has_top_keys.false)
