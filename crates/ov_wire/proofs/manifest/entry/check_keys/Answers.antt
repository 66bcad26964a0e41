use Rattle.std.proofs.Common.{◌∙◌, sym}
use Rattle.ov_wire.specs.ManifestEntries.{takes}
use Rattle.ov_wire.proofs.Tables.{members_all-view}
use Rattle.ov_wire.proofs.manifest.entry.check_keys.Goals as goal

pub returns-then-not-takes_all : goal.returns-then-not-takes_all
returns-then-not-takes_all c = rw (members_all-view (takes c.args.kind c.args.path.now) c.args.entry.now.entries, sym c.takes_all.ensures ∙ c.if-not-takes_all.true)

pub returns-then-has_required : goal.returns-then-has_required
returns-then-has_required c = rw (members_all-view (takes c.args.kind c.args.path.now) c.args.entry.now.entries, sym c.takes_all.ensures ∙ c.if-not-takes_all.false, sym c.has_required.ensures ∙ c.if-has_required.true)
