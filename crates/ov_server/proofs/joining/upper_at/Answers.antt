use Rattle.std.proofs.Common.{codes}
use Rattle.toml.proofs.Views.{table_get}
use Rattle.ov_server.proofs.joining.upper_at.Goals as goal

pub returns : goal.returns
returns c = table_get c.get.result (codes "upper") c.args.manifest.now.entries c.get.ensures.value
