use Rattle.std.proofs.Common.{take, reverse}
use Rattle.copy_up.proofs.Keeping.{way-shows}
use Rattle.copy_up.proofs.needs.directory_at.Goals as goal

pub directory_in-stack-requires : goal.directory_in-stack-requires
directory_in-stack-requires c = (reverse (take c.loop-name.name-index c.args.names.now), c.loop-name.invariant, way-shows c.args.layers.now c.args.names.now c.loop-name.name-index c.name-item.result c.loop-name-test.true c.name-item.is c.requires)
