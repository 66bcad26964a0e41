use Rattle.std.proofs.Common.{false}
use Rattle.overlay_core.specs.Mounting.{machine_options}
use Rattle.overlay_core.proofs.Arriving.{begins-with}
use Rattle.overlay_core.proofs.watched.Watched.new.Goals as goal

pub returns-clause-begins : goal.returns-clause-begins
returns-clause-begins g c =
    begins-with c.in_ok-mount.mount c.in-Ok.notifier c.args.layers (machine_options false c.args.options) c.in_ok-mount.ensures.layers c.requires
    c.in_ok-mount.ensures.begins (rw c.in-Ok.is at c.new-2.ensures.none) (rw c.in-Ok.is at c.new-2.ensures.handles)
    (rw c.in-Ok.is at c.new-2.ensures.instances) (rw c.in-Ok.is at c.new-2.ensures.renames)
