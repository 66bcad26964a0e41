use Rattle.std.proofs.Common.{length}
use Rattle.mount_calls.specs.Reading.{read_reply}
use Rattle.ov_base.specs.declared.call.CallOf.TheVariants.{Read}
use Rattle.ov_embedded.proofs.Calls.{direct_call}
use Rattle.ov_embedded.proofs.mounted.Mounted.read_front.Goals as goal

pub returns-clause-made : goal.returns-clause-made
returns-clause-made c =
    let made = c.read_into.ensures in
    direct_call c.args.client c.args.self.now.core c.read_into.new.self
    (Read c.args.descriptor (length c.args.room.now)) (read_reply c.read_into.result c.read_into.new.room)
    made.finished made.goes made.clients made.kept
