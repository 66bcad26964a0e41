use Rattle.std.proofs.Common.{refl}
use Rattle.ov_embedded.proofs.Moves.{reads_front, reads_refused}
use Rattle.ov_embedded.proofs.mounted.Mounted.read.Goals as goal

pub returns-in-Ok : goal.returns-in-Ok
returns-in-Ok c =
    let front = c.read_front.new.room in
    reads_front c.args.client c.args.descriptor c.args.room.now _ front c.moved-most.result _
    c.args.self.now c.read_front.new.self c.moved-most.ensures.moved c.moved-most.ensures.most
    c.read_front.ensures.rest refl c.in-Ok.count c.in-Ok.ensures.room c.in-Ok.ensures.made

pub returns-in-Err : goal.returns-in-Err
returns-in-Err c =
    let front = c.read_front.new.room in
    reads_refused c.args.client c.args.descriptor c.args.room.now _ front c.moved-most.result _
    c.args.self.now c.read_front.new.self c.moved-most.ensures.moved c.moved-most.ensures.most
    c.read_front.ensures.rest refl c.in-Err.errno c.in-Err.ensures.room c.in-Err.ensures.made
