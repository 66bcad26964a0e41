use Rattle.std.proofs.Common.{None, refl}
use Rattle.copy_up.proofs.OwnBytes.{sound-filled}
use Rattle.copy_up.proofs.Texts.{texts-filled, texts-still}
use Rattle.copy_up.proofs.filling.fill.Goals as goal

pub returns-clause-sound : goal.returns-clause-sound
returns-clause-sound c =
    sound-filled c.args.layers.now c.set_bytes.new.layers c.set_bytes.ensures.lowers c.args.key
    c.in_ok-bytes.bytes c.set_bytes.ensures.sets c.set_bytes.ensures.keeps

pub returns-clause-texts : goal.returns-clause-texts
returns-clause-texts c =
    texts-filled c.args.layers.now c.set_bytes.new.layers c.args.key c.in_ok-bytes.bytes
    c.set_bytes.ensures.sets

pub returns-in_err-bytes-clause-texts : goal.returns-in_err-bytes-clause-texts
returns-in_err-bytes-clause-texts c =
    texts-still c.args.layers.now c.args.layers.now None refl
