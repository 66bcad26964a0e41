use Rattle.std.proofs.lemmas.Result.{IfOk-weaker}
use Rattle.mount_calls.proofs.Keys.{named-key}
use Rattle.mount_calls.proofs.LinkedCalls.{link-made}
use Rattle.mount_calls.proofs.mount.Mount.give_name.Goals as goal

pub returns-clause-makes : goal.returns-clause-makes
returns-clause-makes c =
    let made = c.link.ensures in
    link-made c.args.self.now c.link.new.layers c.args.old.now c.args.new.now made.lowers made.texts made.sound c.link.result c.requires.fine made.linked made.steps made.no_memory

pub returns-clause-key : goal.returns-clause-key
returns-clause-key c = IfOk-weaker c.link.result _ _ (λ key held. named-key c.link.new.layers c.args.old.now key held) c.link.ensures.key
