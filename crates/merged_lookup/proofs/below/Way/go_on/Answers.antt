use Rattle.std.proofs.Common.{refl}
use Rattle.std.proofs.lemmas.Result.{on_ok_weaker}
use Rattle.merged_lookup.proofs.Respelling.{goes-on, goes-on-none}
use Rattle.merged_lookup.proofs.below.Way.go_on.Goals as goal

pub returns-in-Some : goal.returns-in-Some
returns-in-Some c = on_ok_weaker c.spell.result (λ names p at.
    goes-on c.args.layer.now p c.args.name.now c.args.self.now c.spell.new.self _ at c.in-Some.ensures.1 c.spell.ensures.dir (names c.in-Some.key c.in-Some.ensures.0 c.in-Some.marks.now.opaque)) c.spell.ensures.names

pub returns-in_ok-push-in-None : goal.returns-in_ok-push-in-None
returns-in_ok-push-in-None c p at =
    goes-on-none c.args.layer.now p c.args.name c.args.self.now _ at c.in-None.ensures refl refl c.in_ok-push-in-None.ensures.items
