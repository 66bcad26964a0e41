use Rattle.std.proofs.Common.{◌≡◌, ◌∙◌, sym}
use Rattle.std.proofs.lemmas.Iterator.Adapters.{YieldsList-from_vec}
use Rattle.std.proofs.lemmas.Iterator.Consumers.{YieldsList-end}
use Rattle.std.proofs.lemmas.List.{map-id}
use Rattle.std.proofs.lemmas.List.Elements.{All-push, All-same, All-weaker}
use mathlib.Core.List.{IsPrefix}
use Rattle.endless_mount.proofs.Fronts.{prefix_trans}
use Rattle.socket_server.proofs.endless_serving.longest.Goals as goal

pub loop-worked-preserved : goal.loop-worked-preserved
loop-worked-preserved g c =
    let seen = c.longer-seen.result in
    let worked = c.in-Some.worked in
    All-push (λ w. IsPrefix w.kept seen) c.loop-worked.yielded worked
    (All-weaker (λ w. IsPrefix w.kept c.loop-worked.seen) (λ w. IsPrefix w.kept seen)
    (λ w begins. prefix_trans w.kept c.loop-worked.seen seen begins c.longer-seen.ensures.this)
    c.loop-worked.yielded c.loop-worked.invariant)
    c.longer-seen.ensures.that

pub returns : goal.returns
returns g c =
    let b = c.into_iter-worked-iterator.ensures.into_iter_gives in
    let whole = YieldsList-from_vec {s = c.into_iter-worked-iterator.result} c.args.workers.items b.0
    (b.1 ∙ c.args.workers.ok.0) in
    let all : c.loop-worked.yielded ≡ c.args.workers.items =
    sym (map-id c.loop-worked.yielded)
    ∙ (YieldsList-end whole c.loop-worked.yielded c.loop-worked.worked-iterator
    c.loop-worked.yielded_by c.next.result c.next.new.self c.in-None.is c.next.ensures.steps).0 in
    All-same (λ w. IsPrefix w.kept c.loop-worked.seen) c.args.workers.items c.loop-worked.yielded
    (sym all) c.loop-worked.invariant
