use Rattle.rename_redirect.proofs.Moving.{moves-entry, route-keys}
use Rattle.rename_redirect.proofs.entries.move_reserved.Goals as goal

pub returns-clause-moved : goal.returns-clause-moved
returns-clause-moved c = λ p q route.
    let w = rw c.requires.further at c.move_reserved-was.ensures in
    moves-entry c.args.upper.now c.move_reserved-was.new.self c.args.route.now c.released.result c.move_reserved-was.result c.lawful.ensures.tree c.requires.leads
    w.moves (λ x y from to r. w.path x y from to r.out r.within) w.keeps_objects w.unnamed c.lawful-2.ensures.unnamed w.value c.released.ensures p q route

pub returns-clause-keeps : goal.returns-clause-keeps
returns-clause-keeps c =
    let w = rw c.requires.further at c.move_reserved-was.ensures in
    let r = c.requires.route.2 in
    let k = route-keys c.args.upper.now c.requires.route.0 c.requires.route.1 c.args.route.now c.lawful.ensures.tree r in
    w.keeps c.requires.route.0 c.requires.route.1 k.from k.to r.out r.within k.bare
