use Rattle.layer_tree.proofs.Nameless.{keeps_same}
use Rattle.layer_tree.specs.Tree.{layer_of}
use Rattle.copy_up.proofs.Keeping.{on-err}
use Rattle.rename_redirect.proofs.Moving.{route-keys, route-same, leads-same, entry-since}
use Rattle.rename_redirect.proofs.entries.move_in_upper.Goals as goal

pub room-requires : goal.room-requires
room-requires c =
    rw c.upper_mut.ensures.value (route-keys c.args.layers.now.upper c.requires.route.0 c.requires.route.1 c.args.route.now c.lawful.ensures.tree c.requires.route.2).to_directory

pub move_reserved-requires-clause-route : goal.move_reserved-requires-clause-route
move_reserved-requires-clause-route c =
    let w = rw c.upper_mut.ensures.value at c.room.ensures in
    rw c.upper_mut-2.ensures.value
    (c.requires.route.0, c.requires.route.1, route-same (layer_of c.args.layers.now.upper) (layer_of c.room.new.self) c.requires.route.0 c.requires.route.1 c.args.route.now w.objects_held c.requires.route.2)

pub move_reserved-requires-clause-leads : goal.move_reserved-requires-clause-leads
move_reserved-requires-clause-leads c =
    let w = rw c.upper_mut.ensures.value at c.room.ensures in
    rw c.upper_mut-2.ensures.value (leads-same c.args.layers.now.upper c.room.new.self c.args.route.now w.same c.requires.leads)

pub returns-clause-moved : goal.returns-clause-moved
returns-clause-moved c = λ p q route.
    let w = rw c.upper_mut.ensures.value at c.room.ensures in
    let m = rw c.upper_mut-2.ensures.value at c.move_reserved.ensures in
    entry-since c.args.layers.now.upper c.room.new.self c.move_reserved.new.upper _ _ _ c.move_reserved.result w.same w.objects_held
    (m.moved p q (route-same (layer_of c.args.layers.now.upper) (layer_of c.room.new.self) p q c.args.route.now w.objects_held route))

pub returns-clause-keeps : goal.returns-clause-keeps
returns-clause-keeps c = λ h.
    let w = rw c.upper_mut.ensures.value at c.room.ensures in
    let m = rw c.upper_mut-2.ensures.value at c.move_reserved.ensures in
    m.keeps (w.keeps h)

pub returns-in_err-room-clause-same : goal.returns-in_err-room-clause-same
returns-in_err-room-clause-same c =
    let w = rw c.upper_mut.ensures.value at c.room.ensures in
    on-err _ c.from_residual-in_err-room.result (keeps_same c.args.layers.now.upper c.room.new.self w.same)
