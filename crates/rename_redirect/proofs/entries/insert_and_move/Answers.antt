use Rattle.std.proofs.Common.{◌∙◌, ap}
use Rattle.std.specs.Option.{option_and_then}
use Rattle.layer_tree.specs.Table.{object_key}
use Rattle.layer_tree.specs.Tree.{layer_of}
use Rattle.layer_tree.proofs.Nameless.{keeps_same}
use Rattle.copy_up.proofs.Keeping.{on-err}
use Rattle.rename_redirect.proofs.Rooms.{room-left}
use Rattle.rename_redirect.proofs.Moving.{route-keys, route-same, route-inserted, leads-inserted, inserted}
use Rattle.rename_redirect.proofs.entries.insert_and_move.Goals as goal

pub room_for_both-requires-clause-from : goal.room_for_both-requires-clause-from
room_for_both-requires-clause-from c =
    rw c.upper_mut.ensures.value (route-keys c.args.layers.now.upper c.requires.route.0 c.requires.route.1 c.args.route.now c.lawful.ensures.tree c.requires.route.2).from_directory

pub room_for_both-requires-clause-to : goal.room_for_both-requires-clause-to
room_for_both-requires-clause-to c =
    rw c.upper_mut.ensures.value (route-keys c.args.layers.now.upper c.requires.route.0 c.requires.route.1 c.args.route.now c.lawful.ensures.tree c.requires.route.2).to_directory

pub insert_reserved-key-requires-clause-no_object : goal.insert_reserved-key-requires-clause-no_object
insert_reserved-key-requires-clause-no_object c =
    let r = rw c.upper_mut.ensures.value at c.room_for_both.ensures in
    rw c.upper_mut-2.ensures.value
    (rw c.in_ok-name.ensures.cases (ap (option_and_then object_key) (r.same.entries c.args.route.now.from c.args.route.now.name.now) ∙ c.requires.free))

pub move_reserved-requires-clause-route : goal.move_reserved-requires-clause-route
move_reserved-requires-clause-route c =
    let r = rw c.upper_mut.ensures.value at c.room_for_both.ensures in
    let w = rw (c.upper_mut-2.ensures.value, c.in_ok-name.ensures.cases) at c.insert_reserved-key.ensures in
    let p = c.requires.route.0 in
    let q = c.requires.route.1 in
    rw c.upper_mut-3.ensures.value
    (p, q, route-inserted c.args.layers.now.upper c.room_for_both.new.upper c.insert_reserved-key.new.self c.args.route.now c.args.object c.insert_reserved-key.result r.same r.objects_held c.lawful-2.ensures.tree c.lawful-2.ensures.together w.inserts w.sets p q c.requires.route.2)

pub move_reserved-requires-clause-leads : goal.move_reserved-requires-clause-leads
move_reserved-requires-clause-leads c =
    let r = rw c.upper_mut.ensures.value at c.room_for_both.ensures in
    let w = rw (c.upper_mut-2.ensures.value, c.in_ok-name.ensures.cases) at c.insert_reserved-key.ensures in
    rw c.upper_mut-3.ensures.value
    (leads-inserted c.args.layers.now.upper c.room_for_both.new.upper c.insert_reserved-key.new.self c.args.route.now c.args.object c.insert_reserved-key.result r.same r.objects_held c.lawful-2.ensures.tree c.lawful-2.ensures.together w.inserts w.sets c.requires.route.0 c.requires.route.1 c.requires.route.2)

pub move_reserved-requires-clause-room : goal.move_reserved-requires-clause-room
move_reserved-requires-clause-room c =
    let w = rw c.upper_mut-2.ensures.value at c.insert_reserved-key.ensures in
    rw c.upper_mut-3.ensures.value (room-left c.room_for_both.new.upper c.insert_reserved-key.new.self c.args.route.now.from c.args.route.now.to c.in_ok-room_for_both.ensures.second w.names w.other_names)

pub returns-clause-moved : goal.returns-clause-moved
returns-clause-moved c = λ p q route.
    let r = rw c.upper_mut.ensures.value at c.room_for_both.ensures in
    let w = rw (c.upper_mut-2.ensures.value, c.in_ok-name.ensures.cases) at c.insert_reserved-key.ensures in
    let m = rw c.upper_mut-3.ensures.value at c.move_reserved.ensures in
    let there = route-inserted c.args.layers.now.upper c.room_for_both.new.upper c.insert_reserved-key.new.self c.args.route.now c.args.object c.insert_reserved-key.result r.same r.objects_held c.lawful-2.ensures.tree c.lawful-2.ensures.together w.inserts w.sets p q route in
    inserted c.args.layers.now.upper c.room_for_both.new.upper c.insert_reserved-key.new.self c.args.route.now c.args.object c.insert_reserved-key.result r.same r.objects_held c.lawful-2.ensures.tree c.lawful-2.ensures.together w.inserts w.sets p q route
    c.move_reserved.new.upper _ c.move_reserved.result r.keeps w.keeps (m.moved p q there)

pub returns-clause-keeps : goal.returns-clause-keeps
returns-clause-keeps c = λ h.
    let r = rw c.upper_mut.ensures.value at c.room_for_both.ensures in
    let w = rw c.upper_mut-2.ensures.value at c.insert_reserved-key.ensures in
    let m = rw c.upper_mut-3.ensures.value at c.move_reserved.ensures in
    let k = route-keys c.room_for_both.new.upper c.requires.route.0 c.requires.route.1 c.args.route.now c.lawful-2.ensures.tree (route-same (layer_of c.args.layers.now.upper) (layer_of c.room_for_both.new.upper) c.requires.route.0 c.requires.route.1 c.args.route.now r.objects_held c.requires.route.2) in
    m.keeps (w.keeps c.requires.route.0 k.from (r.keeps h))

pub returns-in_err-room_for_both-clause-same : goal.returns-in_err-room_for_both-clause-same
returns-in_err-room_for_both-clause-same c =
    let r = rw c.upper_mut.ensures.value at c.room_for_both.ensures in
    on-err _ c.from_residual-in_err-room_for_both.result (keeps_same c.args.layers.now.upper c.room_for_both.new.upper r.same)

pub returns-in_err-room_for_both-clause-keeps : goal.returns-in_err-room_for_both-clause-keeps
returns-in_err-room_for_both-clause-keeps c = let r = rw c.upper_mut.ensures.value at c.room_for_both.ensures in r.keeps
