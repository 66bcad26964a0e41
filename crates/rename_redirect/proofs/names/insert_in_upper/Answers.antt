use Rattle.std.proofs.Common.{◌∙◌, ap, is_some}
use Rattle.std.specs.Option.{option_and_then}
use Rattle.layer_tree.specs.Table.{object_key}
use Rattle.layer_tree.proofs.Roots.{key_at-bound}
use Rattle.merged_lookup.proofs.Descending.{key-of}
use Rattle.copy_up.proofs.Copying.{leaf-leads, leaf-object}
use Rattle.copy_up.proofs.Keeping.{on-err}
use Rattle.layer_tree.proofs.Nameless.{keeps_same}
use Rattle.copy_up.proofs.Nodes.{place-directory, place-free}
use Rattle.rename_redirect.proofs.Rooms.{room-left}
use Rattle.rename_redirect.proofs.Further.{new-room, second-place, copies-name, keeps-first, copies-kept, copies-directories}
use Rattle.rename_redirect.proofs.names.insert_in_upper.Goals as goal

pub room_for_both-requires-clause-from : goal.room_for_both-requires-clause-from
room_for_both-requires-clause-from c =
    rw c.upper_mut.ensures.value (place-directory c.args.layers.now.upper c.lawful.ensures.tree c.args.from c.args.name.now c.requires.places.0 c.requires.places.2)

pub room_for_both-requires-clause-to : goal.room_for_both-requires-clause-to
room_for_both-requires-clause-to c =
    rw c.upper_mut.ensures.value (place-directory c.args.layers.now.upper c.lawful.ensures.tree c.args.to c.args.further.now c.requires.places.1 c.requires.places.3)

pub insert_reserved-key-requires-clause-no_object : goal.insert_reserved-key-requires-clause-no_object
insert_reserved-key-requires-clause-no_object c =
    let r = rw c.upper_mut.ensures.value at c.room_for_both.ensures in
    rw c.upper_mut-2.ensures.value
    (ap (option_and_then object_key) (r.same.entries c.args.from c.in_ok-name.name)
    ∙ rw c.in_ok-name.ensures.cases (place-free c.args.layers.now.upper c.lawful.ensures.tree c.args.from c.args.name.now c.requires.places.0 c.requires.places.2))

pub insert_reserved-key-requires-clause-redirect : goal.insert_reserved-key-requires-clause-redirect
insert_reserved-key-requires-clause-redirect c = leaf-leads c.args.object (ap is_some c.requires.leaf.1)

pub link-requires-clause-no_object : goal.link-requires-clause-no_object
link-requires-clause-no_object c =
    let r = rw c.upper_mut.ensures.value at c.room_for_both.ensures in
    let w = rw (c.upper_mut-2.ensures.value, c.in_ok-name.ensures.cases) at c.insert_reserved-key.ensures in
    rw (c.upper_mut-3.ensures.value, c.in_ok-further.ensures.cases)
    (place-free c.insert_reserved-key.new.self c.lawful-2.ensures.tree c.args.to c.args.further.now c.requires.places.1
    (second-place c.args.layers.now.upper c.room_for_both.new.upper c.insert_reserved-key.new.self r.same r.objects_held c.args.from c.args.name.now c.args.object c.requires.leaf.0 c.requires.leaf.1 c.insert_reserved-key.result
    w.inserts w.sets c.requires.places.0 c.requires.places.2 c.args.to c.args.further.now c.requires.places.1 c.requires.places.3 c.requires.places.4))

pub returns-clause-copied : goal.returns-clause-copied
returns-clause-copied c = λ p f q g i off is.
    let r = rw c.upper_mut.ensures.value at c.room_for_both.ensures in
    let w = rw (c.upper_mut-2.ensures.value, c.in_ok-name.ensures.cases) at c.insert_reserved-key.ensures in
    let k = rw (c.upper_mut-3.ensures.value, c.in_ok-further.ensures.cases) at c.in_ok-link.ensures in
    copies-name c.args.layers.now.upper c.room_for_both.new.upper c.insert_reserved-key.new.self r.same r.objects_held c.args.from c.args.name.now c.args.object i is c.insert_reserved-key.result
    w.inserts w.sets p f c.args.to c.args.further.now q g off
    c.link.new.self k.links k.sets c.lawful-2.ensures.together
    (λ h. w.keeps p (key_at-bound c.args.layers.now.upper c.room_for_both.new.upper r.same.entries p ∙ key-of c.args.layers.now.upper p c.args.from f.attributes f.opaque f.redirect f.directory) (r.keeps h))

pub returns-clause-directories : goal.returns-clause-directories
returns-clause-directories c =
    let r = rw c.upper_mut.ensures.value at c.room_for_both.ensures in
    let w = rw (c.upper_mut-2.ensures.value, c.in_ok-name.ensures.cases) at c.insert_reserved-key.ensures in
    let k = rw (c.upper_mut-3.ensures.value, c.in_ok-further.ensures.cases) at c.in_ok-link.ensures in
    copies-directories c.args.layers.now.upper c.room_for_both.new.upper c.insert_reserved-key.new.self r.same r.objects_held c.args.from c.args.name.now c.args.object c.requires.leaf.0 c.requires.leaf.1 c.insert_reserved-key.result
    w.inserts w.sets c.requires.places.0 c.requires.places.2 c.args.to c.args.further.now c.requires.places.1 c.requires.places.3 c.requires.places.4
    c.link.new.self k.links k.sets

pub returns-clause-objects : goal.returns-clause-objects
returns-clause-objects c =
    let r = rw c.upper_mut.ensures.value at c.room_for_both.ensures in
    let w = rw (c.upper_mut-2.ensures.value, c.in_ok-name.ensures.cases) at c.insert_reserved-key.ensures in
    let k = rw (c.upper_mut-3.ensures.value, c.in_ok-further.ensures.cases) at c.in_ok-link.ensures in (
      c.insert_reserved-key.result,
      copies-kept c.args.layers.now.upper c.room_for_both.new.upper c.insert_reserved-key.new.self r.same r.objects_held c.args.from c.args.name.now c.args.object c.requires.leaf.0 c.requires.leaf.1 c.insert_reserved-key.result
          w.inserts w.sets c.requires.places.0 c.requires.places.2 c.args.to c.args.further.now c.requires.places.1 c.requires.places.3 c.requires.places.4
          c.link.new.self k.links k.sets,
    )

pub returns-clause-key : goal.returns-clause-key
returns-clause-key c = λ p f q g off.
    let r = rw c.upper_mut.ensures.value at c.room_for_both.ensures in
    let w = rw (c.upper_mut-2.ensures.value, c.in_ok-name.ensures.cases) at c.insert_reserved-key.ensures in
    let k = rw (c.upper_mut-3.ensures.value, c.in_ok-further.ensures.cases) at c.in_ok-link.ensures in
    keeps-first c.args.layers.now.upper c.room_for_both.new.upper c.insert_reserved-key.new.self r.same r.objects_held c.args.from c.args.name.now c.args.object c.requires.leaf.0 c.requires.leaf.1 c.insert_reserved-key.result
    w.inserts w.sets p f c.args.to c.args.further.now q g off
    c.link.new.self k.links k.sets

pub returns-in_err-link-clause-same : goal.returns-in_err-link-clause-same
returns-in_err-link-clause-same c =
    let w = rw (c.upper_mut-2.ensures.value, c.in_ok-name.ensures.cases) at c.insert_reserved-key.ensures in
    let e = rw c.upper_mut-3.ensures.value at c.in_err-link.ensures in
    let ok = e.succeeds
    (room-left c.room_for_both.new.upper c.insert_reserved-key.new.self c.args.from c.args.to c.in_ok-room_for_both.ensures.second w.names w.other_names)
    (new-room c.insert_reserved-key.new.self c.insert_reserved-key.result c.requires.leaf.0 (w.inserts.inode ∙ c.requires.leaf.1) (leaf-object c.args.object c.requires.leaf.0 c.requires.leaf.1).one) in
    absurd (cc)

pub returns-in_err-link-clause-unchanged : goal.returns-in_err-link-clause-unchanged
returns-in_err-link-clause-unchanged c =
    let w = rw (c.upper_mut-2.ensures.value, c.in_ok-name.ensures.cases) at c.insert_reserved-key.ensures in
    let e = rw c.upper_mut-3.ensures.value at c.in_err-link.ensures in
    let ok = e.succeeds
    (room-left c.room_for_both.new.upper c.insert_reserved-key.new.self c.args.from c.args.to c.in_ok-room_for_both.ensures.second w.names w.other_names)
    (new-room c.insert_reserved-key.new.self c.insert_reserved-key.result c.requires.leaf.0 (w.inserts.inode ∙ c.requires.leaf.1) (leaf-object c.args.object c.requires.leaf.0 c.requires.leaf.1).one) in
    absurd (cc)

pub returns-in_err-link-clause-keeps : goal.returns-in_err-link-clause-keeps
returns-in_err-link-clause-keeps c =
    let w = rw (c.upper_mut-2.ensures.value, c.in_ok-name.ensures.cases) at c.insert_reserved-key.ensures in
    let e = rw c.upper_mut-3.ensures.value at c.in_err-link.ensures in
    let ok = e.succeeds
    (room-left c.room_for_both.new.upper c.insert_reserved-key.new.self c.args.from c.args.to c.in_ok-room_for_both.ensures.second w.names w.other_names)
    (new-room c.insert_reserved-key.new.self c.insert_reserved-key.result c.requires.leaf.0 (w.inserts.inode ∙ c.requires.leaf.1) (leaf-object c.args.object c.requires.leaf.0 c.requires.leaf.1).one) in
    absurd (cc)

pub returns-clause-keeps : goal.returns-clause-keeps
returns-clause-keeps c = λ h.
    let r = rw c.upper_mut.ensures.value at c.room_for_both.ensures in
    let w = rw (c.upper_mut-2.ensures.value, c.in_ok-name.ensures.cases) at c.insert_reserved-key.ensures in
    let k = rw c.upper_mut-3.ensures.value at c.link.ensures in
    let f = c.requires.places.2 in
    let q = c.requires.places.1 in
    let at = second-place c.args.layers.now.upper c.room_for_both.new.upper c.insert_reserved-key.new.self r.same r.objects_held c.args.from c.args.name.now c.args.object c.requires.leaf.0 c.requires.leaf.1 c.insert_reserved-key.result
    w.inserts w.sets c.requires.places.0 f c.args.to c.args.further.now q c.requires.places.3 c.requires.places.4 in
    k.keeps q (key-of c.insert_reserved-key.new.self q c.args.to at.attributes at.opaque at.redirect at.directory)
    (w.keeps c.requires.places.0 (key_at-bound c.args.layers.now.upper c.room_for_both.new.upper r.same.entries c.requires.places.0 ∙ key-of c.args.layers.now.upper c.requires.places.0 c.args.from f.attributes f.opaque f.redirect f.directory) (r.keeps h))

pub returns-in_err-room_for_both-clause-same : goal.returns-in_err-room_for_both-clause-same
returns-in_err-room_for_both-clause-same c =
    let r = rw c.upper_mut.ensures.value at c.room_for_both.ensures in
    on-err _ c.from_residual-in_err-room_for_both.result (keeps_same c.args.layers.now.upper c.room_for_both.new.upper r.same)

pub returns-in_err-room_for_both-clause-keeps : goal.returns-in_err-room_for_both-clause-keeps
returns-in_err-room_for_both-clause-keeps c =
    let r = rw c.upper_mut.ensures.value at c.room_for_both.ensures in
    r.keeps
