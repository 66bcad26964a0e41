use Rattle.std.proofs.Common.{arith, ◌≡◌, [], refl}
use Rattle.overlay_core.specs.Views.{core_clients, next_client}
use Rattle.overlay_core.proofs.LegalHistories.{legal_begins, nobody_yet, numbers_begin}
use Rattle.locked_history.proofs.Beginning.{boxes_begin, none_of}
use Rattle.overlay_core.proofs.Histories.{first_places}
use Rattle.locked_history.proofs.mount.Mount.open.Goals as goal

pub invariant_of-locked-clause-legal : goal.invariant_of-locked-clause-legal
invariant_of-locked-clause-legal g c =
    let b = c.args.blank in
    let none : b.notes.items ≡ [] = none_of b.notes.items (omega (arith, b.notes_room.0, b.notes.ok.0)) in
    rw none (legal_begins g.N.MountName.opening b.core b.core.agrees b.core.begins b.untouched c.requires.opening)

pub invariant_of-locked-clause-due : goal.invariant_of-locked-clause-due
invariant_of-locked-clause-due g c =
    let b = c.args.blank in
    let first : next_client b.core ≡ 0 = omega (arith, b.core.given, b.untouched) in
    let none : b.notes.items ≡ [] = none_of b.notes.items (omega (arith, b.notes_room.0, b.notes.ok.0)) in
    let numbers : b.numbers.items ≡ [] = none_of b.numbers.items (omega (arith, b.numbers_room.0, b.numbers.ok.0)) in
    rw (none, numbers) (numbers_begin (core_clients b.core) first)

pub invariant_of-locked-clause-names : goal.invariant_of-locked-clause-names
invariant_of-locked-clause-names g c =
    let b = c.args.blank in
    let none : b.notes.items ≡ [] = none_of b.notes.items (omega (arith, b.notes_room.0, b.notes.ok.0)) in
    rw (none, b.notes_room.0) refl

pub invariant_of-locked-clause-known : goal.invariant_of-locked-clause-known
invariant_of-locked-clause-known g c =
    let b = c.args.blank in
    let none : b.notes.items ≡ [] = none_of b.notes.items (omega (arith, b.notes_room.0, b.notes.ok.0)) in
    rw none refl

pub invariant_of-locked-clause-places : goal.invariant_of-locked-clause-places
invariant_of-locked-clause-places g c =
    let b = c.args.blank in
    let first : next_client b.core ≡ 0 = omega (arith, b.core.given, b.untouched) in
    first_places b.core b.core.short b.untouched (nobody_yet (core_clients b.core) first)

pub invariant_of-locked-clause-spare : goal.invariant_of-locked-clause-spare
invariant_of-locked-clause-spare g c =
    let b = c.args.blank in
    let first : next_client b.core ≡ 0 = omega (arith, b.core.given, b.untouched) in
    boxes_begin b.boxes.items (core_clients b.core) first
