use Rattle.std.proofs.Common.{sym, subst, subst₂, ap, ◌∙◌, ◌<◌, arith, is_some}
use Rattle.object_table.specs.Objects.{MovesSpots, room}
use Rattle.notice_laws.specs.Moves.{Moves}
use Rattle.notice_laws.specs.Notified.{Notified}
use Rattle.notice_laws.specs.Objects.{IsNumberOf}
use Rattle.notifier.specs.Moving.{IsFreeFor}
use Rattle.notifier.specs.Notifying.{Becomes, HasRoom}
use Rattle.notifier.proofs.Moved.{bare-risen, directory-spots, free-risen, left-spots, lifted, low-risen}
use Rattle.notifier.proofs.kept.Notifier.move_numbers.Goals as goal

pub returns-in-Directory-clause-moves : goal.returns-in-Directory-clause-moves
returns-in-Directory-clause-moves g c =
    let old = c.args.self.now in
    let p = c.args.old.now in
    let q = c.args.new.now in
    let place = c.requires.place c.in-Directory.is in
    subst (λ o. Becomes (Moves p q o c.args.replaced c.args.key) old.objects c.rename.new.self) (sym c.in-Directory.is)
    (directory-spots old.objects c.rename.new.self p q c.args.replaced c.args.key
    (subst (λ (k : Notified). MovesSpots k.objects c.rename.new.self p q) c.self.view_is c.rename.ensures.moves) c.requires.bare.1 place.replaced)

pub rise_number-requires-clause-there : goal.rise_number-requires-clause-there
rise_number-requires-clause-there g c = λ n is.
    let old = c.args.self.now in
    let found = subst₂ (IsNumberOf old.objects c.args.old.now) c.in-Lower.is is c.requires.found in
    c.lose_number.ensures.there n (ap is_some found)

pub rise_number-requires-clause-low : goal.rise_number-requires-clause-low
rise_number-requires-clause-low g c = λ n k is.
    let old = c.args.self.now in
    let p = c.args.old.now in
    let q = c.args.new.now in
    let found = subst₂ (IsNumberOf old.objects p) c.in-Lower.is is c.requires.found in
    low-risen p q c.args.replaced c.args.key old.objects c.lose_number.new.self.objects (c.lose_number.ensures.lost q c.requires.present) n k found

pub rise_number-requires-clause-bare : goal.rise_number-requires-clause-bare
rise_number-requires-clause-bare g c = λ n is.
    let old = c.args.self.now in
    let p = c.args.old.now in
    let q = c.args.new.now in
    let found = subst₂ (IsNumberOf old.objects p) c.in-Lower.is is c.requires.found in
    let free = subst (λ o. IsFreeFor old.objects p q o c.args.replaced c.args.key) c.in-Lower.is c.requires.free in
    bare-risen p q c.args.replaced c.args.key old.objects c.lose_number.new.self.objects (c.lose_number.ensures.lost q c.requires.present)
    (free n found).1 n found

pub rise_number-requires-clause-vacant : goal.rise_number-requires-clause-vacant
rise_number-requires-clause-vacant g c = λ n is.
    let old = c.args.self.now in
    let p = c.args.old.now in
    let q = c.args.new.now in
    let found = subst₂ (IsNumberOf old.objects p) c.in-Lower.is is c.requires.found in
    free-risen p q c.args.replaced c.args.key old.objects c.lose_number.new.self.objects (c.lose_number.ensures.lost q c.requires.present)
    (subst (λ o. IsFreeFor old.objects p q o c.args.replaced c.args.key) c.in-Lower.is c.requires.free) n found

pub rise_number-requires-clause-room : goal.rise_number-requires-clause-room
rise_number-requires-clause-room g c = λ n is.
    let old = c.args.self.now in
    let p = c.args.old.now in
    let found = subst₂ (IsNumberOf old.objects p) c.in-Lower.is is c.requires.found in
    let some : 0 < room old.objects = subst (HasRoom old.objects p) c.in-Lower.is c.requires.ready.room n found in
    let more = c.lose_number.ensures.room in
    omega (arith, some, more)

pub returns-in-Lower-clause-moves : goal.returns-in-Lower-clause-moves
returns-in-Lower-clause-moves g c =
    let old = c.args.self.now in
    let p = c.args.old.now in
    let q = c.args.new.now in
    subst (λ o. Becomes (Moves p q o c.args.replaced c.args.key) old.objects c.rise_number.new.self.objects) (sym c.in-Lower.is)
    (lifted p q c.args.replaced c.args.key old.objects c.lose_number.new.self.objects c.rise_number.new.self.objects
    (c.lose_number.ensures.lost q c.requires.present) c.lawful.ensures.one_there c.args.course.now.number
    (subst (λ o. IsNumberOf old.objects p o c.args.course.now.number) c.in-Lower.is c.requires.found)
    c.rise_number.ensures.rises c.rise_number.ensures.none)

pub returns-in_default-clause-moves : goal.returns-in_default-clause-moves
returns-in_default-clause-moves g c =
    left-spots c.args.old.now c.args.new.now c.args.replaced c.args.key c.args.self.now.objects c.lose_number-in_default.new.self.objects
    (c.lose_number-in_default.ensures.lost c.args.new.now c.requires.present) c.args.object c.in_default.not-Directory
    (λ lower. absurd (c.in_default.not-Lower lower))

pub returns-in-Lower-clause-rest : goal.returns-in-Lower-clause-rest
returns-in-Lower-clause-rest g c =
    c.rise_number.ensures.rest ∙ ap (λ (k : Notified). record k { objects = c.rise_number.new.self.objects }) c.lose_number.ensures.rest
