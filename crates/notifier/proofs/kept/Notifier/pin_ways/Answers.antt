use Rattle.std.proofs.Common.{reverse, subst, sym, ap, arith, ◌<◌, ◌∙◌}
use Rattle.plain_model.specs.Layers.{Name, Path}
use Rattle.watch_table.proofs.Outcomes.{OnOk-map}
use Rattle.notice_laws.specs.Notified.{Notified}
use Rattle.notifier.specs.Moving.{IsPin}
use Rattle.notifier.proofs.Leading.{held-pin, led-kept, none-pinned, some-pinned}
use Rattle.notifier.proofs.kept.Notifier.pin_ways.Goals as goal

pub returns-in-Some-clause-pinned : goal.returns-in-Some-clause-pinned
returns-in-Some-clause-pinned g c =
    let old = c.args.self.now in
    let new = c.pin-pinned.new.self in
    let number = c.args.number in
    let from = c.way_to-from.result in
    let directory : Path = reverse c.in-Some.parents.now in
    let name : Name = c.in-Some.field-0-0.now in
    let some : 0 < c.count_by-count.result = omega arith in
    OnOk-map c.pin-pinned.result
    (λ held object found. some-pinned old new c.args.old.now c.args.new.now object number from c.pin-pinned.ensures.kept found
    c.way_to-from.ensures (subst (λ m. 0 < m) c.count_by-count.ensures some) (ap (λ (k : Notified). k.handles) c.pin-pinned.ensures.rest)
    (λ to w. subst (λ m. IsPin to m new.pinned) c.count_by-count.ensures
    (held-pin new.objects c.lawful.ensures.one_there c.args.new.now directory name held.0 c.count_by-count.result new.pinned
    c.in-Some.ensures some
    held.1 held.2 to w))) c.pin-pinned.ensures.pinned

pub returns-in-Some-clause-known : goal.returns-in-Some-clause-known
returns-in-Some-clause-known g c = λ object found.
    let old = c.args.self.now in
    let from = c.way_to-from.result in
    let some : 0 < c.count_by-count.result = omega arith in
    led-kept old.objects c.pin-pinned.new.self.objects c.pin-pinned.ensures.kept c.args.old.now object c.args.number old.handles from
    (subst (λ m. 0 < m) c.count_by-count.ensures some) found

pub returns-then-count-eq0-clause-pinned : goal.returns-then-count-eq0-clause-pinned
returns-then-count-eq0-clause-pinned g c = λ object found.
    none-pinned c.args.self.now c.args.old.now c.args.new.now object c.args.number c.way_to-from.result found c.way_to-from.ensures
    (sym c.count_by-count.ensures ∙ c.if-count-eq0.true) c.requires.unpinned
