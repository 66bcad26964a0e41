use Rattle.notice_laws.specs.Telling.{in_way, of_number}
use Rattle.notifier.proofs.Told.{told-append}
use Rattle.notifier.proofs.kept.Notifier.tell_both.Goals as goal

pub returns : goal.returns
returns g c =
    let by_way = in_way c.args.way.now c.args.bits 0 in
    let by_number = of_number c.args.number c.args.bits in
    told-append g.R.Rule.shows by_way by_number c.args.self.now c.tell_way.new.self c.tell_number.new.self c.tell_way.ensures c.tell_number.ensures
