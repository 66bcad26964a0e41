use Rattle.plain_model.specs.Watching.{DELETE_SELF, IGNORED}
use Rattle.notice_laws.specs.Telling.{of_number}
use Rattle.notifier.proofs.Told.{told-append}
use Rattle.notifier.proofs.kept.Notifier.tell_end.Goals as goal

pub returns : goal.returns
returns g c =
    let self = of_number c.args.ended DELETE_SELF in
    let watches = of_number c.args.ended IGNORED in
    told-append g.R.Rule.shows self watches c.args.self.now c.tell_number.new.self c.tell_number-2.new.self c.tell_number.ensures c.tell_number-2.ensures
