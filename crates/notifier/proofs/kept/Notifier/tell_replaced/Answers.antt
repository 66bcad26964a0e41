use Rattle.std.proofs.Common.{subst, sym}
use Rattle.notice_laws.specs.Moves.{of_replaced}
use Rattle.notifier.specs.Notifying.{IsTold}
use Rattle.notifier.proofs.Told.{told-none}
use Rattle.notifier.proofs.kept.Notifier.tell_replaced.Goals as goal

pub returns-in-Directory : goal.returns-in-Directory
returns-in-Directory g c =
    let shows = g.R.Rule.shows in
    let self = c.args.self.now in
    subst (λ o. IsTold shows self self (of_replaced o c.args.number)) (sym c.in-Directory.is) (told-none shows self)
