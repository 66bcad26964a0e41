use Rattle.std.proofs.Common.{Some, [], cond, subst, sym}
use Rattle.plain_model.specs.Watching.{MODIFY}
use Rattle.notice_laws.specs.Telling.{of_both}
use Rattle.notifier.specs.Notifying.{IsTold}
use Rattle.notifier.proofs.Told.{told-none}
use Rattle.notifier.proofs.kept.Notifier.tell_emptied.Goals as goal

pub returns-else-is_emptied : goal.returns-else-is_emptied
returns-else-is_emptied g c =
    let shows = g.R.Rule.shows in
    let self = c.args.self.now in
    subst (λ b. IsTold shows self self (cond b (of_both c.args.way.now (Some c.args.number) MODIFY) [])) (sym c.if-is_emptied.false) (told-none shows self)
