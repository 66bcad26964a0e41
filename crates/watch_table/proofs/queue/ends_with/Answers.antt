use Rattle.std.proofs.Common.{sym, ap, ◌∙◌}
use Rattle.plain_model.proofs.Watching.{is_it, last_is-last_item}
use Rattle.watch_table.proofs.queue.ends_with.Goals as goal

pub returns-in-Some : goal.returns-in-Some
returns-in-Some c = c.same.ensures ∙ ap (λ o. is_it o c.args.notice.now) c.in-Some.ensures
    ∙ sym (last_is-last_item c.args.notices.now.items c.args.notice.now)

pub returns-in-None : goal.returns-in-None
returns-in-None c = ap (λ o. is_it o c.args.notice.now) c.in-None.ensures
    ∙ sym (last_is-last_item c.args.notices.now.items c.args.notice.now)
