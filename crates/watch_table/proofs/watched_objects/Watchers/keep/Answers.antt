use Rattle.std.proofs.Common.{rules, ◌∙◌}
use Rattle.std.proofs.lemmas.Fn.{filter_same}
use Rattle.watch_table.proofs.watched_objects.Watchers.keep.Goals as goal

pub returns : goal.returns
returns g c =
    rw (← c.self.view_is)
    (c.shrink_to_fit.ensures.items
    ∙ filter_same _ _ _ (λ x b f k. search rules) _ _ c.retain.ensures.filtered)
