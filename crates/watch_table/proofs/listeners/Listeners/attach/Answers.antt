use Rattle.std.proofs.Common.{subst, sym, ap, ◌∙◌, ◌<◌, ◌++◌, ◌∷◌, [], map}
use Rattle.std.proofs.lemmas.List.Elements.{recursion_from_All}
use Rattle.plain_model.specs.Watching.{Instance, silent}
use Rattle.watch_table.specs.Clients.{clients_of, AreRising}
use Rattle.watch_table.proofs.Clients.{rising-push}
use Rattle.watch_table.proofs.listeners.Listeners.attach.Goals as goal

pub invariant_of-self-2 : goal.invariant_of-self-2
invariant_of-self-2 g c =
    let items = c.self.inside.listeners.items in
    let new = silent c.args.client (map (λ h. h.tag) c.args.hooks.items) in
    let above = recursion_from_All (λ (e : Instance). e.client < c.args.client) items (rw (← c.self.view_is) at c.requires) in
    subst (λ es. AreRising (clients_of es)) (sym (c.push_reserved.ensures.items
    ∙ ap (λ es. es ++ c.in_ok-listener.listener ∷ []) c.reserve.ensures.items
    ∙ ap (λ e. items ++ e ∷ []) c.in_ok-listener.ensures.begins))
    (rising-push items new c.self.invariant above)
