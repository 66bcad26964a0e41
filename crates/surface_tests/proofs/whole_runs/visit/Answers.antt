use Rattle.std.proofs.Common.{rules, ◌≡◌, ◌∷◌, [], map, true, refl, ◌∙◌}
use Rattle.plain_model.specs.Runs.{Attached, Called, Detached}
use Rattle.overlay_core.specs.Views.{has_client}
use Rattle.overlay_core.specs.WholeRuns.{Goes}
use Rattle.surface_tests.proofs.whole_runs.visit.Goals as goal

pub returns : goal.returns
returns g c =
    let client = c.in-Ok.client in
    let came = c.attach.new.self in
    let made = c.in-Done.ensures in
    let here : has_client came client ≡ true = search rules in (
      client,
      c.law_of_whole_runs.ensures c.args.core.now c.detach.new.self
          (Goes client (Attached (map (λ h. h.tag) c.args.hooks.items)) ∷ Goes client (Called c.args.call c.in-Done.reply) ∷ Goes client Detached ∷ []) c.requires (
            came,
            (c.in-Ok.ensures.attached, c.in-Ok.ensures.clients, c.attach.ensures.kept),
            (
              c.complete-turn.new.self,
              (rw (c.new-job.ensures.call.0, c.new-job.ensures.call.1) at made.turn.0, (here, made.clients), made.kept),
              (c.detach.new.self, (c.detach.ensures.detached, (made.clients.attached client ∙ here, c.detach.ensures.clients), c.detach.ensures.kept), refl),
            ),
          ),
    )
