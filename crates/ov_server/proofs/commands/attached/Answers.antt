use Rattle.std.proofs.Common.{◌∙◌, ap, length, map, refl, subst, sym}
use Rattle.plain_model.specs.Runs.{Attached}
use Rattle.overlay_core.specs.Views.{CoreGoes}
use Rattle.ov_server.specs.Deeds.{AttachGoes}
use Rattle.ov_server.proofs.Clients.{attach_plays, attach_refused}
use Rattle.overlay_core.proofs.Histories.{attach_places, few, kept_places, two_places}
use Rattle.ov_server.proofs.Stages.{attached_still, order_kept, with_core}
use Rattle.ov_server.proofs.commands.attached.Goals as goal
use Rattle.ov_server.proofs.commands.attached.Goals.{in-Ok-attach, in-Err}

pub attach-requires : goal.attach-requires
attach-requires g c = few c.args.stage.now.core c.requires.places

pub returns-clause-order : goal.returns-clause-order
returns-clause-order g c =
    let old = c.args.stage.now in
    let core = c.attach.new.self in
    let new = with_core old core in
    let same = c.attach.ensures.kept.options in
    let two = two_places old.core (length c.args.hooks.now) c.attach_refusal.result c.attach_refusal.ensures c.in_default.not-Some in
    elim c.match-attach.branch [
      | in-Ok-attach w ↦ order_kept old new c.requires (attach_places old.core core same w.in-Ok-attach.client w.in-Ok-attach.ensures.clients two w.in-Ok-attach.ensures.finished c.requires.places) (attached_still old.core core w.in-Ok-attach.client w.in-Ok-attach.ensures.clients) (λ n. refl)
      | in-Err w ↦ order_kept old new c.requires (kept_places old.core core same w.in-Err.ensures.stays.1 w.in-Err.ensures.stays.2 c.requires.places) (λ n is. w.in-Err.ensures.stays.1.attached n ∙ is) (λ n. refl)
    ]

pub returns-clause-plays : goal.returns-clause-plays
returns-clause-plays g c =
    let old = c.args.stage.now in
    let new = with_core old c.attach.new.self in
    let keeps = c.attach.ensures.kept in
    elim c.match-attach.branch [
      | in-Ok-attach w ↦ attach_plays old new w.in-Ok-attach.client w.in-Ok-attach.ensures.clients keeps (λ n. refl)
      | in-Err w ↦ attach_refused old new w.in-Err.ensures.stays.1 keeps (λ n. refl)
    ]

pub returns-clause-goes : goal.returns-clause-goes
returns-clause-goes g c =
    let old = c.args.stage.now.core in
    let new = c.attach.new.self in
    let tags = map (λ h. h.tag) c.args.hooks.now in
    elim c.match-attach.branch [
      | in-Ok-attach w ↦ subst (AttachGoes old tags new) (sym w.result-is) (subst (λ ts. CoreGoes old w.in-Ok-attach.client (Attached ts) new) (ap (map (λ h. h.tag)) c.in-Ok.ensures) w.in-Ok-attach.ensures.attached)
      | in-Err w ↦ subst (AttachGoes old tags new) (sym w.result-is) w.in-Err.ensures.stays.0
    ]
