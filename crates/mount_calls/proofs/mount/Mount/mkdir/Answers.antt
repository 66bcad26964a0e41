use Rattle.std.proofs.Common.{◌∙◌, None}
use Rattle.ov_base.specs.declared.call.CallOf.TheVariants as call
use Rattle.merged_lookup.specs.Merged.{layers_of}
use Rattle.copy_up.proofs.Texts.{texts-gained}
use Rattle.make_remove.specs.Making.{new_attributes}
use Rattle.make_remove.proofs.LeafSteps.{mkdir-vacancy, vacancy-fine}
use Rattle.mount_calls.specs.Status.{done_result}
use Rattle.mount_calls.proofs.Changing.{mkdir-done}
use Rattle.mount_calls.proofs.Frames.{around-others, around-parents}
use Rattle.mount_calls.proofs.Lasting.{mkdir-live, mkdir-leaves, parents-live}
use Rattle.mount_calls.proofs.LeftMarks.{wanted-marks}
use Rattle.mount_calls.proofs.MakingCalls.{done-err, makes-done, makes-unshown}
use Rattle.mount_calls.proofs.Named.{keeps-named}
use Rattle.mount_calls.proofs.Texts.{texts-kept}
use Rattle.mount_calls.proofs.mount.Mount.mkdir.Goals as goal

pub returns-clause-makes : goal.returns-clause-makes
returns-clause-makes c = λ client.
    let m = c.args.self.now in
    let p = c.args.path.now in
    let new = c.mkdir.new.layers in
    let allowed = mkdir-vacancy (layers_of m.layers) p c.args.mode c.lawful.ensures
    ∙ vacancy-fine (layers_of m.layers) p c.requires.parents c.requires.absent in
    let made = c.in_ok-mkdir.ensures.made in
    let steps = c.in_ok-mkdir.ensures.steps in
    let live = mkdir-live m.layers new m.metacopy p c.args.mode c.mkdir.ensures.sound.layers made steps in
    makes-done client (call.Mkdir p c.args.mode) m new
    (λ s st. mkdir-done m s st new client p c.args.mode allowed made.lowers (steps s st.layers client) live (mkdir-leaves p c.args.mode))
    (λ s st fine. keeps-named m.layers new m.metacopy (call.Mkdir p c.args.mode) live s st.layers st.metacopy client)
    (record { paths = around-others m.layers new p made.others; texts = texts-kept m.layers new None made.objects }) made.lowers c.mkdir.ensures.sound.thin

pub returns-in_err-mkdir-clause-makes : goal.returns-in_err-mkdir-clause-makes
returns-in_err-mkdir-clause-makes c = λ client.
    let m = c.args.self.now in
    let p = c.args.path.now in
    let new = c.mkdir.new.layers in
    let kept = c.in_err-mkdir.ensures.no_memory in
    makes-unshown client (call.Mkdir p c.args.mode) m new (done_result c.from_residual.result) (done-err c.from_residual.result c.from_residual.ensures.0) kept.mount
    (parents-live m.layers new p kept.beneath) (record { paths = around-parents m.layers new p kept.beneath; texts = texts-gained m.layers new p None kept.beneath }) kept.beneath.lowers c.mkdir.ensures.sound.thin

pub returns-clause-marks : goal.returns-clause-marks
returns-clause-marks c =
    let made = c.in_ok-mkdir.ensures.made in
    λ is. (made.key, new_attributes c.args.mode, made.held_there)

pub returns-in_err-mkdir-clause-marks : goal.returns-in_err-mkdir-clause-marks
returns-in_err-mkdir-clause-marks c =
    wanted-marks (call.Mkdir c.args.path.now c.args.mode) c.args.self.now.layers c.mkdir.new.layers
    (done_result c.from_residual.result) (done-err c.from_residual.result c.from_residual.ensures.0)
