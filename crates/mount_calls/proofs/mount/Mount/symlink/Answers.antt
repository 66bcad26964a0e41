use Rattle.std.proofs.Common.{◌∙◌, None}
use Rattle.ov_base.specs.declared.call.CallOf.TheVariants as call
use Rattle.merged_lookup.specs.Merged.{layers_of}
use Rattle.copy_up.proofs.Texts.{texts-gained}
use Rattle.make_remove.specs.Making.{vacancy_fault}
use Rattle.make_remove.proofs.LeafSteps.{vacancy-fine}
use Rattle.mount_calls.specs.Status.{done_result}
use Rattle.mount_calls.proofs.Changing.{symlink-done}
use Rattle.mount_calls.proofs.Frames.{none-named, none-parents}
use Rattle.mount_calls.proofs.Judging.{target-next}
use Rattle.mount_calls.proofs.Lasting.{symlink-live, symlink-leaves, parents-live}
use Rattle.mount_calls.proofs.MakingCalls.{done-err, makes-done, makes-nothing, makes-unshown}
use Rattle.mount_calls.proofs.Named.{keeps-named}
use Rattle.mount_calls.proofs.Texts.{texts-made}
use Rattle.mount_calls.proofs.mount.Mount.symlink.Goals as goal

pub returns-in_err-clone-clause-makes : goal.returns-in_err-clone-clause-makes
returns-in_err-clone-clause-makes c = λ client.
    makes-nothing client (call.Symlink c.args.target.now c.args.path.now) c.args.self.now
    (done_result c.from_residual.result) (done-err c.from_residual.result c.from_residual.ensures.0)

pub returns-clause-makes : goal.returns-clause-makes
returns-clause-makes c = λ client.
    let m = c.args.self.now in
    let target = c.args.target.now in
    let p = c.args.path.now in
    let new = c.symlink.new.layers in
    let allowed = target-next target (vacancy_fault (layers_of m.layers) p) c.requires.target
    ∙ vacancy-fine (layers_of m.layers) p c.requires.found.parents c.requires.found.absent in
    let same = (rw c.in-Ok.is at c.parse.ensures.same) ∙ c.in_ok-clone.ensures.cases in
    let made = rw same at c.in_ok-symlink.ensures.made in
    let steps = rw same at c.in_ok-symlink.ensures.steps in
    let live = symlink-live m.layers new m.metacopy target p made steps in
    makes-done client (call.Symlink target p) m new
    (λ s st. symlink-done m s st new client target p allowed made.lowers (steps s st.layers client) live (symlink-leaves target p))
    (λ s st fine. keeps-named m.layers new m.metacopy (call.Symlink target p) live s st.layers st.metacopy client)
    (record { paths = none-named m.layers new p made.number made.held_there made.others; texts = texts-made m.layers new p _ _ made }) made.lowers c.symlink.ensures.sound.thin

pub returns-in_err-symlink-clause-makes : goal.returns-in_err-symlink-clause-makes
returns-in_err-symlink-clause-makes c = λ client.
    let m = c.args.self.now in
    let p = c.args.path.now in
    let new = c.symlink.new.layers in
    let kept = c.in_err-symlink.ensures.no_memory in
    let out = c.from_residual-in_err-symlink in
    makes-unshown client (call.Symlink c.args.target.now p) m new (done_result out.result)
    (done-err out.result out.ensures.0) kept.mount
    (parents-live m.layers new p kept.beneath) (record { paths = none-parents m.layers new p kept.beneath; texts = texts-gained m.layers new p None kept.beneath }) kept.beneath.lowers c.symlink.ensures.sound.thin
