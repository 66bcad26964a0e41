use Rattle.ov_base.specs.declared.call.CallOf.TheVariants as call
use mathlib.Core.Logic.{∥∥₁_elim}
use mathlib.Core.HLevel.{⊥_prop}
use Rattle.merged_lookup.specs.Merged.{lowers_of}
use Rattle.mount_calls.specs.Status.{done_result}
use Rattle.mount_calls.proofs.Changing.{none-below, rmdir-open, rmdir-unopened}
use Rattle.mount_calls.proofs.Lasting.{rmdir-leaves}
use Rattle.mount_calls.proofs.LeftMarks.{wanted-marks}
use Rattle.mount_calls.proofs.MakingCalls.{attached-removed, done-err, makes-done, makes-nothing, makes-unshown, marks-done}
use Rattle.mount_calls.proofs.Named.{removes-named}
use Rattle.mount_calls.proofs.mount.Mount.rmdir.Goals as goal

pub returns-in_err-attributes-clause-makes : goal.returns-in_err-attributes-clause-makes
returns-in_err-attributes-clause-makes c = λ client.
    makes-nothing client (call.Rmdir c.args.path.now) c.args.self.now
    (done_result c.from_residual.result) (done-err c.from_residual.result c.from_residual.ensures.0)

pub remove-requires-clause-below : goal.remove-requires-clause-below
remove-requires-clause-below c = λ k n r is. ∥∥₁_elim c.requires.state ⊥_prop (λ x. none-below c.args.self.now x.0 x.1 c.rmdir_and_free.new.layers c.args.path.now c.requires.found.bare c.lawful.ensures.held k n r is)

pub returns-in-Some-clause-makes : goal.returns-in-Some-clause-makes
returns-in-Some-clause-makes c = λ client.
    let m = c.args.self.now in
    let p = c.args.path.now in
    let new = c.rmdir_and_free.new.layers in
    let found = c.requires.found in
    let said = c.in_ok-rmdir_and_free.ensures in
    let clients = c.remove.new.self in
    marks-done client (call.Rmdir p) m new clients
    (attached-removed m.clients clients p c.in-Some.attributes c.remove.ensures)
    (λ s st. rmdir-open m s st new client p found.allowed found.bare said.takes.lowers
    (said.steps s st.layers client) c.lawful.ensures.files said.live (rmdir-leaves p)
    c.in-Some.attributes clients (rw c.in-Some.is at c.in_ok-attributes.ensures.left)
    c.remove.ensures)
    (λ s st fine. removes-named m.layers new s client p (call.Rmdir p) (lowers_of m.layers)
    (said.takes.loses st.layers.layers) (said.steps s st.layers client))
    (record { paths = c.rmdir_and_free.ensures.around; texts = c.rmdir_and_free.ensures.texts })
    said.takes.lowers c.rmdir_and_free.ensures.sound.thin

pub returns-in_default-clause-makes : goal.returns-in_default-clause-makes
returns-in_default-clause-makes c = λ client.
    let m = c.args.self.now in
    let p = c.args.path.now in
    let new = c.rmdir_and_free.new.layers in
    let found = c.requires.found in
    let said = c.in_ok-rmdir_and_free.ensures in
    makes-done client (call.Rmdir p) m new
    (λ s st. rmdir-unopened m s st new client p found.allowed found.bare said.takes.lowers (said.steps s st.layers client) c.lawful.ensures.files said.live (rmdir-leaves p)
    (rw c.in_default.is at c.in_ok-attributes.ensures.none found.allowed))
    (λ s st fine. removes-named m.layers new s client p (call.Rmdir p) (lowers_of m.layers) (said.takes.loses st.layers.layers) (said.steps s st.layers client))
    (record { paths = c.rmdir_and_free.ensures.around; texts = c.rmdir_and_free.ensures.texts }) said.takes.lowers c.rmdir_and_free.ensures.sound.thin

pub returns-in_err-rmdir_and_free-clause-makes : goal.returns-in_err-rmdir_and_free-clause-makes
returns-in_err-rmdir_and_free-clause-makes c = λ client.
    let kept = c.in_err-rmdir_and_free.ensures.no_memory in
    let out = c.from_residual-in_err-rmdir_and_free in
    makes-unshown client (call.Rmdir c.args.path.now) c.args.self.now c.rmdir_and_free.new.layers
    (done_result out.result) (done-err out.result out.ensures.0) kept.mount kept.beneath
    (record { paths = c.rmdir_and_free.ensures.around; texts = c.rmdir_and_free.ensures.texts }) kept.shown.lowers c.rmdir_and_free.ensures.sound.thin

pub returns-in_err-attributes-clause-marks : goal.returns-in_err-attributes-clause-marks
returns-in_err-attributes-clause-marks c =
    wanted-marks (call.Rmdir c.args.path.now) c.args.self.now.layers c.args.self.now.layers
    (done_result c.from_residual.result) (done-err c.from_residual.result c.from_residual.ensures.0)

pub returns-in-Some-clause-marks : goal.returns-in-Some-clause-marks
returns-in-Some-clause-marks c = λ is. c.in_ok-rmdir_and_free.ensures.takes.left

pub returns-in_default-clause-marks : goal.returns-in_default-clause-marks
returns-in_default-clause-marks c = λ is. c.in_ok-rmdir_and_free.ensures.takes.left

pub returns-in_err-rmdir_and_free-clause-marks : goal.returns-in_err-rmdir_and_free-clause-marks
returns-in_err-rmdir_and_free-clause-marks c =
    let out = c.from_residual-in_err-rmdir_and_free in
    wanted-marks (call.Rmdir c.args.path.now) c.args.self.now.layers c.rmdir_and_free.new.layers
    (done_result out.result) (done-err out.result out.ensures.0)
