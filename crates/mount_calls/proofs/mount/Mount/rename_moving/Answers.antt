use Rattle.std.proofs.Common.{Err, IfSome, Ok, refl, subst}
use Rattle.std.specs.Result.{result_and}
use Rattle.ov_base.specs.declared.call.CallOf.TheVariants as call
use Rattle.ov_base.specs.declared.reply.Reply.TheVariants.{Done}
use Rattle.merged_lookup.specs.Merged.{layers_of}
use Rattle.mount_calls.specs.Removing.{HasAttributes}
use Rattle.mount_calls.proofs.LeftMarks.{wanted-marks}
use Rattle.mount_calls.proofs.MakingCalls.{attached-places, attached-renamed, makes-nothing, makes-out, makes-out-same, marks-done}
use Rattle.mount_calls.proofs.RenameJudged.{reply-err}
use Rattle.mount_calls.proofs.Renaming.{bare-below, rename-done, rename-wanted, replaced-copied, same-state, same-then, thin-on, to-path}
use Rattle.mount_calls.proofs.Stating.{the_lowers, the_upper}
use Rattle.mount_calls.proofs.mount.Mount.rename_moving.Goals as goal

pub rename_and_free-requires : goal.rename_and_free-requires
rename_and_free-requires c = record { may = (c.args.self.now.redirects, c.requires.moving) }

pub rename-requires-clause-below : goal.rename-requires-clause-below
rename-requires-clause-below c =
    let same = c.in_ok-prepare_rename.ensures.same in
    bare-below c.args.self.now c.requires.state c.prepare_rename.new.self same c.lawful.ensures.held c.args.new.now c.requires.moving.empty

pub rename-requires-clause-not_root : goal.rename-requires-clause-not_root
rename-requires-clause-not_root c =
    let m = c.args.self.now in
    to-path (the_upper m) (the_lowers m) m.redirects c.args.old.now c.args.new.now
    c.requires.moving.fine

pub rename-requires-clause-replaced : goal.rename-requires-clause-replaced
rename-requires-clause-replaced c =
    let m = c.args.self.now in
    let same = c.in_ok-prepare_rename.ensures.same in
    replaced-copied m c.requires.state c.prepare_rename.new.self same c.lawful.ensures.held c.args.new.now
    (to-path (the_upper m) (the_lowers m) m.redirects c.args.old.now c.args.new.now c.requires.moving.fine)
    c.in_ok-replaced.replaced c.in_ok-replaced.ensures.none

pub returns-in_err-replaced-clause-makes : goal.returns-in_err-replaced-clause-makes
returns-in_err-replaced-clause-makes c = λ client.
    makes-nothing client (call.Rename c.args.old.now c.args.new.now) c.args.self.now
    (result_and c.from_residual.result (Ok Done)) (reply-err c.from_residual.result (Ok Done) c.from_residual.ensures.0)

pub returns-in_err-prepare_rename-clause-makes : goal.returns-in_err-prepare_rename-clause-makes
returns-in_err-prepare_rename-clause-makes c = λ client.
    let m = c.args.self.now in
    let clients = c.prepare_rename.new.self in
    let same = c.in_err-prepare_rename.ensures.same in
    let result = c.from_residual-in_err-prepare_rename.result in
    makes-out-same client (call.Rename c.args.old.now c.args.new.now) m (record m { clients = clients }) (attached-places m.clients clients same) refl
    (result_and result (Ok Done)) (reply-err result (Ok Done) c.from_residual-in_err-prepare_rename.ensures.0)
    (λ s st. same-state m s st clients same)

pub returns-in-Ok-clause-makes : goal.returns-in-Ok-clause-makes
returns-in-Ok-clause-makes c = λ client.
    let m = c.args.self.now in
    let p = c.args.old.now in
    let q = c.args.new.now in
    let new = c.rename_and_free.new.layers in
    let thin = thin-on m new c.requires.state c.rename_and_free.ensures.thin in
    let moved = c.in-Ok.ensures.moves m.redirects c.requires.moving in
    let same = c.in_ok-prepare_rename.ensures.same in
    let below = bare-below m c.requires.state c.prepare_rename.new.self same c.lawful.ensures.held q
    c.requires.moving.empty in
    let copied =
    replaced-copied m c.requires.state c.prepare_rename.new.self same c.lawful.ensures.held q
    (to-path (the_upper m) (the_lowers m) m.redirects p q c.requires.moving.fine)
    c.in_ok-replaced.replaced c.in_ok-replaced.ensures.none in
    marks-done client (call.Rename p q) m new c.rename.new.self
    (attached-renamed m.clients c.prepare_rename.new.self c.rename.new.self p q c.in_ok-replaced.replaced same c.rename.ensures.renames)
    (λ s st.
    let stands = same-state m s st c.prepare_rename.new.self same in
    rename-done (record m { clients = c.prepare_rename.new.self }) s stands client p q c.requires.moving.fine
    new c.rename_and_free.ensures.lowers moved c.lawful.ensures.files below
    c.in_ok-replaced.replaced copied
    (λ a e. subst (λ z. IfSome z (HasAttributes (layers_of m.layers) q)) e c.in_ok-replaced.ensures.left)
    c.rename.new.self c.rename.ensures.renames)
    (λ s st fine. moved.named s st.layers st.redirects st.metacopy client)
    (record { paths = c.rename_and_free.ensures.paths; texts = c.rename_and_free.ensures.texts }) c.rename_and_free.ensures.lowers thin

pub returns-in-Err-clause-makes : goal.returns-in-Err-clause-makes
returns-in-Err-clause-makes c = λ client.
    let m = c.args.self.now in
    let new = c.rename_and_free.new.layers in
    let thin = thin-on m new c.requires.state c.rename_and_free.ensures.thin in
    let clients = c.cancel_rename.new.self in
    let same = same-then m.clients _ _ c.in_ok-prepare_rename.ensures.same c.cancel_rename.ensures.same in
    let kept = c.in-Err.ensures.no_memory in
    makes-out client (call.Rename c.args.old.now c.args.new.now) m (record m { layers = new; clients = clients }) (Err c.in-Err.fault) refl
    (record { states = rename-wanted m new clients same kept.mount c.rename_and_free.ensures.lowers kept.beneath; live = kept.beneath })
    (attached-places m.clients clients same) (record { paths = c.rename_and_free.ensures.paths; texts = c.rename_and_free.ensures.texts }) c.rename_and_free.ensures.lowers thin

pub returns-in_err-replaced-clause-marks : goal.returns-in_err-replaced-clause-marks
returns-in_err-replaced-clause-marks c =
    wanted-marks (call.Rename c.args.old.now c.args.new.now) c.args.self.now.layers c.args.self.now.layers
    (result_and c.from_residual.result (Ok Done)) (reply-err c.from_residual.result (Ok Done) c.from_residual.ensures.0)

pub returns-in_err-prepare_rename-clause-marks : goal.returns-in_err-prepare_rename-clause-marks
returns-in_err-prepare_rename-clause-marks c =
    let result = c.from_residual-in_err-prepare_rename.result in
    wanted-marks (call.Rename c.args.old.now c.args.new.now) c.args.self.now.layers c.args.self.now.layers
    (result_and result (Ok Done)) (reply-err result (Ok Done) c.from_residual-in_err-prepare_rename.ensures.0)

pub returns-in-Ok-clause-marks : goal.returns-in-Ok-clause-marks
returns-in-Ok-clause-marks c = λ is apart. (c.in-Ok.ensures.moves c.args.self.now.redirects c.requires.moving).marks
