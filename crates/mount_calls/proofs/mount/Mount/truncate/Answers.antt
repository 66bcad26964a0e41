use Rattle.std.proofs.Common.{refl}
use Rattle.ov_base.specs.declared.call.CallOf.TheVariants as call
use Rattle.ov_base.specs.declared.reply.Reply.TheVariants as reply
use Rattle.mount_calls.specs.Making.{ServesEach}
use Rattle.mount_calls.proofs.Answering.{on-err}
use Rattle.mount_calls.proofs.MakingCalls.{attached-same, makes-done, makes-refused, makes-unshown}
use Rattle.mount_calls.proofs.Named.{stays-named, truncate-paths}
use Rattle.mount_calls.proofs.Writings.{truncate-allowed, truncate-refused, truncate-done}
use Rattle.mount_calls.proofs.mount.Mount.truncate.Goals as goal

pub returns-in-Err-clause-makes : goal.returns-in-Err-clause-makes
returns-in-Err-clause-makes c =
    let m = c.args.self.now in
    makes-refused c.args.client (call.Truncate c.args.descriptor c.args.size) m m (attached-same m.clients) refl c.in-Err.errno (λ s. refl)
    (λ s st. truncate-refused m s st c.args.client c.args.descriptor c.args.size c.in-Err.errno c.in-Err.ensures.refused)

pub returns-in_err-resize_file-clause-makes : goal.returns-in_err-resize_file-clause-makes
returns-in_err-resize_file-clause-makes c =
    let made = c.in_err-resize_file.ensures in
    makes-unshown c.args.client (call.Truncate c.args.descriptor c.args.size) c.args.self.now c.resize_file.new.layers
    c.from_residual.result c.from_residual.ensures.0 made.mounts made.stays (record { paths = made.objects; texts = c.resize_file.ensures.texts }) made.lowers made.sound.thin

pub returns-clause-makes : goal.returns-clause-makes
returns-clause-makes c =
    let m = c.args.self.now in
    let client = c.args.client in
    let fd = c.args.descriptor in
    let k = call.Truncate fd c.args.size in
    let file = c.in-Ok.ensures.file in
    let made = c.in_ok-resize_file.ensures in
    let now = record m { layers = c.resize_file.new.layers } in
    let served : ServesEach client k m now reply.Done = λ s st. truncate-done m s st client fd c.args.size c.in-Ok.file file.0 file.1 c.resize_file.new.layers made.sound.layers made.sets in
    makes-done client k m c.resize_file.new.layers served
    (λ s st fine. stays-named m.layers now s client k reply.Done (served s st) fine (truncate-paths s client fd c.args.size) c.resize_file.ensures.files)
    (record { paths = made.objects; texts = c.resize_file.ensures.texts }) made.lowers made.sound.thin

pub returns-in_err-resize_file-clause-allowed : goal.returns-in_err-resize_file-clause-allowed
returns-in_err-resize_file-clause-allowed c = on-err c.from_residual.result _ (λ s st.
    truncate-allowed c.args.self.now s st c.args.client c.args.descriptor c.args.size
    c.in-Ok.ensures.file.1)
