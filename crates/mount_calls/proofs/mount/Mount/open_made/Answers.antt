use Rattle.std.proofs.Common.{None, Ok, refl, ap, sym, ◌∙◌}
use Rattle.slab.specs.Slab.{get}
use Rattle.open_handles.specs.declared.open_file.OpenFile.{OpenFile}
use Rattle.mount_calls.specs.Files.{file_at}
use Rattle.mount_calls.specs.Opening.{OpensFile}
use Rattle.mount_calls.proofs.Answering.{on-err}
use Rattle.mount_calls.proofs.Makings.{none-countable, reserved-state, wanted-state, open-made}
use Rattle.ov_base.specs.declared.call.CallOf.TheVariants as call
use Rattle.mount_calls.proofs.Lasting.{create-live, parents-live}
use Rattle.mount_calls.proofs.Named.{keeps-named}
use Rattle.mount_calls.proofs.Frames.{none-named, none-parents, none-same}
use Rattle.mount_calls.proofs.MakingCalls.{answers-open}
use Rattle.copy_up.proofs.Texts.{texts-gained, texts-still}
use Rattle.mount_calls.proofs.Texts.{texts-made}
use Rattle.mount_calls.proofs.mount.Mount.open_made.Goals as goal

pub returns-in_err-reserve_file-clause-no_memory : goal.returns-in_err-reserve_file-clause-no_memory
returns-in_err-reserve_file-clause-no_memory c = on-err c.from_residual.result _ (record { states = λ s st. reserved-state c.args.self.now s st c.args.client c.reserve_file.new.self c.reserve_file.ensures.same; live = λ t d j live. live })

pub open_reserved-requires-clause-countable : goal.open_reserved-requires-clause-countable
open_reserved-requires-clause-countable c = λ k of.
    let made = c.in_ok-key.ensures.made in
    none-countable c.args.self.now c.args.client c.reserve_file.new.self c.reserve_file.ensures.same c.requires.state c.lawful.ensures.files c.in_ok-key.key (λ s st. ap (get c.args.self.now.layers.upper) (sym made.1) ∙ made.0.vacant) k (ap (λ (x : OpenFile). x.source) (sym c.file_at-file.ensures) ∙ of)

pub returns-in_err-reserve_file-clause-around : goal.returns-in_err-reserve_file-clause-around
returns-in_err-reserve_file-clause-around c = none-same c.args.self.now.layers c.args.self.now.layers c.args.path.now refl

pub returns-in_err-key-clause-around : goal.returns-in_err-key-clause-around
returns-in_err-key-clause-around c = none-parents c.args.self.now.layers c.create.new.layers c.args.path.now c.in_err-key.ensures.no_memory.beneath

pub returns-clause-around : goal.returns-clause-around
returns-clause-around c =
    let made = c.in_ok-key.ensures.made.0 in
    none-named c.args.self.now.layers c.create.new.layers c.args.path.now made.number made.held_there made.others

pub returns-in_err-key-clause-no_memory : goal.returns-in_err-key-clause-no_memory
returns-in_err-key-clause-no_memory c =
    let m = c.args.self.now in
    let p = c.args.path.now in
    let new = c.create.new.layers in
    let kept = c.in_err-key.ensures.no_memory in
    on-err c.from_residual-in_err-key.result _ (record {
      states = λ s st. wanted-state m s st c.args.client c.reserve_file.new.self c.reserve_file.ensures.same new p kept.mount kept.beneath;
      live = parents-live m.layers new p kept.beneath;
    })

pub returns-clause-answers : goal.returns-clause-answers
returns-clause-answers c =
    let m = c.args.self.now in
    let client = c.args.client in
    let new = c.create.new.layers in
    let asked = call.Open c.args.path.now c.args.flags c.args.mode in
    let made = c.in_ok-key.ensures.made in
    let opens : OpensFile c.reserve_file.new.self c.open_reserved.new.self c.args.client c.args.descriptor (file_at (record { layer = 0; key = c.in_ok-key.key }) c.args.flags None) (Ok tt) = rw c.file_at-file.ensures at c.open_reserved.ensures in
    answers-open client asked m (record m { layers = new; clients = c.open_reserved.new.self }) c.args.descriptor
    (λ s st. open-made m s st client c.reserve_file.new.self c.reserve_file.ensures.same c.args.path.now c.args.flags c.args.mode c.requires.allowed c.requires.absent new c.in_ok-key.key made.0 made.1 c.in_ok-key.ensures.steps c.args.descriptor c.open_reserved.new.self opens)
    (λ s st fine. keeps-named m.layers new m.metacopy asked
    (create-live m.layers new m.metacopy c.args.path.now c.args.mode made.0 c.in_ok-key.ensures.steps c.args.flags) s st.layers st.metacopy client)

pub returns-in_err-key-clause-texts : goal.returns-in_err-key-clause-texts
returns-in_err-key-clause-texts c = texts-gained c.args.self.now.layers c.create.new.layers c.args.path.now None c.in_err-key.ensures.no_memory.beneath

pub returns-clause-texts : goal.returns-clause-texts
returns-clause-texts c = texts-made c.args.self.now.layers c.create.new.layers c.args.path.now _ _ c.in_ok-key.ensures.made.0

pub returns-in_err-reserve_file-clause-texts : goal.returns-in_err-reserve_file-clause-texts
returns-in_err-reserve_file-clause-texts c = texts-still c.args.self.now.layers c.args.self.now.layers None refl
