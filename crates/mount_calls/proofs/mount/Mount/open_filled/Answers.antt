use Rattle.std.proofs.Common.{◌≡◌, ◌<◌, None, Ok, refl, ap, sym, ◌∙◌, subst, is_some}
use Rattle.std.proofs.lemmas.Bool.{ltb-true}
use Rattle.merged_lookup.specs.declared.layers.Layers.{Layers}
use Rattle.open_handles.specs.declared.open_file.OpenFile.{OpenFile}
use Rattle.open_handles.specs.declared.open_file.FileSource.TheVariants.{Upper}
use Rattle.open_handles.specs.FileHolders.{file_holders, HOLDERS_MAX}
use Rattle.mount_calls.specs.Files.{file_at}
use Rattle.mount_calls.specs.Opening.{OpensFile}
use Rattle.mount_calls.specs.States.{IsStateOf}
use Rattle.mount_calls.proofs.Answering.{on-err}
use Rattle.mount_calls.proofs.FilledOpens.{filled-files, marked-file, open-filled, open-no-link}
use Rattle.mount_calls.proofs.Frames.{none-same, none-then}
use Rattle.mount_calls.proofs.Makings.{reserved-state}
use Rattle.merged_lookup.specs.Merged.{layers_of}
use Rattle.ov_base.specs.declared.call.CallOf.TheVariants as call
use Rattle.ov_base.specs.declared.reply.Reply.TheVariants as reply
use Rattle.mount_calls.proofs.Named.{open-paths, stays-named}
use Rattle.mount_calls.proofs.Stating.{the_lowers, the_upper}
use Rattle.mount_calls.specs.Living.{StaysLive}
use Rattle.mount_calls.specs.Making.{ServesEach}
use Rattle.mount_calls.proofs.MakingCalls.{answers-open}
use Rattle.copy_up.proofs.Texts.{texts-still}
use Rattle.mount_calls.proofs.mount.Mount.open_filled.Goals as goal

pub returns-in_err-reserve_file-clause-no_memory : goal.returns-in_err-reserve_file-clause-no_memory
returns-in_err-reserve_file-clause-no_memory c = on-err c.from_residual.result _ (record { states = λ s st. reserved-state c.args.self.now s st c.args.client c.reserve_file.new.self c.reserve_file.ensures.same; live = λ t d j live. live })

pub returns-then-not-is_countable-clause-no_memory : goal.returns-then-not-is_countable-clause-no_memory
returns-then-not-is_countable-clause-no_memory c = record { states = λ s st. reserved-state c.args.self.now s st c.args.client c.reserve_file.new.self c.reserve_file.ensures.same; live = λ t d j live. live }

pub give_bytes-requires-clause-file : goal.give_bytes-requires-clause-file
give_bytes-requires-clause-file c =
    marked-file c.args.self.now.layers c.args.path.now c.args.place c.requires.shown c.requires.own c.requires.marked
    (open-no-link (layers_of c.args.self.now.layers) c.args.path.now c.args.flags c.args.mode c.requires.allowed)

pub returns-in_err-give_bytes-clause-no_memory : goal.returns-in_err-give_bytes-clause-no_memory
returns-in_err-give_bytes-clause-no_memory c =
    let m = c.args.self.now in
    let same = sym c.in_err-give_bytes.ensures.no_memory in
    on-err c.from_residual-in_err-give_bytes.result _ (record {
      states = λ s st. subst (λ (l : Layers). IsStateOf (record m { layers = l; clients = c.reserve_file.new.self }) s) same (reserved-state m s st c.args.client c.reserve_file.new.self c.reserve_file.ensures.same);
      live = subst (λ (l : Layers). StaysLive m.layers l) same (λ t d j live. live);
    })

pub open_reserved-requires-clause-countable : goal.open_reserved-requires-clause-countable
open_reserved-requires-clause-countable c = λ k of.
    let keys : Upper c.args.place.key ≡ Upper k = ap (λ (x : OpenFile). x.source) (sym c.file_at-file.ensures) ∙ of in
    let keyed : c.args.place.key ≡ k = cc in
    let few : file_holders c.reserve_file.new.self.files c.args.place.key < HOLDERS_MAX = ltb-true _ _ (sym c.is_countable.ensures ∙ c.if-not-is_countable.false) in
    subst (λ j. file_holders c.reserve_file.new.self.files j < HOLDERS_MAX) keyed few

pub returns-clause-answers : goal.returns-clause-answers
returns-clause-answers c =
    let m = c.args.self.now in
    let p = c.args.path.now in
    let new = c.give_bytes.new.layers in
    let now = record m { layers = new; clients = c.open_reserved.new.self } in
    let asked = call.Open p c.args.flags c.args.mode in
    let made = c.give_bytes.ensures in
    let opens : OpensFile c.reserve_file.new.self c.open_reserved.new.self c.args.client c.args.descriptor (file_at (record { layer = 0; key = c.args.place.key }) c.args.flags None) (Ok tt) = rw c.file_at-file.ensures at c.open_reserved.ensures in
    let served : ServesEach c.args.client asked m now (reply.Descriptor c.args.descriptor) = λ s st.
    open-filled m s st c.args.client c.reserve_file.new.self c.reserve_file.ensures.same p c.args.flags c.args.mode c.requires.allowed c.requires.writes c.args.place c.requires.own c.requires.shown
    new made.lowers made.sound.layers c.in_ok-give_bytes.ensures.gives c.args.descriptor c.open_reserved.new.self opens in
    answers-open c.args.client asked m now c.args.descriptor served
    (λ s st fine. stays-named m.layers now s c.args.client asked (reply.Descriptor c.args.descriptor) (served s st) fine
    (open-paths (the_upper m) (the_lowers m) s st.layers c.args.client p c.args.flags c.args.mode fine (ap is_some c.requires.shown.shown))
    (filled-files m s st c.args.client c.reserve_file.new.self c.reserve_file.ensures.same p c.args.flags c.args.mode c.requires.allowed c.requires.writes c.args.place c.requires.own c.requires.shown
    new made.lowers made.sound.layers c.in_ok-give_bytes.ensures.gives c.args.descriptor c.open_reserved.new.self opens))

pub returns-in_err-reserve_file-clause-around : goal.returns-in_err-reserve_file-clause-around
returns-in_err-reserve_file-clause-around c = none-same c.args.self.now.layers c.args.self.now.layers c.args.path.now refl

pub returns-then-not-is_countable-clause-around : goal.returns-then-not-is_countable-clause-around
returns-then-not-is_countable-clause-around c = none-same c.args.self.now.layers c.args.self.now.layers c.args.path.now refl

pub returns-in_err-give_bytes-clause-around : goal.returns-in_err-give_bytes-clause-around
returns-in_err-give_bytes-clause-around c =
    none-then c.args.self.now.layers c.args.self.now.layers c.give_bytes.new.layers c.args.path.now c.give_bytes.ensures.objects
    (none-same c.args.self.now.layers c.args.self.now.layers c.args.path.now refl)

pub returns-clause-around : goal.returns-clause-around
returns-clause-around c =
    none-then c.args.self.now.layers c.args.self.now.layers c.give_bytes.new.layers c.args.path.now c.give_bytes.ensures.objects
    (none-same c.args.self.now.layers c.args.self.now.layers c.args.path.now refl)

pub returns-in_err-reserve_file-clause-texts : goal.returns-in_err-reserve_file-clause-texts
returns-in_err-reserve_file-clause-texts c = texts-still c.args.self.now.layers c.args.self.now.layers None refl

pub returns-then-not-is_countable-clause-texts : goal.returns-then-not-is_countable-clause-texts
returns-then-not-is_countable-clause-texts c = texts-still c.args.self.now.layers c.args.self.now.layers None refl
