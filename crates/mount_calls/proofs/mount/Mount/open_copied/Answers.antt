use Rattle.std.proofs.Common.{None, rules, Ok, refl, ap, sym, ◌∙◌, subst, is_some}
use Rattle.open_handles.specs.declared.open_file.OpenFile.{OpenFile}
use Rattle.mount_calls.specs.declared.mount.Mount.{Mount}
use Rattle.mount_calls.specs.Files.{HasFileRoom, file_at}
use Rattle.mount_calls.specs.Opening.{OpensFile}
use Rattle.mount_calls.proofs.Answering.{on-err}
use Rattle.mount_calls.proofs.Makings.{none-countable, reserved-state, wanted-state}
use Rattle.mount_calls.proofs.CopiedOpens.{vacant, copied-files, copied-kept, copied-emptied}
use Rattle.ov_base.specs.declared.call.CallOf.TheVariants as call
use Rattle.ov_base.specs.declared.reply.Reply.TheVariants as reply
use Rattle.mount_calls.specs.Living.{KeepsFiles}
use Rattle.mount_calls.proofs.Named.{open-paths, stays-named}
use Rattle.mount_calls.proofs.Stating.{the_lowers, the_upper}
use Rattle.mount_calls.proofs.Frames.{none-same, none-then}
use Rattle.mount_calls.proofs.Lasting.{parents-live}
use Rattle.mount_calls.specs.Making.{ServesEach}
use Rattle.mount_calls.proofs.MakingCalls.{answers-open}
use Rattle.copy_up.proofs.Texts.{texts-after, texts-still}
use Rattle.mount_calls.proofs.mount.Mount.open_copied.Goals as goal
use Rattle.mount_calls.proofs.mount.Mount.open_copied.Goals.{then-flags+in_ok-resize_file, else-flags}

pub returns-in_err-reserve_file-clause-no_memory : goal.returns-in_err-reserve_file-clause-no_memory
returns-in_err-reserve_file-clause-no_memory c = on-err c.from_residual.result _ (record { states = λ s st. reserved-state c.args.self.now s st c.args.client c.reserve_file.new.self c.reserve_file.ensures.same; live = λ t d j live. live })

pub open_reserved-requires-clause-room : goal.open_reserved-requires-clause-room
open_reserved-requires-clause-room c =
    let room : HasFileRoom c.reserve_file.new.self c.args.client c.args.descriptor = search rules in
    elim c.if-flags.branch [
      | then-flags+in_ok-resize_file w ↦ rw w.self-is room
      | else-flags w ↦ rw w.self-is room
    ]

pub open_reserved-requires-clause-countable : goal.open_reserved-requires-clause-countable
open_reserved-requires-clause-countable c = λ k of.
    let none = none-countable c.args.self.now c.args.client c.reserve_file.new.self c.reserve_file.ensures.same c.requires.state c.lawful.ensures.files c.in_ok-key.key
    (λ s st. vacant c.args.self.now s st c.args.client c.reserve_file.new.self c.reserve_file.ensures.same c.args.path.now c.args.flags c.args.mode c.requires.allowed c.requires.writes c.args.place c.requires.shown c.requires.lower c.bring_up.new.layers c.in_ok-key.key c.in_ok-key.ensures.copied)
    k (ap (λ (x : OpenFile). x.source) (sym c.file_at-file.ensures) ∙ of) in
    elim c.if-flags.branch [
      | then-flags+in_ok-resize_file w ↦ rw w.self-is none
      | else-flags w ↦ rw w.self-is none
    ]

pub returns-in_err-reserve_file-clause-around : goal.returns-in_err-reserve_file-clause-around
returns-in_err-reserve_file-clause-around c = none-same c.args.self.now.layers c.args.self.now.layers c.args.path.now refl

pub returns-clause-around : goal.returns-clause-around
returns-clause-around c = elim c.if-flags.branch [
  | then-flags+in_ok-resize_file w ↦
      rw w.self-is
      (none-then c.args.self.now.layers c.bring_up.new.layers w.resize_file.new.layers c.args.path.now w.resize_file.ensures.objects c.bring_up.ensures.around)
  | else-flags w ↦ rw w.self-is c.bring_up.ensures.around
]

pub returns-clause-thin : goal.returns-clause-thin
returns-clause-thin c =
    elim c.if-flags.branch [
      | then-flags+in_ok-resize_file w ↦ rw w.self-is (λ h. w.resize_file.ensures.sound.thin (c.bring_up.ensures.sound.thin h))
      | else-flags w ↦ rw w.self-is c.bring_up.ensures.sound.thin
    ]

pub returns-in_err-key-clause-no_memory : goal.returns-in_err-key-clause-no_memory
returns-in_err-key-clause-no_memory c =
    let m = c.args.self.now in
    let p = c.args.path.now in
    let new = c.bring_up.new.layers in
    let kept = c.in_err-key.ensures.no_memory in
    on-err c.from_residual-in_err-key.result _ (record {
      states = λ s st. wanted-state m s st c.args.client c.reserve_file.new.self c.reserve_file.ensures.same new p kept.mount kept.beneath;
      live = parents-live m.layers new p kept.beneath;
    })

pub returns-clause-answers : goal.returns-clause-answers
returns-clause-answers c =
    let m = c.args.self.now in
    let now = record c.if-flags.self { clients = c.open_reserved.new.self } in
    let asked = call.Open c.args.path.now c.args.flags c.args.mode in
    let opens : OpensFile c.if-flags.self.clients c.open_reserved.new.self c.args.client c.args.descriptor (file_at (record { layer = 0; key = c.in_ok-key.key }) c.args.flags None) (Ok tt) = rw c.file_at-file.ensures at c.open_reserved.ensures in
    let served : ServesEach c.args.client asked m now (reply.Descriptor c.args.descriptor) = λ s st. elim c.if-flags.branch [
      | then-flags+in_ok-resize_file w ↦
          rw w.self-is
          (copied-emptied c.args.self.now s st c.args.client c.reserve_file.new.self c.reserve_file.ensures.same c.args.path.now c.args.flags c.args.mode c.requires.allowed c.requires.writes c.args.place c.requires.shown c.requires.lower c.bring_up.new.layers c.in_ok-key.key c.in_ok-key.ensures.copied
          c.args.descriptor c.open_reserved.new.self (subst (λ (x : Mount). OpensFile x.clients c.open_reserved.new.self c.args.client c.args.descriptor (file_at (record { layer = 0; key = c.in_ok-key.key }) c.args.flags None) (Ok tt)) w.self-is opens)
          w.if-flags.true w.resize_file.new.layers w.resize_file.ensures.sound.layers (λ k old is. w.in_ok-resize_file.ensures.sets k old (ap (λ (x : OpenFile). x.source) c.file_at-file.ensures ∙ is)))
      | else-flags w ↦
          rw w.self-is
          (copied-kept c.args.self.now s st c.args.client c.reserve_file.new.self c.reserve_file.ensures.same c.args.path.now c.args.flags c.args.mode c.requires.allowed c.requires.writes c.args.place c.requires.shown c.requires.lower c.bring_up.new.layers c.in_ok-key.key c.in_ok-key.ensures.copied
          c.args.descriptor c.open_reserved.new.self (subst (λ (x : Mount). OpensFile x.clients c.open_reserved.new.self c.args.client c.args.descriptor (file_at (record { layer = 0; key = c.in_ok-key.key }) c.args.flags None) (Ok tt)) w.self-is opens)
          w.if-flags.false)
    ] in
    answers-open c.args.client asked m now c.args.descriptor served (λ s st fine.
    let copied = copied-files c.args.self.now s st c.args.client c.reserve_file.new.self c.reserve_file.ensures.same c.args.path.now c.args.flags c.args.mode c.requires.allowed c.requires.writes c.args.place c.requires.shown c.requires.lower c.bring_up.new.layers c.in_ok-key.key c.in_ok-key.ensures.copied in
    let files : KeepsFiles c.args.self.now.layers c.if-flags.self.layers = elim c.if-flags.branch [
      | then-flags+in_ok-resize_file w ↦ rw w.self-is (λ q j f. w.resize_file.ensures.files q j (copied q j f))
      | else-flags w ↦ rw w.self-is copied
    ] in
    stays-named m.layers now s c.args.client asked (reply.Descriptor c.args.descriptor) (served s st) fine
    (open-paths (the_upper c.args.self.now) (the_lowers c.args.self.now) s st.layers c.args.client c.args.path.now c.args.flags c.args.mode fine (ap is_some c.requires.shown.shown))
    files)

pub returns-clause-texts : goal.returns-clause-texts
returns-clause-texts c = elim c.if-flags.branch [
  | then-flags+in_ok-resize_file w ↦
      rw w.self-is
      (texts-after c.args.self.now.layers c.bring_up.new.layers w.resize_file.new.layers None c.bring_up.ensures.texts w.resize_file.ensures.texts)
  | else-flags w ↦ rw w.self-is c.bring_up.ensures.texts
]

pub returns-in_err-reserve_file-clause-texts : goal.returns-in_err-reserve_file-clause-texts
returns-in_err-reserve_file-clause-texts c = texts-still c.args.self.now.layers c.args.self.now.layers None refl
