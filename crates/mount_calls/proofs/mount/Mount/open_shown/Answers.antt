use Rattle.std.proofs.Common.{◌≡◌, true, false, None, Some, Ok, refl, ap, ◌∙◌, is_some, nat_lt}
use Rattle.layer_tree.specs.Tree.{mark_at}
use Rattle.ov_base.specs.declared.attributes.Attributes.{Attributes}
use Rattle.plain_model.specs.Layers.{Folder, shows}
use Rattle.merged_lookup.specs.Merged.{layers_of, ShowsInode}
use Rattle.open_handles.specs.declared.open_file.OpenFile.{OpenFile}
use Rattle.mount_calls.specs.Opening.{OpensFile}
use Rattle.mount_calls.specs.Files.{file_at}
use Rattle.mount_calls.proofs.Answering.{on-err}
use Rattle.mount_calls.proofs.Marks.{none-mark}
use Rattle.mount_calls.proofs.Openings.{open-wanted, open-directory, writes-kept}
use Rattle.mount_calls.proofs.OpeningWrites.{truncate-writes, open-emptied, open-whole}
use Rattle.ov_base.specs.declared.call.CallOf.TheVariants as call
use Rattle.ov_base.specs.declared.reply.Reply.TheVariants as reply
use Rattle.mount_calls.proofs.Named.{open-paths, stay-files, stays-named}
use Rattle.mount_calls.proofs.Stating.{the_lowers, the_upper}
use Rattle.mount_calls.specs.Making.{ServesEach}
use Rattle.mount_calls.proofs.MakingCalls.{answers-open}
use Rattle.copy_up.proofs.Texts.{texts-still}
use Rattle.mount_calls.proofs.mount.Mount.open_shown.Goals as goal

pub returns-in_err-open-clause-no_memory : goal.returns-in_err-open-clause-no_memory
returns-in_err-open-clause-no_memory c = on-err c.from_residual.result _ (record { states = λ s st. open-wanted c.args.self.now s st c.args.client c.args.descriptor _ c.«open».new.self _ c.in_err-open.ensures.changes; live = λ t d j live. live })

pub returns-in_err-open_file-clause-no_memory : goal.returns-in_err-open_file-clause-no_memory
returns-in_err-open_file-clause-no_memory c = on-err c.from_residual-in_err-open_file.result _ (record { states = λ s st. open-wanted c.args.self.now s st c.args.client c.args.descriptor _ c.open_file.new.self _ c.in_err-open_file.ensures; live = λ t d j live. live })

pub returns-in_default-clause-answers : goal.returns-in_default-clause-answers
returns-in_default-clause-answers c =
    let m = c.args.self.now in
    let client = c.args.client in
    let now = record m { clients = c.«open».new.self } in
    let asked = call.Open c.args.path.now c.args.flags c.args.mode in
    let found : (a : Attributes) × (shows 0 (layers_of c.args.self.now.layers) c.args.path.now ≡ Some (Folder c.in_default.field-0.layer c.in_default.field-0.key a)) = rw c.in_default.is at c.requires.shown in
    let served : ServesEach client asked m now (reply.Descriptor c.args.descriptor) = λ s st. open-directory m s st client c.args.path.now c.args.flags c.args.mode c.requires.allowed _ _ found.0 found.1 c.args.descriptor c.«open».new.self c.in_ok-open.ensures in
    answers-open client asked m now c.args.descriptor served
    (λ s st fine. stays-named m.layers now s client asked (reply.Descriptor c.args.descriptor) (served s st) fine
    (open-paths (the_upper m) (the_lowers m) s st.layers client c.args.path.now c.args.flags c.args.mode fine (ap is_some found.1))
    (stay-files m.layers m.layers refl))

pub returns-in_ok-resize_file-clause-answers : goal.returns-in_ok-resize_file-clause-answers
returns-in_ok-resize_file-clause-answers c =
    let m = c.args.self.now in
    let client = c.args.client in
    let now = record m { layers = c.resize_file.new.layers; clients = c.open_file.new.self } in
    let asked = call.Open c.args.path.now c.args.flags c.args.mode in
    let shown : ShowsInode c.args.self.now.layers c.args.path.now c.in-Inode.place = rw c.in-Inode.is at c.requires.shown in
    let writes : c.args.flags.writes ≡ true = truncate-writes (layers_of c.args.self.now.layers) c.args.path.now c.args.flags c.args.mode c.requires.allowed c.if-flags.true in
    let own : (c.in-Inode.place.layer ≡ 0) × (is_some (mark_at m.layers.upper c.in-Inode.place.key) ≡ false) = c.requires.own writes c.in-Inode.place c.in-Inode.is in
    let none : c.in_ok-low.low ≡ None = writes-kept (the_lowers m) (mark_at m.layers.upper c.in-Inode.place.key) c.in_ok-low.low c.args.flags.writes (nat_lt 0 c.in-Inode.place.layer) writes c.in_ok-low.ensures in
    let opens : OpensFile c.args.self.now.clients c.open_file.new.self c.args.client c.args.descriptor (file_at c.in-Inode.place c.args.flags None) (Ok tt) = rw (c.file_at-file.ensures, none) at c.in_ok-open_file.ensures in
    let served : ServesEach client asked m now (reply.Descriptor c.args.descriptor) = λ s st. open-emptied m s st client c.args.path.now c.args.flags c.args.mode c.requires.allowed writes c.in-Inode.place own.0 (none-mark (mark_at m.layers.upper c.in-Inode.place.key) own.1) shown c.args.descriptor c.open_file.new.self opens c.if-flags.true c.resize_file.new.layers c.resize_file.ensures.sound.layers (λ k old is. c.in_ok-resize_file.ensures.sets k old (ap (λ (x : OpenFile). x.source) c.file_at-file.ensures ∙ is)) in
    answers-open client asked m now c.args.descriptor served
    (λ s st fine. stays-named m.layers now s client asked (reply.Descriptor c.args.descriptor) (served s st) fine
    (open-paths (the_upper m) (the_lowers m) s st.layers client c.args.path.now c.args.flags c.args.mode fine (ap is_some shown.shown))
    c.resize_file.ensures.files)

pub returns-else-flags-clause-answers : goal.returns-else-flags-clause-answers
returns-else-flags-clause-answers c =
    let m = c.args.self.now in
    let client = c.args.client in
    let now = record m { clients = c.open_file.new.self } in
    let asked = call.Open c.args.path.now c.args.flags c.args.mode in
    let shown : ShowsInode c.args.self.now.layers c.args.path.now c.in-Inode.place = rw c.in-Inode.is at c.requires.shown in
    let opens : OpensFile c.args.self.now.clients c.open_file.new.self c.args.client c.args.descriptor (file_at c.in-Inode.place c.args.flags c.in_ok-low.low) (Ok tt) = rw c.file_at-file.ensures at c.in_ok-open_file.ensures in
    let served : ServesEach client asked m now (reply.Descriptor c.args.descriptor) = λ s st. open-whole m s st client c.args.path.now c.args.flags c.args.mode c.requires.allowed c.if-flags.false c.in-Inode.place (λ writes. let own = c.requires.own writes c.in-Inode.place c.in-Inode.is in (own.0, none-mark (mark_at m.layers.upper c.in-Inode.place.key) own.1)) shown c.in_ok-low.low c.in_ok-low.ensures c.args.descriptor c.open_file.new.self opens in
    answers-open client asked m now c.args.descriptor served
    (λ s st fine. stays-named m.layers now s client asked (reply.Descriptor c.args.descriptor) (served s st) fine
    (open-paths (the_upper m) (the_lowers m) s st.layers client c.args.path.now c.args.flags c.args.mode fine (ap is_some shown.shown))
    (stay-files m.layers m.layers refl))

pub returns-in_err-low-clause-no_memory : goal.returns-in_err-low-clause-no_memory
returns-in_err-low-clause-no_memory c = on-err c.from_residual-in_err-low.result _ (record { states = λ s st. st; live = λ t d j live. live })

pub returns-in_err-open-clause-texts : goal.returns-in_err-open-clause-texts
returns-in_err-open-clause-texts c = texts-still c.args.self.now.layers c.args.self.now.layers None refl

pub returns-in_err-open_file-clause-texts : goal.returns-in_err-open_file-clause-texts
returns-in_err-open_file-clause-texts c = texts-still c.args.self.now.layers c.args.self.now.layers None refl

pub returns-in_default-clause-texts : goal.returns-in_default-clause-texts
returns-in_default-clause-texts c = texts-still c.args.self.now.layers c.args.self.now.layers None refl

pub returns-else-flags-clause-texts : goal.returns-else-flags-clause-texts
returns-else-flags-clause-texts c = texts-still c.args.self.now.layers c.args.self.now.layers None refl

pub returns-in_err-low-clause-texts : goal.returns-in_err-low-clause-texts
returns-in_err-low-clause-texts c = texts-still c.args.self.now.layers c.args.self.now.layers None refl
