use Rattle.std.proofs.Common.{cond, [], None, ap, sym, ◌∙◌, refl, subst}
use Rattle.merged_lookup.specs.Merged.{upper_of, lowers_of}
use Rattle.layer_tree.specs.Tree.{mark_at}
use Rattle.mount_laws.specs.OpenFiles.{ChangesFile}
use Rattle.notice_laws.proofs.Numbers.{some-is}
use Rattle.mount_calls.specs.Files.{place_below}
use Rattle.mount_calls.specs.Living.{SetsFile}
use Rattle.mount_calls.proofs.OpeningWrites.{sized-none}
use Rattle.mount_calls.proofs.Marks.{changed-written, own-there}
use Rattle.copy_up.proofs.Texts.{texts-after}
use Rattle.mount_calls.proofs.open_calls.give_bytes.Goals as goal

pub fill-requires-clause-source : goal.fill-requires-clause-source
fill-requires-clause-source c =
    let q = some-is (mark_at c.args.layers.now.upper c.args.key) c.requires.marked in
    (q.0, q.1, c.marked_place-source.ensures ∙ ap (place_below (lowers_of c.args.layers.now)) q.1)

pub returns-in_ok-resize_file-clause-gives : goal.returns-in_ok-resize_file-clause-gives
returns-in_ok-resize_file-clause-gives c = λ i b is file.
    let key = c.args.key in
    let given = c.in_ok-fill.ensures.filled i b is file in
    let own = own-there c.fill.new.layers key _ b given.now refl refl in
    let sets : SetsFile c.fill.new.layers c.resize_file.new.layers key [] = subst (SetsFile c.fill.new.layers c.resize_file.new.layers key) (sized-none b) (c.in_ok-resize_file.ensures.sets key b refl own) in
    subst (λ t. ChangesFile (upper_of c.args.layers.now) (upper_of c.resize_file.new.layers) key (cond t [] b) None) (sym c.if-flags.true)
    (changed-written (upper_of c.args.layers.now) (upper_of c.fill.new.layers) (upper_of c.resize_file.new.layers) key b [] given sets.writes)

pub returns-in_ok-resize_file-clause-objects : goal.returns-in_ok-resize_file-clause-objects
returns-in_ok-resize_file-clause-objects c = λ x. c.resize_file.ensures.objects x ∙ c.fill.ensures.objects x

pub returns-in_ok-resize_file-clause-sound : goal.returns-in_ok-resize_file-clause-sound
returns-in_ok-resize_file-clause-sound c = record {
  layers = λ h. c.resize_file.ensures.sound.layers (c.fill.ensures.sound.layers h);
  thin = λ h. c.resize_file.ensures.sound.thin (c.fill.ensures.sound.thin h);
}

pub returns-else-flags-clause-gives : goal.returns-else-flags-clause-gives
returns-else-flags-clause-gives c = λ i b is file.
    subst (λ t. ChangesFile (upper_of c.args.layers.now) (upper_of c.fill.new.layers) c.args.key (cond t [] b) None) (sym c.if-flags.false)
    (c.in_ok-fill.ensures.filled i b is file)

pub returns-in_ok-resize_file-clause-texts : goal.returns-in_ok-resize_file-clause-texts
returns-in_ok-resize_file-clause-texts c =
    texts-after c.args.layers.now c.fill.new.layers c.resize_file.new.layers None c.fill.ensures.texts c.resize_file.ensures.texts
