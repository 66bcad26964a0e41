use Rattle.std.proofs.Common.{◌∷◌, reverse, sym, ap, ◌∙◌, refl, subst, None}
use Rattle.plain_model.specs.Layers.{shows}
use Rattle.merged_lookup.specs.Merged.{layers_of}
use Rattle.mount_calls.proofs.CopiedOpens.{attributes-stored, copied-as, copied-lowers, copied-around, copied-texts}
use Rattle.mount_calls.specs.Keeping.{BringsNone}
use Rattle.mount_calls.proofs.Marks.{shown-inode}
use Rattle.mount_calls.proofs.Frames.{none-same}
use Rattle.copy_up.proofs.Texts.{texts-still}
use Rattle.mount_calls.proofs.open_calls.bring_up.Goals as goal

pub all_at_once-requires-clause-shown : goal.all_at_once-requires-clause-shown
all_at_once-requires-clause-shown c =
    let is = shown-inode c.args.layers.now c.args.path.now c.args.place c.inode_at.result.now (c.inode_at.ensures c.args.path.now c.requires.shown) in
    (is.0, sym (ap (shows 0 (layers_of c.args.layers.now)) c.in-Some.ensures) ∙ is.1)

pub returns-clause-copied : goal.returns-clause-copied
returns-clause-copied c = copied-as c.args.layers.now c.all_at_once.new.layers c.args.path.now (c.in-Some.name.now ∷ reverse c.in-Some.parents.now) c.args.place c.in_ok-attributes.attributes c.in-Some.ensures (λ p i shown. c.in_ok-attributes.ensures.cases ∙ attributes-stored c.args.layers.now c.args.place c.inode_at.result.now c.inode_at.ensures p i shown) c.all_at_once.result c.all_at_once.ensures.copied

pub returns-clause-lowers : goal.returns-clause-lowers
returns-clause-lowers c =
    let is = shown-inode c.args.layers.now c.args.path.now c.args.place c.inode_at.result.now (c.inode_at.ensures c.args.path.now c.requires.shown) in
    copied-lowers c.args.layers.now c.all_at_once.new.layers (c.in-Some.name.now ∷ reverse c.in-Some.parents.now) c.args.place c.in_ok-attributes.attributes is.0 (sym (ap (shows 0 (layers_of c.args.layers.now)) c.in-Some.ensures) ∙ is.1) c.all_at_once.result c.all_at_once.ensures.copied c.all_at_once.ensures.no_memory

pub returns-in_err-attributes-clause-around : goal.returns-in_err-attributes-clause-around
returns-in_err-attributes-clause-around c = none-same c.args.layers.now c.args.layers.now c.args.path.now refl

pub returns-clause-around : goal.returns-clause-around
returns-clause-around c =
    let is = shown-inode c.args.layers.now c.args.path.now c.args.place c.inode_at.result.now (c.inode_at.ensures c.args.path.now c.requires.shown) in
    subst (BringsNone c.args.layers.now c.all_at_once.new.layers) (sym c.in-Some.ensures)
    (copied-around c.args.layers.now c.all_at_once.new.layers (c.in-Some.name.now ∷ reverse c.in-Some.parents.now) c.args.place c.in_ok-attributes.attributes
    is.0
    (sym (ap (shows 0 (layers_of c.args.layers.now)) c.in-Some.ensures) ∙ is.1)
    c.all_at_once.result c.all_at_once.ensures.copied c.all_at_once.ensures.no_memory)

pub returns-clause-texts : goal.returns-clause-texts
returns-clause-texts c =
    let is = shown-inode c.args.layers.now c.args.path.now c.args.place c.inode_at.result.now (c.inode_at.ensures c.args.path.now c.requires.shown) in
    copied-texts c.args.layers.now c.all_at_once.new.layers (c.in-Some.name.now ∷ reverse c.in-Some.parents.now) c.args.place c.in_ok-attributes.attributes is.0
    (sym (ap (shows 0 (layers_of c.args.layers.now)) c.in-Some.ensures) ∙ is.1) c.all_at_once.result c.all_at_once.ensures.copied c.all_at_once.ensures.no_memory

pub returns-in_err-attributes-clause-texts : goal.returns-in_err-attributes-clause-texts
returns-in_err-attributes-clause-texts c = texts-still c.args.layers.now c.args.layers.now None refl
