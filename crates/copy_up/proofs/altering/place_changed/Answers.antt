use Rattle.std.proofs.Common.{ap, ◌∙◌, subst}
use Rattle.std.proofs.lemmas.Result.{on_ok_weaker}
use Rattle.ov_base.specs.AttributeChanges.{changed}
use Rattle.ov_base.specs.declared.attributes.Attributes.{Attributes}
use Rattle.plain_model.specs.Layers.{is_directory}
use Rattle.mount_laws.specs.Altered.{Alters}
use Rattle.merged_lookup.specs.Merged.{upper_of, lowers_of}
use Rattle.copy_up.specs.Altering.{AltersObject}
use Rattle.copy_up.proofs.OtherAttributes.{lower-below, shown-folder}
use Rattle.copy_up.proofs.altering.place_changed.Goals as goal

pub changed_directory-requires : goal.changed_directory-requires
changed_directory-requires c = (c.args.path.now, c.requires.shown.0, c.requires.shown.1)

pub place_with-requires-clause-shown : goal.place_with-requires-clause-shown
place_with-requires-clause-shown c = ap is_directory c.requires.shown.1

pub place_with-requires-clause-below : goal.place_with-requires-clause-below
place_with-requires-clause-below c = lower-below c.args.layers.now c.args.path.now c.args.place c.requires.shown.0 c.requires.shown.1 c.requires.lower

pub returns-clause-altered : goal.returns-clause-altered
returns-clause-altered c = on_ok_weaker c.place_with.result (λ alters low a shows h.
    let same = shown-folder c.args.layers.now c.args.path.now _ _ c.requires.shown.0 a c.requires.shown.1 shows in
    subst (λ (b : Attributes). Alters (upper_of c.args.layers.now) (upper_of c.place_with.new.layers) (lowers_of c.args.layers.now) low c.args.path.now b)
    (c.in_ok-attributes.ensures c.args.path.now c.requires.shown.0 c.requires.shown.1 ∙ ap (changed c.args.change) same) (alters low h)) c.place_with.ensures.altered

pub returns-clause-object : goal.returns-clause-object
returns-clause-object c = on_ok_weaker c.place_with.result (λ object a shows.
    let same = shown-folder c.args.layers.now c.args.path.now _ _ c.requires.shown.0 a c.requires.shown.1 shows in
    subst (λ (b : Attributes). AltersObject c.args.layers.now c.place_with.new.layers c.args.path.now b)
    (c.in_ok-attributes.ensures c.args.path.now c.requires.shown.0 c.requires.shown.1 ∙ ap (changed c.args.change) same) object) c.place_with.ensures.object
