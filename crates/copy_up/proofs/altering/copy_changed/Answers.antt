use Rattle.std.proofs.Common.{Some, is_some, sym, ap, ◌∙◌, subst}
use Rattle.plain_model.specs.Layers.{Path, held, shows}
use Rattle.ov_base.specs.AttributeChanges.{changed}
use Rattle.ov_base.specs.declared.attributes.Attributes.{Attributes}
use Rattle.mount_laws.specs.Altered.{Alters}
use Rattle.layer_tree.specs.Tree.{layer_of}
use Rattle.merged_lookup.specs.Merged.{upper_of, layers_of, lowers_of}
use Rattle.copy_up.proofs.OtherAttributes.{shown-inode}
use Rattle.copy_up.specs.Altering.{AltersObject}
use Rattle.copy_up.specs.Leaves.{copy_mark}
use Rattle.copy_up.specs.Showing.{number_of}
use Rattle.copy_up.proofs.AlteredObjects.{object-copied}
use Rattle.copy_up.proofs.Copying.{marks-file}
use Rattle.copy_up.specs.Texts.{KeepsTexts}
use Rattle.copy_up.proofs.Texts.{texts-copied}
use Rattle.copy_up.proofs.altering.copy_changed.Goals as goal

pub copy_marked-requires-clause-shown : goal.copy_marked-requires-clause-shown
copy_marked-requires-clause-shown c =
    let found = c.in_ok-attributes.ensures c.args.path.now c.requires.shown in (
      found.0,
      c.args.metacopy,
      sym (ap (shows 0 (layers_of c.args.layers.now)) c.in-Some.ensures) ∙ found.1,
      c.in_ok-mark.ensures found.0 found.1 ∙ ap (λ (q : Path). copy_mark c.args.metacopy (layer_of c.args.layers.now.upper) q found.0.content) c.in-Some.ensures,
    )

pub returns-clause-altered : goal.returns-clause-altered
returns-clause-altered c = λ a seen h.
    let found = c.in_ok-attributes.ensures c.args.path.now c.requires.shown in
    let shown = sym (ap (shows 0 (layers_of c.args.layers.now)) c.in-Some.ensures) ∙ found.1 in
    let leaf = (c.in_ok-key.ensures.copied found.0 shown).0 in
    let same = found.2 ∙ ap (changed c.args.change) (shown-inode c.args.layers.now c.args.path.now _ _ found.0 a found.1 seen) in
    subst (λ (b : Attributes). Alters (upper_of c.args.layers.now) (upper_of c.copy_marked.new.layers) (lowers_of c.args.layers.now) c.args.metacopy c.args.path.now b) same
    (subst (λ (q : Path). Alters (upper_of c.args.layers.now) (upper_of c.copy_marked.new.layers) (lowers_of c.args.layers.now) c.args.metacopy q c.in_ok-attributes.attributes) (sym c.in-Some.ensures) (leaf.alters h c.args.metacopy (ap is_some (c.in_ok-mark.ensures found.0 found.1) ∙ marks-file c.args.metacopy (layer_of c.args.layers.now.upper) c.args.path.now found.0.content)))

pub returns-clause-object : goal.returns-clause-object
returns-clause-object c = λ a seen.
    let found = c.in_ok-attributes.ensures c.args.path.now c.requires.shown in
    let shown = sym (ap (shows 0 (layers_of c.args.layers.now)) c.in-Some.ensures) ∙ found.1 in
    let leaf = (c.in_ok-key.ensures.copied found.0 shown).0 in
    let same = found.2 ∙ ap (changed c.args.change) (shown-inode c.args.layers.now c.args.path.now _ _ found.0 a found.1 seen) in
    subst (λ (b : Attributes). AltersObject c.args.layers.now c.copy_marked.new.layers c.args.path.now b) same
    (subst (λ (q : Path). AltersObject c.args.layers.now c.copy_marked.new.layers q c.in_ok-attributes.attributes) (sym c.in-Some.ensures)
    (object-copied c.args.layers.now c.copy_marked.new.layers _ found.0.content _ c.in_ok-attributes.attributes leaf c.args.place.layer c.args.place.key (Some found.0) shown c.requires.lower))

pub returns-clause-lowers : goal.returns-clause-lowers
returns-clause-lowers c =
    let found = c.in_ok-attributes.ensures c.args.path.now c.requires.shown in
    let shown = sym (ap (shows 0 (layers_of c.args.layers.now)) c.in-Some.ensures) ∙ found.1 in
    (c.in_ok-key.ensures.copied found.0 shown).0.lowers

pub returns-clause-nameless : goal.returns-clause-nameless
returns-clause-nameless c =
    let found = c.in_ok-attributes.ensures c.args.path.now c.requires.shown in
    let shown = sym (ap (shows 0 (layers_of c.args.layers.now)) c.in-Some.ensures) ∙ found.1 in
    (c.in_ok-key.ensures.copied found.0 shown).0.objects.nameless

pub returns-clause-key : goal.returns-clause-key
returns-clause-key c =
    let found = c.in_ok-attributes.ensures c.args.path.now c.requires.shown in
    let shown = sym (ap (shows 0 (layers_of c.args.layers.now)) c.in-Some.ensures) ∙ found.1 in
    let leaf = c.in_ok-key.ensures.copied found.0 shown in
    ap (λ (q : Path). number_of (held (layer_of c.copy_marked.new.layers.upper) q)) c.in-Some.ensures ∙ ap number_of leaf.0.held_there ∙ ap Some leaf.1

pub returns-clause-texts : goal.returns-clause-texts
returns-clause-texts c =
    let old = c.args.layers.now in
    let found = c.in_ok-attributes.ensures c.args.path.now c.requires.shown in
    let shown = sym (ap (shows 0 (layers_of old)) c.in-Some.ensures) ∙ found.1 in
    let leaf = (c.in_ok-key.ensures.copied found.0 shown).0 in
    let told = c.in_ok-mark.ensures found.0 found.1 ∙ ap (λ (q : Path). copy_mark c.args.metacopy (layer_of old.upper) q found.0.content) c.in-Some.ensures in
    subst (λ (q : Path). KeepsTexts old c.copy_marked.new.layers (Some q)) (sym c.in-Some.ensures)
    (texts-copied old c.copy_marked.new.layers _ found.0.content _ _ leaf c.args.metacopy told)
