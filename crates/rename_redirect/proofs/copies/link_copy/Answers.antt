use Rattle.std.proofs.Common.{[], ◌∷◌, List, Some, is_some, reverse, sym, ap, ◌∙◌, subst}
use Rattle.plain_model.specs.Layers.{Path, Layer, Contents, below, content_over, held, shows}
use Rattle.layer_tree.specs.Tree.{layer_of}
use Rattle.merged_lookup.specs.declared.layers.Layers.{Layers}
use Rattle.merged_lookup.specs.Merged.{layers_of, parent, IsStackOf}
use Rattle.copy_up.specs.Showing.{ShowsSame, ChangesNoSight, Stays}
use Rattle.copy_up.proofs.Copying.{marks-file}
use Rattle.copy_up.proofs.Frames.{gains-self}
use Rattle.copy_up.proofs.Keeping.{lowers-same, on-err, same-self, failed-stays, then-layers}
use Rattle.rename_redirect.specs.Linking.{GainsBoth, GivesName}
use Rattle.rename_redirect.proofs.Gained.{beside-copy}
use Rattle.rename_redirect.proofs.Given.{gains-first, gives-name, fails-both, copy-name, copy-links, copy-thin, follows}
use Rattle.rename_redirect.proofs.Shown.{outside-split}
use Rattle.copy_up.proofs.Texts.{mark_of, marks-same, marks-then}
use Rattle.rename_redirect.proofs.Texts.{copy-spelled, marks-copied}
use Rattle.rename_redirect.proofs.copies.link_copy.Goals as goal

pub returns-in_err-copy-clause-no_memory : goal.returns-in_err-copy-clause-no_memory
returns-in_err-copy-clause-no_memory c =
    let l = c.args.layers.now in
    on-err _ c.from_residual.result
    (record { shown = same-self l; mount = λ s h. h; beneath = gains-first l l c.args.old.now c.args.new.now (same-self l) (gains-self l c.args.old.now) })

pub returns-in_err-from-clause-no_memory : goal.returns-in_err-from-clause-no_memory
returns-in_err-from-clause-no_memory c =
    let same = c.place_both.ensures.same in
    let stays = c.place_both.ensures.stays in
    let both = c.place_both.ensures.gains in
    on-err _ c.from_residual-in_err-from.result (record { shown = same; mount = stays.mounts; beneath = both })

pub insert_in_upper-requires-clause-leaf : goal.insert_in_upper-requires-clause-leaf
insert_in_upper-requires-clause-leaf c = let made = c.in_ok-copy.ensures.2 in (made.copy, made.is)

pub insert_in_upper-requires-clause-places : goal.insert_in_upper-requires-clause-places
insert_in_upper-requires-clause-places c =
    let n = c.in-Some.name.now in
    let t = reverse c.in-Some.field-0-1.now in
    let m = c.in-Some-split_last.further.now in
    let u = reverse c.in-Some-split_last.field-0-1.now in
    let from = c.in_ok-from.ensures.from n t c.in-Some.ensures in
    let onto = c.in_ok-from.ensures.onto m u c.in-Some-split_last.ensures in
    let out = outside-split c.args.layers.now c.args.old.now c.args.new.now n t m u c.in-Some.ensures c.in-Some-split_last.ensures c.args.found.2.layer c.args.found.2.key c.requires.may.shown.inode c.requires.may.parents c.requires.may.absent c.requires.may.shown.shown in
    (t, u, from, onto, λ e. out [] e)

pub returns-in_err-key-clause-no_memory : goal.returns-in_err-key-clause-no_memory
returns-in_err-key-clause-no_memory c =
    let same = c.place_both.ensures.same in
    let stays = c.place_both.ensures.stays in
    let both = c.place_both.ensures.gains in
    on-err _ c.from_residual-in_err-key.result (fails-both c.args.layers.now c.place_both.new.layers c.insert_in_upper.new.layers same stays c.insert_in_upper.ensures.lowers c.in_err-key.ensures.unchanged c.in_err-key.ensures.same c.insert_in_upper.ensures.keeps c.args.old.now c.args.new.now both)

pub returns-clause-linked : goal.returns-clause-linked
returns-clause-linked c =
    let l0 = c.args.layers.now in
    let l1 = c.place_both.new.layers in
    let l2 = c.insert_in_upper.new.layers in
    let same = c.place_both.ensures.same in
    let stays = c.place_both.ensures.stays in
    let both = c.place_both.ensures.gains in
    let n = c.in-Some.name.now in
    let t = reverse c.in-Some.field-0-1.now in
    let m = c.in-Some-split_last.further.now in
    let u = reverse c.in-Some-split_last.field-0-1.now in
    let from = c.in_ok-from.ensures.from n t c.in-Some.ensures in
    let onto = c.in_ok-from.ensures.onto m u c.in-Some-split_last.ensures in
    let out = outside-split c.args.layers.now c.args.old.now c.args.new.now n t m u c.in-Some.ensures c.in-Some-split_last.ensures c.args.found.2.layer c.args.found.2.key c.requires.may.shown.inode c.requires.may.parents c.requires.may.absent c.requires.may.shown.shown in
    let found = c.in_ok-copy.ensures in
    let i = found.0 in
    let s = follows c.args.found.2.layer c.requires.lower in
    let shown = sym (ap (shows 0 (layers_of l1)) c.in-Some.ensures) ∙ c.place_both.ensures.shown (Some i) found.1 ∙ ap (λ j. Some (Contents j c.args.found.2.key (Some i))) s.1 in
    let absent = same.absent (m ∷ u) (sym (ap (shows 0 (layers_of l0)) c.in-Some-split_last.ensures) ∙ c.requires.may.absent) in
    let made = found.2 in
    let copy = c.in_ok-key.ensures.copied t from u onto made.copy (λ e. out [] e) made.is in
    let marks = ap is_some made.mark ∙ marks-file c.args.metacopy (layer_of l0.upper) c.args.old.now i.content in
    let content = ap (λ (Ls : List Layer). content_over Ls made.copy.mark made.copy.content) (lowers-same l0 l1 same.lowers) ∙ made.content in
    let objects = c.in_ok-key.ensures.objects in
    let gains = subst (λ (z : Path). GainsBoth l0 l1 z (m ∷ u)) c.in-Some.ensures (subst (GainsBoth l0 l1 c.args.old.now) c.in-Some-split_last.ensures both) in
    subst (λ (z : Path). GivesName l0 l2 c.args.metacopy z c.args.new.now) (sym c.in-Some.ensures)
    (subst (λ (z : Path). GivesName l0 l2 c.args.metacopy (n ∷ t) z) (sym c.in-Some-split_last.ensures)
    (gives-name l0 l1 l2 same stays (n ∷ t) (m ∷ u) c.args.metacopy gains
    (copy-name l1 l2 c.insert_in_upper.ensures.lowers c.insert_in_upper.ensures.keeps n t m u s.0 c.args.found.2.key i shown absent out made.copy c.args.metacopy marks content made.attributes copy)
    (copy-links l1 l2 c.insert_in_upper.ensures.lowers c.insert_in_upper.ensures.keeps n t m u s.0 c.args.found.2.key i shown absent out made.copy c.args.metacopy marks content made.attributes copy)
    (beside-copy l1.upper (layer_of l2.upper) (n ∷ t) (m ∷ u) made.copy from.free onto.free copy)
    c.in_ok-key.ensures.directories objects.0 objects.1))

pub returns-clause-sound : goal.returns-clause-sound
returns-clause-sound c =
    let l0 = c.args.layers.now in
    let l1 = c.place_both.new.layers in
    let l2 = c.insert_in_upper.new.layers in
    let same = c.place_both.ensures.same in
    let stays = c.place_both.ensures.stays in
    let n = c.in-Some.name.now in
    let t = reverse c.in-Some.field-0-1.now in
    let m = c.in-Some-split_last.further.now in
    let u = reverse c.in-Some-split_last.field-0-1.now in
    let from = c.in_ok-from.ensures.from n t c.in-Some.ensures in
    let onto = c.in_ok-from.ensures.onto m u c.in-Some-split_last.ensures in
    let out = outside-split c.args.layers.now c.args.old.now c.args.new.now n t m u c.in-Some.ensures c.in-Some-split_last.ensures c.args.found.2.layer c.args.found.2.key c.requires.may.shown.inode c.requires.may.parents c.requires.may.absent c.requires.may.shown.shown in
    let found = c.in_ok-copy.ensures in
    let i = found.0 in
    let s = follows c.args.found.2.layer c.requires.lower in
    let shown = sym (ap (shows 0 (layers_of l1)) c.in-Some.ensures) ∙ c.place_both.ensures.shown (Some i) found.1 ∙ ap (λ j. Some (Contents j c.args.found.2.key (Some i))) s.1 in
    let absent = same.absent (m ∷ u) (sym (ap (shows 0 (layers_of l0)) c.in-Some-split_last.ensures) ∙ c.requires.may.absent) in
    let made = found.2 in
    let copy = c.in_ok-key.ensures.copied t from u onto made.copy (λ e. out [] e) made.is in
    let marks = ap is_some made.mark ∙ marks-file c.args.metacopy (layer_of l0.upper) c.args.old.now i.content in
    let content = ap (λ (Ls : List Layer). content_over Ls made.copy.mark made.copy.content) (lowers-same l0 l1 same.lowers) ∙ made.content in
    record {
      layers = then-layers l0 l1 l2 stays.sound.layers c.insert_in_upper.ensures.lowers c.insert_in_upper.ensures.keeps;
      thin = λ h. copy-thin l1 l2 c.insert_in_upper.ensures.lowers c.insert_in_upper.ensures.keeps n t m u s.0 c.args.found.2.key i shown absent out made.copy c.args.metacopy marks content made.attributes copy (stays.sound.thin h);
    }

pub returns-clause-key : goal.returns-clause-key
returns-clause-key c =
    let n = c.in-Some.name.now in
    let t = reverse c.in-Some.field-0-1.now in
    let m = c.in-Some-split_last.further.now in
    let u = reverse c.in-Some-split_last.field-0-1.now in
    let from = c.in_ok-from.ensures.from n t c.in-Some.ensures in
    let onto = c.in_ok-from.ensures.onto m u c.in-Some-split_last.ensures in
    let out = outside-split c.args.layers.now c.args.old.now c.args.new.now n t m u c.in-Some.ensures c.in-Some-split_last.ensures c.args.found.2.layer c.args.found.2.key c.requires.may.shown.inode c.requires.may.parents c.requires.may.absent c.requires.may.shown.shown in
    ap (held (layer_of c.insert_in_upper.new.layers.upper)) c.in-Some.ensures ∙ c.in_ok-key.ensures.key t from u onto (λ e. out [] e)

pub returns-in_err-key-clause-sound : goal.returns-in_err-key-clause-sound
returns-in_err-key-clause-sound c =
    let same = c.place_both.ensures.same in
    let stays = c.place_both.ensures.stays in
    (failed-stays c.args.layers.now c.place_both.new.layers c.insert_in_upper.new.layers same stays c.insert_in_upper.ensures.lowers c.in_err-key.ensures.unchanged c.in_err-key.ensures.same c.insert_in_upper.ensures.keeps).sound

pub returns-clause-texts : goal.returns-clause-texts
returns-clause-texts c =
    let l0 = c.args.layers.now in
    let l1 = c.place_both.new.layers in
    let l2 = c.insert_in_upper.new.layers in
    let stays = c.place_both.ensures.stays in
    let n = c.in-Some.name.now in
    let t = reverse c.in-Some.field-0-1.now in
    let m = c.in-Some-split_last.further.now in
    let u = reverse c.in-Some-split_last.field-0-1.now in
    let from = c.in_ok-from.ensures.from n t c.in-Some.ensures in
    let onto = c.in_ok-from.ensures.onto m u c.in-Some-split_last.ensures in
    let out = outside-split c.args.layers.now c.args.old.now c.args.new.now n t m u c.in-Some.ensures c.in-Some-split_last.ensures c.args.found.2.layer c.args.found.2.key c.requires.may.shown.inode c.requires.may.parents c.requires.may.absent c.requires.may.shown.shown in
    let found = c.in_ok-copy.ensures in
    let made = found.2 in
    let copy = c.in_ok-key.ensures.copied t from u onto made.copy (λ e. out [] e) made.is in
    let text = below (layer_of l0.upper) c.args.old.now in
    marks-then (layer_of l0.upper) (layer_of l1.upper) (layer_of l2.upper) (Some text)
    (marks-same (layer_of l0.upper) (layer_of l1.upper) (Some text) stays.inodes)
    (marks-copied (layer_of l1.upper) (layer_of l2.upper) (n ∷ t) (m ∷ u) made.copy (Some text) copy
    (λ x is. copy-spelled l0 c.args.metacopy c.args.old.now found.0 c.in_ok-copy.copy made x (ap mark_of made.is ∙ is)))
