use Rattle.std.proofs.Common.{◌≡◌, false, sym, ap, subst}
use Rattle.plain_model.specs.Layers.{held}
use Rattle.layer_tree.specs.Tree.{layer_of}
use Rattle.ov_base.specs.declared.place.Place.{Place}
use Rattle.merged_lookup.specs.declared.stack.Stack.{Stack}
use Rattle.merged_lookup.specs.Merged.{parent, top_of, IsStackOf}
use Rattle.copy_up.specs.Showing.{is_object, HasPlace}
use Rattle.copy_up.proofs.Keeping.{place-of}
use Rattle.make_remove.proofs.Making.{absent-place}
use Rattle.rename_redirect.proofs.Shown.{lacked, shown-both, outside-shown, outside-unshown}
use Rattle.rename_redirect.proofs.copies.place_both.Goals as goal

pub place_ways-requires-clause-out : goal.place_ways-requires-clause-out
place_ways-requires-clause-out c = outside-shown c.args.layers.now c.args.old.now c.args.new.now c.args.place.layer c.args.place.key c.requires.shown.inode c.requires.parents c.requires.absent c.requires.shown.shown

pub place_ways-requires-clause-within : goal.place_ways-requires-clause-within
place_ways-requires-clause-within c = outside-unshown c.args.layers.now c.args.old.now c.args.new.now c.args.place.layer c.args.place.key c.requires.shown.inode c.requires.way c.requires.absent c.requires.shown.shown

pub returns-in_err-placed-clause-shown : goal.returns-in_err-placed-clause-shown
returns-in_err-placed-clause-shown c = λ x h. shown-both c.args.layers.now c.place_ways.new.layers c.args.old.now c.args.new.now c.args.place.layer c.args.place.key x c.place_ways.ensures.gains h c.requires.lower

pub returns-clause-shown : goal.returns-clause-shown
returns-clause-shown c = λ x h. shown-both c.args.layers.now c.place_ways.new.layers c.args.old.now c.args.new.now c.args.place.layer c.args.place.key x c.place_ways.ensures.gains h c.requires.lower

pub returns-clause-from : goal.returns-clause-from
returns-clause-from c = λ n p e.
    let l = c.place_ways.new.layers in
    let shown = shown-both c.args.layers.now l c.args.old.now c.args.new.now c.args.place.layer c.args.place.key c.requires.shown.inode c.place_ways.ensures.gains c.requires.shown.shown c.requires.lower in
    let none = subst (λ x. is_object (held (layer_of l.upper) x) ≡ false) e (ap is_object (lacked l c.args.old.now c.args.place.layer c.args.place.key c.requires.shown.inode shown c.requires.lower)) in
    subst (λ (d : Place). HasPlace (layer_of l.upper) d.key n p) (sym c.top.ensures)
    (place-of l p c.placed_or-from.result.now n (subst (λ x. IsStackOf l (parent x) c.placed_or-from.result.now) e (subst (λ (s : Stack). IsStackOf l (parent c.args.old.now) s) (sym c.placed_or-from.ensures) c.in_ok-placed.ensures.from))
    (subst (λ (s : Stack). (top_of s.places.items).layer ≡ 0) (sym c.placed_or-from.ensures) c.in_ok-placed.ensures.from_upper) none)

pub returns-clause-onto : goal.returns-clause-onto
returns-clause-onto c = λ n p e.
    let l = c.place_ways.new.layers in
    absent-place c.args.layers.now l c.args.new.now p n c.placed_or-onto.result.now c.top-2.result e c.place_ways.ensures.same c.requires.absent
    (subst (λ x. IsStackOf l (parent x) c.placed_or-onto.result.now) e (subst (λ (s : Stack). IsStackOf l (parent c.args.new.now) s) (sym c.placed_or-onto.ensures) c.in_ok-placed.ensures.onto))
    (subst (λ (s : Stack). (top_of s.places.items).layer ≡ 0) (sym c.placed_or-onto.ensures) c.in_ok-placed.ensures.onto_upper) c.top-2.ensures
