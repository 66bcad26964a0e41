use Rattle.std.proofs.Common.{◌≡◌, ◌∷◌, List, Bool, Err, Ok, true, reverse, rules, sym, subst, ◌∙◌}
use Rattle.layer_tree.specs.Tree.{layer_of}
use Rattle.ov_wire.specs.ManifestLayers.{Entry, with_entry}
use Rattle.ov_wire.specs.Drafts.{IsDraft, Places}
use Rattle.ov_wire.proofs.Placing.{root-entry, err-same}
use Rattle.ov_wire.proofs.manifest.place.put.Goals as goal

pub returns-in_default-clause-places : goal.returns-in_default-clause-places
returns-in_default-clause-places c = λ a before d tells.
    subst (λ p. (x : List Entry) × (with_entry before p c.args.item ≡ Ok x) × IsDraft (layer_of c.args.layer.now) a true x)
    (sym c.in_default.ensures)
    (root-entry (layer_of c.args.layer.now) a c.args.root_is_set before c.args.item d (sym c.check_root.ensures ∙ c.in_ok-check_root.was))

pub returns-in_err-place-clause-places : goal.returns-in_err-place-clause-places
returns-in_err-place-clause-places c = λ a before d tells.
    let path_is : c.args.path.now ≡ c.in-Some.name.now ∷ reverse c.in-Some.parents.now = c.in-Some.ensures in
    let same : c.from_residual-in_err-place.result ≡ Err c.in_err-place.field-0.0 = search rules in
    subst (λ p. Places {T = Bool} (λ is_set. is_set) (layer_of c.place.new.layer) a (with_entry before p c.args.item) c.from_residual-in_err-place.result) (sym path_is)
    (subst (λ r. Places {T = Bool} (λ is_set. is_set) (layer_of c.place.new.layer) a (with_entry before (c.in-Some.name.now ∷ reverse c.in-Some.parents.now) c.args.item) r) (sym same)
    (err-same {T = Unit {0}} {U = Bool} (λ _. c.args.root_is_set) (λ is_set. is_set) (layer_of c.place.new.layer) a (with_entry before (c.in-Some.name.now ∷ reverse c.in-Some.parents.now) c.args.item) c.in_err-place.field-0.0 (c.in_err-place.ensures.places c.args.root_is_set a before d tells)))

pub returns-clause-places : goal.returns-clause-places
returns-clause-places c = λ a before d tells.
    let path_is : c.args.path.now ≡ c.in-Some.name.now ∷ reverse c.in-Some.parents.now = c.in-Some.ensures in
    subst (λ p. (x : List Entry) × (with_entry before p c.args.item ≡ Ok x) × IsDraft (layer_of c.place.new.layer) a c.args.root_is_set x) (sym path_is)
    (c.in_ok-place.ensures.places c.args.root_is_set a before d tells)
