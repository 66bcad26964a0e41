use Rattle.std.proofs.Common.{◌≡◌, ◌∙◌, ◌∷◌, List, ap, map, reverse, subst, sym, Contains}
use Rattle.std.specs.Global.{Vec}
use Rattle.lru.proofs.Splits.{Contains-head}
use Rattle.plain_model.specs.Layers.{Name, Path}
use Rattle.layer_tree.specs.Tree.{layer_of}
use Rattle.merged_lookup.specs.declared.kept.Kept.{Kept}
use Rattle.merged_lookup.specs.declared.stacked.Stacked.{Stacked}
use Rattle.merged_lookup.specs.Merged.{places_at}
use Rattle.merged_lookup.proofs.Keeping.{kept-beside, second-there}
use Rattle.merged_lookup.proofs.layers.Layers.beside.Goals as goal

pub returns-then-stand_in : goal.returns-then-stand_in
returns-then-stand_in c =
    let entries : List (Vec Name × Kept) = c.self.inside.kept.entries in
    let key : Vec Name = c.in_ok-key.key.now in
    let kept : Kept = c.in_ok-key.kept.now in
    let p : Path = reverse c.args.names.now in
    let stands = c.stand_in.ensures c.if-stand_in.true in
    let there : Contains entries (key, kept) =
    subst (λ es. Contains es (key, kept))
    (sym c.in_ok-key.ensures.steps ∙ c.iter-entries.ensures.rest) (Contains-head _ _) in
    subst (λ (s : Stacked). kept.directory.items ≡ places_at 1 (map layer_of s.lowers.items) p)
    c.self.view_is
    (kept-beside _ entries key kept stands.0 p c.self.invariant there
    (sym (ap reverse c.as_slice.ensures.value) ∙ stands.1))

pub returns-then-stand_in-2 : goal.returns-then-stand_in-2
returns-then-stand_in-2 c =
    let entries : List (Vec Name × Kept) = c.self.inside.kept.entries in
    let key : Vec Name = c.in_ok-key-2.key.now in
    let kept : Kept = c.in_ok-key-2.kept.now in
    let first : Vec Name × Kept = (c.in_ok-key.key.now, c.in_ok-key.kept.now) in
    let p : Path = reverse c.args.names.now in
    let stands = c.stand_in-2.ensures c.if-stand_in-2.true in
    let there : Contains entries (key, kept) =
    second-there entries first (key, kept) _ (sym c.iter-entries.ensures.rest
    ∙ c.in_ok-key.ensures.steps ∙ ap (λ es. first ∷ es) c.in_ok-key-2.ensures.steps) in
    subst (λ (s : Stacked). kept.directory.items ≡ places_at 1 (map layer_of s.lowers.items) p)
    c.self.view_is
    (kept-beside _ entries key kept stands.0 p c.self.invariant there
    (sym (ap reverse c.as_slice-2.ensures.value) ∙ stands.1))
