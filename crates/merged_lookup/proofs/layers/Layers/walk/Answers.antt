use Rattle.std.proofs.Common.{◌≡◌, [], Option, MatchOption, subst, sym}
use Rattle.plain_model.specs.Layers.{Path}
use Rattle.merged_lookup.specs.declared.found.Parent.{Parent}
use Rattle.merged_lookup.specs.Merged.{IsParentOf, ShowsDirectory}
use Rattle.merged_lookup.proofs.Looking.{root-shown}
use Rattle.merged_lookup.proofs.layers.Layers.walk.Goals as goal

pub returns-in-None-clause-found : goal.returns-in-None-clause-found
returns-in-None-clause-found c =
    let P : Option Parent → Type 0 = λ o. MatchOption o (c.args.path.now ≡ []) (IsParentOf c.args.self.now c.args.path.now) in
    let root : c.args.path.now ≡ [] = subst P c.in-None.is c.in_ok-parent_of.ensures.found in
    let Q : Path → Type 0 = λ p. ShowsDirectory c.args.self.now p c.root.result.places.items in
    subst Q (sym root) (root-shown c.args.self.now c.root.result c.root.ensures)
