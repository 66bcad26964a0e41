use Rattle.std.proofs.Common.{◌≡◌, ◌∙◌, ap, sym, not, nat_eq, length}
use Rattle.merged_lookup.specs.Merged.{trees}
use Rattle.merged_lookup.specs.Descent.{descend, leads, without_upper}
use Rattle.merged_lookup.proofs.Looking.{under-directory}
use Rattle.merged_lookup.proofs.layers.Layers.lowers_show_directory.Goals as goal

pub returns-in-Some : goal.returns-in-Some
returns-in-Some c =
    let asked : c.below_upper.result.now ≡ without_upper c.args.parent.now.places.items = c.below_upper.ensures ∙ ap without_upper c.places.ensures in
    let leading : leads c.topmost.result ≡ not (nat_eq (length (descend (trees c.args.self.now) (without_upper c.args.parent.now.places.items) c.args.name.now)) 0) = c.topmost.ensures.directory ∙ ap (λ z. not (nat_eq (length (descend (trees c.args.self.now) z c.args.name.now)) 0)) asked in
    λ p is.
    c.is_directory.ensures ∙ sym (ap leads c.in-Some.is)
    ∙ under-directory c.args.self.now.upper c.args.self.now.lowers.items c.args.parent.now.places.items p c.args.name.now is.places c.topmost.result leading

pub returns-in-None : goal.returns-in-None
returns-in-None c =
    let asked : c.below_upper.result.now ≡ without_upper c.args.parent.now.places.items = c.below_upper.ensures ∙ ap without_upper c.places.ensures in
    let leading : leads c.topmost.result ≡ not (nat_eq (length (descend (trees c.args.self.now) (without_upper c.args.parent.now.places.items) c.args.name.now)) 0) = c.topmost.ensures.directory ∙ ap (λ z. not (nat_eq (length (descend (trees c.args.self.now) z c.args.name.now)) 0)) asked in
    λ p is.
    sym (ap leads c.in-None.is)
    ∙ under-directory c.args.self.now.upper c.args.self.now.lowers.items c.args.parent.now.places.items p c.args.name.now is.places c.topmost.result leading
