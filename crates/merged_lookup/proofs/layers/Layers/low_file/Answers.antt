use Rattle.std.proofs.Common.{sym, ap, ◌∙◌, Some}
use Rattle.std.proofs.Common.{subst, reverse}
use Rattle.std.proofs.lemmas.List.{reverse-reverse}
use Rattle.merged_lookup.specs.Kept.{ShowsTopmost}
use Rattle.merged_lookup.specs.Marking.{topmost_file}
use Rattle.merged_lookup.specs.Merged.{trees, lowers_of}
use Rattle.merged_lookup.proofs.Marking.{topmost-file}
use Rattle.merged_lookup.proofs.layers.Layers.low_file.Goals as goal

pub returns-in_ok-kept-in-Some : goal.returns-in_ok-kept-in-Some
returns-in_ok-kept-in-Some c =
    let l = c.args.self.now in
    let shown = c.in-Some.kept.now.shown in
    c.place_of_file.ensures
    ∙ ap (λ ts. topmost_file ts (Some c.in_ok-kept-in-Some.field-0)) c.numbered.ensures.row
    ∙ sym (ap (topmost_file (trees l)) c.in_ok-kept-in-Some.was)
    ∙ topmost-file l.upper l.lowers.items c.args.path.now shown
    (subst (λ q. ShowsTopmost (lowers_of l) q shown) (ap reverse c.names.ensures ∙ reverse-reverse c.args.path.now) c.in-Some.ensures.shown)
