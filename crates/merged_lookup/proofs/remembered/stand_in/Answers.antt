use Rattle.std.proofs.Common.{◌≡◌, ◌∙◌, ◌∷◌, [], List, ap, reverse, sym}
use Rattle.std.proofs.lemmas.List.{reverse-append}
use Rattle.plain_model.specs.Layers.{Name}
use Rattle.merged_lookup.proofs.Trails.{names-decide}
use Rattle.merged_lookup.proofs.remembered.stand_in.Goals as goal

pub returns-in-Some : goal.returns-in-Some
returns-in-Some c = λ same.
    let names : List Name = c.in-Some.parents.now in
    let last : Name = c.in-Some.field-0-0.now in
    let parents : names ≡ c.args.directory.now =
    (names-decide names c.args.directory.now).0 (sym c.eq.ensures ∙ same) in (
      last,
      ap reverse c.in-Some.ensures.cases.0 ∙ reverse-append names (last ∷ [])
          ∙ ap (λ ps. last ∷ reverse ps) parents,
    )
