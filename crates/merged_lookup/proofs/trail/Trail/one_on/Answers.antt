use Rattle.std.proofs.Common.{◌≡◌, ◌≢◌, ◌∷◌, ◌++◌, List, Option, sym, ap, ◌∙◌, subst, MatchOption, Bor, reverse}
use Rattle.std.proofs.lemmas.Slice.Eq.{bytes_eq-Decides, strip_prefix_is}
use Rattle.plain_model.specs.Layers.{Name}
use Rattle.merged_lookup.specs.Trails.{trail_path}
use Rattle.merged_lookup.proofs.Trails.{IsRest, same-parents, same-rest, same, differs}
use Rattle.merged_lookup.proofs.trail.Trail.one_on.Goals as goal

pub returns-in_err-since : goal.returns-in_err-since
returns-in_err-since c =
    let parents : List Name = c.in_ok-name.parents.now in
    let redirect : List Name = c.args.self.now.redirect.now in
    let since : List Name = c.args.self.now.since.now in
    let apart : (rest : List Name) → parents ≢ redirect ++ rest =
    subst (IsRest parents redirect) c.in_err-since.was (strip_prefix_is bytes_eq-Decides parents redirect c.strip_prefix.result c.strip_prefix.ensures.cases) in
    let path : List Name = trail_path c.args.self.now in
    let P : Option (Bor Name) → Type 0 = λ r. MatchOption r ((n : Name) → c.args.path.now ≢ n ∷ path) (λ name. c.args.path.now ≡ name.now ∷ path) in
    subst P (sym c.from_residual-in_err-since.ensures)
    (λ n e. apart since (same-parents c.args.path.now c.in_ok-name.name.now n parents (redirect ++ since) c.in_ok-name.ensures e))

pub returns-then-ne : goal.returns-then-ne
returns-then-ne c =
    let parents : List Name = c.in_ok-name.parents.now in
    let redirect : List Name = c.args.self.now.redirect.now in
    let since : List Name = c.args.self.now.since.now in
    let parts : parents ≡ redirect ++ c.in_ok-since.since.now =
    subst (IsRest parents redirect) c.in_ok-since.was (strip_prefix_is bytes_eq-Decides parents redirect c.strip_prefix.result c.strip_prefix.ensures.cases) in
    λ n e.
    differs c.in_ok-since.since.now since c.ne.result c.ne.ensures c.if-ne.true
    (same-rest redirect c.in_ok-since.since.now since
    (sym parts ∙ same-parents c.args.path.now c.in_ok-name.name.now n parents (redirect ++ since) c.in_ok-name.ensures e))

pub returns : goal.returns
returns c =
    let parents : List Name = c.in_ok-name.parents.now in
    let redirect : List Name = c.args.self.now.redirect.now in
    let since : List Name = c.args.self.now.since.now in
    let parts : parents ≡ redirect ++ c.in_ok-since.since.now =
    subst (IsRest parents redirect) c.in_ok-since.was (strip_prefix_is bytes_eq-Decides parents redirect c.strip_prefix.result c.strip_prefix.ensures.cases) in
    c.in_ok-name.ensures
    ∙ ap (λ z. c.in_ok-name.name.now ∷ reverse z) (parts ∙ ap (λ z. redirect ++ z) (same c.in_ok-since.since.now since c.ne.result c.ne.ensures c.if-ne.false))
