use Rattle.std.proofs.Common.{◌≡◌, ◌∷◌, [], ◌∙◌, sym, ap, length, reverse}
use Rattle.std.specs.List.{IsLastAndRest}
use Rattle.ov_base.proofs.PathLemmas.{path-split, path-none, match-map}
use Rattle.ov_base.proofs.path.Path.split_last.Goals as goal

pub returns : goal.returns
returns c =
    match-map (length c.names.result.now ≡ 0) (c.args.self.now ≡ []) (λ s. IsLastAndRest c.names.result.now s.0.now s.1.now) (λ s. c.args.self.now ≡ s.0.now ∷ reverse s.1.now) c.split_last.result
    (λ h. path-none c.args.self.now (sym (ap length c.names.ensures) ∙ h))
    (λ s h. path-split c.args.self.now s.1.now s.0.now (sym c.names.ensures ∙ h.0))
    c.split_last.ensures.cases
