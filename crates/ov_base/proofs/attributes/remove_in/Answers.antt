use Rattle.std.proofs.Common.{Bool, not, List, ℕ, rules}
use Rattle.std.specs.Str.{bytes_eq}
use Rattle.std.proofs.lemmas.Fn.{filter_same}
use Rattle.ov_base.proofs.attributes.remove_in.Goals as goal

pub returns : goal.returns
returns c =
    let stays : List ℕ × List ℕ → Bool = λ x. not (bytes_eq x.0 c.args.name.now) in
    filter_same _ stays _ (λ x b q k. search rules) _ _ c.retain.ensures.filtered
