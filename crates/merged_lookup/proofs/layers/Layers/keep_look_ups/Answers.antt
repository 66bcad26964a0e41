use Rattle.std.proofs.Common.{Contains, subst}
use Rattle.lru.proofs.CallerLemmas.{Contains-take}
use Rattle.merged_lookup.proofs.layers.Layers.keep_look_ups.Goals as goal

pub invariant_of-self : goal.invariant_of-self
invariant_of-self c = λ key k d.
    c.self.invariant key k (Contains-take _ _ (key, k)
    (subst (λ m. Contains m.entries (key, k)) c.resize-in-Some.ensures d))
