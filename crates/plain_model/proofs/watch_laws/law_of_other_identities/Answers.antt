use Rattle.plain_model.proofs.AlikeKept.{alike-now}
use Rattle.plain_model.proofs.watch_laws.law_of_other_identities.Goals as goal

pub returns : goal.returns
returns g c = alike-now g.I.IdentityMap.of g.J.IdentityMap.of
