use Rattle.plain_model.proofs.AlikeKept.{alike-kept}
use Rattle.plain_model.proofs.watch_laws.law_of_alike_instances.Goals as goal

pub returns : goal.returns
returns g c = alike-kept g.I.IdentityMap.of
