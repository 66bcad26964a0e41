use Rattle.std.proofs.Common.{subst}
use Rattle.std.specs.Prelude.{IsTrue}
use Rattle.ov_base.specs.Targets.{is_target}
use Rattle.ov_base.proofs.LinkTargets.{target-is}
use Rattle.ov_base.proofs.link_target.LinkTarget.lawful.Goals as goal

pub returns : goal.returns
returns c = target-is c.args.self.now (subst (λ bytes. IsTrue (is_target bytes)) c.self.view_is c.self.invariant)
