use Rattle.std.proofs.Common.{Some, subst}
use Rattle.notice_laws.specs.Objects.{IsNumberOf}
use Rattle.notifier.specs.Notifying.{MayLift}
use Rattle.notifier.proofs.Moved.{path-low, spot-bare}
use Rattle.notifier.proofs.kept.Notifier.lift_number.Goals as goal

pub rise-requires-clause-low : goal.rise-requires-clause-low
rise-requires-clause-low g c = λ k.
    let old = c.args.self.now.objects in
    let p = c.requires.0 in
    path-low old p c.args.number k (subst (λ o. IsNumberOf old p o (Some c.args.number)) c.in-Lower.is c.requires.1)

pub rise-requires-clause-bare : goal.rise-requires-clause-bare
rise-requires-clause-bare g c =
    let old = c.args.self.now.objects in
    let p = c.requires.0 in
    let found = subst (λ o. IsNumberOf old p o (Some c.args.number)) c.in-Lower.is c.requires.1 in
    let may = subst (λ o. MayLift old p o c.args.key) c.in-Lower.is c.requires.2 in
    spot-bare old p c.args.number (may.1 c.args.number found).1 found

pub rise-requires-clause-vacant : goal.rise-requires-clause-vacant
rise-requires-clause-vacant g c =
    let old = c.args.self.now.objects in
    let p = c.requires.0 in
    let found = subst (λ o. IsNumberOf old p o (Some c.args.number)) c.in-Lower.is c.requires.1 in
    let may = subst (λ o. MayLift old p o c.args.key) c.in-Lower.is c.requires.2 in
    (may.1 c.args.number found).0
