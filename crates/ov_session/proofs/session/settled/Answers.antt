use Rattle.std.proofs.Common.{◌-◌, take, ap, ◌∙◌, List, ℕ}
use Rattle.ov_session.proofs.Turning.{moved}
use Rattle.ov_session.proofs.session.settled.Goals as goal

pub returns-clause-same : goal.returns-clause-same
returns-clause-same c =
    let span = c.args.span in
    ap (λ (l : List ℕ). take (span.end - span.start) l) c.copy_within.ensures.after
    ∙ moved c.args.bytes.now span.start span.end c.requires.within.0 c.requires.within.1
