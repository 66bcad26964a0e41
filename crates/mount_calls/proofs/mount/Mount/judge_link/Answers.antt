use Rattle.std.proofs.Common.{None, Some, Result, Ok, Err, IfOk, OnOk}
use Rattle.std.proofs.lemmas.Result.{IfErr-weaker, IfOk-weaker}
use Rattle.mount_calls.proofs.Judging.{refuses-link}
use Rattle.mount_calls.proofs.Keys.{look-seen}
use Rattle.mount_calls.proofs.mount.Mount.judge_link.Goals as goal

-- what follows of what was found, whatever it is
ok-then : {A E P : Type 0} (r : Result A E) (Q : A → Type 0) → ((a : A) → Q a → P) → IfOk r Q →
    OnOk r P
ok-then (Ok a) Q f h = f a h
ok-then (Err e) Q f h = tt

pub returns-clause-refused : goal.returns-clause-refused
returns-clause-refused c =
    let m = c.args.self.now in
    let a = c.args.from.now in
    let b = c.args.onto.now in
    IfErr-weaker c.linkable.result _ _
    (λ e faults p q from onto client. refuses-link m client p q (Some e)
    (faults m.layers p q (look-seen m.layers p a from) (look-seen m.layers q b onto)))
    c.linkable.ensures.refused

pub returns-clause-allowed : goal.returns-clause-allowed
returns-clause-allowed c =
    let m = c.args.self.now in
    let a = c.args.from.now in
    let b = c.args.onto.now in
    ok-then c.linkable.result _
    (λ found may p q from onto client. refuses-link m client p q None
    (may m.layers p q (look-seen m.layers p a from) (look-seen m.layers q b onto)).fine)
    c.linkable.ensures.may

pub returns-clause-may : goal.returns-clause-may
returns-clause-may c =
    let m = c.args.self.now in
    let a = c.args.from.now in
    let b = c.args.onto.now in
    IfOk-weaker c.linkable.result _ _ (λ found may p q from onto. may m.layers p q
    (look-seen m.layers p a from) (look-seen m.layers q b onto)) c.linkable.ensures.may
