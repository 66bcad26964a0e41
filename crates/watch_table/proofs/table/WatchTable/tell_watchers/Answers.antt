use Rattle.std.proofs.Common.{length, eq-eqb, arith, sym, ap, subst, ◌∙◌}
use Rattle.watch_table.specs.Clients.{AreRising, AreTold, watches}
use Rattle.watch_table.specs.Subjects.{subject_of, aim_of}
use Rattle.watch_table.specs.Watched.{watchers_of}
use Rattle.watch_table.proofs.Counting.{index-counts}
use Rattle.watch_table.proofs.Fired.{nil-from, tell-on, tell-nobody, index-on, count-kept}
use Rattle.watch_table.proofs.Hearing.{one-heard}
use Rattle.watch_table.proofs.Telling.{short-filter, told-clients}
use Rattle.watch_table.proofs.table.WatchTable.tell_watchers.Goals as goal

pub returns-then-before-eq0-clause-hear : goal.returns-then-before-eq0-clause-hear
returns-then-before-eq0-clause-hear g c =
    let shows = g.R.Rule.shows in
    let s = subject_of c.args.subject.now in
    let es = c.self.inside.listeners in
    let none = sym c.watchers-clients.ensures ∙ nil-from c.watchers-clients.result.now (eq-eqb (length c.watchers-clients.result.now) 0 c.if-before-eq0.true) in
    rw (← c.self.view_is) (one-heard shows s es es
    (tell-nobody shows s es c.self.inside.objects c.self.invariant c.lawful.ensures c.args.object (ap aim_of c.requires.aim) none))

pub returns-then-not-tell-clause-hear : goal.returns-then-not-tell-clause-hear
returns-then-not-tell-clause-hear g c =
    let shows = g.R.Rule.shows in
    let s = subject_of c.args.subject.now in
    let es = c.self.inside.listeners in
    let told = subst (λ ks. AreTold shows s ks es c.tell.new.self) c.watchers-clients.ensures c.tell.ensures.told in
    rw (← c.self.view_is) (one-heard shows s es c.tell.new.self
    (tell-on shows s es c.self.inside.objects c.self.invariant c.lawful.ensures c.args.object c.tell.new.self (ap aim_of c.requires.aim) told))

pub returns-then-not-tell-clause-ended : goal.returns-then-not-tell-clause-ended
returns-then-not-tell-clause-ended g c =
    let shows = g.R.Rule.shows in
    let s = subject_of c.args.subject.now in
    let es = c.self.inside.listeners in
    let fs = c.tell.new.self in
    let o = c.args.object in
    let rises = subst AreRising (sym (told-clients shows s c.watchers-clients.result.now es fs c.tell.ensures.told)) c.lawful.ensures in
    let kept = count-kept shows s es c.self.inside.objects c.self.invariant c.lawful.ensures fs o rises (c.tell.ensures.last c.if-not-tell.true) in
    rw (← c.self.view_is) (omega (arith, kept))

pub overflow_sub-result : goal.overflow_sub-result
overflow_sub-result g c =
    let left = c.watchers.ensures ∙ c.refresh.ensures.here in
    let less = short-filter (watches c.tell.new.self c.args.object) (watchers_of c.self.inside.objects c.args.object) in
    omega (arith, ap length left, ap length c.watchers-clients.ensures, less)

pub invariant_of-self-2 : goal.invariant_of-self-2
invariant_of-self-2 g c =
    let shows = g.R.Rule.shows in
    let s = subject_of c.args.subject.now in
    let es = c.self.inside.listeners in
    let t = c.self.inside.objects in
    let aim = ap aim_of c.requires.aim in
    let told = subst (λ ks. AreTold shows s ks es c.tell.new.self) c.watchers-clients.ensures c.tell.ensures.told in
    let heard = tell-on shows s es t c.self.invariant c.lawful.ensures c.args.object c.tell.new.self aim told in
    index-on shows s es t c.self.invariant c.lawful.ensures c.refresh.new.self c.args.object c.tell.new.self aim heard c.refresh.ensures

pub returns-clause-hear : goal.returns-clause-hear
returns-clause-hear g c =
    let shows = g.R.Rule.shows in
    let s = subject_of c.args.subject.now in
    let es = c.self.inside.listeners in
    let told = subst (λ ks. AreTold shows s ks es c.tell.new.self) c.watchers-clients.ensures c.tell.ensures.told in
    rw (← c.self.view_is) (one-heard shows s es c.tell.new.self
    (tell-on shows s es c.self.inside.objects c.self.invariant c.lawful.ensures c.args.object c.tell.new.self (ap aim_of c.requires.aim) told))

pub returns-clause-ended : goal.returns-clause-ended
returns-clause-ended g c =
    let shows = g.R.Rule.shows in
    let s = subject_of c.args.subject.now in
    let es = c.self.inside.listeners in
    let fs = c.tell.new.self in
    let t = c.self.inside.objects in
    let o = c.args.object in
    let aim = ap aim_of c.requires.aim in
    let rises = subst AreRising (sym (told-clients shows s c.watchers-clients.result.now es fs c.tell.ensures.told)) c.lawful.ensures in
    let told = subst (λ ks. AreTold shows s ks es fs) c.watchers-clients.ensures c.tell.ensures.told in
    let heard = tell-on shows s es t c.self.invariant c.lawful.ensures o fs aim told in
    let index = index-on shows s es t c.self.invariant c.lawful.ensures c.refresh.new.self o fs aim heard c.refresh.ensures in
    let before = ap length c.watchers-clients.ensures ∙ index-counts es t o c.self.invariant c.lawful.ensures in
    let after = ap length c.watchers.ensures ∙ index-counts fs c.refresh.new.self o index rises in
    let left = c.watchers.ensures ∙ c.refresh.ensures.here in
    let less = short-filter (watches fs o) (watchers_of t o) in
    rw (← c.self.view_is) (omega (arith, before, after, ap length left, ap length c.watchers-clients.ensures, less))
