use Rattle.std.proofs.Common.{ℕ, [], nat_eq, ap}
use Rattle.std.proofs.lemmas.Int.{to_z-of_z}
use Rattle.std.proofs.lemmas.Map.Keys.{IsDistinct-cons}
use Rattle.watch_table.specs.Subjects.{subject_of, aim_of}
use Rattle.watch_table.proofs.Fired.{tell-only, tell-none, index-only}
use Rattle.watch_table.proofs.Keys.{distinct_none}
use Rattle.watch_table.proofs.table.WatchTable.tell_one.Goals as goal

pub tell-requires-clause-once : goal.tell-requires-clause-once
tell-requires-clause-once g c = IsDistinct-cons nat_eq c.args.client [] tt (distinct_none nat_eq (λ (k : ℕ). k))

pub invariant_of-self : goal.invariant_of-self
invariant_of-self g c =
    let shows = g.R.Rule.shows in
    let s = subject_of c.args.subject.now in
    let es = c.self.inside.listeners in
    let t = c.self.inside.objects in
    let fits = c.ranges.number in
    let aim = ap aim_of c.requires.aim in
    let one = simp (to_z-of_z, fits) at c.in-Some.ensures in
    let heard = tell-only shows s es t c.self.invariant c.lawful.ensures c.args.client c.args.number c.tell.new.self aim c.tell.ensures.told in
    let o = c.in-Some.object in
    let u = c.refresh.new.self in
    let fs = c.tell.new.self in
    index-only shows s es t c.self.invariant c.lawful.ensures u c.args.client c.args.number o fs aim one heard c.refresh.ensures

pub returns-in-Some : goal.returns-in-Some
returns-in-Some g c =
    let aim = ap aim_of c.requires.aim in
    let s = subject_of c.args.subject.now in
    let es = c.self.inside.listeners in
    let all = tell-only g.R.Rule.shows s es c.self.inside.objects c.self.invariant c.lawful.ensures in
    rw (← c.self.view_is) (all c.args.client c.args.number c.tell.new.self aim c.tell.ensures.told)

pub returns-in_default : goal.returns-in_default
returns-in_default g c =
    let fits = c.ranges.number in
    let aim = ap aim_of c.requires.aim in
    let none = simp (to_z-of_z, fits) at c.in_default.ensures in
    let s = subject_of c.args.subject.now in
    let es = c.self.inside.listeners in
    let all = tell-none g.R.Rule.shows s es c.self.inside.objects c.self.invariant c.lawful.ensures in
    rw (← c.self.view_is) (all c.args.client c.args.number aim none)
