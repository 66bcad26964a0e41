use Rattle.std.proofs.Common.{ℕ, ap, subst, sym, ◌∙◌}
use Rattle.plain_model.specs.Watching.{ATTRIB}
use Rattle.notice_laws.specs.Notified.{Notified}
use Rattle.notice_laws.specs.Steps.{Lifts}
use Rattle.notice_laws.specs.Telling.{marks, of_both}
use Rattle.notifier.specs.Notifying.{IsOther, IsTold}
use Rattle.notifier.proofs.Told.{marked-other, tells-after}
use Rattle.notifier.proofs.kept.Notifier.altered.Goals as goal

pub tell_both-requires : goal.tell_both-requires
tell_both-requires g c = subst IsOther (sym c.marks.ensures) (marked-other c.args.object)

pub returns : goal.returns
returns g c =
    let shows = g.R.Rule.shows in
    let old = c.args.self.now in
    let mid = c.lift-number.new.self in
    let new = c.tell_both.new.self in
    let both = λ (bits : ℕ). of_both c.way_to-way.result c.lift-number.result bits in
    let rest = c.lift-number.ensures.rest in
    let told = subst (λ (bits : ℕ). IsTold shows mid new (both bits)) c.marks.ensures c.tell_both.ensures in
    record {
      number = c.lift-number.result;
      found = c.lift-number.ensures.number;
      way = c.way_to-way.result;
      entered = c.way_to-way.ensures;
      tells = tells-after shows (both (marks c.args.object ATTRIB)) (Lifts c.args.path.now c.args.object c.args.key) old mid new
          (ap (λ (k : Notified). k.instances) rest) c.lift-number.ensures.lifted told;
      handles = told.handles ∙ ap (λ (k : Notified). k.handles) rest;
      renames = told.renames ∙ ap (λ (k : Notified). k.renames) rest;
    }
