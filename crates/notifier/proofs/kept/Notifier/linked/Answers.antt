use Rattle.std.proofs.Common.{◌++◌, ap, ◌∙◌}
use Rattle.plain_model.specs.Watching.{ATTRIB, CREATE}
use Rattle.notice_laws.specs.Notified.{Notified}
use Rattle.notice_laws.specs.Steps.{Lifts}
use Rattle.notice_laws.specs.Telling.{in_way, of_number}
use Rattle.notifier.proofs.Told.{told-append, tells-after}
use Rattle.notifier.proofs.kept.Notifier.linked.Goals as goal

pub returns : goal.returns
returns g c =
    let old = c.args.self.now in
    let mid = c.lift-number.new.self in
    let new = c.tell_number.new.self in
    let by_way = in_way c.way_to-way.result CREATE 0 in
    let by_number = of_number c.lift-number.result ATTRIB in
    let rest = c.lift-number.ensures.rest in
    let told = told-append g.R.Rule.shows by_way by_number mid c.tell_way.new.self new c.tell_way.ensures c.tell_number.ensures in
    record {
      number = c.lift-number.result;
      found = c.lift-number.ensures.number;
      way = c.way_to-way.result;
      entered = c.way_to-way.ensures;
      tells = tells-after g.R.Rule.shows (by_way ++ by_number) (Lifts c.args.old.now c.args.object c.args.key) old mid new
          (ap (λ (k : Notified). k.instances) rest) c.lift-number.ensures.lifted told;
      handles = told.handles ∙ ap (λ (k : Notified). k.handles) rest;
      renames = told.renames ∙ ap (λ (k : Notified). k.renames) rest;
    }
