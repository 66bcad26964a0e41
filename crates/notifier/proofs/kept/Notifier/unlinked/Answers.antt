use Rattle.std.proofs.Common.{◌++◌, ap, ◌∙◌}
use Rattle.plain_model.specs.Watching.{ATTRIB, DELETE}
use Rattle.notice_laws.specs.Notified.{Notified}
use Rattle.notice_laws.specs.Steps.{Loses}
use Rattle.notice_laws.specs.Telling.{in_way, of_end, of_number}
use Rattle.notifier.proofs.Told.{told-append, tells-after}
use Rattle.notifier.proofs.kept.Notifier.unlinked.Goals as goal

pub returns : goal.returns
returns g c =
    let shows = g.R.Rule.shows in
    let old = c.args.self.now in
    let mid = c.lose_name-number.new.self in
    let entered = c.tell_way.new.self in
    let lost = c.tell_number.new.self in
    let new = c.tell_end.new.self in
    let by_way = in_way c.way_to-way.result DELETE 0 in
    let by_number = of_number c.lose_name-number.result.0 ATTRIB in
    let by_end = of_end c.lose_name-number.result.1 in
    let rest = c.lose_name-number.ensures.rest in
    let both = told-append shows by_way by_number mid entered lost c.tell_way.ensures c.tell_number.ensures in
    let told = told-append shows (by_way ++ by_number) by_end mid lost new both c.tell_end.ensures in
    record {
      number = c.lose_name-number.result.0;
      found = c.lose_name-number.ensures.number;
      ended = c.lose_name-number.result.1;
      ends = c.lose_name-number.ensures.ended;
      way = c.way_to-way.result;
      entered = c.way_to-way.ensures;
      tells = tells-after shows ((by_way ++ by_number) ++ by_end) (Loses c.args.path.now c.args.object) old mid new
          (ap (λ (k : Notified). k.instances) rest) c.lose_name-number.ensures.lost told;
      handles = told.handles ∙ ap (λ (k : Notified). k.handles) rest;
      renames = told.renames ∙ ap (λ (k : Notified). k.renames) rest;
    }
