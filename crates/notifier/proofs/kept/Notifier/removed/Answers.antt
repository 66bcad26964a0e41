use Rattle.std.proofs.Common.{◌+◌, ◌++◌, ap, ◌∙◌}
use Rattle.plain_model.specs.Watching.{DELETE, ISDIR}
use Rattle.notice_laws.specs.declared.object.Object.TheVariants as object
use Rattle.notice_laws.specs.Notified.{Notified}
use Rattle.notice_laws.specs.Steps.{Loses}
use Rattle.notice_laws.specs.Telling.{in_way, of_end}
use Rattle.notifier.proofs.Told.{told-append, tells-after}
use Rattle.notifier.proofs.kept.Notifier.removed.Goals as goal

pub returns : goal.returns
returns g c =
    let shows = g.R.Rule.shows in
    let old = c.args.self.now in
    let mid = c.lose_name-ended.new.self in
    let new = c.tell_end.new.self in
    let by_way = in_way c.way_to-way.result (DELETE + ISDIR) 0 in
    let by_end = of_end c.lose_name-ended.result.1 in
    let rest = c.lose_name-ended.ensures.rest in
    let told = told-append shows by_way by_end mid c.tell_way.new.self new c.tell_way.ensures c.tell_end.ensures in
    record {
      number = c.lose_name-ended.result.0;
      found = c.lose_name-ended.ensures.number;
      ended = c.lose_name-ended.result.1;
      ends = c.lose_name-ended.ensures.ended;
      way = c.way_to-way.result;
      entered = c.way_to-way.ensures;
      tells = tells-after shows (by_way ++ by_end) (Loses c.args.path.now object.Directory) old mid new
          (ap (λ (k : Notified). k.instances) rest) c.lose_name-ended.ensures.lost told;
      handles = told.handles ∙ ap (λ (k : Notified). k.handles) rest;
      renames = told.renames ∙ ap (λ (k : Notified). k.renames) rest;
    }
