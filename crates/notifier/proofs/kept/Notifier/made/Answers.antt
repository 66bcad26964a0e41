use Rattle.notice_laws.specs.Telling.{in_way}
use Rattle.notifier.proofs.Told.{tells-told}
use Rattle.notifier.proofs.kept.Notifier.made.Goals as goal

pub returns : goal.returns
returns g c = record {
  way = c.way_to-way.result;
  entered = c.way_to-way.ensures;
  tells = tells-told g.R.Rule.shows (in_way c.way_to-way.result c.args.bits 0) c.args.self.now c.tell_way.new.self c.tell_way.ensures;
  handles = c.tell_way.ensures.handles;
  renames = c.tell_way.ensures.renames;
}
