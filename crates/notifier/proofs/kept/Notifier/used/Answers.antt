use Rattle.std.proofs.Common.{Some}
use Rattle.notice_laws.specs.Telling.{of_both}
use Rattle.notifier.proofs.Told.{tells-told}
use Rattle.notifier.proofs.kept.Notifier.used.Goals as goal

pub returns : goal.returns
returns g c =
    let handle = c.handle-handle.result in
    record {
      handle = handle;
      is_open = c.handle-handle.ensures;
      tells = tells-told g.R.Rule.shows (of_both handle.way (Some handle.object) c.args.bits) c.args.self.now c.tell_both.new.self c.tell_both.ensures;
      handles = c.tell_both.ensures.handles;
      renames = c.tell_both.ensures.renames;
    }
