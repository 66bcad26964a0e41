use Rattle.std.proofs.Common.{◌++◌, None, Some, subst, sym, ◌∙◌}
use Rattle.open_handles.specs.TrackedHandles.{TrackedTables, SetsTracked}
use Rattle.notice_laws.specs.Steps.{IsClosedEnd}
use Rattle.notice_laws.specs.Telling.{of_both, of_end}
use Rattle.notifier.proofs.Told.{closed-end, told-append, tells-fewer}
use Rattle.notifier.proofs.kept.Notifier.closed.Goals as goal

pub returns : goal.returns
returns g c =
    let shows = g.R.Rule.shows in
    let old = c.args.self.now in
    let handle = c.handle-handle.result in
    let shut = c.shut.new.self in
    let new = c.tell_end.new.self in
    let both = of_both handle.way (Some handle.object) c.args.bits in
    let ended = c.end_of-ended.result in
    let told = told-append shows both (of_end ended) shut c.tell_both.new.self new c.tell_both.ensures c.tell_end.ensures in
    let ends = closed-end old shut.handles handle.object c.is_lost-is_lost.result ended c.is_lost-is_lost.ensures c.end_of-ended.ensures in
    record {
      handle = handle;
      is_open = c.handle-handle.ensures;
      ended = ended;
      ends = subst (λ (ks : TrackedTables). IsClosedEnd old ks handle.object ended) (sym told.handles) ends;
      tells = tells-fewer shows (both ++ of_end ended) old shut new c.shut.ensures.instances c.shut.ensures.fewer told;
      sets = subst (λ (ks : TrackedTables). SetsTracked old.handles ks c.args.client c.args.descriptor None) (sym told.handles) c.shut.ensures.sets;
      renames = told.renames ∙ c.shut.ensures.renames;
    }
