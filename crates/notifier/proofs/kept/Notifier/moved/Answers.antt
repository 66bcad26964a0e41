use Rattle.std.proofs.Common.{◌≡◌, Some, suc, ap, sym, subst, subst₂, ◌∙◌}
use Rattle.ov_base.specs.Cookies.{cookie_of}
use Rattle.object_table.specs.Objects.{spot_of}
use Rattle.open_handles.specs.TrackedHandles.{TrackedTables, clients_of}
use Rattle.notice_laws.specs.Notified.{Notified}
use Rattle.notice_laws.specs.Moves.{Moves, ReWays, of_move}
use Rattle.notice_laws.specs.Telling.{IsEnd}
use Rattle.notifier.specs.Moving.{IsPin, led_by}
use Rattle.notifier.proofs.Leading.{pin-for}
use Rattle.notifier.proofs.Told.{moved-told, tells-after}
use Rattle.notifier.proofs.kept.Notifier.moved.Goals as goal

pub lead_ways-requires : goal.lead_ways-requires
lead_ways-requires g c =
    let old = c.args.self.now in
    let number = c.number_of.result in
    let from = c.way_to.result in
    let to = c.way_to-2.result in
    subst (λ (k : Notified). IsPin to (led_by k.handles number from) k.pinned) (sym c.move_numbers.ensures.rest)
    (pin-for old c.args.old.now c.args.new.now c.args.object c.lawful.ensures.one_there c.requires.ready.pinned number from to
    c.number_of.ensures c.way_to.ensures c.way_to-2.ensures)

pub returns : goal.returns
returns g c =
    let shows = g.R.Rule.shows in
    let old : Notified = c.args.self.now in
    let led : Notified = c.lead_ways.new.self in
    let mid : Notified = c.count_rename-cookie.new.self in
    let new : Notified = c.tell_end.new.self in
    let p = c.args.old.now in
    let q = c.args.new.now in
    let number = c.number_of.result in
    let from = c.way_to.result in
    let to = c.way_to-2.result in
    let replaced = c.number_of-2.result in
    let ended = c.end_of-ended.result in
    let moved = c.move_numbers.ensures.rest in
    let counted = c.count_rename-cookie.ensures.rest in
    let renamed = c.lead_ways.ensures.renames ∙ ap (λ (k : Notified). k.renames) moved in
    let told =
    moved-told shows from to c.args.object c.args.replaced c.marks.result c.marks-2.result c.count_rename-cookie.result old.renames number
    replaced ended mid c.tell_move.new.self c.tell_move-2.new.self c.tell_replaced.new.self c.tell_number.new.self new c.marks.ensures
    c.marks-2.ensures (c.count_rename-cookie.ensures.cookie ∙ ap (λ n. cookie_of (suc n)) renamed) c.tell_move.ensures
    c.tell_move-2.ensures c.tell_replaced.ensures c.tell_number.ensures c.tell_end.ensures in
    let handled = told.handles ∙ ap (λ (k : Notified). k.handles) counted in
    record {
      number = number;
      found = c.number_of.ensures;
      replaced = replaced;
      present = c.number_of-2.ensures;
      ended = ended;
      ends = subst (λ b. IsEnd old.handles b replaced ended) c.is_last_name-is_last.ensures c.end_of-ended.ensures;
      from = from;
      left = c.way_to.ensures;
      to = to;
      entered = c.way_to-2.ensures;
      tells = tells-after shows (of_move from to c.args.object c.args.replaced (cookie_of (suc old.renames)) number replaced ended)
          (Moves p q c.args.object c.args.replaced c.args.key) old mid new
          (ap (λ (k : Notified). k.instances) counted ∙ c.lead_ways.ensures.instances ∙ ap (λ (k : Notified). k.instances) moved)
          (λ n spot is. c.move_numbers.ensures.moves n spot (c.lead_ways.ensures.fewer n spot
          (subst (λ (k : Notified). spot_of k.objects n ≡ Some spot) counted is))) told;
      ways = subst₂ (λ (a b : TrackedTables). ReWays a b number from to) (ap (λ (k : Notified). k.handles) moved) (sym handled)
          c.lead_ways.ensures.ways;
      clients = ap clients_of handled ∙ c.lead_ways.ensures.clients ∙ ap (λ (k : Notified). clients_of k.handles) moved;
      renames = told.renames ∙ ap (λ (k : Notified). k.renames) counted ∙ ap suc renamed;
    }
