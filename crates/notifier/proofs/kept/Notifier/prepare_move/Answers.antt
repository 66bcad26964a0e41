use Rattle.std.proofs.Common.{ap, subst, sym, ◌*◌, ◌<◌, ◌^◌, length}
use Rattle.open_handles.specs.TrackedHandles.{clients_of}
use Rattle.notice_laws.specs.Notified.{Notified}
use Rattle.notifier.proofs.GivenUp.{given-up}
use Rattle.notifier.proofs.kept.Notifier.prepare_move.Goals as goal

pub reserve_move-requires-clause-clients : goal.reserve_move-requires-clause-clients
reserve_move-requires-clause-clients g c =
    subst (λ ks. 64 * length (clients_of ks) < 2 ^ 64) (sym (ap (λ (k : Notified). k.handles) c.cancel_move.ensures.rest)) c.requires.clients

pub returns-in-Ok-clause-held : goal.returns-in-Ok-clause-held
returns-in-Ok-clause-held g c = record {
  mid = c.cancel_move.new.self;
  dropped = record { fewer = c.cancel_move.ensures.fewer; rest = c.cancel_move.ensures.rest };
  known = c.lawful.ensures.known;
  counted = c.lawful.ensures.counts;
  held = c.lawful.ensures.held;
  holds = c.reserve_move.ensures.held;
  rest = c.reserve_move.ensures.rest;
}

pub returns-in-Err-clause-err : goal.returns-in-Err-clause-err
returns-in-Err-clause-err g c =
    let old : Notified = c.args.self.now in
    let ready : Notified = c.reserve_move.new.self in
    let new : Notified = c.cancel_move-in-Err.new.self in
    given-up old ready new c.args.new.now
    (record {
      mid = c.cancel_move.new.self;
      dropped = record { fewer = c.cancel_move.ensures.fewer; rest = c.cancel_move.ensures.rest };
      known = c.lawful.ensures.known;
      counted = c.lawful.ensures.counts;
      held = c.lawful.ensures.held;
      holds = c.reserve_move.ensures.held;
      rest = c.reserve_move.ensures.rest;
    })
    (record {
      fewer = c.cancel_move-in-Err.ensures.fewer;
      rest = c.cancel_move-in-Err.ensures.rest;
    })
    c.lawful-in-Err.ensures.counts c.lawful-in-Err.ensures.held
