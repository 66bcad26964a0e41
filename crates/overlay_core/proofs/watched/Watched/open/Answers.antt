use Rattle.overlay_core.proofs.Making.{performs-lost}
use Rattle.overlay_core.proofs.watched.Watched.«open».Goals as goal

pub object_seen-object-requires : goal.object_seen-object-requires
object_seen-object-requires g c = (c.args.path.now, c.requires.look)

pub open_there-requires-clause-stands : goal.open_there-requires-clause-stands
open_there-requires-clause-stands g c = c.object_seen-object.ensures c.args.path.now c.requires.look

pub open_new-requires-clause-nothing : goal.open_new-requires-clause-nothing
open_new-requires-clause-nothing g c = c.in-Other.ensures c.args.path.now c.requires.look

pub returns-in_default : goal.returns-in_default
returns-in_default g c = record {
  goes = c.in_ok-open_there.ensures.goes;
  refused = λ e is. cc;
  marks = λ is. tt;
  no_memory = tt;
  kept = c.open_there.ensures.kept;
}

pub returns-in_err-open_there : goal.returns-in_err-open_there
returns-in_err-open_there g c =
    performs-lost c.from_residual.result c.from_residual.ensures.0 c.in_err-open_there.ensures.err
    c.open_there.ensures.kept

pub returns-in_err-open_new : goal.returns-in_err-open_new
returns-in_err-open_new g c =
    performs-lost c.from_residual-in_err-open_new.result c.from_residual-in_err-open_new.ensures.0
    c.in_err-open_new.ensures.err c.open_new.ensures.kept

pub returns : goal.returns
returns g c = record {
  goes = c.in_ok-open_new.ensures.goes;
  refused = λ e is. cc;
  marks = λ is. tt;
  no_memory = tt;
  kept = c.open_new.ensures.kept;
}
