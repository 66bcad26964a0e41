use Rattle.std.proofs.Common.{◌+◌, List, length, drop, sym, subst, ◌∙◌, refl, arith, length-drop, length-take, ◌-◌}
use Rattle.ov_frames.specs.Streams.{Held, Faulty}
use Rattle.ov_frames.proofs.Pieces.{Opens, opens_none, opens_more, opens_all, front_to_end, whole_within}
use Rattle.ov_frames.specs.declared.request.Request.{Request}
use Rattle.ov_frames.proofs.feeding.take_apart.Goals as goal

pub frames-init : goal.frames-init
frames-init c =
    record { within = omega arith; opens = opens_none c.args.requests.now.items c.args.bytes.now }

pub frames-preserved : goal.frames-preserved
frames-preserved c =
    let bytes = c.args.bytes.now in
    let before = c.args.requests.now.items in
    let used = c.frames.used in
    let len = c.in-Whole.len in
    let whole =
    front_to_end bytes used c.in_ok-request.field-0 c.in_ok-request.ensures.front
    ∙ c.in-Whole.is in
    let goes =
    whole_within _ c.in_ok-request.field-0 c.in-Whole.request len c.in_ok-request.ensures.within
    c.in-Whole.is in
    record {
      within = omega (
        arith,
        goes.1,
        length-take (length bytes - used) (drop used bytes),
        length-drop used bytes,
        c.frames.invariant.within,
      );
      opens = subst (λ (rs : List Request). Opens before bytes (used + len) rs)
          (sym c.in_ok-push-in-Whole.ensures.items)
          (opens_more before bytes used len c.frames.requests.items c.in-Whole.request
          c.frames.invariant.opens whole);
    }

pub returns-in-Begun : goal.returns-in-Begun
returns-in-Begun c =
    let bytes = c.args.bytes.now in
    let used = c.frames.used in
    let front = front_to_end bytes used c.in_ok-request.field-0 c.in_ok-request.ensures.front in
    record {
      adds = opens_all c.args.requests.now.items bytes used c.frames.requests.items
          (Held (drop used bytes)) c.frames.invariant.opens (front ∙ c.in-Begun.is, refl);
      within = c.frames.invariant.within;
    }

pub returns-in-Bad : goal.returns-in-Bad
returns-in-Bad c =
    let bytes = c.args.bytes.now in
    let used = c.frames.used in
    let front = front_to_end bytes used c.in_ok-request.field-0 c.in_ok-request.ensures.front in
    record {
      adds = opens_all c.args.requests.now.items bytes used c.frames.requests.items
          (Faulty c.in-Bad.fault) c.frames.invariant.opens (front ∙ c.in-Bad.is);
      within = c.frames.invariant.within;
    }
