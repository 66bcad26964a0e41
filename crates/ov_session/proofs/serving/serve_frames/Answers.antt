use Rattle.std.proofs.Common.{◌≡◌, ◌-◌, length, drop, arith, length-drop, length-take, refl, ◌∙◌}
use Rattle.ov_frames.specs.Streams.{front_of}
use Rattle.ov_frames.specs.declared.front.Front.TheVariants.{Begun, Whole, Bad}
use Rattle.ov_frames.proofs.Pieces.{front_to_end, whole_within}
use Rattle.ov_session.specs.Talks.{place}
use Rattle.ov_session.proofs.Talking.{Doorway, counted_at}
use Rattle.ov_session.proofs.Turning.{served_none, served_more, turn_begun, turn_bad, turn_broken, turn_memory}
use Rattle.ov_session.proofs.serving.serve_frames.Goals as goal

pub frames-init : goal.frames-init
frames-init g c =
    let contents = g.K.Sink.contents in
    let failures = g.K.Sink.failures in
    let told = g.D.Door.told in
    let laws : Doorway g.D.Door.goes = record {
      stays = g.met.D.Door.stays;
      joins = g.met.D.Door.joins;
    } in
    let o = place contents failures told c.args.output.now c.args.session.now c.args.door.now in
    record {
      within = omega arith;
      served = served_none g.D.Door.goes c.args.bytes.now o laws;
      well = refl;
      admitted = c.requires.admitted;
    }

pub returns-in-Err : goal.returns-in-Err
returns-in-Err g c =
    let contents = g.K.Sink.contents in
    let failures = g.K.Sink.failures in
    let told = g.D.Door.told in
    let loop = c.frames in
    let bytes = c.args.bytes.now in
    let o = place contents failures told c.args.output.now c.args.session.now c.args.door.now in
    let n = place contents failures told loop.output loop.session loop.door in
    record {
      turn =
          turn_memory g.D.Door.goes bytes loop.used o n loop.invariant.served;
      output = loop.invariant.well;
      admitted = loop.invariant.admitted;
    }

pub returns-in-Err-serve_one : goal.returns-in-Err-serve_one
returns-in-Err-serve_one g c =
    let contents = g.K.Sink.contents in
    let failures = g.K.Sink.failures in
    let told = g.D.Door.told in
    let laws : Doorway g.D.Door.goes = record {
      stays = g.met.D.Door.stays;
      joins = g.met.D.Door.joins;
    } in
    let loop = c.frames in
    let next = c.serve_one.new in
    let bytes = c.args.bytes.now in
    let o = place contents failures told c.args.output.now c.args.session.now c.args.door.now in
    let m = place contents failures told loop.output loop.session loop.door in
    let n = place contents failures told next.output next.session next.door in
    let h = c.in-Err-serve_one.ensures in
    let whole : front_of (drop loop.used bytes) ≡ Whole c.in-Whole.request c.in-Whole.len
    = front_to_end bytes loop.used c.in-Ok.front c.in-Ok.ensures.front ∙ c.in-Whole.is in
    record {
      turn =
          turn_broken g.D.Door.goes bytes loop.used c.in-Whole.len o m n
          c.in-Whole.request c.in-Err-serve_one.end laws loop.invariant.served whole h.served;
      output =
          counted_at o.failures m.failures n.failures c.in-Err-serve_one.end loop.invariant.well
          h.output;
      admitted = h.admitted;
    }

pub frames-preserved : goal.frames-preserved
frames-preserved g c =
    let contents = g.K.Sink.contents in
    let failures = g.K.Sink.failures in
    let told = g.D.Door.told in
    let laws : Doorway g.D.Door.goes = record {
      stays = g.met.D.Door.stays;
      joins = g.met.D.Door.joins;
    } in
    let loop = c.frames in
    let next = c.serve_one.new in
    let bytes = c.args.bytes.now in
    let used = loop.used in
    let len = c.in-Whole.len in
    let o = place contents failures told c.args.output.now c.args.session.now c.args.door.now in
    let m = place contents failures told loop.output loop.session loop.door in
    let n = place contents failures told next.output next.session next.door in
    let h = c.in_default.ensures in
    let whole : front_of (drop used bytes) ≡ Whole c.in-Whole.request len
    = front_to_end bytes used c.in-Ok.front c.in-Ok.ensures.front ∙ c.in-Whole.is in
    let goes =
    whole_within _ c.in-Ok.front c.in-Whole.request len c.in-Ok.ensures.within c.in-Whole.is in
    record {
      within = omega (
        arith,
        goes.1,
        length-take (length bytes - used) (drop used bytes),
        length-drop used bytes,
        loop.invariant.within,
      );
      served =
          served_more g.D.Door.goes bytes used len o m n c.in-Whole.request laws
          loop.invariant.served whole h.served;
      well = h.output ∙ loop.invariant.well;
      admitted = h.admitted;
    }

pub returns-in-Begun : goal.returns-in-Begun
returns-in-Begun g c =
    let contents = g.K.Sink.contents in
    let failures = g.K.Sink.failures in
    let told = g.D.Door.told in
    let loop = c.frames in
    let bytes = c.args.bytes.now in
    let o = place contents failures told c.args.output.now c.args.session.now c.args.door.now in
    let n = place contents failures told loop.output loop.session loop.door in
    let begun : front_of (drop loop.used bytes) ≡ Begun
    = front_to_end bytes loop.used c.in-Ok.front c.in-Ok.ensures.front ∙ c.in-Begun.is in
    record {
      turn =
          turn_begun g.D.Door.goes bytes loop.used o n loop.invariant.served
          loop.invariant.within begun;
      output = loop.invariant.well;
      admitted = loop.invariant.admitted;
    }

pub returns-in-Bad : goal.returns-in-Bad
returns-in-Bad g c =
    let contents = g.K.Sink.contents in
    let failures = g.K.Sink.failures in
    let told = g.D.Door.told in
    let loop = c.frames in
    let bytes = c.args.bytes.now in
    let o = place contents failures told c.args.output.now c.args.session.now c.args.door.now in
    let n = place contents failures told loop.output loop.session loop.door in
    let bad : front_of (drop loop.used bytes) ≡ Bad c.in-Bad.fault
    = front_to_end bytes loop.used c.in-Ok.front c.in-Ok.ensures.front ∙ c.in-Bad.is in
    record {
      turn =
          turn_bad g.D.Door.goes bytes loop.used o n c.in-Bad.fault
          loop.invariant.served bad;
      output = loop.invariant.well;
      admitted = loop.invariant.admitted;
    }
