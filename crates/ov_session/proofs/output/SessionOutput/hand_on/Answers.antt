use Rattle.std.proofs.Common.{List, ℕ, [], arith, subst, take}
use Rattle.std.specs.Io.KnownBytes.{Appends}
use Rattle.ov_session.proofs.Gaining.{gains_last, gains_written}
use Rattle.ov_session.proofs.output.SessionOutput.hand_on.Goals as goal

pub parts-preserved : goal.parts-preserved
parts-preserved g c =
    let contents = g.K.Sink.contents in
    let o = c.args.self.now in
    let m = c.parts.self in
    let sink = c.write.new.self in
    let rest = c.drop_front.new.bytes.items in
    let count = c.in-Ok.count in
    record {
      bytes = gains_last (contents o.sink) (contents m.sink)
          (contents sink) o.held.items m.held.items rest [] c.parts.invariant.bytes
          (gains_written (contents m.sink) (contents sink) m.held.items rest count
          (subst (λ (l : List ℕ). Appends (contents m.sink) (contents sink) (take count l))
          c.as_slice.ensures.value c.in-Ok.ensures.bytes)
          c.drop_front.ensures);
      well = omega (arith, c.in-Ok.ensures.failures, c.parts.invariant.well);
    }
