use Rattle.std.proofs.Common.{List, ℕ, take, drop, ◌++◌, sym, ap, ◌∙◌, append_assoc}
use Rattle.std.proofs.KnownBytes.{Appends-trans}
use Rattle.std.proofs.lemmas.List.{take-append-drop, take_rest}
use Rattle.ov_devices.proofs.sink.write_all.Goals as goal

pub parts-preserved : goal.parts-preserved
parts-preserved g c =
    let contents = g.K.Sink.contents in
    let rest = c.parts.rest.now in
    let count = c.in_ok-count.count in
    let so_far = c.parts.invariant.written in
    let front = take count rest in
    record {
      written = (
        so_far.0 ++ front,
        Appends-trans (contents c.args.sink.now) (contents c.parts.sink) (contents c.write.new.self)
            so_far.0 front so_far.1 c.in_ok-count.ensures.bytes,
        so_far.2 ∙ ap (λ (l : List ℕ). so_far.0 ++ l) (sym (take-append-drop count rest))
            ∙ sym (append_assoc so_far.0 front (drop count rest))
            ∙ ap (λ (l : List ℕ). (so_far.0 ++ front) ++ l) (sym (take_rest rest count)),
      );
      failures = c.in_ok-count.ensures.failures ∙ c.parts.invariant.failures;
    }
