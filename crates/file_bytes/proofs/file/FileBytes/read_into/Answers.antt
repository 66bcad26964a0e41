use Rattle.std.proofs.Common.{ℕ, ◌≡◌, ◌≤◌, List, ◌++◌, take, drop, length-drop}
use Rattle.std.proofs.Common.{ap, ◌∙◌, refl, arith}
use Rattle.file_bytes.specs.Bytes.{over}
use Rattle.file_bytes.proofs.Lists.{copy_more}
use Rattle.file_bytes.proofs.file.FileBytes.read_into.Goals as goal

pub loop-done-preserved : goal.loop-done-preserved
loop-done-preserved c =
    let slice : List ℕ = c.slice_at-slice.result.now in
    let part : List ℕ = take c.min-size.result slice in
    let held :
    (c.loop-done.done ≤ c.min-count.result) × (c.loop-done.to
    ≡ take c.loop-done.done (drop c.args.at c.args.self.now) ++ drop c.loop-done.done c.args.to.now)
    = c.loop-done.invariant in
    let most : c.loop-done.done ≤ c.min-count.result = held.0 in (
      omega arith,
      copy_more c.args.self.now c.args.to.now c.copy_in.new.all part slice c.args.at c.loop-done.done
          c.min-size.result c.slice_at-slice.ensures.bytes refl (omega arith)
          (omega (arith, length-drop c.args.at c.args.self.now))
          (c.copy_in.ensures ∙ ap (λ x. over x c.loop-done.done part) held.1),
    )
