use Rattle.std.proofs.Common.{ℕ, List, drop, subst}
use Rattle.ov_embedded.specs.Calling.{IsCopied}
use Rattle.ov_embedded.proofs.Copies.{range_to_end}
use Rattle.ov_embedded.proofs.mounted.Mounted.piece.Goals as goal

pub returns : goal.returns
returns c =
    let copied : IsCopied (drop c.args.at c.args.self.now.saved.items)
    c.args.room.now c.copy_into-left.new.room c.copy_into-left.result =
    subst (λ (rest : List ℕ). IsCopied rest c.args.room.now c.copy_into-left.new.room
    c.copy_into-left.result)
    (range_to_end c.args.self.now.saved.items c.args.at)
    (rw c.as_slice.ensures.value at c.copy_into-left.ensures) in
    (c.copy_into-left.result, copied, c.min.ensures)
