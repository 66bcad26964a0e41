use Rattle.std.proofs.Common.{ℕ, ◌≡◌, ◌-◌, ◌≤◌, List, length, arith, sym, ap, ◌∙◌}
use Rattle.file_bytes.specs.Bytes.{over}
use Rattle.file_bytes.proofs.Patches.{laid_again}
use Rattle.file_bytes.proofs.patched.Patched.lay_over.Goals as goal

pub returns-clause-ok : goal.returns-clause-ok
returns-clause-ok c =
    let u : List ℕ = c.self.inside.under in
    let own : List ℕ = c.self.inside.own.items in
    let at : ℕ = c.self.inside.at in
    let n : ℕ = c.args.start in
    let new : List ℕ = c.args.bytes.now in
    let within : at ≤ length u = c.self.invariant.0 in
    let view : over u at own ≡ c.args.self.now = c.self.view_is in
    ap (over u at) c.in_ok-lay_in.ensures
    ∙ sym (laid_again u own new at n (n - at) within (omega arith) (omega (arith, c.len.ensures)))
    ∙ ap (λ x. over x n new) view
