use Rattle.std.proofs.Common.{ℕ, ◌≡◌, ◌≤◌, List, length, take, arith, ap, ◌∙◌}
use Rattle.file_bytes.specs.Bytes.{over}
use Rattle.file_bytes.proofs.Patches.{cut_laid}
use Rattle.file_bytes.proofs.patched.Patched.cut.Goals as goal

pub returns : goal.returns
returns c =
    let u : List ℕ = c.self.inside.under in
    let own : List ℕ = c.self.inside.own.items in
    let at : ℕ = c.self.inside.at in
    let m : ℕ = c.min-at.result in
    let k : ℕ = c.min-len.result in
    let count : ℕ = c.args.count in
    let within : at ≤ length u = c.self.invariant.0 in
    let view : over u at own ≡ c.args.self.now = c.self.view_is in
    ap (λ x. over x m c.truncate.new.self.items) c.cut.ensures
    ∙ ap (λ x. over (take k u) m x) c.truncate.ensures.items
    ∙ cut_laid u own at count m k within (omega (arith, c.requires, ap length view))
    (λ h. omega (arith, c.min-at.ensures)) (λ h. omega (arith, c.min-at.ensures))
    (λ h. omega (arith, c.min-len.ensures, c.len.ensures))
    (λ h. omega (arith, c.min-len.ensures, c.len.ensures))
    ∙ ap (take count) view
