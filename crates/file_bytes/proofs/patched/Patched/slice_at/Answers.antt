use Rattle.std.proofs.Common.{ℕ, ◌≡◌, ◌-◌, ◌≤◌, List, length, take, drop, arith, sym, subst}
use Rattle.file_bytes.proofs.Patches.{slice_before, slice_laid, slice_behind}
use Rattle.file_bytes.proofs.patched.Patched.slice_at.Goals as goal

pub returns-then-place-self-clause-bytes : goal.returns-then-place-self-clause-bytes
returns-then-place-self-clause-bytes c =
    let u : List ℕ = c.self.inside.under in
    let at : ℕ = c.self.inside.at in
    let n : ℕ = c.args.place in
    let part : List ℕ → List ℕ = λ x. take (at - n) (drop n x) in
    subst (λ (x : List ℕ). part x ≡ take (length (part x)) (drop n c.args.self.now))
    (sym c.as_slice.ensures)
    (slice_before u c.self.inside.own.items c.args.self.now at n c.self.invariant.0
    c.if-place-self.true c.self.view_is)

pub returns-then-place-self-2-clause-bytes : goal.returns-then-place-self-2-clause-bytes
returns-then-place-self-2-clause-bytes c =
    let at : ℕ = c.self.inside.at in
    let n : ℕ = c.args.place in
    let from : ℕ = n - at in
    let part : List ℕ → List ℕ = λ x. take (length x - from) (drop from x) in
    subst (λ (x : List ℕ). part x ≡ take (length (part x)) (drop n c.args.self.now))
    (sym c.as_slice-then-place-self-2.ensures.value)
    (slice_laid c.self.inside.under c.self.inside.own.items c.args.self.now at n from
    c.self.invariant.0 (omega arith) (omega (arith, c.len.ensures)) c.self.view_is)

pub returns-clause-bytes : goal.returns-clause-bytes
returns-clause-bytes c =
    let n : ℕ = c.args.place in
    let part : List ℕ → List ℕ = λ x. take (length x - n) (drop n x) in
    subst (λ (x : List ℕ). part x ≡ take (length (part x)) (drop n c.args.self.now))
    (sym c.as_slice-2.ensures)
    (slice_behind c.self.inside.under c.self.inside.own.items c.args.self.now c.self.inside.at n
    c.self.invariant.0 (omega (arith, c.len.ensures)) c.self.view_is)
