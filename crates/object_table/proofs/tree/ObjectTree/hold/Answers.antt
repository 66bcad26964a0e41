use Rattle.std.proofs.Common.{ℕ, ◌+◌, ◌≤◌, IsSome, sym, subst}
use Rattle.std.specs.Prelude.{OnOk, IsOk}
use Rattle.object_table.specs.Dentries.{Dentries, HOLDERS_MAX}
use Rattle.object_table.specs.Opened.{holders, SameHandles}
use Rattle.object_table.proofs.Moving.{tree-any}
use Rattle.object_table.proofs.Apart.{counted-more, holds-more, kept-held, opened-entry}
use Rattle.object_table.proofs.tree.ObjectTree.hold.Goals as goal

pub hold_more-requires : goal.hold_more-requires
hold_more-requires c =
    let same = subst (λ (t : Dentries). SameHandles t c.prune.new.entries) c.self.view_is
    c.prune.ensures.same in
    opened-entry c.prune.new.entries c.args.number
    (subst IsSome (sym (same.located c.args.number)) c.requires)

pub invariant_of-self : goal.invariant_of-self
invariant_of-self c =
    let same = subst (λ (t : Dentries). SameHandles t c.prune.new.entries) c.self.view_is
    c.prune.ensures.same in
    let is_open = subst IsSome (sym (same.located c.args.number)) c.requires in
    tree-any c.hold_more.new.entries c.self.inside.pending
    (counted-more c.prune.new.entries c.hold_more.new.entries c.args.number c.args.count
    c.hold_more.result c.prune.ensures.tree is_open c.hold_more.ensures.ok
    c.hold_more.ensures.err)

pub returns-clause-ok : goal.returns-clause-ok
returns-clause-ok c =
    let same = subst (λ (t : Dentries). SameHandles t c.prune.new.entries) c.self.view_is
    c.prune.ensures.same in
    let is_open = subst IsSome (sym (same.located c.args.number)) c.requires in
    holds-more c.args.self.now c.prune.new.entries c.hold_more.new.entries c.args.number
    c.args.count c.hold_more.result same c.prune.ensures.tree is_open c.hold_more.ensures.ok

pub returns-clause-countable : goal.returns-clause-countable
unfolding holders
returns-clause-countable c =
    let same = subst (λ (t : Dentries). SameHandles t c.prune.new.entries) c.self.view_is
    c.prune.ensures.same in
    subst (λ (n : ℕ). OnOk c.hold_more.result (n + c.args.count ≤ HOLDERS_MAX))
    (same.counted c.args.number) c.hold_more.ensures.countable

pub returns-clause-err : goal.returns-clause-err
returns-clause-err c =
    let same = subst (λ (t : Dentries). SameHandles t c.prune.new.entries) c.self.view_is
    c.prune.ensures.same in
    kept-held c.args.self.now c.prune.new.entries c.hold_more.new.entries c.hold_more.result same
    c.prune.ensures.tree c.hold_more.ensures.err

pub returns-clause-succeeds : goal.returns-clause-succeeds
unfolding holders
returns-clause-succeeds c =
    let same = subst (λ (t : Dentries). SameHandles t c.prune.new.entries) c.self.view_is
    c.prune.ensures.same in
    subst (λ (n : ℕ). n + c.args.count ≤ HOLDERS_MAX → IsOk c.hold_more.result)
    (same.counted c.args.number) c.hold_more.ensures.succeeds
