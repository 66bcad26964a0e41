use Rattle.std.proofs.Common.{IsSome, sym, subst}
use Rattle.object_table.specs.Dentries.{Dentries, ROOT}
use Rattle.object_table.specs.Opened.{holders, SameHandles}
use Rattle.object_table.proofs.Handles.{opened-held}
use Rattle.object_table.proofs.Apart.{closes}
use Rattle.object_table.proofs.tree.ObjectTree.close.Goals as goal

pub let_go-requires-clause-few : goal.let_go-requires-clause-few
unfolding holders
let_go-requires-clause-few c =
    let same = subst (λ (t : Dentries). SameHandles t c.prune.new.entries) c.self.view_is
    c.prune.ensures.same in
    opened-held c.prune.new.entries ROOT c.prune.ensures.tree c.args.directory
    (subst IsSome (sym (same.located c.args.directory)) c.requires)

pub returns : goal.returns
returns c =
    let same = subst (λ (t : Dentries). SameHandles t c.prune.new.entries) c.self.view_is
    c.prune.ensures.same in
    closes c.args.self.now c.prune.new.entries c.let_go.new.entries c.args.directory same
    c.prune.ensures.tree (subst IsSome (sym (same.located c.args.directory)) c.requires)
    c.let_go.ensures.lets
