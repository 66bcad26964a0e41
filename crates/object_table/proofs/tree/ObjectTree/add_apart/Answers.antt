use Rattle.std.proofs.Common.{subst}
use Rattle.object_table.specs.Dentries.{Dentries}
use Rattle.object_table.specs.Opened.{SameHandles}
use Rattle.object_table.proofs.Moving.{tree-any}
use Rattle.object_table.proofs.Apart.{alone-tree, alone-adds, alone-err}
use Rattle.object_table.proofs.tree.ObjectTree.add_apart.Goals as goal

pub invariant_of-self : goal.invariant_of-self
invariant_of-self c =
    tree-any c.add_apart.new.entries c.self.inside.pending
    (alone-tree c.prune.new.entries c.add_apart.new.entries c.args.to c.add_apart.result
    c.prune.ensures.tree c.add_apart.ensures.adds c.add_apart.ensures.err)

pub returns-clause-adds : goal.returns-clause-adds
returns-clause-adds c =
    let same = subst (λ (t : Dentries). SameHandles t c.prune.new.entries) c.self.view_is
    c.prune.ensures.same in
    alone-adds c.args.self.now c.prune.new.entries c.add_apart.new.entries c.args.to
    c.add_apart.result same c.prune.ensures.tree c.add_apart.ensures.adds

pub returns-clause-err : goal.returns-clause-err
returns-clause-err c =
    let same = subst (λ (t : Dentries). SameHandles t c.prune.new.entries) c.self.view_is
    c.prune.ensures.same in
    alone-err c.args.self.now c.prune.new.entries c.add_apart.new.entries c.add_apart.result same
    c.prune.ensures.tree c.add_apart.ensures.err
