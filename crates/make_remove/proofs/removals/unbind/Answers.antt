use Rattle.make_remove.proofs.removals.unbind.Goals as goal

pub returns-then-covered-clause-keeps : goal.returns-then-covered-clause-keeps
returns-then-covered-clause-keeps c = rw c.in_ok-clone.ensures.cases at c.insert_whiteout.ensures.keeps
