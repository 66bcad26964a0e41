use Rattle.copy_up.proofs.altering.copy_marked.Goals as goal

pub returns-in-Some-clause-copied : goal.returns-in-Some-clause-copied
returns-in-Some-clause-copied c = rw c.in-Some.is c.place_meta.ensures.copied

pub returns-in-None-clause-copied : goal.returns-in-None-clause-copied
returns-in-None-clause-copied c = rw c.in-None.is c.all_at_once.ensures.copied
