use Rattle.notifier.proofs.kept.Notifier.lose_number.Goals as goal

pub lose-requires-clause-there : goal.lose-requires-clause-there
lose-requires-clause-there g c = c.requires.there c.in-Some.lost c.in-Some.is

pub lose-requires-clause-bare : goal.lose-requires-clause-bare
lose-requires-clause-bare g c = c.requires.bare c.in-Some.lost c.in-Some.is
