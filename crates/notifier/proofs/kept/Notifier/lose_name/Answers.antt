use Rattle.notifier.proofs.Moved.{number-bare, number-there}
use Rattle.notifier.proofs.kept.Notifier.lose_name.Goals as goal

pub lose_number-requires-clause-bare : goal.lose_number-requires-clause-bare
lose_number-requires-clause-bare g c = λ n is. number-bare c.args.self.now.objects c.args.path.now c.args.object c.number_of-number.result n c.requires is c.number_of-number.ensures

pub lose_number-requires-clause-there : goal.lose_number-requires-clause-there
lose_number-requires-clause-there g c = λ n is. number-there c.args.self.now.objects c.args.path.now c.args.object c.number_of-number.result n is c.number_of-number.ensures
