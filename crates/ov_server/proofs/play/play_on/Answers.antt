use Rattle.ov_server.proofs.Histories.{begun, order_begun}
use Rattle.ov_server.proofs.play.play_on.Goals as goal

pub invariant_of-script : goal.invariant_of-script
invariant_of-script g c = record { order = order_begun c.new.result c.new.ensures.none c.args.core c.new.ensures.core c.requires.places }

pub play-outcome-requires-clause-begins : goal.play-outcome-requires-clause-begins
play-outcome-requires-clause-begins g c = begun c.new.result c.new.ensures.none c.args.core c.new.ensures.core c.requires.begins
