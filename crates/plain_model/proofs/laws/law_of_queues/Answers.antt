use Rattle.plain_model.proofs.Values.{put-IsQueue}
use Rattle.plain_model.proofs.laws.law_of_queues.Goals as goal

pub returns : goal.returns
returns c = put-IsQueue
