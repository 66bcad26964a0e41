use Rattle.ov_frames.proofs.Replied.{reply_found_front}
use Rattle.ov_frames.proofs.laws.law_of_replies.Goals as goal

pub returns-clause-spelled : goal.returns-clause-spelled
returns-clause-spelled c request answer bytes rest fits e =
    reply_found_front request answer bytes rest fits e
