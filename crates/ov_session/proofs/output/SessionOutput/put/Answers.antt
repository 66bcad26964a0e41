use Rattle.std.proofs.Common.{[], sym, ◌∙◌, append-nil}
use Rattle.ov_frames.specs.Lending.{answer_of}
use Rattle.ov_frames.specs.Replies.{answer_frame}
use Rattle.ov_session.proofs.Gaining.{front_of_none, gains_held, put_handed}
use Rattle.ov_session.proofs.output.SessionOutput.put.Goals as goal

pub returns-in-Err-clause-put : goal.returns-in-Err-clause-put
returns-in-Err-clause-put g c =
    let writer = g.K.Sink.contents c.args.self.now.sink in
    let held = c.args.self.now.held.items in (
      [],
      front_of_none (answer_frame (answer_of c.args.answer)),
      gains_held writer held c.append_reply.new.out.items []
          (c.in-Err.ensures.err ∙ sym (append-nil held)),
    )

pub returns-else-len-lt-HELD_MOST-clause-put : goal.returns-else-len-lt-HELD_MOST-clause-put
returns-else-len-lt-HELD_MOST-clause-put g c =
    put_handed (g.K.Sink.contents c.args.self.now.sink)
    (g.K.Sink.contents c.hand_on.new.self.sink) c.args.self.now.held.items
    c.append_reply.new.out.items c.hand_on.new.self.held.items
    (answer_of c.args.answer) c.hand_on.result
    c.in_default.ensures.ok c.hand_on.ensures.bytes c.hand_on.ensures.end
