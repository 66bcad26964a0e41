use Rattle.ov_session.proofs.Gaining.{sent_badly}
use Rattle.ov_session.proofs.session.send_farewell.Goals as goal

pub returns-in-Err-flush-clause-sent : goal.returns-in-Err-flush-clause-sent
returns-in-Err-flush-clause-sent g c =
    let contents = g.K.Sink.contents in
    let failures = g.K.Sink.failures in
    sent_badly (contents c.args.output.now.sink) (contents c.put.new.self.sink)
    (contents c.flush.new.self.sink) c.args.output.now.held.items c.put.new.self.held.items
    c.flush.new.self.held.items c.args.farewell.now c.in-Err-flush.end
    (rw c.lent.ensures at c.in_default.ensures.put) c.in-Err-flush.ensures.bytes c.in-Err-flush.ensures.end
