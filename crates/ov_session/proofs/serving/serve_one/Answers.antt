use Rattle.std.proofs.Common.{◌≡◌, [], ◌∷◌, Option, Some, Result, Ok, Err, refl, sym, ap, subst, ◌∙◌, append-nil, inl}
use Rattle.ov_base.specs.Calls.{Call}
use Rattle.ov_base.specs.declared.errno.Errno.{Errno}
use Rattle.ov_frames.specs.Asked.{asked_of}
use Rattle.ov_frames.specs.Lending.{answer_of}
use Rattle.ov_frames.specs.declared.answer.Answer.{Answer}
use Rattle.ov_frames.specs.declared.answer.Answer.TheVariants.{NotTaken}
use Rattle.ov_session.specs.Serving.{Answers}
use Rattle.ov_session.specs.Talks.{place}
use Rattle.ov_session.specs.declared.ending.Ending.TheVariants as ending
use Rattle.ov_session.specs.declared.exchange.Exchange.TheVariants.{Called, HeldBack}
use Rattle.ov_session.proofs.Talking.{one_unasked, one_put}
use Rattle.ov_session.proofs.serving.serve_one.Goals as goal

pub returns-in-Err : goal.returns-in-Err
returns-in-Err g c =
    let told = g.D.Door.told in
    let o = place g.K.Sink.contents g.K.Sink.failures told c.args.output.now c.args.session.now c.args.door.now in
    record {
      served =
          one_unasked g.D.Door.goes o o c.args.request [] ending.Memory refl refl
          (sym (append-nil o.told)) (g.met.D.Door.stays c.args.door.now) (inl refl, ([], refl));
      output = refl;
      admitted = c.requires.admitted;
    }

pub returns-in-Ok-None : goal.returns-in-Ok-None
returns-in-Ok-None g c =
    let told = g.D.Door.told in
    let o = place g.K.Sink.contents g.K.Sink.failures told c.args.output.now c.args.session.now c.args.door.now in
    let leaves = sym c.in-Ok-None.ensures ∙ c.in-Ok-None.field-0-is in
    record {
      served =
          one_unasked g.D.Door.goes o o c.args.request [] ending.Detached refl refl
          (sym (append-nil o.told)) (g.met.D.Door.stays c.args.door.now)
          (refl, refl, (c.args.request, [], refl, leaves));
      output = refl;
      admitted = c.requires.admitted;
    }

pub returns-in-Ok-Some-Err : goal.returns-in-Ok-Some-Err
returns-in-Ok-Some-Err g c =
    let contents = g.K.Sink.contents in
    let failures = g.K.Sink.failures in
    let told = g.D.Door.told in
    let o = place contents failures told c.args.output.now c.args.session.now c.args.door.now in
    let n = place contents failures told c.put.new.self c.args.session.now c.args.door.now in
    let refused = NotTaken c.in-Ok-Some-Err.errno in
    let asked : asked_of c.args.request ≡ Some (Err c.in-Ok-Some-Err.errno)
    = cc (
      c.in-Ok-Some-Err.ensures,
      c.in-Ok-Some-Err.field-0-is,
      c.in-Ok-Some-Err.field-0-0-is,
    ) in
    record {
      served =
          one_put g.D.Door.goes o n [] c.args.request refused c.put.result
          (sym (append-nil o.told)) (g.met.D.Door.stays c.args.door.now)
          (subst (λ (x : Option (Result Call Errno)). Answers x [] refused) (sym asked)
          (refl, refl))
          c.put.ensures.put;
      output = c.put.ensures.failures;
      admitted = c.requires.admitted;
    }

pub returns-in-Answered : goal.returns-in-Answered
returns-in-Answered g c =
    let contents = g.K.Sink.contents in
    let failures = g.K.Sink.failures in
    let told = g.D.Door.told in
    let asks = c.call-in-Ok-Some-Ok.new in
    let o = place contents failures told c.args.output.now c.args.session.now c.args.door.now in
    let n = place contents failures told c.put-in-Answered.new.self asks.session asks.self in
    let call = c.in-Ok-Some-Ok.call in
    let h = c.in-Answered.ensures.told in
    let answer = answer_of c.answer.result in
    let last = c.answer.ensures o.told call h.0 h.1 in
    let asked : asked_of c.args.request ≡ Some (Ok call)
    = cc (c.in-Ok-Some-Ok.ensures, c.in-Ok-Some-Ok.field-0-is, c.in-Ok-Some-Ok.field-0-0-is)
    in
    record {
      served =
          one_put g.D.Door.goes o n (Called call h.0 ∷ []) c.args.request answer
          c.put-in-Answered.result h.1 h.2
          (subst (λ (x : Option (Result Call Errno)). Answers x (Called call h.0 ∷ []) answer)
          (sym asked) (ap (λ (a : Answer). Called call a ∷ []) (sym last)))
          c.put-in-Answered.ensures.put;
      output = c.put-in-Answered.ensures.failures;
      admitted = c.in-Answered.ensures.admitted;
    }

pub returns-in-HeldBack : goal.returns-in-HeldBack
returns-in-HeldBack g c =
    let contents = g.K.Sink.contents in
    let failures = g.K.Sink.failures in
    let told = g.D.Door.told in
    let asks = c.call-in-Ok-Some-Ok.new in
    let o = place contents failures told c.args.output.now c.args.session.now c.args.door.now in
    let n = place contents failures told c.args.output.now asks.session asks.self in
    let call = c.in-Ok-Some-Ok.call in
    let h = c.in-HeldBack.ensures.told in
    let asked : asked_of c.args.request ≡ Some (Ok call)
    = cc (c.in-Ok-Some-Ok.ensures, c.in-Ok-Some-Ok.field-0-is, c.in-Ok-Some-Ok.field-0-0-is)
    in
    record {
      served =
          one_unasked g.D.Door.goes o n c.args.request (HeldBack call ∷ []) ending.Stopped
          refl refl h.0 h.1 ((c.args.request, [], call, refl, asked, refl), refl);
      output = refl;
      admitted = c.in-HeldBack.ensures.admitted;
    }

pub returns-in-OutOfMemory : goal.returns-in-OutOfMemory
returns-in-OutOfMemory g c =
    let contents = g.K.Sink.contents in
    let failures = g.K.Sink.failures in
    let told = g.D.Door.told in
    let asks = c.call-in-Ok-Some-Ok.new in
    let o = place contents failures told c.args.output.now c.args.session.now c.args.door.now in
    let n = place contents failures told c.args.output.now asks.session asks.self in
    let h = c.in-OutOfMemory.ensures.told in
    record {
      served =
          one_unasked g.D.Door.goes o n c.args.request [] ending.Memory refl refl
          (h.0 ∙ sym (append-nil o.told)) h.1 (inl refl, ([], refl));
      output = refl;
      admitted = c.in-OutOfMemory.ensures.admitted;
    }
