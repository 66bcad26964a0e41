use Rattle.mount_calls.proofs.Answering.{on-err}
use Rattle.mount_calls.proofs.Reading.{get-allowed, get-done, get-refused}
use Rattle.mount_calls.proofs.mount.Mount.get_attribute.Goals as goal

pub returns-in-Ok-clause-tells : goal.returns-in-Ok-clause-tells
returns-in-Ok-clause-tells c = λ client s st.
    get-done c.args.self.now s st client c.args.path.now c.args.name.now c.in-Ok.value (rw c.in-Ok.is at c.in_ok-value.ensures.allowed) (rw c.in-Ok.is at c.in_ok-value.ensures.value)

pub returns-in-Err-clause-tells : goal.returns-in-Err-clause-tells
returns-in-Err-clause-tells c = λ client s st. get-refused c.args.self.now s st client c.args.path.now c.args.name.now c.in-Err.errno (rw c.in-Err.is at c.in_ok-value.ensures.refused)

pub returns-in_err-value-clause-allowed : goal.returns-in_err-value-clause-allowed
returns-in_err-value-clause-allowed c = on-err c.from_residual.result _ (λ s st client.
    get-allowed c.args.self.now s st client c.args.path.now c.args.name.now
    c.in_err-value.ensures.judged)
