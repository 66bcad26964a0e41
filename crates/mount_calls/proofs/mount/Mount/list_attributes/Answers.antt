use Rattle.mount_calls.proofs.Answering.{on-err}
use Rattle.mount_calls.proofs.Reading.{
  list-attributes-allowed,
  list-attributes-done,
  list-attributes-refused,
}
use Rattle.mount_calls.proofs.mount.Mount.list_attributes.Goals as goal

pub returns-in-Ok-clause-tells : goal.returns-in-Ok-clause-tells
returns-in-Ok-clause-tells c = λ client s st.
    list-attributes-done c.args.self.now s st client c.args.path.now c.in-Ok.names (rw c.in-Ok.is at c.in_ok-names.ensures.allowed) (rw c.in-Ok.is at c.in_ok-names.ensures.names)

pub returns-in-Err-clause-tells : goal.returns-in-Err-clause-tells
returns-in-Err-clause-tells c = λ client s st. list-attributes-refused c.args.self.now s st client c.args.path.now c.in-Err.errno (rw c.in-Err.is at c.in_ok-names.ensures.refused)

pub returns-in_err-names-clause-allowed : goal.returns-in_err-names-clause-allowed
returns-in_err-names-clause-allowed c = on-err c.from_residual.result _ (λ s st client.
    list-attributes-allowed c.args.self.now s st client c.args.path.now
    c.in_err-names.ensures.judged)
