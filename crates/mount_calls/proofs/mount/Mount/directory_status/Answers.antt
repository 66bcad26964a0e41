use Rattle.std.proofs.Common.{Ok, Err, sym, ◌∙◌}
use Rattle.mount_calls.proofs.Answering.{on-err}
use Rattle.mount_calls.proofs.FileReads.{named-status, removed-status, status-allowed}
use Rattle.mount_calls.proofs.mount.Mount.directory_status.Goals.{in-Some, in-None}
use Rattle.mount_calls.proofs.mount.Mount.directory_status.Goals as goal

pub returns-in-Ok-clause-tells : goal.returns-in-Ok-clause-tells
returns-in-Ok-clause-tells c = elim c.match-branch-2.branch [
  | in-Some w ↦ λ s st.
      named-status c.args.self.now s st c.args.client c.args.descriptor c.requires (Ok c.in-Ok.status) w.in-Some.path (sym w.in-Some.is ∙ c.in_ok-path.ensures) (sym c.in-Ok.is ∙ w.status-is ∙ w.status_at-status.ensures)
  | in-None w ↦ λ s st.
      removed-status c.args.self.now s st c.args.client c.args.descriptor c.requires (Ok c.in-Ok.status) (sym w.in-None.is ∙ c.in_ok-path.ensures) (λ a kept. sym c.in-Ok.is ∙ w.status-is ∙ w.removed_status-status.ensures.shown a (w.removed.ensures ∙ kept))
]

pub returns-in-Err-clause-tells : goal.returns-in-Err-clause-tells
returns-in-Err-clause-tells c = elim c.match-branch-2.branch [
  | in-Some w ↦ λ s st.
      named-status c.args.self.now s st c.args.client c.args.descriptor c.requires (Err c.in-Err.errno) w.in-Some.path (sym w.in-Some.is ∙ c.in_ok-path.ensures) (sym c.in-Err.is ∙ w.status-is ∙ w.status_at-status.ensures)
  | in-None w ↦ λ s st.
      removed-status c.args.self.now s st c.args.client c.args.descriptor c.requires (Err c.in-Err.errno) (sym w.in-None.is ∙ c.in_ok-path.ensures) (λ a kept. sym c.in-Err.is ∙ w.status-is ∙ w.removed_status-status.ensures.shown a (w.removed.ensures ∙ kept))
]

pub returns-in_err-path-clause-allowed : goal.returns-in_err-path-clause-allowed
returns-in_err-path-clause-allowed c = on-err c.from_residual.result _ (λ s st.
    status-allowed c.args.self.now s st c.args.client c.args.descriptor c.requires)
