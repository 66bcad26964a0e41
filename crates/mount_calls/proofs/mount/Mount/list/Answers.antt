use Rattle.std.proofs.Common.{refl, sym}
use Rattle.ov_base.specs.declared.call.CallOf.TheVariants as call
use Rattle.ov_base.specs.declared.reply.Reply.TheVariants as reply
use Rattle.mount_calls.proofs.Answering.{
  list-allowed,
  list-done,
  list-refused,
  on-err,
  unrefused-list,
}
use Rattle.mount_calls.proofs.MakingCalls.{attached-same, makes-out-same, makes-read}
use Rattle.mount_calls.proofs.mount.Mount.list.Goals as goal

pub returns-in-Some-clause-makes : goal.returns-in-Some-clause-makes
returns-in-Some-clause-makes c =
    let m = c.args.self.now in
    makes-read c.args.client (call.ListNames c.args.descriptor c.args.count) m m (attached-same m.clients) refl (reply.Refused c.in-Some.errno) (λ s. refl)
    (λ s st. list-refused m s st c.args.client c.args.descriptor c.args.count c.in-Some.errno (sym c.in-Some.ensures))

pub page-requires : goal.page-requires
page-requires c = unrefused-list _ c.args.count (sym c.in_default.ensures)

pub returns-clause-makes : goal.returns-clause-makes
returns-clause-makes c =
    let m = c.args.self.now in
    makes-read c.args.client (call.ListNames c.args.descriptor c.args.count) m c.page.new.self c.page.ensures.clients c.page.ensures.layers
    (reply.Names c.in_ok-names.names) (λ s. refl)
    (λ s st. list-done m s st c.args.client c.args.descriptor c.args.count c.page.new.self c.in_ok-names.names (sym c.in_default.ensures) c.in_ok-names.ensures.pages)

pub returns-in_err-names-clause-makes : goal.returns-in_err-names-clause-makes
returns-in_err-names-clause-makes c =
    makes-out-same c.args.client (call.ListNames c.args.descriptor c.args.count) c.args.self.now c.page.new.self c.page.ensures.clients c.page.ensures.layers
    c.from_residual.result c.from_residual.ensures.0 c.in_err-names.ensures.err

pub returns-in_err-names-clause-allowed : goal.returns-in_err-names-clause-allowed
returns-in_err-names-clause-allowed c = on-err c.from_residual.result _ (λ s st.
    list-allowed c.args.self.now s st c.args.client c.args.descriptor c.args.count
    (sym c.in_default.ensures))
