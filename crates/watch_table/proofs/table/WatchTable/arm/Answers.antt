use Rattle.std.proofs.Common.{Some, ap, subst, sym, ◌∙◌}
use Rattle.ov_base.specs.declared.node_id.NodeId.TheVariants.{New}
use Rattle.plain_model.specs.Machine.{watches_of}
use Rattle.plain_model.specs.Changes.{at_client, armed_on}
use Rattle.watch_table.specs.Listening.{is_on}
use Rattle.watch_table.specs.Watched.{IsIndexOf}
use Rattle.watch_table.proofs.Clients.{armed-client}
use Rattle.watch_table.proofs.Indexing.{index-more, index-kept, armed-watches, already-watched}
use Rattle.watch_table.proofs.table.WatchTable.arm.Goals as goal
use Rattle.watch_table.proofs.table.WatchTable.arm.Goals.{then-not-is_on+in_ok-add, else-not-is_on}

pub invariant_of-self-2 : goal.invariant_of-self-2
invariant_of-self-2 g c =
    let k = c.args.client in
    let o = c.args.object in
    let arms = armed_on c.args.slot (Some (New o)) c.args.mask in
    let es = c.self.inside.listeners in
    let t = c.self.inside.objects in
    let is = c.get-listener.ensures in
    let more = armed-watches es k c.get-listener.result.now c.args.slot o c.args.mask is (armed-client c.args.slot c.args.mask (New o)) in
    let now = ap (λ x. is_on o (watches_of x)) is ∙ sym c.is_on.ensures in
    subst (λ fs. IsIndexOf fs c.if-not-is_on.self-inside.objects) (sym c.arm.ensures.arms)
    (elim c.if-not-is_on.branch [
      | then-not-is_on+in_ok-add w ↦ subst (λ x. IsIndexOf (at_client k arms x.listeners) x.objects) (sym w.self-inside-is)
          (index-more es (at_client k arms es) t w.add.new.self o k c.self.invariant w.in_ok-add.ensures.ok
          (now ∙ w.if-not-is_on.true) more)
      | else-not-is_on w ↦ subst (λ x. IsIndexOf (at_client k arms x.listeners) x.objects) (sym w.self-inside-is)
          (index-kept es (at_client k arms es) t c.self.invariant
          (λ n c'. more n c' ∙ already-watched es k o (now ∙ w.if-not-is_on.false) n c'))
    ])
