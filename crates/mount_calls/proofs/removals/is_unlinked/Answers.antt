use Rattle.std.proofs.Common.{◌<◌, Some, sym, ap, ◌∙◌, subst}
use Rattle.std.specs.Option.{option_copied}
use Rattle.std.proofs.lemmas.Bool.{eqb-true}
use Rattle.mount_calls.proofs.Freed.{unlinked}
use Rattle.mount_calls.proofs.Marks.{links-stored, more-than-none}
use Rattle.mount_calls.proofs.removals.is_unlinked.Goals as goal

pub returns-in-Some-Inode-clause-unlinked : goal.returns-in-Some-Inode-clause-unlinked
returns-in-Some-Inode-clause-unlinked c = λ h.
    let l = c.args.layers.now in
    let at = sym c.node.ensures ∙ ap option_copied c.in-Some-Inode.is ∙ ap Some c.in-Some-Inode.field-0-is in
    let none = eqb-true c.in-Some-Inode.inode.links 0 h in
    let u = unlinked l.upper c.args.key c.in-Some-Inode.inode c.lawful.ensures.tree c.lawful.ensures.unnamed at none in
    (u.0, λ i e. sym (links-stored l c.args.key c.in-Some-Inode.inode i at e) ∙ none)

pub returns-in-Some-Inode-clause-linked : goal.returns-in-Some-Inode-clause-linked
returns-in-Some-Inode-clause-linked c = λ h i e.
    let at = sym c.node.ensures ∙ ap option_copied c.in-Some-Inode.is ∙ ap Some c.in-Some-Inode.field-0-is in
    subst (λ n. 0 < n) (links-stored c.args.layers.now c.args.key c.in-Some-Inode.inode i at e) (more-than-none c.in-Some-Inode.inode.links h)
