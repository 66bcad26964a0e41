use Rattle.std.proofs.Common.{Some, subst}
use Rattle.merged_lookup.specs.Merged.{layers_of, lowers_of, IsTopmost, ShowsInode}
use Rattle.overlay_core.proofs.arm_calls.found_fault.Goals as goal

pub returns-in-Inode : goal.returns-in-Inode
returns-in-Inode c = λ p top none.
    let l = c.args.layers.now in
    let shown : ShowsInode l p c.in-Inode.place =
    subst (λ t. IsTopmost l p (Some t)) c.in-Inode.is top in
    c.inode_fault.ensures (layers_of l) (lowers_of l) p _ _ none (c.inode_at.ensures p shown)
