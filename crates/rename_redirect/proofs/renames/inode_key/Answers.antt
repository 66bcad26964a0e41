use Rattle.std.proofs.Common.{ap, sym}
use Rattle.copy_up.proofs.OtherAttributes.{found-inode, upper-named}
use Rattle.rename_redirect.specs.Judging.{named_key}
use Rattle.rename_redirect.proofs.renames.inode_key.Goals as goal

pub returns-in-Inode : goal.returns-in-Inode
returns-in-Inode c = λ l p h.
    let shown = found-inode l p c.args.found.now c.in-Inode.place c.in-Inode.is h in
    sym (ap named_key (upper-named l p c.in-Inode.place shown.inode c.if-place-eq0.true shown.shown).named)
