use Rattle.copy_up.specs.declared.needs.Need.TheVariants as need
use Rattle.std.proofs.Common.{sym, ap}
use Rattle.merged_lookup.specs.Merged.{upper_of}
use Rattle.mount_calls.specs.Lacks.{lacking, need_of}
use Rattle.mount_calls.proofs.Lacking.{lack-besides, lack-parent, law_of_needs}
use Rattle.mount_calls.proofs.lacks.way_lack.Goals as goal

pub returns-in-Directory : goal.returns-in-Directory
returns-in-Directory c =
    let U = upper_of c.args.layers.now in
    let p = c.args.path.now in
    lack-parent c.args.second (lacking U p) c.in-Directory.count c.args.besides ((law_of_needs U p (need.Directory c.in-Directory.count)).0 c.in-Directory.ensures)

pub returns-in-Nothing : goal.returns-in-Nothing
returns-in-Nothing c =
    let U = upper_of c.args.layers.now in
    let p = c.args.path.now in
    lack-besides c.args.second (lacking U p) c.args.besides ((law_of_needs U p need.Nothing).0 c.in-Nothing.ensures)

pub returns-then-near : goal.returns-then-near
returns-then-near c =
    let U = upper_of c.args.layers.now in
    let p = c.args.path.now in
    lack-besides c.args.second (lacking U p) c.args.besides (sym (ap need_of (c.requires c.if-near.true)))
