use Rattle.std.proofs.Common.{rules, ◌≡◌, ◌∙◌, sym, ap, None, Some, Ok}
use Rattle.ov_base.specs.declared.attributes.Attributes.{Attributes}
use Rattle.plain_model.specs.Layers.{Folder, shows}
use Rattle.merged_lookup.specs.Merged.{layers_of, walk_fault, ShowsInode}
use Rattle.mount_calls.specs.Status.{stat_shown}
use Rattle.mount_calls.proofs.Shown.{stat-inode, stat-found}
use Rattle.mount_calls.proofs.status.status_at.Goals as goal

pub returns-in-Directory : goal.returns-in-Directory
returns-in-Directory c =
    let none : walk_fault (layers_of c.args.layers.now) c.args.path.now ≡ None = search rules in
    let found : (a : Attributes) × (shows 0 (layers_of c.args.layers.now) c.args.path.now ≡ Some (Folder c.in-Directory.place.layer c.in-Directory.place.key a)) = rw c.in-Directory.is at c.in_ok-place.ensures.found in
    stat-found (layers_of c.args.layers.now) c.args.path.now _ none (ap stat_shown found.1 ∙ ap Ok (sym (c.directory_status.ensures c.args.path.now found.0 found.1)))

pub returns-in-Inode : goal.returns-in-Inode
returns-in-Inode c =
    let none : walk_fault (layers_of c.args.layers.now) c.args.path.now ≡ None = search rules in
    let found : ShowsInode c.args.layers.now c.args.path.now c.in-Inode.place = rw c.in-Inode.is at c.in_ok-place.ensures.found in
    stat-found (layers_of c.args.layers.now) c.args.path.now _ none (stat-inode c.args.layers.now c.args.path.now c.in-Inode.place found ∙ sym c.inode_status.ensures)
