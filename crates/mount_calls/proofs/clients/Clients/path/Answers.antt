use Rattle.std.proofs.Common.{sym}
use Rattle.open_handles.proofs.Slots.{directory-is}
use Rattle.mount_calls.proofs.Holding.{directory-held}
use Rattle.mount_calls.proofs.clients.Clients.path.Goals as goal

pub path-requires : goal.path-requires
path-requires c =
    let held = directory-held c.args.self.now c.args.client c.args.descriptor c.unwrap-handle.result.now (directory-is _ _ (sym (rw c.unwrap-handle.ensures at c.directory.ensures))) in
    (c.lawful.ensures.counted c.unwrap-handle.result.now.directory).1 held
