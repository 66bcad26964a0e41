use Rattle.mount_calls.proofs.Planning.{plans-same}
use Rattle.mount_calls.proofs.mount.Mount.plan.Goals as goal

pub returns-in-Chmod : goal.returns-in-Chmod
returns-in-Chmod c =
    plans-same c.args.self.now c.args.client _ _ c.plan_alter.result c.in-Chmod.is
    (c.plan_alter.ensures c.args.client)

pub returns-in-Chown : goal.returns-in-Chown
returns-in-Chown c =
    plans-same c.args.self.now c.args.client _ _ c.plan_alter-in-Chown.result c.in-Chown.is
    (c.plan_alter-in-Chown.ensures c.args.client)

pub returns-in-SetAttribute : goal.returns-in-SetAttribute
returns-in-SetAttribute c =
    plans-same c.args.self.now c.args.client _ _ c.plan_alter-in-SetAttribute.result
    c.in-SetAttribute.is (c.plan_alter-in-SetAttribute.ensures c.args.client)

pub returns-in-DeleteAttribute : goal.returns-in-DeleteAttribute
returns-in-DeleteAttribute c =
    plans-same c.args.self.now c.args.client _ _ c.plan_alter-in-DeleteAttribute.result
    c.in-DeleteAttribute.is (c.plan_alter-in-DeleteAttribute.ensures c.args.client)

pub returns-in-Mkdir : goal.returns-in-Mkdir
returns-in-Mkdir c =
    plans-same c.args.self.now c.args.client _ _ c.plan_mkdir.result c.in-Mkdir.is
    (c.plan_mkdir.ensures c.args.client)

pub returns-in-Symlink : goal.returns-in-Symlink
returns-in-Symlink c =
    plans-same c.args.self.now c.args.client _ _ c.plan_symlink.result c.in-Symlink.is
    (c.plan_symlink.ensures c.args.client)

pub returns-in-Unlink : goal.returns-in-Unlink
returns-in-Unlink c =
    plans-same c.args.self.now c.args.client _ _ c.plan_unlink.result c.in-Unlink.is
    (c.plan_unlink.ensures c.args.client)

pub returns-in-Rmdir : goal.returns-in-Rmdir
returns-in-Rmdir c =
    plans-same c.args.self.now c.args.client _ _ c.plan_rmdir.result c.in-Rmdir.is
    (c.plan_rmdir.ensures c.args.client)

pub returns-in-Hardlink : goal.returns-in-Hardlink
returns-in-Hardlink c =
    plans-same c.args.self.now c.args.client _ _ c.plan_link.result c.in-Hardlink.is
    (c.plan_link.ensures c.args.client)

pub returns-in-Rename : goal.returns-in-Rename
returns-in-Rename c =
    plans-same c.args.self.now c.args.client _ _ c.plan_rename.result c.in-Rename.is
    (c.plan_rename.ensures c.args.client)
