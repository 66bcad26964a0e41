-- Who waits for nobody.
use Rattle.std.proofs.Common.{◌≡◌, refl, length}
use Rattle.std.specs.Borrow.{RattleType}
use Rattle.std.specs.declared.sync.ledger.Ledger as ledger
use mir.Syntax.{Dict}
use Rattle.watch_table.specs.declared.hook.Callback as callback
use Rattle.watch_table.specs.declared.hook.Rule as rule
use Rattle.locked_history.specs.declared.mount_name.MountName as mount_name
use Rattle.locked_history.specs.contracts.mount.Mount.event as event
use Rattle.locked_history.specs.contracts.mount.Mount.event_of as event_of

-- for a mount of any name, callback and rule
module _ (N F R : RattleType)
    (name : mount_name.Ghosts N.Denot) (name_code : Dict)
    (parts : ledger.Ghosts N.Denot) (parts_code : Dict)
    (answers : callback.Ghosts F.Denot) (answers_code : Dict)
    (asks : rule.Ghosts R.Denot) (asks_code : Dict) where
  -- A RECEIPT IS HAD WITHOUT WAITING: `event` is given the mount and a place, and no handle, without
  -- which nobody waits for a lock
  pub event_waits_for_nobody :
      length (event.signature N F R name name_code parts parts_code answers answers_code asks asks_code).params
      ≡ 2
  event_waits_for_nobody = refl

  -- so its entry is read: `event_of` is given the mount and the receipt
  pub event_of_waits_for_nobody :
      length (event_of.signature N F R name name_code parts parts_code answers answers_code asks asks_code).params
      ≡ 2
  event_of_waits_for_nobody = refl
