-- What the workers of a server leave of the connections that they took.
use Rattle.std.specs.Prelude.{◌≡◌, ℕ, ◌+◌, true, false, not, Bool, List, All, is_some, length, Option, None, unwrap_or}
use Rattle.std.specs.Global.{Vec}
use Rattle.std.specs.List.{flat_map, list_any}
use mathlib.Core.List.{IsPrefix}
use Rattle.plain_model.specs.Runs as runs
use Rattle.overlay_core.specs.LegalHistories.{Legally, opening_of}
use Rattle.overlay_core.specs.declared.mounted.Core.{Core}
use Rattle.watch_table.specs.declared.hook.Callback.{Ghosts as Callback}
use Rattle.watch_table.specs.declared.hook.Rule.{Ghosts as Rule}
use Rattle.locked_history.specs.Claims.{Claim}
use Rattle.locked_history.specs.declared.entry.Entry.{Entry}
use Rattle.socket_server.specs.Clients.{AreClients}
use Rattle.socket_server.specs.EndlessClients.{AreClientsIn}
use Rattle.socket_server.specs.declared.served.Served.{Served}
use Rattle.socket_server.specs.declared.served.Served.TheVariants.{Done, Failed, Stopped}
use Rattle.socket_server.specs.declared.serving.ServeOptions.{ServeOptions}
use Rattle.socket_server.specs.declared.worker.Worked.{Worked}

-- how the server ends: it fails where one of its workers did, and else is stopped where one was
abbrev pub end_of : Bool → Bool → Served
end_of true stopped = Failed
end_of false true = Stopped
end_of false false = Done

-- the receipts of all that the clients of a worker did
abbrev pub receipts_in : Worked (Vec (Vec Claim)) → List Claim
receipts_in worked = flat_map (λ receipts. receipts.items) worked.kept.items

-- what a worker keeps is of as many clients as it served, each of which was detached where the worker
-- didn't fail; where it wasn't stopped either, it took as many connections as it was to, without a
-- number 2^64 - 1, and each had a client or was refused one. A connection that is turned away, since
-- no worker is free, is never a worker's
pub record IsWork {K : Type 0} (keeps : Bool → ℕ → K → Type 0) (sessions : Option ℕ) (worked : Worked K) : Type 0 where
  pub clients : keeps (not worked.failed) worked.tally.served worked.kept
  pub all : worked.failed ≡ false → worked.stopped ≡ false →
      worked.tally.served + worked.tally.refused ≡ unwrap_or sessions 18446744073709551615

-- all workers have ended: they are as many as were asked for, each served as it was to, and none was
-- stopped where nothing ends the server
pub record HaveWorked {K : Type 0} (keeps : Bool → ℕ → K → Type 0) (options : ServeOptions)
    (workers : List (Worked K)) : Type 0 where
  pub many : length workers ≡ options.workers
  pub work : All (IsWork keeps options.sessions) workers
  pub stopped : options.closing ≡ None → All (λ worked. worked.stopped ≡ false) workers

-- these workers are so many, each served as it was to, and so the server ended
pub record AreWorkers {K : Type 0} (keeps : Bool → ℕ → K → Type 0) (options : ServeOptions)
    (workers : List (Worked K)) (served : Served) : Type 0 where
  pub many : length workers ≡ options.workers
  pub work : All (IsWork keeps options.sessions) workers
  pub end : served ≡ end_of (list_any (λ worked. worked.failed) workers)
      (list_any (λ worked. worked.stopped) workers)

-- A HISTORY OF WHAT WAS MOUNTED: a legal one, which begins with that of this core and ends in some core
pub record IsHistoryOn {F G : Type 0} {asks : Callback F} {rule : Rule G} (mounted : Core F G asks rule)
    (es : List runs.Entry) : Type 0 where
  pub last : Core F G asks rule
  pub legal : ∥ Legally (opening_of mounted) es last ∥₁

-- something may close the server
abbrev pub closes : ServeOptions → Bool
closes options = is_some options.closing

-- the workers that were asked for served, and these are the receipts of all that their clients did
pub record Serves (tags : List ℕ) (options : ServeOptions) (receipts : List Claim)
    (served : Served) : Type 0 where
  pub workers : List (Worked (Vec (Vec Claim)))
  pub work : AreWorkers (AreClients tags (closes options)) options workers served
  pub all : receipts ≡ flat_map receipts_in workers

-- the workers that were asked for served, and what each of their clients saw begins this history
pub record ServesEndless (tags : List ℕ) (options : ServeOptions) (history : List Entry)
    (served : Served) : Type 0 where
  pub workers : List (Worked (List Entry))
  pub work : AreWorkers (AreClientsIn tags (closes options)) options workers served
  pub all : All (λ worked. IsPrefix worked.kept history) workers
