-- The history of a core: how long it may get, and the places in it that are kept.
use Rattle.std.specs.Prelude.{◌≡◌, ℕ, ◌+◌, ◌≤◌, true, List, length, Option, Some, None, cond, nat_eq, nat_lt}
use Rattle.std.specs.List.{IsDistinct, list_any}
use Rattle.ov_base.specs.declared.errno.Errno.{Errno}
use Rattle.ov_base.specs.declared.errno.Errno.TheVariants.{EINVAL, ENFILE, ENOSPC}
use Rattle.overlay_core.specs.Views.{client_count, core_finished, core_options, core_room, has_client}
use Rattle.overlay_core.specs.declared.mounted.Core.{Core}
use Rattle.watch_table.specs.declared.hook.Callback.{Ghosts as Callback}
use Rattle.watch_table.specs.declared.hook.Rule.{Ghosts as Rule}

-- these clients are attached, and none is named twice
pub record AreAttached {F G : Type 0} {asks : Callback F} {rule : Rule G} (m : Core F G asks rule) (clients : List ℕ) : Type 0 where
  pub once : IsDistinct nat_eq clients
  pub attached : (n : ℕ) → list_any (nat_eq n) clients ≡ true → has_client m n ≡ true

-- THE HISTORY HAS A PLACE FOR EACH DETACH: what was finished and the clients that are attached are together at most as many as it is long
abbrev pub HasPlaces : {F G : Type 0} {asks : Callback F} {rule : Rule G} → Core F G asks rule → Type 0
HasPlaces m =
    ((core_options m).history ≤ 1000000) × ((clients : List ℕ) → AreAttached m clients → core_finished m + length clients ≤ (core_options m).history)

-- why no client with so many hooks can be attached: they are over 16, or 64 clients are attached, or there is no place for it and one for its detach
abbrev pub attach_refusal : {F G : Type 0} {asks : Callback F} {rule : Rule G} → Core F G asks rule → ℕ → Option Errno
attach_refusal m hooks =
    cond (nat_lt 16 hooks) (Some EINVAL)
    (cond (nat_lt (client_count m) 64) (cond (nat_lt (core_room m) 2) (Some ENOSPC) None) (Some ENFILE))

-- why no call is taken where so many places are left: there is none
abbrev pub room_refusal : ℕ → Option Errno
room_refusal places = cond (nat_eq places 0) (Some ENOSPC) None
