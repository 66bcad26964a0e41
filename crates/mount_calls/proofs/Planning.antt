-- A call is planned where the machine refuses nothing, and else its refusal is told.
use Rattle.std.proofs.Common.{◌≡◌, ℕ, None, Some, Result, Ok, Err, sym, subst}
use Rattle.ov_base.specs.Calls.{Call}
use Rattle.ov_base.specs.declared.errno.Errno.{Errno}
use Rattle.plain_model.specs.Machine.{State}
use Rattle.plain_model.specs.Refusals.{refusal}
use Rattle.mount_calls.specs.declared.mount.Mount.{Mount}
use Rattle.mount_calls.specs.declared.plan.Plan.{Plan}
use Rattle.mount_calls.specs.Plans.{call_of, IsFoundFor, IsPlanned, PlansCall}
use Rattle.mount_calls.specs.States.{IsStateOf}

-- none of the states that a mount stands for refuses a call of a client
abbrev pub IsAllowed : Mount → ℕ → Call → Type 0
IsAllowed m c k = (s : State) → IsStateOf m s → refusal s c k ≡ None

-- a refusal
pub plans-refusal : (m : Mount) (c : ℕ) (k : Call) (e : Errno) →
    ((s : State) → IsStateOf m s → refusal s c k ≡ Some e) → PlansCall m c k (Err e)
plans-refusal m c k e h = record { refused = h; call = tt; planned = tt }

-- a plan of the call, by what was found for it
pub plans-found : (m : Mount) (c : ℕ) (k : Call) (p : Plan) → call_of p ≡ k → IsFoundFor m c p →
    IsAllowed m c k → PlansCall m c k (Ok p)
plans-found m c k p is found allowed = record {
  refused = tt;
  call = is;
  planned = record { found = found; allowed = subst (IsAllowed m c) (sym is) allowed };
}

-- what is planned of one call is planned of the same one
pub plans-same : (m : Mount) (c : ℕ) (j k : Call) (r : Result Plan Errno) → j ≡ k →
    PlansCall m c k r → PlansCall m c j r
plans-same m c j k r e h = subst (λ z. PlansCall m c z r) (sym e) h

-- what was found for a plan, by which plan it is
pub found-of : (m : Mount) (c : ℕ) (p q : Plan) → p ≡ q → IsPlanned m c p → IsFoundFor m c q
found-of m c p q e h = subst (IsFoundFor m c) e h.found
