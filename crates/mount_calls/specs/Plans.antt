-- What a call that changes what paths show, or opens what one shows, comes to once it was looked at
-- and judged, before it is carried out.
use Rattle.std.specs.Prelude.{◌≡◌, ℕ, true, None, Some, Result, Ok, IfErr, IfOk}
use Rattle.ov_base.specs.Calls.{Call}
use Rattle.ov_base.specs.declared.call.CallOf.TheVariants as call
use Rattle.ov_base.specs.declared.errno.Errno.{Errno}
use Rattle.ov_base.specs.declared.reply.Reply.TheVariants.{Done}
use Rattle.ov_base.specs.Targets.{target_of}
use Rattle.std.specs.Result.{result_err}
use Rattle.plain_model.specs.Machine.{State}
use Rattle.plain_model.specs.Refusals.{refusal}
use Rattle.layer_tree.specs.Tree.{layer_of}
use Rattle.mount_laws.specs.Renaming.{is_one}
use Rattle.rename_redirect.specs.Judging.{MayLink, MayMove}
use Rattle.mount_calls.specs.declared.mount.Mount.{Mount}
use Rattle.mount_calls.specs.declared.plan.Plan.{Plan}
use Rattle.mount_calls.specs.declared.plan.Plan.TheVariants as plan
use Rattle.mount_calls.specs.Altering.{IsTarget}
use Rattle.mount_calls.specs.AttributeCalls.{call_at}
use Rattle.mount_calls.specs.JudgedNames.{IsMakeable, IsRemovable, IsUnlinkable}
use Rattle.mount_calls.specs.Looking.{IsJudged, IsLook}
use Rattle.mount_calls.specs.Making.{MakesEach}
use Rattle.mount_calls.specs.States.{IsStateOf}

-- the call that is planned
abbrev pub call_of : Plan → Call
call_of (plan.Alter path look found ask) = call_at path.now ask
call_of (plan.Mkdir path look directory mode) = call.Mkdir path.now mode
call_of (plan.Symlink path look directory target) = call.Symlink target.now path.now
call_of (plan.Open path look flags judged) = call.Open path.now flags judged.mode
call_of (plan.Unlink path look directory place) = call.Unlink path.now
call_of (plan.Rmdir path look directory) = call.Rmdir path.now
call_of (plan.Link old new from onto found) = call.Hardlink old.now new.now
call_of (plan.Rename old new from onto moving) = call.Rename old.now new.now
call_of (plan.Nothing old new) = call.Rename old.now new.now

-- what was seen at its paths is so, and what its judge found
abbrev pub IsFoundFor : Mount → ℕ → Plan → Type 0
IsFoundFor m c (plan.Alter path look found ask) =
    IsLook m.layers path.now look.now × IsTarget m.layers path.now ask (found.0.now, found.1)
IsFoundFor m c (plan.Mkdir path look directory mode) =
    IsLook m.layers path.now look.now × IsMakeable m.layers path.now directory.now
IsFoundFor m c (plan.Symlink path look directory target) =
    IsLook m.layers path.now look.now × IsMakeable m.layers path.now directory.now
    × (result_err (target_of target.now) ≡ None)
IsFoundFor m c (plan.Open path look flags judged) =
    IsLook m.layers path.now look.now × IsJudged m c path.now flags judged
IsFoundFor m c (plan.Unlink path look directory place) =
    IsLook m.layers path.now look.now × IsUnlinkable m.layers path.now directory.now place
IsFoundFor m c (plan.Rmdir path look directory) =
    IsLook m.layers path.now look.now × IsRemovable m.layers path.now directory.now
IsFoundFor m c (plan.Link old new from onto found) =
    IsLook m.layers old.now from.now × IsLook m.layers new.now onto.now
    × MayLink m.layers old.now new.now found.0.now found.1.now found.2
IsFoundFor m c (plan.Rename old new from onto moving) =
    IsLook m.layers old.now from.now × IsLook m.layers new.now onto.now
    × MayMove m.layers m.redirects old.now new.now moving
IsFoundFor m c (plan.Nothing old new) =
    (is_one (layer_of m.layers.upper) old.now new.now ≡ true)
    × MakesEach (call.Rename old.now new.now) m m (Ok Done)

-- A CALL OF A CLIENT IS PLANNED: this was found for it, and nothing refuses it
pub record IsPlanned (m : Mount) (c : ℕ) (p : Plan) : Type 0 where
  pub found : IsFoundFor m c p
  pub allowed : (s : State) → IsStateOf m s → refusal s c (call_of p) ≡ None

-- a call of a client is refused as the machine refuses it, or this is its plan
pub record PlansCall (m : Mount) (c : ℕ) (k : Call) (r : Result Plan Errno) : Type 0 where
  pub refused : IfErr r (λ e. (s : State) → IsStateOf m s → refusal s c k ≡ Some e)
  pub call : IfOk r (λ p. call_of p ≡ k)
  pub planned : IfOk r (IsPlanned m c)
