-- Which planned calls write to the mount.
use Rattle.std.proofs.Common.{◌≡◌, ◌≢◌, ℕ, Bool, true, false, ◌||◌, not, is_none, is_some, Option, None, Some, refl, sym, ap, ◌∙◌}
use Rattle.std.specs.Borrow.{Bor}
use Rattle.ov_base.specs.declared.call.CallOf.TheVariants as call
use Rattle.ov_base.specs.declared.call.OpenFlags.{OpenFlags}
use Rattle.plain_model.specs.Layers.{Path, shows}
use Rattle.plain_model.specs.Machine.{State, has_names}
use Rattle.plain_model.specs.Refusals.{writes}
use Rattle.plain_model.specs.Tree.{node_at, node_of}
use Rattle.merged_lookup.specs.declared.found.Topmost.{Topmost}
use Rattle.merged_lookup.specs.Merged.{parents_fault, IsTopmost}
use Rattle.mount_laws.specs.Renaming.{is_one}
use Rattle.mount_laws.proofs.Links.{first-none, second-none}
use Rattle.mount_laws.proofs.Looks.{at-some, shown-there}
use Rattle.mount_laws.proofs.Renaming.{same-object, told}
use Rattle.mount_calls.specs.declared.attribute_changes.AttributeCall.{AttributeCall}
use Rattle.mount_calls.specs.declared.attribute_changes.AttributeCall.TheVariants as asks
use Rattle.mount_calls.specs.declared.look.Look.{Look}
use Rattle.mount_calls.specs.declared.mount.Mount.{Mount}
use Rattle.mount_calls.specs.declared.open_calls.Judged.{Judged}
use Rattle.mount_calls.specs.declared.plan.Plan.{Plan}
use Rattle.mount_calls.specs.declared.plan.Plan.TheVariants as plan
use Rattle.mount_calls.specs.AttributeCalls.{call_at}
use Rattle.mount_calls.specs.Plans.{call_of, IsPlanned}
use Rattle.mount_calls.specs.States.{IsStateOf}
use Rattle.mount_calls.proofs.Lacking.{top-shown}
use Rattle.mount_calls.proofs.Planning.{IsAllowed}
use Rattle.mount_calls.proofs.Stating.{the_layers, the_lowers, the_upper}

-- there is none of one exactly where there is none of the other
none-as : {A B : Type 0} (x : Option A) (y : Option B) → is_some x ≡ is_some y → is_none x ≡ is_none y
none-as None None e = refl
none-as None (Some b) e = cc
none-as (Some a) None e = cc
none-as (Some a) (Some b) e = refl

-- what is told by its opposite
pub told-none : {A : Type 0} (b : Bool) (o : Option A) → not b ≡ is_some o → b ≡ is_none o
told-none true None h = refl
told-none false None h = cc
told-none true (Some a) h = cc
told-none false (Some a) h = refl

module _ (m : Mount) (s : State) (st : IsStateOf m s) (p : Path) where
  -- the machine's walk finds nothing exactly where nothing is shown
  node-shown : is_none (node_at s.tree p) ≡ is_none (shows 0 (the_layers m) p)
  node-shown =
      none-as (node_at s.tree p) (shows 0 (the_layers m) p)
      (at-some (the_upper m) (the_lowers m) s st.layers p)

  -- by the topmost object that is shown
  nothing-top : (t : Option Topmost) → IsTopmost m.layers p t → is_none t ≡ is_none (node_at s.tree p)
  nothing-top None h = sym (node-shown ∙ ap is_none h.shown)
  nothing-top (Some t) h = sym (node-shown ∙ top-shown m.layers p t h)

not-not : (b : Bool) → not (not b) ≡ b
not-not true = refl
not-not false = refl

-- a rename that nothing refuses writes unless its paths are one object
rename-writes : (m : Mount) (c : ℕ) (p q : Path) → IsAllowed m c (call.Rename p q) → (b : Bool) →
    is_one (the_upper m) p q ≡ not b → (s : State) → IsStateOf m s → b ≡ writes s (call.Rename p q)
rename-writes m c p q allowed b one s st =
    let names = has_names (node_of s.tree (node_at s.tree q)) in
    let fine = sym (told (the_upper m) (the_lowers m) s st.layers c p q names refl) ∙ allowed s st in
    let found : is_some (shows 0 (the_layers m) p) ≡ true =
    shown-there (parents_fault (the_layers m) p) (shows 0 (the_layers m) p) (first-none _ _ (second-none _ _ fine)) in
    sym (ap not (same-object (the_upper m) (the_lowers m) s st.layers p q found ∙ one) ∙ not-not b)

-- a change of attributes writes
attribute-writes : (p : Path) (x : AttributeCall) (s : State) → true ≡ writes s (call_at p x)
attribute-writes p (asks.Mode mode) s = refl
attribute-writes p (asks.Owner uid gid) s = refl
attribute-writes p (asks.Set name value) s = refl
attribute-writes p (asks.Delete name) s = refl

-- whether a planned call writes: an open where it is for writing or makes its file, and no rename of
-- one object
abbrev pub plan_writes : Plan → Bool
plan_writes (plan.Open path look flags judged) = flags.writes || is_none judged.top
plan_writes (plan.Nothing old new) = false
plan_writes _ = true

-- SO IT DOES BY THE MACHINE
pub plan-writes : (m : Mount) (c : ℕ) (p : Plan) → IsPlanned m c p → (s : State) →
    IsStateOf m s → plan_writes p ≡ writes s (call_of p)
plan-writes m c (plan.Alter path look found ask) h s st = attribute-writes path.now ask s
plan-writes m c (plan.Mkdir path look directory mode) h s st = refl
plan-writes m c (plan.Symlink path look directory target) h s st = refl
plan-writes m c (plan.Open path look flags judged) h s st =
    ap (λ b. flags.writes || b) (nothing-top m s st path.now judged.top h.found.1.top)
plan-writes m c (plan.Unlink path look directory place) h s st = refl
plan-writes m c (plan.Rmdir path look directory) h s st = refl
plan-writes m c (plan.Link old new from onto found) h s st = refl
plan-writes m c (plan.Rename old new from onto moving) h s st =
    rename-writes m c old.now new.now h.allowed true h.found.2.apart s st
plan-writes m c (plan.Nothing old new) h s st =
    rename-writes m c old.now new.now h.allowed false h.found.0 s st

-- any other than these two writes
pub others-write : (p : Plan) →
    ((path : Bor Path) (look : Bor Look) (flags : OpenFlags) (judged : Judged) →
    p ≢ plan.Open path look flags judged) →
    ((old new : Bor Path) → p ≢ plan.Nothing old new) → true ≡ plan_writes p
others-write (plan.Alter path look found ask) some moves = refl
others-write (plan.Mkdir path look directory mode) some moves = refl
others-write (plan.Symlink path look directory target) some moves = refl
others-write (plan.Open path look flags judged) some moves = absurd (some path look flags judged refl)
others-write (plan.Unlink path look directory place) some moves = refl
others-write (plan.Rmdir path look directory) some moves = refl
others-write (plan.Link old new from onto found) some moves = refl
others-write (plan.Rename old new from onto moving) some moves = refl
others-write (plan.Nothing old new) some moves = absurd (moves old new refl)
