-- An attach that is not refused.
use Rattle.std.proofs.Common.{◌≡◌, ◌∙◌, ℕ, ◌<◌, ◌^◌, Bool, true, false, cond, List, Option, None, Some, refl, sym, length}
use Rattle.std.specs.Prelude.{nat_lt}
use Rattle.std.proofs.lemmas.Bool.{ltb-true}
use Rattle.ov_base.specs.declared.errno.Errno.{Errno}
use Rattle.ov_base.specs.declared.errno.Errno.TheVariants.{EINVAL, ENFILE, ENOSPC}
use Rattle.overlay_core.specs.Views.{client_count}
use Rattle.overlay_core.specs.declared.mounted.Core.{Core}
use Rattle.watch_table.specs.declared.hook.Callback.{Ghosts as Callback}
use Rattle.watch_table.specs.declared.hook.Rule.{Ghosts as Rule}
use Rattle.locked_history.specs.declared.entry.Entry.{Entry}
use Rattle.endless_mount.specs.Steps.{HasPlace, attach_refusal}

-- what is no error is none
none_said : (o : Option Errno) → ((errno : Errno) → o ≡ Some errno → ⊥) → o ≡ None
none_said None not = refl
none_said (Some errno) not = absurd (not errno refl)

-- which tests were passed
passed : (many few place : Bool) → cond many (Some EINVAL) (cond few (cond place None (Some ENOSPC)) (Some ENFILE)) ≡ None → (few ≡ true) × (place ≡ true)
passed true few place e = absurd cc
passed false true true e = (refl, refl)
passed false true false e = absurd cc
passed false false place e = absurd cc

-- there are few clients then, and the history has a place
pub admitted : {F G : Type 0} {asks : Callback F} {rule : Rule G} (es : List Entry) (core : Core F G asks rule) (hooks : ℕ) (said : Option Errno) → said ≡ attach_refusal es core hooks → ((errno : Errno) → said ≡ Some errno → ⊥) → (client_count core < 64) × HasPlace es
admitted es core hooks said is not =
    let t = passed (nat_lt 16 hooks) (nat_lt (client_count core) 64) (nat_lt (length es) (2 ^ 61)) (sym is ∙ none_said said not) in
    (ltb-true (client_count core) 64 t.0, ltb-true (length es) (2 ^ 61) t.1)
