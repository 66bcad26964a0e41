use Rattle.std.proofs.Common.{length, nat_lt, sym, ap, ◌∙◌}
use Rattle.std.proofs.lemmas.Bool.{le-ltb}
use Rattle.ov_base.specs.declared.errno.Errno.TheVariants.{EFBIG}
use Rattle.plain_model.specs.Refusals.{when}
use Rattle.mount_laws.specs.Looks.{or_else}
use Rattle.mount_calls.proofs.user_attributes.value_fault.Goals as goal

pub returns : goal.returns
returns c =
    sym (ap (λ o. or_else o (when (nat_lt 1024 (length c.args.value.now)) EFBIG)) (sym c.name_fault.ensures.refusal ∙ c.in_default.is)
    ∙ ap (λ b. when b EFBIG) (le-ltb 1024 (length c.args.value.now) (rw c.as_slice.ensures at c.if-as_slice-gt-VALUE_MAX.false)))
