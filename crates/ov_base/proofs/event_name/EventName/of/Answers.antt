use Rattle.std.proofs.Common.{sym, subst}
use Rattle.std.specs.Prelude.{IsTrue}
use Rattle.ov_base.specs.Names.{is_name}
use Rattle.ov_base.proofs.EventNames.{name-stored}
use Rattle.ov_base.proofs.event_name.EventName.of.Goals as goal

pub invariant_of-result : goal.invariant_of-result
invariant_of-result c =
    let name = subst (λ bytes. IsTrue (is_name bytes)) (sym c.as_slice-bytes.ensures) c.lawful.ensures in
    name-stored c.as_slice-bytes.result.now c.copy_from_slice.new.self name c.copy_from_slice.ensures.after
