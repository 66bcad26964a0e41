use Rattle.std.proofs.Common.{◌≡◌, sym, ap, ◌∙◌}
use Rattle.std.proofs.lemmas.Bool.{eqb-true}
use Rattle.ov_base.specs.declared.place.Place.{Place}
use Rattle.mount_calls.proofs.Seen.{saw-parents}
use Rattle.mount_calls.proofs.look.Look.saw_parents.Goals as goal

pub returns-in-Ok : goal.returns-in-Ok
returns-in-Ok c = λ upper p saw.
    let first : c.top.result.layer ≡ 0 = eqb-true c.top.result.layer 0 upper in
    saw-parents c.args.layers.now p c.args.self.now c.in-Ok.directory c.in-Ok.field-0-1 c.lawful.ensures.together saw
    c.in-Ok.is (sym (ap (λ (d : Place). d.layer) c.top.ensures) ∙ first)
