use Rattle.std.proofs.Common.{Some, subst}
use Rattle.std.proofs.lemmas.Option.{same_Some}
use Rattle.overlay_core.specs.Temps.{IsTemp}
use Rattle.overlay_core.proofs.TempFits.{changes-fit, same-fit}
use Rattle.overlay_core.proofs.stepping.keep.Goals as goal

pub returns-in_err-number-clause-temps : goal.returns-in_err-number-clause-temps
returns-in_err-number-clause-temps c = λ lowers temps fits.
    same-fit lowers c.args.work.now c.room.new.self c.in_err-number.ensures.same temps

pub returns-clause-temps : goal.returns-clause-temps
returns-clause-temps c = λ lowers temps fits.
    changes-fit lowers c.room.new.self c.put.new.self c.in_ok-number.number
    (Some (record { client = c.client-client.result; temp = Some c.args.temp })) c.put.ensures.numbers
    (same-fit lowers c.args.work.now c.room.new.self c.in_ok-number.ensures.same temps)
    (λ t e. subst (IsTemp lowers) (same_Some c.args.temp t e) fits)
