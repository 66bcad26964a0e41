use Rattle.std.proofs.Common.{Some, ap, arith, refl}
use Rattle.ov_script.proofs.Ranges.{above, below, within}
use Rattle.ov_script.proofs.numbers.digit.Goals as goal

pub returns-in_default : goal.returns-in_default
returns-in_default c =
    record { value = rw (below 48 57 c.args.byte (omega arith), below 97 102 c.args.byte (omega arith), below 65 70 c.args.byte (omega arith)) refl }

pub returns-in-48-to-57 : goal.returns-in-48-to-57
returns-in-48-to-57 c =
    record { value = rw (c.from.ensures, within 48 57 c.args.byte (omega arith) (omega arith)) refl }

pub returns-in_default-2 : goal.returns-in_default-2
returns-in_default-2 c =
    record { value = rw (above 48 57 c.args.byte (omega arith), below 97 102 c.args.byte (omega arith), below 65 70 c.args.byte (omega arith)) refl }

pub returns-in-65-to-70 : goal.returns-in-65-to-70
returns-in-65-to-70 c =
    record { value = rw (c.from-in-65-to-70.ensures, above 48 57 c.args.byte (omega arith), below 97 102 c.args.byte (omega arith), within 65 70 c.args.byte (omega arith) (omega arith)) (ap Some (omega arith)) }

pub returns-in_default-3 : goal.returns-in_default-3
returns-in_default-3 c =
    record { value = rw (above 48 57 c.args.byte (omega arith), below 97 102 c.args.byte (omega arith), above 65 70 c.args.byte (omega arith)) refl }

pub returns-in-97-to-102 : goal.returns-in-97-to-102
returns-in-97-to-102 c =
    record { value = rw (c.from-in-97-to-102.ensures, above 48 57 c.args.byte (omega arith), within 97 102 c.args.byte (omega arith) (omega arith)) (ap Some (omega arith)) }

pub returns-in_default-4 : goal.returns-in_default-4
returns-in_default-4 c =
    record { value = rw (above 48 57 c.args.byte (omega arith), above 97 102 c.args.byte (omega arith), above 65 70 c.args.byte (omega arith)) refl }
