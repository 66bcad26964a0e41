use Rattle.std.proofs.Common.{Some, ap, arith, refl}
use Rattle.ov_script.proofs.Ranges.{above, below, within}
use Rattle.ov_script.proofs.escape.hexadecimal_digit.Goals as goal

pub returns-in_default : goal.returns-in_default
returns-in_default c =
    record { value = rw (below 48 57 c.args.byte (omega arith), below 97 102 c.args.byte (omega arith)) refl; digit = tt }

pub returns-in-48-to-57 : goal.returns-in-48-to-57
returns-in-48-to-57 c =
    record { value = rw (within 48 57 c.args.byte (omega arith) (omega arith)) refl; digit = omega arith }

pub returns-in_default-2 : goal.returns-in_default-2
returns-in_default-2 c =
    record { value = rw (above 48 57 c.args.byte (omega arith), below 97 102 c.args.byte (omega arith)) refl; digit = tt }

pub returns-in-97-to-102 : goal.returns-in-97-to-102
returns-in-97-to-102 c =
    record { value = rw (above 48 57 c.args.byte (omega arith), within 97 102 c.args.byte (omega arith) (omega arith)) (ap Some (omega arith)); digit = omega arith }

pub returns-in_default-3 : goal.returns-in_default-3
returns-in_default-3 c =
    record { value = rw (above 48 57 c.args.byte (omega arith), above 97 102 c.args.byte (omega arith)) refl; digit = tt }
