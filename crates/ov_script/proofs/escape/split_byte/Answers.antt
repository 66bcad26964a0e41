use Rattle.std.proofs.Common.{rules}
use Rattle.ov_script.proofs.Escapes.{spelled_first}
use Rattle.ov_script.proofs.escape.split_byte.Goals as goal

pub returns-then-is_graphic-clause-some : goal.returns-then-is_graphic-clause-some
returns-then-is_graphic-clause-some c =
    spelled_first c.args.text.now c.in_ok-first.rest.now c.in_ok-first.first.now (search rules) c.if-byte-eq92.false c.in_ok-first.ensures.cases.0
