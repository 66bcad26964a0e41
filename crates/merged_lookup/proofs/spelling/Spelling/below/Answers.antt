use Rattle.std.proofs.Common.{Some, arith}
use Rattle.merged_lookup.proofs.Rows.{spelled-below}
use Rattle.merged_lookup.proofs.spelling.Spelling.below.Goals as goal

pub returns-clause-names : goal.returns-clause-names
returns-clause-names c =
    spelled-below c.args.self.now.cursors c.args.self.now.first (record { layer = c.args.layer; dir = Some c.args.dir; names = c.args.names }) c.requires.some (omega (arith, c.requires.row.sized, c.requires.row.within))
