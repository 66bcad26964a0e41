use Rattle.std.proofs.Common.{length}
use Rattle.merged_lookup.proofs.cursor.+next_name.Given as goal

abbrev pub decreases-next_name : goal.decreases-next_name
decreases-next_name l = length l.row.now
