use Rattle.std.proofs.Common.{subst}
use Rattle.merged_lookup.specs.Merged.{IsTopmost}
use Rattle.rename_redirect.proofs.seen.answer_in.Goals as goal

pub found_in-requires-clause-top : goal.found_in-requires-clause-top
found_in-requires-clause-top c = subst (IsTopmost c.args.layers.now c.args.path.now) c.in-Some.is c.requires.top

pub returns-in-None : goal.returns-in-None
returns-in-None c = subst (IsTopmost c.args.layers.now c.args.path.now) c.in-None.is c.requires.top
