use Rattle.merged_lookup.specs.Spelling.{names_of}
use Rattle.merged_lookup.proofs.Passing.{crossed-end}
use Rattle.merged_lookup.proofs.crossing.cross.Goals as goal

pub returns-clause-dir : goal.returns-clause-dir
returns-clause-dir c = (crossed-end c.args.layer.now (names_of c.args.spelling.now) (names_of c.below.result) c.names.crossing.dir c.names.crossing.cut (names_of c.names.crossing.next) (names_of c.names.rest) c.below.ensures.names c.in_default.ensures.names c.names.invariant.same).dir

pub returns-clause-cut : goal.returns-clause-cut
returns-clause-cut c = (crossed-end c.args.layer.now (names_of c.args.spelling.now) (names_of c.below.result) c.names.crossing.dir c.names.crossing.cut (names_of c.names.crossing.next) (names_of c.names.rest) c.below.ensures.names c.in_default.ensures.names c.names.invariant.same).cut

pub returns-clause-next : goal.returns-clause-next
returns-clause-next c = (crossed-end c.args.layer.now (names_of c.args.spelling.now) (names_of c.below.result) c.names.crossing.dir c.names.crossing.cut (names_of c.names.crossing.next) (names_of c.names.rest) c.below.ensures.names c.in_default.ensures.names c.names.invariant.same).next
