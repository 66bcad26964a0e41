use Rattle.mount_calls.proofs.Keys.{look-seen}
use Rattle.mount_calls.proofs.RenameJudged.{
  judged-allowed,
  judged-one,
  judged-refused,
  judged-stays,
}
use Rattle.mount_calls.proofs.mount.Mount.judge_rename.Goals as goal

pub movable-requires-clause-from : goal.movable-requires-clause-from
movable-requires-clause-from c = look-seen c.args.self.now.layers c.args.old.now c.args.from.now
    c.requires.from

pub movable-requires-clause-onto : goal.movable-requires-clause-onto
movable-requires-clause-onto c = look-seen c.args.self.now.layers c.args.new.now c.args.onto.now
    c.requires.onto

pub returns-clause-refused : goal.returns-clause-refused
returns-clause-refused c = judged-refused c.args.self.now c.args.old.now c.args.new.now
    c.movable.result c.movable.ensures.refused

pub returns-clause-allowed : goal.returns-clause-allowed
returns-clause-allowed c =
    judged-allowed c.args.self.now c.args.old.now c.args.new.now c.movable.result
    c.movable.ensures.one c.movable.ensures.fine c.movable.ensures.moves

pub returns-clause-one : goal.returns-clause-one
returns-clause-one c = judged-one c.args.self.now c.args.old.now c.args.new.now c.movable.result
    c.movable.ensures.one

pub returns-clause-stays : goal.returns-clause-stays
returns-clause-stays c =
    judged-stays c.args.self.now c.args.old.now c.args.new.now c.movable.result
    c.movable.ensures.one c.movable.ensures.fine
