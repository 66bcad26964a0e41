use Rattle.std.proofs.Common.{sym, ◌∙◌}
use Rattle.rename_redirect.proofs.Judged.{may-move, fault-fit, fault-walk, fault-way, rooted, two-objects}
use Rattle.make_remove.proofs.Sights.{seen-directory, seen-refused, seen-top, seen-way}
use Rattle.rename_redirect.proofs.Sights.{below-root}
use Rattle.rename_redirect.proofs.renames.movable.Goals as goal

pub returns-in-Err-clause-refused : goal.returns-in-Err-clause-refused
returns-in-Err-clause-refused c = λ full tells.
    let l = c.args.layers.now in
    let p = c.args.old.now in
    let q = c.args.new.now in
    let first = rooted p c.names.result.now c.names.ensures c.if-is_empty.ensures in
    let second = rooted q c.names-else-is_empty.result.now c.names-else-is_empty.ensures c.if-is_empty-2.ensures in
    fault-walk l c.args.redirects p q first second full c.in-Err.errno (c.in-Err.ensures.refused l p c.requires.from)

pub returns-in-Err-onto-clause-refused : goal.returns-in-Err-onto-clause-refused
returns-in-Err-onto-clause-refused c = λ full tells.
    let l = c.args.layers.now in
    let p = c.args.old.now in
    let q = c.args.new.now in
    let first = rooted p c.names.result.now c.names.ensures c.if-is_empty.ensures in
    let second = rooted q c.names-else-is_empty.result.now c.names-else-is_empty.ensures c.if-is_empty-2.ensures in
    fault-way l c.args.redirects p q first second full c.in-Err-onto.errno (c.in-Ok.ensures.fine l p c.requires.from) (seen-refused l q c.args.onto.now c.in-Err-onto.errno c.in-Err-onto.is c.requires.onto)

pub found_in-found-requires-clause-directory : goal.found_in-found-requires-clause-directory
found_in-found-requires-clause-directory c = c.in-Ok.ensures.directory c.args.layers.now c.args.old.now c.requires.from

pub found_in-found-requires-clause-top : goal.found_in-found-requires-clause-top
found_in-found-requires-clause-top c = c.in-Ok.ensures.top c.args.layers.now c.args.old.now c.requires.from

pub found_in-found-requires-clause-below : goal.found_in-found-requires-clause-below
found_in-found-requires-clause-below c = below-root c.args.old.now (rooted c.args.old.now c.names.result.now c.names.ensures c.if-is_empty.ensures)

pub answer_in-target-requires-clause-directory : goal.answer_in-target-requires-clause-directory
answer_in-target-requires-clause-directory c = seen-directory c.args.layers.now c.args.new.now c.args.onto.now (c.in-Ok-onto.onto, c.in-Ok-onto.target) c.in-Ok-onto.is c.requires.onto

pub answer_in-target-requires-clause-top : goal.answer_in-target-requires-clause-top
answer_in-target-requires-clause-top c = seen-top c.args.layers.now c.args.new.now c.args.onto.now (c.in-Ok-onto.onto, c.in-Ok-onto.target) c.in-Ok-onto.is c.requires.onto

pub answer_in-target-requires-clause-below : goal.answer_in-target-requires-clause-below
answer_in-target-requires-clause-below c = below-root c.args.new.now (rooted c.args.new.now c.names-else-is_empty.result.now c.names-else-is_empty.ensures c.if-is_empty-2.ensures)

pub returns-in-Ok-fits-clause-moves : goal.returns-in-Ok-fits-clause-moves
returns-in-Ok-fits-clause-moves c =
    let l = c.args.layers.now in
    let p = c.args.old.now in
    let q = c.args.new.now in
    let found = c.found_in-found.ensures in
    let answer = c.answer_in-target.ensures in
    let first = rooted p c.names.result.now c.names.ensures c.if-is_empty.ensures in
    let second = rooted q c.names-else-is_empty.result.now c.names-else-is_empty.ensures c.if-is_empty-2.ensures in
    let walk = c.in-Ok.ensures.fine l p c.requires.from in
    let way = seen-way l q c.args.onto.now (c.in-Ok-onto.onto, c.in-Ok-onto.target) c.in-Ok-onto.is c.requires.onto in
    let two = two-objects l p q c.if-same_path.ensures (c.if-same_inode.ensures l p q found answer) in
    let beside = sym c.if-is_below.ensures in
    may-move l c.args.redirects p q first second walk way two beside _
    (c.in-Ok.ensures.directory l p c.requires.from) (c.in-Ok.ensures.top l p c.requires.from)
    (seen-directory l q c.args.onto.now (c.in-Ok-onto.onto, c.in-Ok-onto.target) c.in-Ok-onto.is
    c.requires.onto)
    (c.in-Ok-fits.ensures.fits p q found answer)

pub returns-in-Err-fits-clause-refused : goal.returns-in-Err-fits-clause-refused
returns-in-Err-fits-clause-refused c = λ full tells.
    let l = c.args.layers.now in
    let p = c.args.old.now in
    let q = c.args.new.now in
    let found = c.found_in-found.ensures in
    let answer = c.answer_in-target.ensures in
    let first = rooted p c.names.result.now c.names.ensures c.if-is_empty.ensures in
    let second = rooted q c.names-else-is_empty.result.now c.names-else-is_empty.ensures c.if-is_empty-2.ensures in
    let walk = c.in-Ok.ensures.fine l p c.requires.from in
    let way = seen-way l q c.args.onto.now (c.in-Ok-onto.onto, c.in-Ok-onto.target) c.in-Ok-onto.is c.requires.onto in
    let two = two-objects l p q c.if-same_path.ensures (c.if-same_inode.ensures l p q found answer) in
    let beside = sym c.if-is_below.ensures in
    fault-fit l c.args.redirects p q first second walk way two beside full ∙ c.in-Err-fits.ensures.refused p q found answer full tells
