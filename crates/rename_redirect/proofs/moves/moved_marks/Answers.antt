use Rattle.std.proofs.Common.{sym, ◌∙◌}
use Rattle.std.proofs.lemmas.Bool.{false≢true}
use Rattle.rename_redirect.proofs.moves.moved_marks.Goals as goal

pub returns-then-is_base-clause-when_not : goal.returns-then-is_base-clause-when_not
returns-then-is_base-clause-when_not c = λ h.
    absurd (false≢true (sym h ∙ sym (c.is_base.ensures c.args.layers.now c.args.old.now c.requires) ∙ c.if-is_base.true))
