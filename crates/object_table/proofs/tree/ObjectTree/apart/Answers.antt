use Rattle.std.proofs.Common.{sym, subst, ap, ◌∙◌}
use Rattle.slab.specs.Slab.{get}
use Rattle.object_table.specs.Dentries.{Dentries, IsTree}
use Rattle.object_table.proofs.Laws.{unlisted-read, opened-there}
use Rattle.object_table.proofs.tree.ObjectTree.apart.Goals as goal

pub returns-in_err-get : goal.returns-in_err-get
returns-in_err-get c =
    absurd (opened-there c.args.self.now c.args.number c.requires (ap (λ (t : Dentries). get t c.args.number) (sym c.self.view_is) ∙ sym c.in_err-get.ensures))

pub returns : goal.returns
returns c =
    c.apart.ensures ∙ unlisted-read c.args.self.now c.self.inside.pending c.args.number c.in_ok-get.field-0.now (subst (λ (t : Dentries). IsTree t c.self.inside.pending) c.self.view_is c.self.invariant) c.requires (ap (λ (t : Dentries). get t c.args.number) (sym c.self.view_is) ∙ sym c.in_ok-get.ensures)
