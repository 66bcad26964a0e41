use Rattle.std.proofs.Common.{Some, None, sym, ap, ◌∙◌}
use Rattle.object_table.specs.declared.dentry.Unlisted.{Unlisted}
use Rattle.object_table.specs.declared.dentry.Unlisted.TheVariants as unlisted
use Rattle.object_table.proofs.Laws.{attributes-read}
use Rattle.object_table.proofs.tree.ObjectTree.removed.Goals as goal

pub returns-in-Some-Removed : goal.returns-in-Some-Removed
returns-in-Some-Removed c = attributes-read _ (Some (unlisted.Removed _)) (ap (λ (x : Unlisted). Some x) (sym c.in-Some-Removed.field-0-is) ∙ c.in-Some-Removed.ensures)

pub returns-in-Some-Upper : goal.returns-in-Some-Upper
returns-in-Some-Upper c = attributes-read _ (Some (unlisted.Upper _)) (ap (λ (x : Unlisted). Some x) (sym c.in-Some-Upper.field-0-is) ∙ c.in-Some-Upper.ensures)

pub returns-in-Some-Nowhere : goal.returns-in-Some-Nowhere
returns-in-Some-Nowhere c = attributes-read _ (Some unlisted.Nowhere) (ap (λ (x : Unlisted). Some x) (sym c.in-Some-Nowhere.field-0-is) ∙ c.in-Some-Nowhere.ensures)

pub returns-in-None : goal.returns-in-None
returns-in-None c = attributes-read _ None c.in-None.ensures
