use Rattle.std.proofs.Common.{sym, ap, ◌∙◌}
use Rattle.layer_tree.specs.Table.{Table, entry_in}
use Rattle.layer_tree.proofs.TableLemmas.{get-entries_of}
use Rattle.layer_tree.proofs.hashed_names.HashedNames.get.Goals as goal

pub returns : goal.returns
returns c = c.copied.ensures ∙ c.get.ensures.value ∙ sym (get-entries_of _ _) ∙ ap (λ (t : Table). entry_in t c.args.name.now) c.self.view_is
