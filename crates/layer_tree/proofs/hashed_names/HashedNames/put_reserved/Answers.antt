use Rattle.std.proofs.Common.{◌≡◌, ◌<◌, None, sym, ap, subst, ◌∙◌, true≢false}
use Rattle.std.specs.HashMap.{spare as places_of}
use Rattle.std.specs.FinMap as map
use Rattle.layer_tree.specs.Table.{Table, entry_in}
use Rattle.layer_tree.proofs.TableLemmas.{get-entries_of, entries_of_insert}
use Rattle.layer_tree.proofs.hashed_names.HashedNames.put_reserved.Goals as goal

pub returns-clause-entries : goal.returns-clause-entries
returns-clause-entries c = entries_of_insert c.self.inside.table.entries _ c.args.name c.args.entry (c.in-Ok.ensures.updates.0) ∙ ap (λ (t : Table). map.insert t.entries c.args.name c.args.entry) c.self.view_is

pub unreachable-requires : goal.unreachable-requires
unreachable-requires c =
    let absent : entry_in c.args.self.now c.args.name ≡ None = sym (ap (λ (t : Table). entry_in t c.args.name) c.self.view_is) ∙ get-entries_of _ _ ∙ c.in-Err.ensures.absent in
    let spare : 0 < c.args.self.now.spare = c.requires absent in
    let places : 0 < places_of c.self.inside.table = subst (λ (t : Table). 0 < t.spare) (sym c.self.view_is) spare in
    true≢false (sym (c.in-Err.ensures.succeeds places))

pub returns-clause-value : goal.returns-clause-value
returns-clause-value c = c.in-Ok.ensures.old ∙ sym (get-entries_of _ _) ∙ ap (λ (t : Table). entry_in t c.args.name) c.self.view_is
