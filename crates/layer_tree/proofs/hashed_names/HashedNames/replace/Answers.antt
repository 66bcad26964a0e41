use Rattle.std.proofs.Common.{◌≡◌, Some, None, is_some, IsSome, sym, ap, ◌∙◌, true≢false}
use Rattle.std.specs.Option.{option_copied_mut}
use Rattle.std.specs.FinMap as map
use Rattle.layer_tree.specs.Table.{Table, entry_in}
use Rattle.layer_tree.proofs.TableLemmas.{entries_of, get-entries_of, entries_of_insert}
use Rattle.layer_tree.proofs.hashed_names.HashedNames.replace.Goals as goal

pub unreachable-requires : goal.unreachable-requires
unreachable-requires c =
    let none : None ≡ entry_in c.args.self.now c.args.name.now = ap option_copied_mut (sym c.in-None.is) ∙ c.get_mut.ensures.value ∙ sym (get-entries_of _ _) ∙ ap (λ (t : Table). entry_in t c.args.name.now) c.self.view_is in
    true≢false (sym (ap is_some none ∙ c.requires))

pub returns-clause-value : goal.returns-clause-value
returns-clause-value c =
    ap Some c.replace.ensures.value ∙ ap option_copied_mut (sym c.in-Some.is) ∙ c.get_mut.ensures.value ∙ sym (get-entries_of _ _) ∙ ap (λ (t : Table). entry_in t c.args.name.now) c.self.view_is

pub returns-clause-entries : goal.returns-clause-entries
returns-clause-entries c =
    let found : IsSome (option_copied_mut c.get_mut.result) = ap (λ o. is_some (option_copied_mut o)) c.in-Some.is in
    let written = (c.get_mut.follows.holds c.replace.new.dest).3 (sym (ap is_some c.get_mut.ensures.value) ∙ found) in
    entries_of_insert c.self.inside.table.entries _ c.args.name.now c.replace.new.dest written.0
    ∙ ap (map.insert (entries_of c.self.inside.table.entries) c.args.name.now) c.replace.ensures.after
    ∙ ap (λ (t : Table). map.insert t.entries c.args.name.now c.args.entry) c.self.view_is
