use Rattle.std.proofs.Common.{List, ℕ, length, drop, add-one, sym, ap, ◌∙◌, ◌≤◌, arith}
use Rattle.std.proofs.lemmas.List.{drop_all}
use Rattle.std.specs.Map.{lookup}
use Rattle.layer_tree.specs.Table.{Table, entry_in}
use Rattle.layer_tree.specs.declared.name_table.Entry.{Entry}
use Rattle.layer_tree.proofs.TableLemmas.{get-entries_of, name_eq, lookup-here, lookup-past}
use Rattle.layer_tree.proofs.hashed_names.HashedNames.find.Goals as goal

pub returns-then-eq : goal.returns-then-eq
returns-then-eq c =
    sym (lookup-here c.as_slice-entries.result c.loop-index.index c.args.name.now (c.in_ok-other.other.now, c.in_ok-other.entry.now) (sym c.in_ok-other.ensures.entry) (sym c.eq.ensures ∙ c.if-eq.true))
    ∙ c.loop-index.invariant
    ∙ ap (λ (es : List (List ℕ × Entry)). lookup (name_eq c.args.name.now) es) c.as_slice-entries.ensures.entries
    ∙ sym (get-entries_of c.self.inside.table.entries c.args.name.now)
    ∙ ap (λ (t : Table). entry_in t c.args.name.now) c.self.view_is

pub loop-index-preserved : goal.loop-index-preserved
loop-index-preserved c =
    ap (λ i. lookup (name_eq c.args.name.now) (drop i c.as_slice-entries.result)) (add-one c.loop-index.index)
    ∙ sym (lookup-past c.as_slice-entries.result c.loop-index.index c.args.name.now (c.in_ok-other.other.now, c.in_ok-other.entry.now) (sym c.in_ok-other.ensures.entry) (sym c.eq.ensures ∙ c.if-eq.false))
    ∙ c.loop-index.invariant

pub returns : goal.returns
returns c =
    let all : length c.as_slice-entries.result ≤ c.loop-index.index = omega (arith, c.loop-index-test.false, c.len-index-end.ensures) in
    sym (ap (lookup (name_eq c.args.name.now)) (drop_all c.loop-index.index c.as_slice-entries.result all))
    ∙ c.loop-index.invariant
    ∙ ap (λ (es : List (List ℕ × Entry)). lookup (name_eq c.args.name.now) es) c.as_slice-entries.ensures.entries
    ∙ sym (get-entries_of c.self.inside.table.entries c.args.name.now)
    ∙ ap (λ (t : Table). entry_in t c.args.name.now) c.self.view_is
