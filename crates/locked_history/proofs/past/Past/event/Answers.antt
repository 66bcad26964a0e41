use Rattle.std.proofs.Common.{ap, arith, ◌≡◌, ◌<◌, get_or, length, map, subst, sym, vec_len}
use Rattle.std.proofs.lemmas.List.{length-map}
use Rattle.locked_history.specs.Entries.{entry_in}
use Rattle.locked_history.proofs.Standing.{all_some, cell_at, entry_at, known_at, set_here}
use Rattle.locked_history.proofs.past.Past.event.Goals as goal

pub invariant_of-result : goal.invariant_of-result
invariant_of-result g c =
    let s = c.args.self.now in
    let xs = s.notes.items in
    let x = c.again-known.result in
    let n = length-map xs (λ n. entry_in n.known) in
    let lt : c.args.place < length xs = omega (arith, c.requires, n) in
    let at : x ≡ get_or xs c.args.place x = subst (λ y. y ≡ get_or xs c.args.place y) (sym c.again-known.ensures.1) c.index_mut-note.ensures.value in (
      record {
        within = omega (arith, lt, s.within, s.notes.ok.0);
        cell = cell_at (λ n. n.cell) xs g.N.MountName.cells (vec_len s.notes) c.args.place x s.names (sym s.notes.ok.0) (omega (arith, lt, s.notes.ok.0)) at;
        known = known_at (λ n. n.known) xs c.args.place x (all_some (λ n. n.known) xs s.known) lt at;
      },
      tt,
    )

pub returns-clause-entry : goal.returns-clause-entry
returns-clause-entry g c =
    let xs = c.args.self.now.notes.items in
    let x = c.again-known.result in
    let n = length-map xs (λ n. entry_in n.known) in
    let lt : c.args.place < length xs = omega (arith, c.requires, n) in
    let at : x ≡ get_or xs c.args.place x = subst (λ y. y ≡ get_or xs c.args.place y) (sym c.again-known.ensures.1) c.index_mut-note.ensures.value in
    entry_at (λ n. entry_in n.known) xs c.args.place x lt at

pub returns-clause-entries : goal.returns-clause-entries
returns-clause-entries g c =
    let xs = c.args.self.now.notes.items in
    let y = c.again-known.new.self in
    let at : y ≡ get_or xs c.args.place y = subst (λ z. z ≡ get_or xs c.args.place z) (sym c.again-known.ensures.0) c.index_mut-note.ensures.value in
    ap (map (λ n. entry_in n.known)) (set_here xs c.args.place y at)
