use Rattle.std.proofs.Common.{◌≡◌, ◌<◌, Some, Option, ap, ◌∙◌, subst, arith, length, map}
use Rattle.std.specs.Prelude.{slice_get, IfSome}
use Rattle.locked_history.specs.declared.entry.Entry.{Entry}
use Rattle.locked_history.specs.Claims.{Claim}
use Rattle.locked_history.specs.Entries.{entry_in}
use Rattle.locked_history.proofs.Standing.{stands_at}
use Rattle.locked_history.proofs.receipt.Receipt.stand.Goals as goal

pub returns-clause-stands : goal.returns-clause-stands
returns-clause-stands g c =
    let kept = c.args.notes.now in
    let lent = c.index_mut-note.result.now in
    let p = subst (λ (o : Option Entry). IfSome o (λ x. IfSome lent.known (λ y. y ≡ x))) (ap (λ n. n.known) c.again-theirs.ensures.1 ∙ c.self.invariant.0.known) c.compare.ensures.1 in
    let within : c.self.inside.place < length kept.items = omega (arith, ap (λ (r : Claim). r.place) c.self.view_is, kept.ok.0) in
    subst (λ (r : Claim). slice_get (map (λ n. entry_in n.known) kept.items) r.place ≡ Some r.entry) c.self.view_is (stands_at (λ n. n.known) kept.items c.self.inside.place lent (entry_in c.self.inside.note.known) c.requires.known within c.index_mut-note.ensures.value p)
