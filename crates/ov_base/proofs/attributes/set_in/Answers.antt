use Rattle.std.proofs.Common.{◌≡◌, List, ℕ, Some, None, position, sym, ap, ◌∙◌, true≢false}
use Rattle.std.specs.Prelude.{is_some}
use Rattle.ov_base.proofs.UserPlaces.{is_named, value-absent, set-found, set-absent}
use Rattle.ov_base.proofs.attributes.set_in.Goals as goal

pub returns-in_err-push-in-None-clause-succeeds : goal.returns-in_err-push-in-None-clause-succeeds
returns-in_err-push-in-None-clause-succeeds c there =
    let absent : position (is_named c.args.name) c.args.values.now.items ≡ None =
    ap (λ (xs : List (List ℕ × List ℕ)). position (is_named c.args.name) xs) (sym c.as_slice.ensures.value)
    ∙ ap (λ (n : List ℕ). position (is_named n) c.as_slice.result.now) (sym c.as_slice-2.ensures)
    ∙ sym c.in-None.ensures in
    absurd (true≢false (sym there ∙ ap is_some (value-absent c.args.values.now.items c.args.name absent)))

pub returns-in-Some-clause-ok : goal.returns-in-Some-clause-ok
returns-in-Some-clause-ok c =
    let found : position (is_named c.args.name) c.args.values.now.items ≡ Some c.in-Some.place =
    ap (λ (xs : List (List ℕ × List ℕ)). position (is_named c.args.name) xs) (sym c.as_slice.ensures.value)
    ∙ ap (λ (n : List ℕ). position (is_named n) c.as_slice.result.now) (sym c.as_slice-2.ensures)
    ∙ sym c.in-Some.ensures in
    set-found c.args.values.now.items c.args.name c.args.value c.in-Some.place c.index_mut.result.now found c.index_mut.ensures.value

pub returns-in_ok-push-in-None-clause-ok : goal.returns-in_ok-push-in-None-clause-ok
returns-in_ok-push-in-None-clause-ok c =
    let absent : position (is_named c.args.name) c.args.values.now.items ≡ None =
    ap (λ (xs : List (List ℕ × List ℕ)). position (is_named c.args.name) xs) (sym c.as_slice.ensures.value)
    ∙ ap (λ (n : List ℕ). position (is_named n) c.as_slice.result.now) (sym c.as_slice-2.ensures)
    ∙ sym c.in-None.ensures in
    c.in_ok-push-in-None.ensures.items ∙ set-absent c.args.values.now.items c.args.name c.args.value absent
