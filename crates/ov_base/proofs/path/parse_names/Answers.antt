use Rattle.std.proofs.Common.{◌+◌, [], List, ℕ, take, drop, sym, ap, ◌∙◌, arith}
use Rattle.std.specs.List.{list_all}
use Rattle.ov_base.specs.declared.errno.Errno.TheVariants.{ENAMETOOLONG}
use Rattle.ov_base.specs.Paths.{pieces, path_below}
use Rattle.std.proofs.lemmas.List.{take_rest}
use Rattle.std.proofs.lemmas.List.Sums.{prefix_len-le-length}
use Rattle.ov_base.proofs.PlainLemmas.{is_plain, run-all}
use Rattle.ov_base.proofs.PathLemmas.{first-at, whole-at, pieces-head, below-refused, below-next}
use Rattle.ov_base.proofs.PathLemmas.{below-Err, run-too-long, run-to-nul, run-to-slash}
use Rattle.ov_base.proofs.path.parse_names.Goals as goal

pub returns-then-end-gt-NAME_MAX : goal.returns-then-end-gt-NAME_MAX
returns-then-end-gt-NAME_MAX c =
    let long = run-too-long c.names.rest.now (omega arith) in
    sym (below-refused c.names.path c.names.rest.now ENAMETOOLONG long.0 long.1) ∙ c.names.invariant

pub of_plain-requires-clause-plain : goal.of_plain-requires-clause-plain
of_plain-requires-clause-plain c = ap (λ k. list_all is_plain (take k c.names.rest.now))
    c.plain_run-end.ensures ∙ run-all is_plain c.names.rest.now

pub returns-then-has_nul_at : goal.returns-then-has_nul_at
returns-then-has_nul_at c =
    let none = run-to-nul c.names.rest.now c.plain_run-end.result c.plain_run-end.ensures
    (sym c.has_nul_at.ensures ∙ c.if-has_nul_at.true) in
    sym (below-refused c.names.path c.names.rest.now c.first_fault.result none
    (sym c.first_fault.ensures)) ∙ c.names.invariant

pub returns-in-Err : goal.returns-in-Err
returns-in-Err c =
    let found = run-to-slash c.names.rest.now c.plain_run-end.result c.plain_run-end.ensures
    (sym c.has_nul_at.ensures ∙ c.if-has_nul_at.false) in
    let head = pieces-head c.names.rest.now c.plain_run-end.result found in
    sym (below-Err _ _ _ _ _ (sym c.in-Err.is ∙ c.in_ok-name.ensures.told))
    ∙ ap (path_below c.names.path) (sym head.1) ∙ c.names.invariant

pub returns-then-end-rest : goal.returns-then-end-rest
returns-then-end-rest c =
    let found = run-to-slash c.names.rest.now c.plain_run-end.result c.plain_run-end.ensures
    (sym c.has_nul_at.ensures ∙ c.if-has_nul_at.false) in
    let whole = whole-at c.names.rest.now c.plain_run-end.result found (omega arith) in
    let on = below-next c.names.path c.in-Ok.name (take c.plain_run-end.result c.names.rest.now) []
    (sym c.in-Ok.is ∙ c.in_ok-name.ensures.told) in
    ap (λ (p : List (List ℕ)). path_below p []) c.in_ok-push-in-Ok.ensures.ok ∙ sym on
    ∙ ap (path_below c.names.path) (sym whole) ∙ c.names.invariant

pub names-preserved : goal.names-preserved
names-preserved c =
    let found = run-to-slash c.names.rest.now c.plain_run-end.result c.plain_run-end.ensures
    (sym c.has_nul_at.ensures ∙ c.if-has_nul_at.false) in
    let first = first-at c.names.rest.now c.plain_run-end.result found
    (omega (arith, prefix_len-le-length is_plain c.names.rest.now)) in
    let on = below-next c.names.path c.in-Ok.name (take c.plain_run-end.result c.names.rest.now)
    (pieces (drop (c.plain_run-end.result + 1) c.names.rest.now))
    (sym c.in-Ok.is ∙ c.in_ok-name.ensures.told) in
    ap (λ (rest : List ℕ). path_below c.push.new.self (pieces rest))
    (take_rest c.names.rest.now (c.plain_run-end.result + 1))
    ∙ ap (λ (p : List (List ℕ)). path_below p
    (pieces (drop (c.plain_run-end.result + 1) c.names.rest.now))) c.in_ok-push-in-Ok.ensures.ok
    ∙ sym on ∙ ap (path_below c.names.path) (sym first) ∙ c.names.invariant
