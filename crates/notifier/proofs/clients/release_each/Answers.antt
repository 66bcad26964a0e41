use Rattle.std.proofs.Common.{◌≡◌, ◌+◌, ◌-◌, ◌<◌, ℕ, cond, [], ◌∷◌, ◌++◌, take, sym, ap, subst, ◌∙◌, arith}
use Rattle.std.proofs.lemmas.List.{take_more, take_all}
use Rattle.object_table.specs.Objects.{holders_of}
use Rattle.watch_table.specs.Listening.{is_on}
use Rattle.notifier.proofs.Muting.{fewer-left, none-before, on-own, one-less}
use Rattle.notifier.proofs.clients.release_each.Goals as goal

pub loop-watch-init : goal.loop-watch-init
loop-watch-init c = ((λ n. omega arith), (λ n spot is. is))

pub release-requires : goal.release-requires
release-requires c =
    let ws = c.args.ended.now in
    let o = c.object.result in
    let i = c.loop-watch.watch-index in
    let is = sym (ap (λ w. w.node) c.watch-item.is) ∙ c.object.ensures in
    let held = c.requires.held o (on-own ws i o c.watch-item.result c.loop-watch-test.true is) in
    let none = ap (λ b. cond {A = ℕ} b 1 0) (none-before ws i o c.watch-item.result c.requires.apart c.loop-watch-test.true is) in
    let so_far = c.loop-watch.invariant.0 o in
    omega arith

pub loop-watch-preserved : goal.loop-watch-preserved
loop-watch-preserved c =
    let ws = c.args.ended.now in
    let o = c.object.result in
    let i = c.loop-watch.watch-index in
    let w = c.watch-item.result in
    let is = sym (ap (λ w. w.node) c.watch-item.is) ∙ c.object.ensures in
    let more : take (i + 1) ws ≡ take i ws ++ w ∷ [] = take_more ws i w c.loop-watch-test.true
    ∙ ap (λ x. take i ws ++ x ∷ []) (sym c.watch-item.is) in
    let off = none-before ws i o w c.requires.apart c.loop-watch-test.true is in
    let seen = c.requires.held o (on-own ws i o w c.loop-watch-test.true is) in
    let none = ap (λ b. cond {A = ℕ} b 1 0) off in
    let so_far = c.loop-watch.invariant.0 o in
    let held : 0 < holders_of c.loop-watch.objects o = omega arith in
    let let_go = one-less c.args.objects.now c.loop-watch.objects c.release.new.self (take i ws) w o c.object.ensures off held
    c.loop-watch.invariant.0 c.release.ensures.releases in (
      (λ n. subst (λ vs. holders_of c.release.new.self n + cond (is_on n vs) 1 0 ≡ holders_of c.args.objects.now n) (sym more) (let_go n)),
      (λ n spot at. c.loop-watch.invariant.1 n spot (fewer-left c.loop-watch.objects c.release.new.self o (holders_of c.loop-watch.objects o - 1) c.release.ensures.releases n spot at)),
    )

pub returns-clause-held : goal.returns-clause-held
returns-clause-held c n =
    let ws = c.args.ended.now in
    let all = take_all c.loop-watch.watch-index ws (omega arith) in
    subst (λ vs. holders_of c.loop-watch.objects n + cond (is_on n vs) 1 0 ≡ holders_of c.args.objects.now n) all (c.loop-watch.invariant.0 n)

pub returns-clause-fewer : goal.returns-clause-fewer
returns-clause-fewer c = c.loop-watch.invariant.1
