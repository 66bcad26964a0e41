use Rattle.std.proofs.Common.{true, ◌≡◌, ℕ, ◌<◌, ◌∷◌, ◌++◌, List, Option, ap, sym, refl, ◌∙◌, subst, reverse, length, arith, is_some}
use Rattle.std.proofs.lemmas.List.{reverse-reverse}
use Rattle.plain_model.specs.Layers.{Name, Path}
use Rattle.merged_lookup.specs.declared.kept.Kept.{Kept}
use Rattle.merged_lookup.specs.declared.layers.Layers.{Layers}
use Rattle.ov_base.specs.declared.place.Place.{Place}
use Rattle.merged_lookup.specs.Kept.{HandsDown, IsKept, topmost_over}
use Rattle.merged_lookup.specs.Merged.{layers_of, lowers_of, place_in, parent, way_fault, IsTopmost}
use Rattle.merged_lookup.specs.Passing.{holds_under}
use Rattle.merged_lookup.proofs.Keeping.{kept-stack, kept-way, kept-shown, some-lower, some-upper}
use Rattle.merged_lookup.proofs.layers.Layers.kept_topmost.Goals.{else-is_none-via-then-is_none+else-is_empty, else-is_none-via-else-is_none}
use Rattle.merged_lookup.proofs.layers.Layers.kept_topmost.Goals as goal

pub returns-clause-way : goal.returns-clause-way
returns-clause-way c =
    let l : Layers = c.args.self.now in
    let p : Path = reverse c.in_ok-name.parents.now in
    let n : Name = c.in_ok-name.name.now in
    let dir : Option ℕ = c.in_ok-dir.dir in
    let k : Kept = c.in_ok-kept.kept.now in
    let path : c.args.path.now ≡ n ∷ p = c.in_ok-name.ensures in
    let down : HandsDown l.upper p dir = subst (λ t. HandsDown t p dir) c.upper.ensures c.in_ok-dir.ensures in
    let kept : IsKept (lowers_of l) (n ∷ p) k =
    subst (λ q. IsKept (lowers_of l) q k) (ap reverse c.names.ensures ∙ reverse-reverse c.args.path.now ∙ path) c.in_ok-kept.ensures in
    let places : List Place = place_in 0 dir ++ k.directory.items in
    let some : 0 < length places =
    elim c.else-is_none.branch [
      | else-is_none-via-then-is_none+else-is_empty w ↦
          let lower : 0 < length k.directory.items = grind arith in
          some-lower dir k.directory.items lower
      | else-is_none-via-else-is_none w ↦
          let upper : is_some dir ≡ true = grind arith in
          some-upper dir k.directory.items upper
    ] in
    ap (λ q. way_fault (layers_of l) (parent q)) path
    ∙ kept-way l p places (kept-stack l p n dir k places down kept refl) some

pub returns-clause-topmost : goal.returns-clause-topmost
returns-clause-topmost c =
    let l : Layers = c.args.self.now in
    let p : Path = reverse c.in_ok-name.parents.now in
    let n : Name = c.in_ok-name.name.now in
    let dir : Option ℕ = c.in_ok-dir.dir in
    let k : Kept = c.in_ok-kept.kept.now in
    let path : c.args.path.now ≡ n ∷ p = c.in_ok-name.ensures in
    let down : HandsDown l.upper p dir = subst (λ t. HandsDown t p dir) c.upper.ensures c.in_ok-dir.ensures in
    let kept : IsKept (lowers_of l) (n ∷ p) k =
    subst (λ q. IsKept (lowers_of l) q k) (ap reverse c.names.ensures ∙ reverse-reverse c.args.path.now ∙ path) c.in_ok-kept.ensures in
    let shown : c.topmost_over.result ≡ topmost_over (holds_under l.upper dir n) k.shown =
    c.topmost_over.ensures ∙ ap (λ t. topmost_over (holds_under t dir n) k.shown) c.upper-2.ensures in
    subst (λ q. IsTopmost l q c.topmost_over.result) (sym path) (subst (IsTopmost l (n ∷ p)) (sym shown) (kept-shown l p n dir k down kept))
