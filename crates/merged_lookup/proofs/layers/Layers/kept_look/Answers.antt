use Rattle.std.proofs.Common.{◌≡◌, ℕ, ◌<◌, ◌∷◌, List, Option, ap, sym, ◌∙◌, subst, reverse, length, arith}
use Rattle.std.proofs.lemmas.List.{reverse-reverse}
use Rattle.plain_model.specs.Layers.{Name, Path}
use Rattle.merged_lookup.specs.declared.kept.Kept.{Kept}
use Rattle.merged_lookup.specs.declared.layers.Layers.{Layers}
use Rattle.ov_base.specs.declared.place.Place.{Place}
use Rattle.merged_lookup.specs.Kept.{HandsDown, IsKept, topmost_over}
use Rattle.merged_lookup.specs.Merged.{layers_of, lowers_of, places_at, parent, way_fault, IsTopmost}
use Rattle.merged_lookup.specs.Passing.{holds_under}
use Rattle.merged_lookup.proofs.Keeping.{kept-few, kept-stack, kept-way, kept-shown}
use Rattle.merged_lookup.proofs.layers.Layers.kept_look.Goals as goal

pub places_over-places-requires : goal.places_over-places-requires
places_over-places-requires c =
    let l : Layers = c.args.self.now in
    let p : Path = reverse c.in_ok-name.parents.now in
    let n : Name = c.in_ok-name.name.now in
    let dir : Option ℕ = c.in_ok-dir.dir in
    let k : Kept = c.in_ok-kept.kept.now in
    let path : c.args.path.now ≡ n ∷ p = c.in_ok-name.ensures in
    let kept : IsKept (lowers_of l) (n ∷ p) k =
    subst (λ q. IsKept (lowers_of l) q k) (ap reverse c.names.ensures ∙ reverse-reverse c.args.path.now ∙ path) c.in_ok-kept.ensures in
    record { room = omega (arith, kept-few l p n k kept) }

pub returns-clause-way : goal.returns-clause-way
returns-clause-way c =
    let l : Layers = c.args.self.now in
    let p : Path = reverse c.in_ok-name.parents.now in
    let n : Name = c.in_ok-name.name.now in
    let dir : Option ℕ = c.in_ok-dir.dir in
    let k : Kept = c.in_ok-kept.kept.now in
    let path : c.args.path.now ≡ n ∷ p = c.in_ok-name.ensures in
    let down : HandsDown l.upper p dir = subst (λ t. HandsDown t p dir) c.upper.ensures c.in_ok-dir.ensures in
    let kept : IsKept (lowers_of l) (n ∷ p) k =
    subst (λ q. IsKept (lowers_of l) q k) (ap reverse c.names.ensures ∙ reverse-reverse c.args.path.now ∙ path) c.in_ok-kept.ensures in
    let places : List Place = c.places_over-places.result.items in
    let some : 0 < length places = grind arith in
    ap (λ q. way_fault (layers_of l) (parent q)) path
    ∙ kept-way l p places (kept-stack l p n dir k places down kept c.places_over-places.ensures) some

pub returns-clause-directory : goal.returns-clause-directory
returns-clause-directory c =
    let l : Layers = c.args.self.now in
    let p : Path = reverse c.in_ok-name.parents.now in
    let n : Name = c.in_ok-name.name.now in
    let dir : Option ℕ = c.in_ok-dir.dir in
    let k : Kept = c.in_ok-kept.kept.now in
    let path : c.args.path.now ≡ n ∷ p = c.in_ok-name.ensures in
    let down : HandsDown l.upper p dir = subst (λ t. HandsDown t p dir) c.upper.ensures c.in_ok-dir.ensures in
    let kept : IsKept (lowers_of l) (n ∷ p) k =
    subst (λ q. IsKept (lowers_of l) q k) (ap reverse c.names.ensures ∙ reverse-reverse c.args.path.now ∙ path) c.in_ok-kept.ensures in
    record { places = kept-stack l p n dir k c.places_over-places.result.items down kept c.places_over-places.ensures ∙ ap (λ q. places_at 0 (layers_of l) (parent q)) (sym path) }

pub returns-clause-topmost : goal.returns-clause-topmost
returns-clause-topmost c =
    let l : Layers = c.args.self.now in
    let p : Path = reverse c.in_ok-name.parents.now in
    let n : Name = c.in_ok-name.name.now in
    let dir : Option ℕ = c.in_ok-dir.dir in
    let k : Kept = c.in_ok-kept.kept.now in
    let path : c.args.path.now ≡ n ∷ p = c.in_ok-name.ensures in
    let down : HandsDown l.upper p dir = subst (λ t. HandsDown t p dir) c.upper.ensures c.in_ok-dir.ensures in
    let kept : IsKept (lowers_of l) (n ∷ p) k =
    subst (λ q. IsKept (lowers_of l) q k) (ap reverse c.names.ensures ∙ reverse-reverse c.args.path.now ∙ path) c.in_ok-kept.ensures in
    let shown : c.topmost_over-shown.result ≡ topmost_over (holds_under l.upper dir n) k.shown =
    c.topmost_over-shown.ensures ∙ ap (λ t. topmost_over (holds_under t dir n) k.shown) c.upper-2.ensures in
    subst (λ q. IsTopmost l q c.topmost_over-shown.result) (sym path) (subst (IsTopmost l (n ∷ p)) (sym shown) (kept-shown l p n dir k down kept))
