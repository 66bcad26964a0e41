-- The places of a path, layer by layer.
use Rattle.std.proofs.Common.{◌≡◌, ℕ, zero, suc, ◌+◌, ◌≤◌, ◌∷◌, [], ◌++◌, List, Bool, true, false, Option, None, Some, refl, sym, ap, ◌∙◌, add-one, append_assoc, length, length-append, drop, map, slice_get, arith}
use Rattle.std.proofs.lemmas.List.{append-nil}
use Rattle.plain_model.specs.Layers.{Path, Object, Directory, Named, Whiteout, held, below, cuts}
use Rattle.layer_tree.specs.Tree.{Tree, layer_of}
use Rattle.ov_base.specs.declared.place.Place.{Place}
use Rattle.merged_lookup.specs.Merged.{level, place_in, unless_cut, places_at}
use Rattle.merged_lookup.specs.Descent.{places_from}
use Rattle.merged_lookup.specs.Passing.{directory_key}

pub level-place : (i : ℕ) (o : Option Object) (s : List Place) → level i o s ≡ place_in i (directory_key o) ++ s
level-place i None s = refl
level-place i (Some Whiteout) s = refl
level-place i (Some (Named k)) s = refl
level-place i (Some (Directory k a b r)) s = refl

-- the places with that of the layer's directory
pub added-some : (done : List Place) (i : ℕ) (d : Option ℕ) (k : ℕ) (more : List Place) → d ≡ Some k → more ≡ done ++ record { layer = i; key = k } ∷ [] → more ≡ done ++ place_in i d
added-some done i d k more is e = e ∙ sym (ap (λ z. done ++ place_in i z) is)

pub added-none : (done : List Place) (i : ℕ) (d : Option ℕ) (more : List Place) → d ≡ None → more ≡ done → more ≡ done ++ place_in i d
added-none done i d more is e = e ∙ sym (append-nil done) ∙ sym (ap (λ z. done ++ place_in i z) is)

-- at most one place more
pub length-added : (done : List Place) (i : ℕ) (d : Option ℕ) → length (done ++ place_in i d) ≤ length done + 1
length-added done i None = omega (arith, ap length (append-nil done))
length-added done i (Some k) = omega (arith, length-append done (place_in i (Some k)))

drop-at : {A : Type 0} (xs : List A) (i : ℕ) (x : A) → slice_get xs i ≡ Some x → drop i xs ≡ x ∷ drop (suc i) xs
drop-at [] zero x e = cc
drop-at [] (suc i) x e = cc
drop-at (y ∷ ys) zero x e = let h : y ≡ x = cc in ap (λ z. z ∷ ys) h
drop-at (y ∷ ys) (suc i) x e = drop-at ys i x e

-- the places of a path in the layers from layer i on, where t is that layer
pub places-at-layer : (i : ℕ) (ts : List Tree) (t : Tree) (p : Path) → slice_get ts i ≡ Some t → places_from i ts p ≡ place_in i (directory_key (held (layer_of t) p)) ++ unless_cut (cuts (layer_of t) p) (places_from (i + 1) ts (below (layer_of t) p))
places-at-layer i ts t p e =
    let rest : ℕ → List Place = λ j. place_in i (directory_key (held (layer_of t) p)) ++ unless_cut (cuts (layer_of t) p) (places_from j ts (below (layer_of t) p)) in
    ap (λ us. places_at i (map layer_of us) p) (drop-at ts i t e)
    ∙ level-place i (held (layer_of t) p) (unless_cut (cuts (layer_of t) p) (places_from (suc i) ts (below (layer_of t) p)))
    ∙ sym (ap rest (add-one i))

module _ (i : ℕ) (ts : List Tree) (t : Tree) (p : Path) (at : slice_get ts i ≡ Some t) (done all : List Place) (so_far : done ++ places_from i ts p ≡ all) (d : Option ℕ) (is : d ≡ directory_key (held (layer_of t) p)) (more : List Place) (added : more ≡ done ++ place_in i d) where
  here : (c : Bool) → c ≡ cuts (layer_of t) p → more ++ unless_cut c (places_from (i + 1) ts (below (layer_of t) p)) ≡ all
  here c e =
      let rest : List Place = unless_cut c (places_from (i + 1) ts (below (layer_of t) p)) in
      ap (λ z. z ++ rest) added
      ∙ append_assoc done (place_in i d) rest
      ∙ ap (λ z. done ++ (place_in i z ++ rest)) is
      ∙ ap (λ z. done ++ (place_in i (directory_key (held (layer_of t) p)) ++ unless_cut z (places_from (i + 1) ts (below (layer_of t) p)))) e
      ∙ sym (ap (λ z. done ++ z) (places-at-layer i ts t p at))
      ∙ so_far

  -- where the layer cuts, all places are there
  pub walk-ends : (c : Bool) → c ≡ cuts (layer_of t) p → c ≡ true → more ≡ all
  walk-ends c e h = sym (append-nil more) ∙ sym (ap (λ z. more ++ unless_cut z (places_from (i + 1) ts (below (layer_of t) p))) h) ∙ here c e

  -- where it doesn't, the next layer goes on by its spelling
  pub walk-goes-on : (c : Bool) (q : Path) → c ≡ cuts (layer_of t) p → c ≡ false → q ≡ below (layer_of t) p → more ++ places_from (i + 1) ts q ≡ all
  walk-goes-on c q e h s = ap (λ z. more ++ places_from (i + 1) ts z) s ∙ sym (ap (λ z. more ++ unless_cut z (places_from (i + 1) ts (below (layer_of t) p))) h) ∙ here c e
