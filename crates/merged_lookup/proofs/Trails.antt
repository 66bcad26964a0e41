-- A trail goes on as the upper spells the names, and leads to the places in the layers below.
use Rattle.std.proofs.Common.{◌≡◌, ℕ, ◌<◌, ◌≤◌, ◌∷◌, [], ◌++◌, ◌+◌, not, List, Bool, true, false, Option, None, Some, IfSome, MatchOption, refl, sym, ap, ap₂, ◌∙◌, Bor, get_or, take, slice_set, ◌≢◌, ◌==◌, Decides, length, drop, map, reverse, slice_get, arith}
use Rattle.std.proofs.lemmas.Bool.{false≢true}
use Rattle.std.proofs.lemmas.Slice.Eq.{bytes_eq-Decides, slice_eq-Decides}
use Rattle.std.specs.Cmp.Lexicographic.{pointwise}
use Rattle.std.proofs.lemmas.List.{append-nil, reverse-append, reverse-reverse}
use Rattle.std.proofs.Math.Seq.{drop-append_seam}
use Rattle.ov_base.specs.declared.attributes.Attributes.{Attributes}
use Rattle.ov_base.specs.declared.redirect.Redirect.{Redirect}
use Rattle.ov_base.specs.declared.redirect.Redirect.TheVariants as redirect
use Rattle.plain_model.specs.Layers.{Layer, Name, Path, Object, Directory, Named, Whiteout, held, below, cut, cuts, spell}
use Rattle.layer_tree.specs.Tree.{Tree, layer_of}
use Rattle.ov_base.specs.declared.place.Place.{Place}
use Rattle.merged_lookup.specs.declared.trail.Trail.{Trail}
use Rattle.merged_lookup.specs.declared.onward.Onward.{Onward}
use Rattle.merged_lookup.specs.declared.onward.Onward.TheVariants as way
use Rattle.merged_lookup.specs.Merged.{level, unless_cut, places_at, top_of}
use Rattle.merged_lookup.specs.Descent.{holds_in, places_from, anew, onward_in, descend, goes, Tells}
use Rattle.merged_lookup.specs.Trails.{trail_path, IsTrail, LeadsOn, IsUppers, IsFurther}
use Rattle.merged_lookup.proofs.Descending.{descend-places}
use Rattle.merged_lookup.proofs.Looking.{HeadFrom, head-places, head-unless}

not-false : (b : Bool) → not b ≡ false → b ≡ true
not-false true h = refl
not-false false h = absurd (false≢true (sym h))

not-both : (b : Bool) → not b ≡ true → b ≡ true → ⊥
not-both true h t = false≢true h
not-both false h t = false≢true t

-- one path has the same names before its last one
pub same-parents : (p : Path) (n m : Name) (xs ys : List Name) → p ≡ n ∷ reverse xs → p ≡ m ∷ reverse ys → xs ≡ ys
same-parents p n m xs ys e f =
    let same : reverse xs ≡ reverse ys = cc in
    sym (reverse-reverse xs) ∙ ap reverse same ∙ reverse-reverse ys

-- and after the same names the same rest
pub same-rest : (xs ys zs : List Name) → xs ++ ys ≡ xs ++ zs → ys ≡ zs
same-rest xs ys zs e = sym (drop-append_seam xs ys) ∙ ap (drop (length xs)) e ∙ drop-append_seam xs zs

-- what is left of some names after a prefix, if they have it
abbrev pub IsRest : List Name → List Name → Option (Bor (List Name)) → Type 0
IsRest s p r = MatchOption r ((rest : List Name) → s ≢ p ++ rest) (λ x. s ≡ p ++ x.now)

-- what the comparison of two rows of names says
pub names-decide : (xs ys : List Name) → Decides (pointwise (pointwise ◌==◌) xs ys) (xs ≡ ys)
names-decide xs ys = slice_eq-Decides bytes_eq-Decides xs ys (pointwise (pointwise ◌==◌) xs ys) refl

pub same : (xs ys : List Name) (r : Bool) → r ≡ not (pointwise (pointwise ◌==◌) xs ys) → r ≡ false → xs ≡ ys
same xs ys r e f = (names-decide xs ys).0 (not-false (pointwise (pointwise ◌==◌) xs ys) (sym e ∙ f))

pub differs : (xs ys : List Name) (r : Bool) → r ≡ not (pointwise (pointwise ◌==◌) xs ys) → r ≡ true → xs ≢ ys
differs xs ys r e t h = not-both (pointwise (pointwise ◌==◌) xs ys) (sym e ∙ t) ((names-decide xs ys).1 h)

-- by an absolute redirect the trail begins anew
pub trail-anew : (upper : Tree) (before walked : List Name) (n : Name) (k : ℕ) (a : Attributes) → walked ≡ before ++ n ∷ [] → (new : Trail) (q : Path)
    → held (layer_of upper) (n ∷ reverse before) ≡ Some (Directory k a false (Some (redirect.Absolute q)))
    → new.redirect.now ≡ reverse q → new.since.now ≡ [] → IsTrail upper walked new
trail-anew upper before walked n k a is new q h e none =
    let L : Layer = layer_of upper in
    let p : Path = n ∷ reverse before in
    let at : reverse walked ≡ p = ap reverse is ∙ reverse-append before (n ∷ []) in
    let spelled : trail_path new ≡ q = ap (λ z. reverse (new.redirect.now ++ z)) none ∙ ap reverse (append-nil new.redirect.now ∙ e) ∙ reverse-reverse q in
    record {
      uncut = ap (cuts L) at ∙ ap (λ o. cut o (cuts L (reverse before))) h;
      spelling = spelled ∙ sym (ap (λ o. spell o n (below L (reverse before))) h) ∙ sym (ap (below L) at);
      ends = (walked, sym (append-nil walked) ∙ ap (λ z. walked ++ z) (sym none));
    }

-- the first place is the upper's only where the upper has a directory
module _ (k : ℕ) (ds : List Place) where
  no-upper : (s : List Place) → HeadFrom 1 s → s ≡ record { layer = 0; key = k } ∷ ds → ⊥
  no-upper [] h e = cc
  no-upper (d ∷ s) h e = let zero : d.layer ≡ 0 = cc in omega (arith, h, zero)

  level-upper : (o : Option Object) (s : List Place) → HeadFrom 1 s → level 0 o s ≡ record { layer = 0; key = k } ∷ ds → (a : Attributes) × (b : Bool) × (r : Option Redirect) × (o ≡ Some (Directory k a b r)) × (ds ≡ s)
  level-upper (Some (Directory j a b r)) s h e = (a, b, r, ap (λ z. Some (Directory (top_of z).key a b r)) e, cc)
  level-upper None s h e = absurd (no-upper s h e)
  level-upper (Some (Named j)) s h e = absurd (no-upper s h e)
  level-upper (Some Whiteout) s h e = absurd (no-upper s h e)

module _ (t : Tree) (us : List Tree) (s : List Place) (p : Path) (is : s ≡ places_at 0 (map layer_of (t ∷ us)) p) where
  upper-at : (k : ℕ) (ds : List Place) → s ≡ record { layer = 0; key = k } ∷ ds → (a : Attributes) × (b : Bool) × (r : Option Redirect) × (held (layer_of t) p ≡ Some (Directory k a b r)) × (ds ≡ unless_cut (cuts (layer_of t) p) (places_at 1 (map layer_of us) (below (layer_of t) p)))
  upper-at k ds e =
      let rest : List Place = places_at 1 (map layer_of us) (below (layer_of t) p) in
      level-upper k ds (held (layer_of t) p) (unless_cut (cuts (layer_of t) p) rest) (head-unless (cuts (layer_of t) p) rest (head-places 1 (map layer_of us) (below (layer_of t) p))) (sym is ∙ e)

  -- the first place of a merged directory, where it is the upper's
  pub first-uppers : (d : Place) (ds : List Place) → s ≡ d ∷ ds → IsUppers t p d
  first-uppers d ds e zero =
      let here : s ≡ record { layer = 0; key = d.key } ∷ ds = e ∙ ap (λ i. record { layer = i; key = d.key } ∷ ds) zero in
      let u = upper-at d.key ds here in
      (u.0, u.1, u.2, u.3)

  -- the trail leads to the places after it
  trail-leads : (names : List Name) (r : Trail) → p ≡ reverse names → IsTrail t names r → LeadsOn (t ∷ us) s (Some r)
  trail-leads names r at w k ds e =
      let u = upper-at k ds e in
      u.4 ∙ ap (λ c. unless_cut c (places_at 1 (map layer_of us) (below (layer_of t) p))) (ap (cuts (layer_of t)) at ∙ w.uncut)
      ∙ ap (places_at 1 (map layer_of us)) (ap (below (layer_of t)) at ∙ sym w.spelling)

pub trail-leads-on : (t : Tree) (us : List Tree) (s : List Place) (names : List Name) → s ≡ places_at 0 (map layer_of (t ∷ us)) (reverse names) → (r : Option Trail) → IfSome r (IsTrail t names) → LeadsOn (t ∷ us) s r
trail-leads-on t us s names is None w = tt
trail-leads-on t us s names is (Some r) w = trail-leads t us s (reverse names) is names r refl w

-- one name on from the places of a merged directory, where the upper redirects to the trail and one name more
pub trail-descends : (ts : List Tree) (s ds : List Place) (d : Place) (i : ℕ) (r : Option Trail) (q : Path) (n : Name) → LeadsOn ts s r → IsFurther r i d q n → s ≡ d ∷ ds → places_from (d.layer + 1) ts q ≡ descend ts ds n
trail-descends ts s ds d i None q n leads is e = absurd is
trail-descends ts s ds d i (Some r) q n leads is e =
    let here : s ≡ record { layer = 0; key = d.key } ∷ ds = e ∙ ap (λ j. record { layer = j; key = d.key } ∷ ds) is.1 in
    ap (λ j. places_from (j + 1) ts q) is.1 ∙ ap (places_from 1 ts) is.2
    ∙ sym (descend-places 1 ts (drop 1 ts) refl (trail_path r) n) ∙ sym (ap (λ z. descend ts z n) (leads d.key ds here))

-- it is the first place
pub further-first : (r : Option Trail) (i : ℕ) (d : Place) (q : Path) (n : Name) → IsFurther r i d q n → i ≡ 0
further-first None i d q n is = absurd is
further-first (Some r) i d q n is = is.0

-- some places begin with their first
pub first-of : (s : List Place) (d e : Place) → 0 < length s → d ≡ get_or s 0 e → s ≡ d ∷ drop 1 s
first-of [] d e h is = absurd (omega (arith, h))
first-of (x ∷ s) d e h is = ap (λ z. z ∷ s) (sym is)

-- what those places are then
pub further-reached : (ts : List Tree) (t : Tree) (s start new : List Place) (d e : Place) (i kept : ℕ) (n asked other : Name) (key : ℕ) (q : Bor Path) (r : Option Trail) (w : Onward) → LeadsOn ts start r → IsFurther r i d q.now other → (i ≡ 0 → s ≡ start) → i < length s → kept ≤ i → d ≡ get_or s i e → slice_get ts d.layer ≡ Some t → Tells (holds_in t d.key asked) asked w → w ≡ way.From key q → new ≡ slice_set s kept (record { layer = d.layer; key = key }) → descend ts start n ≡ take kept s ++ descend ts (drop i s) asked → descend ts start n ≡ take (kept + 1) new ++ descend ts (drop (i + 1) new) other
further-reached ts t s start new d e i kept n asked other key q r w leads is unchanged h k at tree tells from written reached =
    let first : i ≡ 0 = further-first r i d q.now other is in
    let none : kept ≡ 0 = omega (arith, k, first) in
    let ds : List Place = drop 1 s in
    let here : Place = record { layer = d.layer; key = key } in
    let some : s ≡ d ∷ ds = first-of s d e (omega (arith, h, first)) (at ∙ ap (λ j. get_or s j e) first) in
    let start_is : start ≡ d ∷ ds = sym (unchanged first) ∙ some in
    let now : new ≡ here ∷ ds = written ∙ ap (λ j. slice_set s j here) none ∙ ap (λ z. slice_set z 0 here) some in
    let onward_is : descend ts (d ∷ ds) asked ≡ here ∷ places_from (d.layer + 1) ts q.now =
    ap (λ x. onward_in x ts d asked (descend ts ds)) tree ∙ tells.places d.layer (descend ts ds) (anew ts d.layer) ∙ ap (λ x. goes x d.layer asked (descend ts ds) (anew ts d.layer)) from in
    reached ∙ ap₂ (λ j z. take j z ++ descend ts (drop i z) asked) none some ∙ ap (λ j. descend ts (drop j (d ∷ ds)) asked) first ∙ onward_is
    ∙ ap (λ z. here ∷ z) (trail-descends ts start ds d i r q.now other leads is start_is)
    ∙ sym (ap₂ (λ j z. take (j + 1) z ++ descend ts (drop (i + 1) z) other) none now ∙ ap (λ j. here ∷ descend ts (drop (j + 1) (here ∷ ds)) other) first)
