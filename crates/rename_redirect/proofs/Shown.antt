-- What a path shows stays while parents are placed, and where a file or link of a lower layer is copied up.
use Rattle.std.proofs.Common.{◌≡◌, ◌≢◌, ◌<◌, ℕ, true, List, [], ◌∷◌, ◌++◌, Option, None, Some, refl, sym, ap, ap₂, ◌∙◌, inl, inr, is_some, Result, Ok, Err, IfOk, IfErr}
use Rattle.std.specs.Option.{MatchOption}
use Rattle.std.proofs.lemmas.Bool.{false≢true}
use Rattle.ov_base.specs.declared.errno.Errno.{Errno}
use Rattle.plain_model.specs.Layers.{Name, Path, Object, Directory, Named, Whiteout, Inode, Layer, held, Shown, Folder, Contents, over, shows, through, is_directory}
use Rattle.plain_model.specs.Laws.{IsOutside}
use Rattle.plain_model.specs.Tree.{IsThin}
use Rattle.plain_model.proofs.Paths.{place, outside-parent}
use Rattle.plain_model.proofs.Uppers.{agree-where, through-agree, under-agree}
use Rattle.mount_laws.specs.Leaves.{PlacesLeaf}
use Rattle.mount_laws.specs.Linking.{AddsName}
use Rattle.layer_tree.specs.Tree.{layer_of}
use Rattle.merged_lookup.specs.declared.layers.Layers.{Layers}
use Rattle.rename_redirect.specs.Linking.{GainsBoth}
use Rattle.merged_lookup.specs.declared.found.Parent.{Parent}
use Rattle.merged_lookup.specs.declared.stack.Stack.{Stack}
use Rattle.merged_lookup.specs.Merged.{upper_of, layers_of, lowers_of, top_of, places_at, IsStackOf, or_else, fault, way_fault, parents_fault, IsParentOf}
use Rattle.copy_up.specs.Showing.{ShowsSame, KeepsPath, GainsParents}
use Rattle.copy_up.proofs.Copying.{free-inode}
use Rattle.copy_up.proofs.Frames.{lacking, through-same}
use Rattle.copy_up.proofs.OtherAttributes.{upper-directory}
use Rattle.copy_up.proofs.Keeping.{lowers-same, places-agree, directory-same, or-first, way-first, way-directory}

-- what a lower layer has and a path shows is nothing that the upper holds
pub lacked : (l : Layers) (p : Path) (j k : ℕ) (x : Option Inode) → shows 0 (layers_of l) p ≡ Some (Contents j k x) → 0 < j → held (layer_of l.upper) p ≡ None
lacked l p j k x shown lower = free-inode (upper_of l).inodes (held (layer_of l.upper) p) (through (layer_of l.upper) (lowers_of l) p) j k x shown lower

-- and it is shown still where parents are gained
pub still-shown : (a b : Layers) (t p : Path) → ShowsSame a b → GainsParents a b t → (j k : ℕ) (x : Option Inode) → shows 0 (layers_of a) p ≡ Some (Contents j k x) → 0 < j → shows 0 (layers_of b) p ≡ Some (Contents j k x)
still-shown a b t p same gains j k x shown lower =
    lacking b p (by (gains.paths p)) ∙ through-same a b p same ∙ sym (lacking a p first) ∙ shown
  where
    first : held (layer_of a.upper) p ≡ None
    first = lacked a p j k x shown lower

    by : KeepsPath a b t p → held (layer_of b.upper) p ≡ None
    by (inl e) = e ∙ first
    by (inr g) = let z : Some (Folder g.layer g.key g.attributes) ≡ Some (Contents j k x) = sym g.shown ∙ shown in absurd (cc)

fault-none : (x : Option Shown) → is_directory x ≡ true → fault x ≡ None
fault-none None h = absurd (false≢true h)
fault-none (Some (Folder i k a)) h = refl
fault-none (Some (Contents i k x)) h = absurd (false≢true h)

-- a way without fault stays so where the same is shown
way-same : (a b : Layers) → ShowsSame a b → (p : Path) → way_fault (layers_of a) p ≡ None → way_fault (layers_of b) p ≡ None
way-same a b s [] h = refl
way-same a b s (n ∷ p) h =
    ap₂ or_else (way-same a b s p (or-first (way_fault (layers_of a) p) (fault (shows 0 (layers_of a) (n ∷ p))) h))
    (fault-none (shows 0 (layers_of b) (n ∷ p)) (directory-same a b (n ∷ p) s (way-directory (layers_of a) p n h)))

pub parents-same : (a b : Layers) → ShowsSame a b → (p : Path) → parents_fault (layers_of a) p ≡ None → parents_fault (layers_of b) p ≡ None
parents-same a b s [] h = refl
parents-same a b s (n ∷ p) h = way-same a b s p h

-- no way leads through a file or link, so what has a way and shows nothing is outside of it
pub outside-shown : (l : Layers) (p q : Path) (j k : ℕ) (x : Option Inode) → parents_fault (layers_of l) q ≡ None → shows 0 (layers_of l) q ≡ None → shows 0 (layers_of l) p ≡ Some (Contents j k x) → IsOutside p q
outside-shown l p q j k x way none shown [] e = let z : None ≡ Some (Contents j k x) = sym none ∙ ap (shows 0 (layers_of l)) e ∙ shown in cc
outside-shown l p q j k x way none shown (n ∷ r) e =
    through p (way-first (layers_of l) r p (sym (ap (parents_fault (layers_of l)) e) ∙ way)) shown
  where
    through : (p : Path) → way_fault (layers_of l) p ≡ None → shows 0 (layers_of l) p ≡ Some (Contents j k x) → ⊥
    through [] h is = let z : Some (Folder 0 0 (layer_of l.upper).root) ≡ Some (Contents j k x) = is in cc
    through (m ∷ p) h is = false≢true (sym (ap is_directory is) ∙ way-directory (layers_of l) p m h)

-- what is shown is not at a path that shows nothing
pub shown-apart : (Ls : List Layer) (p q : Path) (j k : ℕ) (x : Option Inode) → shows 0 Ls p ≡ Some (Contents j k x) → shows 0 Ls q ≡ None → p ≢ q
shown-apart Ls p q j k x shown none e = let z : None ≡ Some (Contents j k x) = sym none ∙ ap (shows 0 Ls) (sym e) ∙ shown in cc

-- and what is shown is outside of what shows nothing
pub outside-unshown : (l : Layers) (p q : Path) (j k : ℕ) (x : Option Inode) → parents_fault (layers_of l) p ≡ None → shows 0 (layers_of l) q ≡ None → shows 0 (layers_of l) p ≡ Some (Contents j k x) → IsOutside q p
outside-unshown l p q j k x way none shown [] e = let z : None ≡ Some (Contents j k x) = sym none ∙ ap (shows 0 (layers_of l)) (sym e) ∙ shown in cc
outside-unshown l p q j k x way none shown (n ∷ r) e =
    through q (way-first (layers_of l) r q (sym (ap (parents_fault (layers_of l)) e) ∙ way)) none
  where
    through : (q : Path) → way_fault (layers_of l) q ≡ None → shows 0 (layers_of l) q ≡ None → ⊥
    through [] h is = let z : Some (Folder 0 0 (layer_of l.upper).root) ≡ None = is in cc
    through (m ∷ q) h is = false≢true (sym (ap is_directory is) ∙ way-directory (layers_of l) q m h)

-- where parents of both paths are gained
pub shown-both : (a b : Layers) (p q : Path) (j k : ℕ) (x : Option Inode) → GainsBoth a b p q → shows 0 (layers_of a) p ≡ Some (Contents j k x) → 0 < j → shows 0 (layers_of b) p ≡ Some (Contents j k x)
shown-both a b p q j k x g shown lower = still-shown g.mid b q p g.same_second g.second j k x (still-shown a g.mid p p g.same_first g.first j k x shown lower) lower

-- the same of paths told by their last names
pub outside-split : (l : Layers) (p q : Path) (n : Name) (t : Path) (m : Name) (u : Path) → p ≡ n ∷ t → q ≡ m ∷ u → (j k : ℕ) (x : Option Inode) → parents_fault (layers_of l) q ≡ None → shows 0 (layers_of l) q ≡ None → shows 0 (layers_of l) p ≡ Some (Contents j k x) → IsOutside (n ∷ t) (m ∷ u)
outside-split l p q n t m u e f j k x way none shown r g = outside-shown l p q j k x way none shown r (f ∙ g ∙ ap (λ z. r ++ z) (sym e))

none-over : (f g : ℕ → Option Inode) (o : Option Object) (s : Option Shown) → over 0 g o s ≡ None → over 0 f o s ≡ None
none-over f g None s h = h
none-over f g (Some Whiteout) s h = h
none-over f g (Some (Directory k a b r)) s h = absurd (cc)
none-over f g (Some (Named k)) s h = absurd (cc)

-- where nothing was shown nothing is where a leaf is placed elsewhere
pub still-absent : (U V : Layer) (lowers : List Layer) (p : Path) (k : ℕ) (i : Inode) → PlacesLeaf U V p k i → (q : Path) → IsOutside p q → shows 0 (U ∷ lowers) q ≡ None → shows 0 (V ∷ lowers) q ≡ None
still-absent U V lowers p k i leaf q out h =
    ap₂ (λ o s. over 0 V.inodes o s) (leaf.elsewhere q out) (through-agree U V lowers q (agree-where U V (IsOutside p) (outside-parent p) leaf.elsewhere q out))
    ∙ none-over V.inodes U.inodes (held U q) (through U lowers q) h

-- a further name leaves the upper thin
pub thin-linked : (U V : Layer) (lowers : List Layer) (p t : Path) → AddsName U V p t → IsThin U lowers → IsThin V lowers
thin-linked U V lowers p t m h k x is = elim (place t (k ∷ x)) [
  | inl b ↦ absurd (at b.0 b.1)
  | inr out ↦ ap is_some (under-agree U V lowers k x (agree-where U V (IsOutside t) (outside-parent t) m.elsewhere x (outside-parent t k x out))) ∙ h k x (sym (m.elsewhere (k ∷ x) out) ∙ is)
]
  where
    at : (r : Path) → k ∷ x ≡ r ++ t → ⊥
    at [] e = let z : Some Whiteout ≡ Some (Named m.number) = sym is ∙ ap (held V) e ∙ m.here in cc
    at (n ∷ r) e = let z : Some Whiteout ≡ None = sym is ∙ ap (held V) e ∙ m.beneath n r in cc

-- the parent of a path that has a way, and isn't the root, is found
pub parent-there : (l : Layers) (p : Path) (r : Result (Option Parent) Errno) → IfOk r (λ o. MatchOption o (p ≡ []) (IsParentOf l p)) → IfErr r (λ e. parents_fault (layers_of l) p ≡ Some e) → parents_fault (layers_of l) p ≡ None → p ≢ [] → (o : Parent) × (r ≡ Ok (Some o))
parent-there l p (Ok (Some o)) found refused way some = (o, refl)
parent-there l p (Ok None) found refused way some = absurd (some found)
parent-there l p (Err e) found refused way some = let z : Some e ≡ None = sym refused ∙ way in absurd (cc)

-- a directory that the upper has is one of the same places where more parents are gained
pub stack-kept : (a b : Layers) → ShowsSame a b → ((x : Path) (o : Object) → held (layer_of a.upper) x ≡ Some o → held (layer_of b.upper) x ≡ Some o) → (p : Path) (s : Stack) → (top_of s.places.items).layer ≡ 0 → IsStackOf a p s → IsStackOf b p s
stack-kept a b same holds p s top is =
    let d = upper-directory a p s is top in
    let alike = holds p (Directory (top_of s.places.items).key d.attributes d.opaque d.redirect) d.is ∙ sym d.is in
    record { places = is.places ∙ sym (ap (λ Ls. places_at 0 (layer_of b.upper ∷ Ls) p) (lowers-same a b same.lowers) ∙ places-agree 0 (layer_of a.upper) (layer_of b.upper) (lowers_of a) p alike (same.passes.cuts p) (same.passes.spelling p)) }
