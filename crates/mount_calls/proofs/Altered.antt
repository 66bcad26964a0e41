-- What other attributes of what a path shows leave of the names and the attributes of the upper's inodes.
use Rattle.std.proofs.Common.{◌≡◌, ◌≢◌, ◌↔◌, ℕ, true, false, [], ◌∷◌, Option, None, Some, IsSome, is_some, refl, sym, ap, ◌∙◌, subst, inl, inr, arith}
use Rattle.std.proofs.lemmas.Bool.{cases_eq}
use Rattle.std.specs.Prelude.{option_map}
use Rattle.slab.specs.Slab.{get}
use Rattle.ov_base.specs.declared.attributes.Attributes.{Attributes}
use Rattle.plain_model.specs.Layers.{Name, Path, Named, Inode, held, fill}
use Rattle.plain_model.proofs.Paths.{one_or_not, paths_tell}
use Rattle.mount_laws.specs.StayOpen.{AltersNamed}
use Rattle.layer_tree.specs.Tree.{Tree, ROOT, IsTree, IsUnmarked, layer_of, seen_at, inode_at}
use Rattle.merged_lookup.specs.declared.layers.Layers.{Layers}
use Rattle.merged_lookup.specs.Merged.{upper_of, lowers_of}
use Rattle.copy_up.specs.Showing.{number_of, KeepsPath}
use Rattle.copy_up.specs.Altering.{object_with, inode_with, AltersObject}
use Rattle.mount_calls.proofs.Raising.{named-altered}

-- the path names the inode where it did
abbrev pub StillNames : Layers → Layers → ℕ → Path → Type 0
StillNames old new j q = (held (layer_of new.upper) q ≡ Some (Named j)) ↔ (held (layer_of old.upper) q ≡ Some (Named j))

-- a path that holds what it held, or a parent that was gained, names the inodes that it named
pub names-kept : (old new : Layers) (p q : Path) (j : ℕ) → KeepsPath old new p q → StillNames old new j q
names-kept old new p q j is = grind arith

-- an object below the root is the one that is seen under its number
seen-numbered : (t : Tree) (n : Name) (p : Path) (k : ℕ) → number_of (held (layer_of t) (n ∷ p)) ≡ Some k → held (layer_of t) (n ∷ p) ≡ seen_at t k
seen-numbered t n p k h = grind arith

-- where an inode is, its name is seen
inode-seen : (t : Tree) (k : ℕ) (i : Inode) → inode_at t k ≡ Some i → seen_at t k ≡ Some (Named k)
inode-seen t k i h = grind arith

-- and something stands there
inode-stands : (t : Tree) (k : ℕ) (i : Inode) → inode_at t k ≡ Some i → IsSome (get t k)
inode-stands t k i h = grind arith

-- the root is no inode
root-apart : (t : Tree) → IsTree t → (k : ℕ) (i : Inode) → inode_at t k ≡ Some i → k ≢ ROOT
root-apart t tree k i is e = subst IsUnmarked (inode-seen t ROOT i (ap (inode_at t) (sym e) ∙ is)) tree.root

module _ (old new : Layers) (p : Path) (a : Attributes) (x : AltersObject old new p a) (j : ℕ) where
  -- names elsewhere are as they were
  names-by : StillNames old new j p → (q : Path) → StillNames old new j q
  names-by here q = elim (one_or_not paths_tell q p) [
    | inl e ↦ subst (StillNames old new j) (sym e) here
    | inr off ↦ names-kept old new p q j (x.paths q off)
  ]

  -- another inode stays
  alters-other : j ≢ x.key → AltersNamed (layer_of old.upper) (layer_of new.upper) p a j
  alters-other off = grind arith

  -- the inode of that key
  module _ (i : Inode) (is : (layer_of old.upper).inodes j ≡ Some i) (same : j ≡ x.key) where
    -- was there
    stood-there : IsSome (get old.upper x.key)
    stood-there = subst (λ (k : ℕ). IsSome (get old.upper k)) same (inode-stands old.upper j i is)

    -- was seen there
    seen-before : seen_at old.upper x.key ≡ Some (Named j)
    seen-before = ap (seen_at old.upper) (sym same) ∙ inode-seen old.upper j i is

    -- is seen there
    seen-now : seen_at new.upper x.key ≡ Some (Named j)
    seen-now = (x.stood stood-there).0 ∙ ap (option_map (object_with a)) seen-before

    -- stood at the path
    number-before : number_of (held (layer_of old.upper) p) ≡ Some x.key
    number-before = elim x.was [
      | inl was ↦ was
      | inr new ↦ (let z : true ≡ false = sym stood-there ∙ ap is_some new.1 in cc)
    ]

    -- has the attributes
    inode-now : (layer_of new.upper).inodes j ≡ option_map (inode_with a) ((layer_of old.upper).inodes j)
    inode-now = ap (inode_at new.upper) same ∙ (x.stood stood-there).1 ∙ ap (λ k. option_map (inode_with a) (inode_at old.upper k)) (sym same)

    -- is altered, where the path was and is a name of it
    alters-own : held (layer_of old.upper) p ≡ Some (Named j) → held (layer_of new.upper) p ≡ Some (Named j) → AltersNamed (layer_of old.upper) (layer_of new.upper) p a j
    alters-own before now = grind (arith, names-by, inode-now)

-- an inode of the raw upper keeps its names, and has the attributes where the path is one of them
alters-raw : (old new : Layers) → IsTree old.upper → (p : Path) (a : Attributes) → AltersObject old new p a → (j : ℕ) (i : Inode) → (layer_of old.upper).inodes j ≡ Some i → AltersNamed (layer_of old.upper) (layer_of new.upper) p a j
alters-raw old new tree p a x j i is = elim (cases_eq j x.key) [
  | inl same ↦ own p x same
  | inr off ↦ alters-other old new p a x j off
]
  where
    own : (p : Path) (x : AltersObject old new p a) → j ≡ x.key → AltersNamed (layer_of old.upper) (layer_of new.upper) p a j
    own [] x same = absurd (root-apart old.upper tree j i is (let z : Some ROOT ≡ Some x.key = x.number in cc))
    own (n ∷ p) x same =
        alters-own old new (n ∷ p) a x j i is same
        (seen-numbered old.upper n p x.key (number-before old new (n ∷ p) a x j i is same) ∙ seen-before old new (n ∷ p) a x j i is same)
        (seen-numbered new.upper n p x.key x.number ∙ seen-now old new (n ∷ p) a x j i is same)

-- and so it is as the inode shows
pub alters-named : (old new : Layers) → new.lowers ≡ old.lowers → IsTree old.upper → (p : Path) (a : Attributes) → AltersObject old new p a → (j : ℕ) (i : Inode) → (upper_of old).inodes j ≡ Some i → AltersNamed (upper_of old) (upper_of new) p a j
alters-named old new low tree p a x j i is = by (inode_at old.upper j) refl is
  where
    by : (o : Option Inode) → inode_at old.upper j ≡ o → option_map (fill (lowers_of old)) o ≡ Some i → AltersNamed (upper_of old) (upper_of new) p a j
    by None e is = cc
    by (Some y) e is = named-altered old new low p a j (alters-raw old new tree p a x j y e)
