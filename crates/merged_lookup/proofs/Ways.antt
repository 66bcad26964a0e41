-- Where the names of a path lead to directories, and the fault of the first one that leads to none.
use Rattle.std.proofs.Common.{◌≡◌, ◌≢◌, ℕ, ◌<◌, ◌+◌, List, [], ◌∷◌, Option, None, Some, false, refl, sym, ap, ◌∙◌, length, get_or, take, reverse, arith}
use Rattle.std.specs.Option.{option_and_then}
use Rattle.ov_base.specs.declared.attributes.Attributes.{Attributes}
use Rattle.ov_base.specs.declared.errno.Errno.{Errno}
use Rattle.ov_base.specs.declared.errno.Errno.TheVariants as errno
use Rattle.plain_model.specs.Layers.{Name, Path, Inode, Folder, Contents, shows, is_directory}
use Rattle.layer_tree.specs.Tree.{Tree, inode_of}
use Rattle.ov_base.specs.declared.place.Place.{Place}
use Rattle.merged_lookup.specs.declared.layers.Layers.{Layers}
use Rattle.merged_lookup.specs.Merged.{trees, layers_of, top_of, fault, way_fault, inode_fault, node_in}
use Rattle.merged_lookup.specs.Descent.{places_from, descend, first}
use Rattle.merged_lookup.specs.Locating.{place_of}
use Rattle.merged_lookup.proofs.Descending.{top-shown, first-places, shown-inode, shown-none, descend-places, reverse-more}
use Rattle.merged_lookup.proofs.Filled.{same-place}
use Rattle.merged_lookup.proofs.Looking.{top-of, no-top, way-next, fault-at, nothing-fault, inode-fault}

some-length : (s : List Place) → s ≢ [] → 0 < length s
some-length [] h = absurd (h refl)
some-length (d ∷ ds) h = omega arith

-- a name leads to a directory from a directory alone
parent-reached : (ts : List Tree) (n : Name) (p : Path) → places_from 0 ts (n ∷ p) ≢ [] → places_from 0 ts p ≢ []
parent-reached ts n p h = λ e. h (sym (descend-places 0 ts ts refl p n) ∙ ap (λ s. descend ts s n) e)

-- a path that reaches a directory shows one
reached-fault : (l : Layers) (p : Path) → places_from 0 (trees l) p ≢ [] → fault (shows 0 (layers_of l) p) ≡ None
reached-fault l p h =
    let s : List Place = places_from 0 (trees l) p in
    let t : (a : Attributes) × (shows 0 (layers_of l) p ≡ Some (Folder (top_of s).layer (top_of s).key a)) = top-of s (shows 0 (layers_of l) p) (some-length s h) (top-shown 0 (layers_of l) p) in
    ap fault t.1

-- a path that reaches a directory has no fault on its way
pub reached-way : (l : Layers) (p : Path) → places_from 0 (trees l) p ≢ [] → way_fault (layers_of l) p ≡ None
reached-way l [] h = refl
reached-way l (n ∷ p) h = way-next (layers_of l) p n None (reached-way l p (parent-reached (trees l) n p h)) (reached-fault l (n ∷ p) h)

-- What stands after as many names as lead to directories: one name more leads to none, so the topmost object there is an inode.
module _ (l : Layers) (names : List Name) (i : ℕ) (n : Name) (within : i < length names) (is : n ≡ get_or names i n) (reached : places_from 0 (trees l) (reverse (take i names)) ≢ []) (none : places_from 0 (trees l) (reverse (take (i + 1) names)) ≡ []) (s : List Place) (here : s ≡ places_from 0 (trees l) (reverse (take i names))) where
  first-is : first (trees l) s n ≡ place_of (shows 0 (layers_of l) (n ∷ reverse (take i names)))
  first-is = ap (λ z. first (trees l) z n) here ∙ first-places 0 (trees l) (trees l) refl (reverse (take i names)) n ∙ sym (same-place l (n ∷ reverse (take i names)))

  no-directory : is_directory (shows 0 (layers_of l) (n ∷ reverse (take i names))) ≡ false
  no-directory =
      let p : Path = n ∷ reverse (take i names) in
      let e : places_from 0 (trees l) p ≡ [] = sym (ap (places_from 0 (trees l)) (reverse-more names i n within is)) ∙ none in
      no-top (places_from 0 (trees l) p) (shows 0 (layers_of l) p) (ap length e) (top-shown 0 (layers_of l) p)

  fault-by : (e : Errno) → fault (shows 0 (layers_of l) (n ∷ reverse (take i names))) ≡ Some e → way_fault (layers_of l) (reverse names) ≡ Some e
  fault-by e h = fault-at l names i n e within is (reached-way l (reverse (take i names)) reached) h

  -- the way is blocked by an inode there
  pub blocked-way : (d : Place) → first (trees l) s n ≡ Some d → way_fault (layers_of l) (reverse names) ≡ Some (inode_fault (option_and_then inode_of (node_in (trees l) d)))
  blocked-way d e =
      let p : Path = n ∷ reverse (take i names) in
      let t : (x : Option Inode) × (shows 0 (layers_of l) p ≡ Some (Contents d.layer d.key x)) = shown-inode (shows 0 (layers_of l) p) d no-directory (sym first-is ∙ e) in
      fault-by (inode_fault (option_and_then inode_of (node_in (trees l) d))) (inode-fault l p d (record { inode = t.0; shown = t.1 }))

  -- or nothing stands there
  pub missing-way : first (trees l) s n ≡ None → way_fault (layers_of l) (reverse names) ≡ Some errno.ENOENT
  missing-way e =
      let p : Path = n ∷ reverse (take i names) in
      fault-by errno.ENOENT (nothing-fault l p (record { shown = shown-none (shows 0 (layers_of l) p) (sym first-is ∙ e) }))
