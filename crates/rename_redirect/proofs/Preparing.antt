-- What stands ready in the upper before an object moves: the object itself, or one that only lower layers had.
use Rattle.std.proofs.Common.{◌≡◌, ◌≢◌, ℕ, suc, Bool, true, false, ◌&&◌, List, [], ◌∷◌, ◌++◌, Option, None, Some, IsSome, is_some, refl, sym, ap, ◌∙◌, inl, inr}
use Rattle.std.proofs.lemmas.Bool.{false≢true, cases_eq}
use Rattle.std.specs.Option.{option_and_then}
use Rattle.slab.specs.Slab.{get}
use Rattle.ov_base.specs.declared.attributes.Attributes.{Attributes}
use Rattle.plain_model.specs.Layers.{Name, Path, Object, Directory, Named, Inode, Layer, held, holds_directory, Folder, Contents, shows, is_file, fill, IsLayer, AreLayers}
use Rattle.plain_model.specs.Laws.{IsOutside, Placed}
use Rattle.plain_model.specs.Tree.{IsThin}
use Rattle.plain_model.proofs.Uppers.{AgreeTo}
use Rattle.mount_laws.specs.Leaves.{PlacesLeaf}
use Rattle.mount_laws.specs.Moving.{MovesTo}
use Rattle.mount_laws.proofs.Alters.{law_of_thin}
use Rattle.mount_laws.proofs.Changed.{law_of_copied_leaf}
use Rattle.mount_laws.proofs.CopiedMoves.{law_of_copied_move, law_of_placed_move}
use Rattle.mount_laws.proofs.Places.{longer}
use Rattle.layer_tree.specs.Tree.{Tree, layer_of, seen_at, inode_at, inode_of, seen_object, new_inode, SetsPath}
use Rattle.layer_tree.specs.Nameless.{IsNameless}
use Rattle.layer_tree.specs.declared.node.Object.{Object as NewObject}
use Rattle.layer_tree.specs.declared.node.Object.TheVariants as object
use Rattle.copy_up.proofs.Copying.{leaf-object}
use Rattle.copy_up.proofs.Keeping.{inodes-same}
use Rattle.copy_up.proofs.Placing.{agree-placed, nothing-held}
use Rattle.rename_redirect.specs.Routes.{MovesNew}
use Rattle.rename_redirect.proofs.Filling.{full, filled-stays, leaf-filled, placed-filled}

-- The tree w has an object at p that moves from there as what u shows there would, and else is u.
pub record Prepared (u w : Tree) (lowers : List Layer) (marked : Bool) (p : Path) : Type 0 where
  pub moves : AreLayers (full u lowers ∷ lowers) → (V : Layer) (q : Path) → MovesTo (full w lowers) V lowers marked p q → MovesTo (full u lowers) V lowers marked p q
  pub layer : IsLayer (layer_of u) → IsLayer (layer_of w)
  pub thin : IsThin (layer_of u) lowers → IsThin (layer_of w) lowers
  pub elsewhere : (x : Path) → x ≢ p → held (layer_of w) x ≡ held (layer_of u) x
  pub kept : (o : Object) → held (layer_of u) p ≡ Some o → held (layer_of w) p ≡ Some o
  pub named : (j : ℕ) → is_some (inode_at u j) ≡ true → held (layer_of w) p ≡ Some (Named j) → held (layer_of u) p ≡ Some (Named j)
  pub inodes : (j : ℕ) → is_some (inode_at u j) ≡ true → inode_at w j ≡ inode_at u j
  pub agrees : holds_directory (held (layer_of w) p) ≡ true → AgreeTo (layer_of u) (layer_of w) p
  pub seen : (k : ℕ) → IsSome (get u k) → seen_at w k ≡ seen_at u k
  pub nameless : (k : ℕ) → IsNameless u k → IsNameless w k

-- what the upper has stands ready
pub prepared-own : (u : Tree) (lowers : List Layer) (marked : Bool) (p : Path) → Prepared u u lowers marked p
prepared-own u lowers marked p = record {
  moves = λ h V q m. m;
  layer = λ h. h;
  thin = λ h. h;
  elsewhere = λ x off. refl;
  kept = λ o h. h;
  named = λ j is h. h;
  inodes = λ j is. refl;
  agrees = λ h. record { cut_alike = refl; spelled = refl };
  seen = λ k is. refl;
  nameless = λ k h. h;
}

-- what stands under no key is no inode
vacant-inode : (t : Tree) (k : ℕ) → get t k ≡ None → inode_at t k ≡ None
vacant-inode t k e = ap (option_and_then inode_of) e

-- a new object at a path at which nothing was held
module _ (u v : Tree) (lowers : List Layer) (n : Name) (p q : Path) (o : NewObject) (left : Option Object) (key : ℕ) (released : Option ℕ) (m : MovesNew u v (n ∷ p) q o left key released) (none : held (layer_of u) (n ∷ p) ≡ None) where
  another : (j : ℕ) → is_some (inode_at u j) ≡ true → j ≢ key
  another j is e = false≢true (sym (ap is_some (ap (inode_at u) e ∙ vacant-inode u key m.vacant)) ∙ is)

  beneath : (k : Name) (r : Path) → held (layer_of m.mid) (k ∷ r ++ (n ∷ p)) ≡ None
  beneath k r = m.sets.elsewhere (k ∷ r ++ (n ∷ p)) (λ e. longer (n ∷ p) k r (sym e)) ∙ nothing-held u (n ∷ p) (ap holds_directory none) k r

  outside : (x : Path) → IsOutside (n ∷ p) x → held (layer_of m.mid) x ≡ held (layer_of u) x
  outside x out = m.sets.elsewhere x (λ e. out [] e)

  was-none : (x : Object) → held (layer_of u) (n ∷ p) ≡ Some x → held (layer_of m.mid) (n ∷ p) ≡ Some x
  was-none x e = let z : Some x ≡ None = sym e ∙ none in absurd (cc)

  -- a file or link of a lower layer
  module _ (i copy : Inode) (is_leaf : new_inode o ≡ Some copy) (marked : Bool) (marks : is_some copy.mark ≡ (marked && is_file i.content)) (content : (fill lowers copy).content ≡ i.content) (attributes : copy.attributes ≡ i.attributes) (j l : ℕ) (shown : shows 0 (full u lowers ∷ lowers) (n ∷ p) ≡ Some (Contents (suc j) l (Some i))) where
    pub leaf-there : held (layer_of m.mid) (n ∷ p) ≡ Some (Named key)
    leaf-there = m.sets.there ∙ ap Some ((leaf-object o copy is_leaf).seen key)

    placed : PlacesLeaf (layer_of u) (layer_of m.mid) (n ∷ p) key copy
    placed = record {
      here = leaf-there;
      beneath = beneath;
      elsewhere = outside;
      free = vacant-inode u key m.vacant;
      inode = m.inode ∙ is_leaf;
      one = (leaf-object o copy is_leaf).one;
      inodes = m.inodes;
    }

    not-named : (k : ℕ) → is_some (inode_at u k) ≡ true → held (layer_of m.mid) (n ∷ p) ≡ Some (Named k) → ⊥
    not-named k is h = another k is (let z : Some (Named key) ≡ Some (Named k) = sym leaf-there ∙ h in let w : k ≡ key = cc in w)

    pub prepared-leaf : Prepared u m.mid lowers marked (n ∷ p)
    prepared-leaf = record {
      moves = λ h V x t.
          law_of_copied_move (full u lowers) (full m.mid lowers) V lowers marked (n ∷ p) x j l i shown
          (law_of_copied_leaf (full u lowers) (full m.mid lowers) lowers h (filled-stays (layer_of u) (layer_of m.mid) lowers m.layer h.0, h.1) n p j l key i i.attributes shown marked copy.mark marks
          (leaf-filled (layer_of u) (layer_of m.mid) lowers (n ∷ p) key copy i content attributes placed)) t;
      layer = m.layer;
      thin = λ t. (law_of_thin (layer_of u) (layer_of m.mid) lowers t n p).leaf key copy placed;
      elsewhere = m.sets.elsewhere;
      kept = was-none;
      named = λ k is h. absurd (not-named k is h);
      inodes = λ k is. m.inodes k (another k is);
      agrees = λ h. absurd (false≢true (sym (ap holds_directory leaf-there) ∙ h));
      seen = m.objects.seen;
      nameless = m.objects.nameless;
    }

  -- a directory of a lower layer
  module _ (a : Attributes) (is_folder : o ≡ object.Directory a (record { opaque = false; redirect = None })) (j l : ℕ) (shown : shows 0 (full u lowers ∷ lowers) (n ∷ p) ≡ Some (Folder j l a)) where
    pub folder-there : held (layer_of m.mid) (n ∷ p) ≡ Some (Directory key a false None)
    folder-there = m.sets.there ∙ ap (λ x. Some (seen_object key x)) is_folder

    sets : SetsPath (layer_of u) (layer_of m.mid) (n ∷ p) (Directory key a false None)
    sets = record { there = folder-there; elsewhere = m.sets.elsewhere }

    inodes : (layer_of m.mid).inodes ≡ (layer_of u).inodes
    inodes = inodes-same u m.mid (λ k. elim (cases_eq k key) [
      | inl e ↦ ap (inode_at m.mid) e ∙ m.inode ∙ ap new_inode is_folder ∙ sym (ap (inode_at u) e ∙ vacant-inode u key m.vacant)
      | inr ne ↦ m.inodes k ne
    ])

    folder : Placed (layer_of u) (layer_of m.mid) (n ∷ p) (Some (Directory key a false None))
    folder = record { here = folder-there; beneath = beneath; elsewhere = outside; inodes = inodes }

    pub prepared-directory : (marked : Bool) → Prepared u m.mid lowers marked (n ∷ p)
    prepared-directory marked = record {
      moves = λ h V x t. law_of_placed_move (full u lowers) (full m.mid lowers) V lowers h n p j l key a none shown (placed-filled (layer_of u) (layer_of m.mid) lowers (n ∷ p) (Some (Directory key a false None)) folder) marked (n ∷ p) x t;
      layer = m.layer;
      thin = λ t. (law_of_thin (layer_of u) (layer_of m.mid) lowers t n p).directory key a false None folder;
      elsewhere = m.sets.elsewhere;
      kept = was-none;
      named = λ k is h. let z : Some (Directory key a false None) ≡ Some (Named k) = sym folder-there ∙ h in absurd (cc);
      inodes = λ k is. m.inodes k (another k is);
      agrees = λ h. agree-placed (layer_of u) (layer_of m.mid) lowers (n ∷ p) key a none sets inodes (n ∷ p);
      seen = m.objects.seen;
      nameless = m.objects.nameless;
    }
