-- Trees that are alike, and the tree of one directory.
use Rattle.std.proofs.Common.{◌≡◌, ◌≢◌, ℕ, List, [], ◌∷◌, Option, Some, None, false, is_some, get_or, refl, sym, ap, subst, ◌∙◌, inl, inr, true≢false}
use Rattle.std.specs.Option.{option_and_then}
use Rattle.std.specs.Prelude.{option_map}
use Rattle.std.specs.FinMap as map
use Rattle.std.specs.FinMap.{get-empty}
use Rattle.std.specs.Ordering.{nat_cmp}
use Rattle.std.specs.Cmp.Lexicographic.{slice_cmp}
use Rattle.std.proofs.lemmas.Bool.{cases_eq}
use Rattle.slab.specs.Slab.{get, Updates}
use Rattle.plain_model.specs.Layers as layers
use Rattle.plain_model.specs.Layers.{Path, held}
use Rattle.layer_tree.specs.Table.{entry_in, object_key}
use Rattle.layer_tree.specs.Tree.{Tree, ROOT, table_of, inode_of, seen, entry, child, key_at, entry_at, seen_at, seen_entry, inode_at, layer_of, directory_attributes, leads_on, IsUnmarked, IsTree, SameObjects}
use Rattle.layer_tree.specs.declared.name_table.Entry.{Entry}
use Rattle.layer_tree.specs.declared.name_table.Entry.TheVariants as to
use Rattle.layer_tree.specs.declared.node.Node.{Node}
use Rattle.layer_tree.specs.declared.node.Node.TheVariants as node
use Rattle.layer_tree.specs.declared.node.Directory.{Directory}
use Rattle.layer_tree.specs.Places.{HasNames}
use Rattle.layer_tree.proofs.Walks.{unwrapped}
use Rattle.layer_tree.proofs.Changing.{same_kind, same_presence}
use Rattle.layer_tree.proofs.Counting.{HasNames-alike}

abbrev pub links_of : layers.Inode → ℕ
links_of i = i.links

-- where each name is bound as it was
module _ (old new : Tree) (entries : (d : ℕ) (n : List ℕ) → entry new d n ≡ entry old d n) where
  pub key_at-bound : (p : Path) → key_at new p ≡ key_at old p
  key_at-bound [] = refl
  key_at-bound (n ∷ p) = ap (option_and_then (λ k. child new k n)) (key_at-bound p) ∙ of (key_at old p)
    where
      of : (o : Option ℕ) → option_and_then (λ k. child new k n) o ≡ option_and_then (λ k. child old k n) o
      of None = refl
      of (Some k) = ap (option_and_then object_key) (entries k n)

  pub entry_at-bound : (p : Path) → entry_at new p ≡ entry_at old p
  entry_at-bound [] = refl
  entry_at-bound (n ∷ p) = ap (option_and_then (λ k. entry new k n)) (key_at-bound p) ∙ of (key_at old p)
    where
      of : (o : Option ℕ) → option_and_then (λ k. entry new k n) o ≡ option_and_then (λ k. entry old k n) o
      of None = refl
      of (Some k) = entries k n

-- where the same is seen under each key, and each name is bound as it was
module _ (old new : Tree) (entries : (d : ℕ) (n : List ℕ) → entry new d n ≡ entry old d n) (same : (k : ℕ) → seen_at new k ≡ seen_at old k) where
  pub IsTree-alike : ((k : ℕ) → option_map links_of (inode_at new k) ≡ option_map links_of (inode_at old k)) → IsTree old → IsTree new
  IsTree-alike counts tree =
      let children : (d : ℕ) (n : List ℕ) → child new d n ≡ child old d n = λ d n. ap (option_and_then object_key) (entries d n) in
      record {
        root = subst IsUnmarked (sym (same ROOT)) tree.root;
        root_unnamed = λ d n e. tree.root_unnamed d n (sym (children d n) ∙ e);
        present = λ d n k e. same_presence old new k (same k) ∙ tree.present d n k (sym (children d n) ∙ e);
        one_name = λ d e n m k f g is. tree.one_name d e n m k (sym (children d n) ∙ f) (sym (children e m) ∙ g) (sym (same_kind old new k (same k)) ∙ is);
        redirects = λ k. ap leads_on (same k) ∙ tree.redirects k;
        links = λ k i is. HasNames-alike (child old) (child new) children k i.links (names k i.links (inode_at old k) refl (sym (counts k) ∙ ap (option_map links_of) is));
      }
    where
      names : (k n : ℕ) (o : Option layers.Inode) → inode_at old k ≡ o → option_map links_of o ≡ Some n → HasNames (child old) k n
      names k n None at e = absurd (cc)
      names k n (Some j) at e = subst (HasNames (child old) k) (unwrapped j.links n e) (tree.links k j at)

  pub SameObjects-alike : SameObjects (layer_of old) (layer_of new)
  SameObjects-alike [] = ap (λ o. Some (layers.Directory ROOT (directory_attributes o) false None)) (same ROOT)
  SameObjects-alike (n ∷ p) = ap (option_and_then (seen_entry new)) (entry_at-bound old new entries (n ∷ p)) ∙ of (entry_at old (n ∷ p))
    where
      of : (o : Option Entry) → option_and_then (seen_entry new) o ≡ option_and_then (seen_entry old) o
      of None = refl
      of (Some (to.Object k)) = same k
      of (Some to.Whiteout) = refl

-- a slab with one directory, the root
module _ (old new : Tree) (d : Directory) (key : ℕ) (empty : old.slots ≡ []) (is : key ≡ ROOT) (updates : Updates old new key (Some (node.Directory d))) (no_names : d.names.entries ≡ map.empty) where
  pub at_root : get new ROOT ≡ Some (node.Directory d)
  at_root = ap (get new) (sym is) ∙ updates.changed

  others : (k : ℕ) → k ≢ ROOT → get new k ≡ None
  others k differs = updates.others k (λ e. differs (e ∙ is)) ∙ ap (λ s. get_or s k None) empty

  pub no_entry : (dir : ℕ) (n : List ℕ) → entry new dir n ≡ None
  no_entry dir n =
      let read : Option Node → Option Entry = λ o. option_and_then (λ table. entry_in table n) (option_and_then table_of o) in
      elim (cases_eq dir ROOT) [
        | inl e ↦ ap (λ (x : ℕ). entry new x n) e ∙ ap read at_root ∙ ap (λ m. map.get m n) no_names ∙ get-empty (slice_cmp nat_cmp) n
        | inr differs ↦ ap read (others dir differs)
      ]

  no_child : (dir : ℕ) (n : List ℕ) → child new dir n ≡ None
  no_child dir n = ap (option_and_then object_key) (no_entry dir n)

  pub held_root : held (layer_of new) [] ≡ Some (layers.Directory ROOT d.attributes false None)
  held_root = ap (λ o. Some (layers.Directory ROOT (directory_attributes (option_map (seen ROOT) o)) false None)) at_root

  pub nothing_held : (n : List ℕ) (p : Path) → held (layer_of new) (n ∷ p) ≡ None
  nothing_held n p = ap (option_and_then (seen_entry new)) (of (key_at new p))
    where
      of : (o : Option ℕ) → option_and_then (λ k. entry new k n) o ≡ None
      of None = refl
      of (Some k) = no_entry k n

  pub no_inode : (k : ℕ) → inode_at new k ≡ None
  no_inode k =
      elim (cases_eq k ROOT) [
        | inl e ↦ ap (inode_at new) e ∙ ap (option_and_then inode_of) at_root
        | inr differs ↦ ap (option_and_then inode_of) (others k differs)
      ]

  pub IsTree-root : (d.marks.opaque ≡ false) × (d.marks.redirect ≡ None) → IsTree new
  IsTree-root unmarked =
      record {
        root = subst IsUnmarked (sym (ap (option_map (seen ROOT)) at_root)) unmarked;
        root_unnamed = λ dir n e. true≢false (sym (ap is_some e) ∙ ap is_some (no_child dir n));
        present = λ dir n k e. absurd (true≢false (sym (ap is_some e) ∙ ap is_some (no_child dir n)));
        one_name = λ dir other n m k e f g. absurd (true≢false (sym (ap is_some e) ∙ ap is_some (no_child dir n)));
        redirects = λ k. elim (cases_eq k ROOT) [
          | inl e ↦ ap (λ (x : ℕ). leads_on (seen_at new x)) e ∙ ap (λ o. leads_on (option_map (seen ROOT) o)) at_root ∙ ap (λ r. leads_on (Some (layers.Directory ROOT d.attributes d.marks.opaque r))) unmarked.1
          | inr differs ↦ ap (λ o. leads_on (option_map (seen k) o)) (others k differs)
        ];
        links = λ k i is. absurd (true≢false (sym (ap is_some is) ∙ ap is_some (no_inode k)));
      }
