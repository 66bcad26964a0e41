-- What stands under a key is replaced by an object with the same names in it, and as many of its own.
use Rattle.std.proofs.Common.{◌≡◌, ℕ, List, [], ◌∷◌, false, Option, Some, None, IsSome, IsTrue, is_some, refl, sym, ap, subst, ◌∙◌, inl, inr}
use Rattle.std.specs.Option.{option_and_then, option_map_or}
use Rattle.std.specs.Prelude.{option_map}
use Rattle.std.proofs.lemmas.Bool.{cases_eq}
use Rattle.slab.specs.Slab.{get, with_value, Updates}
use Rattle.slab.proofs.SlabLemmas.{Updates-with_value}
use Rattle.ov_base.specs.declared.attributes.Attributes.{Attributes}
use Rattle.plain_model.specs.Layers as layers
use Rattle.plain_model.specs.Layers.{Path, held, IsLayer}
use Rattle.layer_tree.specs.Table.{Table, entry_in, object_key}
use Rattle.layer_tree.specs.Places.{HasNames}
use Rattle.layer_tree.specs.Tree.{Tree, ROOT, table_of, inode_of, seen, entry, child, key_at, entry_at, seen_at, seen_entry, inode_at, names_room, layer_of, directory_attributes, leads_on, IsUnmarked, IsTree}
use Rattle.layer_tree.specs.Nameless.{IsNameless}
use Rattle.layer_tree.specs.declared.name_table.Entry.{Entry}
use Rattle.layer_tree.specs.declared.name_table.Entry.TheVariants as to
use Rattle.layer_tree.specs.declared.node.Node.{Node}
use Rattle.layer_tree.proofs.Walks.{unwrapped}
use Rattle.layer_tree.proofs.Counting.{HasNames-alike}
use Rattle.layer_tree.proofs.Changing.{key_of_entry}
use Rattle.layer_tree.proofs.Roots.{links_of, key_at-bound, entry_at-bound}
use Rattle.layer_tree.proofs.Nameless.{nameless_alike}
use Rattle.layer_tree.proofs.Held.{held_together}
use Rattle.layer_tree.proofs.Layers.{named_number, IsLayer-named}

module _ (old : Tree) (key : ℕ) (before changed : Node) (found : get old key ≡ Some before) where
  abbrev pub after : Tree
  after = with_value old key changed

  pub updates : Updates old after key (Some changed)
  updates = Updates-with_value old key changed (subst IsSome (sym found) refl)

  -- what a reading gives that is the same of both
  pub same_reading : {A : Type 0} (f : Option Node → A) → f (Some changed) ≡ f (Some before) → (k : ℕ) → f (get after k) ≡ f (get old k)
  same_reading f same k =
      elim (cases_eq k key) [
        | inl e ↦ ap (λ (x : ℕ). f (get after x)) e ∙ ap f updates.changed ∙ same ∙ sym (ap f found) ∙ sym (ap (λ (x : ℕ). f (get old x)) e)
        | inr differs ↦ ap f (updates.others k differs)
      ]

  same_presence : (k : ℕ) → is_some (get after k) ≡ is_some (get old k)
  same_presence = same_reading is_some refl

  -- the names in it are the same
  module _ (names : table_of changed ≡ table_of before) where
    pub same_entries : (d : ℕ) (name : List ℕ) → entry after d name ≡ entry old d name
    same_entries d name = same_reading (λ o. option_and_then (λ table. entry_in table name) (option_and_then table_of o)) (ap (option_and_then (λ table. entry_in table name)) names) d

    same_children : (d : ℕ) (name : List ℕ) → child after d name ≡ child old d name
    same_children d name = ap (option_and_then object_key) (same_entries d name)

    same_kind : (k : ℕ) → is_some (option_and_then table_of (get after k)) ≡ is_some (option_and_then table_of (get old k))
    same_kind = same_reading (λ o. is_some (option_and_then table_of o)) (ap is_some names)

    pub same_room : (d : ℕ) → names_room after d ≡ names_room old d
    same_room = same_reading (λ o. option_map_or (λ (t : Table). t.spare) (option_and_then table_of o) 0) (ap (λ o. option_map_or (λ (t : Table). t.spare) o 0) names)

    -- what had no name has none
    pub still_nameless : (k : ℕ) → IsNameless old k → IsNameless after k
    still_nameless k = nameless_alike old after same_children k (same_presence k)

    pub same_keys : (path : Path) → key_at after path ≡ key_at old path
    same_keys = key_at-bound old after same_entries

    -- a path at which the key doesn't stand holds what it held
    pub held_beside : (path : Path) → (key_at old path ≡ Some key → ⊥) → held (layer_of after) path ≡ held (layer_of old) path
    held_beside [] off = ap (λ o. Some (layers.Directory ROOT (directory_attributes o) false None)) (ap (option_map (seen ROOT)) (updates.others ROOT (λ e. off (ap Some e))))
    held_beside (n ∷ p) off = ap (option_and_then (seen_entry after)) (entry_at-bound old after same_entries (n ∷ p)) ∙ of (entry_at old (n ∷ p)) refl
      where
        of : (o : Option Entry) → entry_at old (n ∷ p) ≡ o → option_and_then (seen_entry after) o ≡ option_and_then (seen_entry old) o
        of None is = refl
        of (Some to.Whiteout) is = refl
        of (Some (to.Object k)) is = ap (option_map (seen k)) (updates.others k (λ e. off (key_of_entry old (n ∷ p) ∙ ap (option_and_then object_key) is ∙ ap Some e)))

    -- what any reading of what is held gives that is the same of what is seen under each key, and of a root with other attributes
    held_reading : {A : Type 0} (f : Option layers.Object → A) → ((k : ℕ) → f (seen_at after k) ≡ f (seen_at old k)) → ((b c : Attributes) → f (Some (layers.Directory ROOT b false None)) ≡ f (Some (layers.Directory ROOT c false None))) → (path : Path) → f (held (layer_of after) path) ≡ f (held (layer_of old) path)
    held_reading f blind top [] = top _ _
    held_reading f blind top (n ∷ p) = ap (λ o. f (option_and_then (seen_entry after) o)) (entry_at-bound old after same_entries (n ∷ p)) ∙ of (entry_at old (n ∷ p))
      where
        of : (o : Option Entry) → f (option_and_then (seen_entry after) o) ≡ f (option_and_then (seen_entry old) o)
        of None = refl
        of (Some to.Whiteout) = refl
        of (Some (to.Object k)) = blind k

    -- it has as many names of its own, and marks that a tree may have
    module _ (count : option_map links_of (inode_of changed) ≡ option_map links_of (inode_of before)) (leads : IsTrue (leads_on (Some (seen key before))) → IsTrue (leads_on (Some (seen key changed)))) (unmarked : key ≡ ROOT → IsUnmarked (Some (seen ROOT before)) → IsUnmarked (Some (seen ROOT changed))) (tree : IsTree old) where
      same_links : (k : ℕ) → option_map links_of (inode_at after k) ≡ option_map links_of (inode_at old k)
      same_links = same_reading (λ o. option_map links_of (option_and_then inode_of o)) count

      -- an inode has the links that it had
      linked_before : (k : ℕ) (i : layers.Inode) → inode_at after k ≡ Some i → (j : layers.Inode) × (inode_at old k ≡ Some j) × (j.links ≡ i.links)
      linked_before k i is = of (inode_at old k) (sym (same_links k) ∙ ap (option_map links_of) is)
        where
          of : (o : Option layers.Inode) → option_map links_of o ≡ Some i.links → (j : layers.Inode) × (o ≡ Some j) × (j.links ≡ i.links)
          of None e = absurd (cc)
          of (Some j) e = (j, refl, unwrapped j.links i.links e)

      -- the root stays unmarked
      still_unmarked : IsUnmarked (seen_at after ROOT)
      still_unmarked =
          elim (cases_eq key ROOT) [
            | inl e ↦
                let was : seen_at old ROOT ≡ Some (seen ROOT before) = ap (λ (x : ℕ). option_map (seen ROOT) (get old x)) (sym e) ∙ ap (option_map (seen ROOT)) found in
                let is : seen_at after ROOT ≡ Some (seen ROOT changed) = ap (λ (x : ℕ). option_map (seen ROOT) (get after x)) (sym e) ∙ ap (option_map (seen ROOT)) updates.changed in
                subst IsUnmarked (sym is) (unmarked e (subst IsUnmarked was tree.root))
            | inr differs ↦ subst IsUnmarked (sym (ap (option_map (seen ROOT)) (updates.others ROOT (λ e. differs (sym e))))) tree.root
          ]

      -- each absolute redirect has a name
      still_leads : (k : ℕ) → IsTrue (leads_on (seen_at after k))
      still_leads k =
          elim (cases_eq k key) [
            | inl e ↦
                let was : seen_at old key ≡ Some (seen key before) = ap (option_map (seen key)) found in
                let is : seen_at after key ≡ Some (seen key changed) = ap (option_map (seen key)) updates.changed in
                ap (λ (x : ℕ). leads_on (seen_at after x)) e ∙ ap leads_on is ∙ leads (sym (ap leads_on was) ∙ tree.redirects key)
            | inr differs ↦ ap (λ o. leads_on (option_map (seen k) o)) (updates.others k differs) ∙ tree.redirects k
          ]

      pub IsTree-replaced : IsTree after
      IsTree-replaced =
          record {
            root = still_unmarked;
            root_unnamed = λ d n e. tree.root_unnamed d n (sym (same_children d n) ∙ e);
            present = λ d n k e. same_presence k ∙ tree.present d n k (sym (same_children d n) ∙ e);
            one_name = λ d e n m k f g is. tree.one_name d e n m k (sym (same_children d n) ∙ f) (sym (same_children e m) ∙ g) (sym (same_kind k) ∙ is);
            redirects = still_leads;
            links = λ k i is.
                let was = linked_before k i is in
                HasNames-alike (child old) (child after) same_children k i.links (subst (HasNames (child old) k) was.2 (tree.links k was.0 was.1));
          }

      -- where it is an inode if it was one, the layer stays one
      pub IsLayer-replaced : ((k : ℕ) → named_number (Some (seen k changed)) ≡ named_number (Some (seen k before))) → IsLayer (layer_of old) → IsLayer (layer_of after)
      IsLayer-replaced same_number =
          IsLayer-named (layer_of old) (layer_of after)
          (held_reading is_some (λ k. same_reading (λ o. is_some (option_map (seen k) o)) refl k) (λ b c. refl))
          (held_reading named_number (λ k. same_reading (λ o. named_number (option_map (seen k) o)) (same_number k) k) (λ b c. refl))
          linked_before
          (held_together after IsTree-replaced)
