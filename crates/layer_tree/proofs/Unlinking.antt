-- What one name less of an object means for the keys.
use Rattle.std.proofs.Common.{◌≡◌, ◌≢◌, ◌⊎◌, ℕ, List, Option, Some, None, refl, ap, ◌∙◌, inl, inr}
use Rattle.std.specs.Option.{option_and_then, option_map_or}
use Rattle.std.specs.Prelude.{option_map}
use Rattle.std.proofs.lemmas.Bool.{cases_eq}
use Rattle.slab.specs.Slab.{get}
use Rattle.layer_tree.specs.Table.{Table, entry_in}
use Rattle.layer_tree.specs.Tree.{Tree, table_of, inode_of, seen, entry, seen_at, inode_at, names_room, with_less}
use Rattle.layer_tree.specs.Change.{Unlinks, unlinked}
use Rattle.layer_tree.specs.declared.node.Node.{Node}
use Rattle.layer_tree.specs.declared.node.Node.TheVariants as node

-- a key is this one or not
pub cases_key : (key : Option ℕ) (k : ℕ) → (key ≡ Some k) ⊎ (key ≢ Some k)
cases_key None k = inr (λ e. cc)
cases_key (Some j) k = elim (cases_eq j k) [ inl e ↦ inl (ap Some e) | inr differs ↦ inr (λ e. differs (cc)) ]

module _ (old new : Tree) (key : Option ℕ) (u : Unlinks old new key) where
  -- what any reading of an object gives that doesn't depend on the number of its names
  pub same_reading : {A : Type 0} (f : Option Node → A) → ((n : Node) → f (Some (unlinked n)) ≡ f (Some n)) → (k : ℕ) → f (get new k) ≡ f (get old k)
  same_reading f blind k =
      elim (cases_key key k) [
        | inl e ↦ ap f (u.named k e) ∙ of (get old k)
        | inr differs ↦ ap f (u.others k differs)
      ]
    where
      of : (o : Option Node) → f (option_map unlinked o) ≡ f o
      of None = refl
      of (Some n) = blind n

  pub same_entries : (d : ℕ) (name : List ℕ) → entry new d name ≡ entry old d name
  same_entries d name = same_reading (λ o. option_and_then (λ table. entry_in table name) (option_and_then table_of o)) blind d
    where
      blind : (n : Node) → option_and_then (λ table. entry_in table name) (table_of (unlinked n)) ≡ option_and_then (λ table. entry_in table name) (table_of n)
      blind (node.Directory d) = refl
      blind (node.Inode i) = refl

  pub same_seen : (k : ℕ) → seen_at new k ≡ seen_at old k
  same_seen k = same_reading (option_map (seen k)) blind k
    where
      blind : (n : Node) → Some (seen k (unlinked n)) ≡ Some (seen k n)
      blind (node.Directory d) = refl
      blind (node.Inode i) = refl

  pub same_room : (d : ℕ) → names_room new d ≡ names_room old d
  same_room d = same_reading (λ o. option_map_or (λ (t : Table). t.spare) (option_and_then table_of o) 0) blind d
    where
      blind : (n : Node) → option_map_or (λ (t : Table). t.spare) (table_of (unlinked n)) 0 ≡ option_map_or (λ (t : Table). t.spare) (table_of n) 0
      blind (node.Directory d) = refl
      blind (node.Inode i) = refl

  pub inode_less : (k : ℕ) → key ≡ Some k → inode_at new k ≡ option_map with_less (inode_at old k)
  inode_less k e = ap (option_and_then inode_of) (u.named k e) ∙ of (get old k)
    where
      of : (o : Option Node) → option_and_then inode_of (option_map unlinked o) ≡ option_map with_less (option_and_then inode_of o)
      of None = refl
      of (Some (node.Directory d)) = refl
      of (Some (node.Inode i)) = refl

  pub inode_kept : (k : ℕ) → key ≢ Some k → inode_at new k ≡ inode_at old k
  inode_kept k differs = ap (option_and_then inode_of) (u.others k differs)
