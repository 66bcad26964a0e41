-- What a change of one directory's table means for the keys.
use Rattle.std.proofs.Common.{◌≡◌, ◌≢◌, ℕ, ◌+◌, ◌≤◌, List, Option, Some, None, cond, IsSome, is_some, get_or, refl, sym, ap, subst, ◌∙◌, inl, inr, arith}
use Rattle.std.specs.Option.{option_and_then, option_map_or}
use Rattle.std.specs.Prelude.{option_map}
use Rattle.std.specs.FinMap as map
use Rattle.std.proofs.lemmas.Bool.{cases_eq}
use Rattle.std.proofs.lemmas.List.Sums.{sum_by-set}
use Rattle.slab.specs.Slab.{get, with_value, slab_len}
use Rattle.slab.proofs.SlabLemmas.{Updates-with_value, ContainsKey-within}
use Rattle.layer_tree.specs.Table.{Table, NameMap, entry_in}
use Rattle.layer_tree.specs.Tree.{Tree, table_of, inode_of, seen, entry, seen_at, inode_at, names_room}
use Rattle.layer_tree.specs.Change.{Retabled, Retables, IsCounted}
use Rattle.layer_tree.specs.declared.node.Node.{Node}
use Rattle.layer_tree.specs.declared.node.Node.TheVariants as node
use Rattle.layer_tree.specs.declared.node.Directory.{Directory}

pub retables : (t : Tree) (dir : ℕ) (before after : Node) (change : NameMap → NameMap) (used : ℕ) → get t dir ≡ Some before → Retabled before after change used → Retables t (with_value t dir after) dir change used
retables t dir before after change used found retabled =
    let updates = Updates-with_value t dir after (subst IsSome (sym found) refl) in
    record { before = before; was = found; after = after; is = updates.changed; retabled = retabled; others = updates.others }

pub slab_len-with_value : (t : Tree) (key : ℕ) (before after : Node) → get t key ≡ Some before → slab_len (with_value t key after) ≡ slab_len t
slab_len-with_value t key before after found =
    let within = ContainsKey-within t key (subst IsSome (sym found) refl) in
    let one : Option Node → ℕ = λ o. cond (is_some o) 1 0 in
    let counted = sum_by-set one t.slots key (Some after) None within in
    let was : one (get_or t.slots key None) ≡ 1 = ap one found in
    omega (arith, counted, was)

-- the parts of a change of one table
module _ (old new : Tree) (dir : ℕ) (change : NameMap → NameMap) (used : ℕ) (r : Retables old new dir change used) where
  pub was_dir : get old dir ≡ Some (node.Directory r.retabled.before)
  was_dir = r.was ∙ ap Some r.retabled.was

  pub is_dir : get new dir ≡ Some (node.Directory (record r.retabled.before { names = r.retabled.table }))
  is_dir = r.is ∙ ap Some r.retabled.is

  -- what any reading of a node gives that doesn't depend on the directory's names
  pub same_reading : {A : Type 0} (f : ℕ → Option Node → A) → ((d : Directory) (t : Table) → f dir (Some (node.Directory (record d { names = t }))) ≡ f dir (Some (node.Directory d))) → (key : ℕ) → f key (get new key) ≡ f key (get old key)
  same_reading f blind key =
      elim (cases_eq key dir) [
        | inl e ↦ subst (λ (k : ℕ). f k (get new k) ≡ f k (get old k)) (sym e) (ap (f dir) is_dir ∙ blind r.retabled.before r.retabled.table ∙ sym (ap (f dir) was_dir))
        | inr differs ↦ ap (f key) (r.others key differs)
      ]

  pub same_seen : (key : ℕ) → seen_at new key ≡ seen_at old key
  same_seen key = same_reading (λ k o. option_map (seen k) o) (λ d t. refl) key

  pub same_kind : (key : ℕ) → is_some (option_and_then table_of (get new key)) ≡ is_some (option_and_then table_of (get old key))
  same_kind key = same_reading (λ k o. is_some (option_and_then table_of o)) (λ d t. refl) key

  pub same_presence : (key : ℕ) → is_some (get new key) ≡ is_some (get old key)
  same_presence key = same_reading (λ k o. is_some o) (λ d t. refl) key

  pub same_inode : (key : ℕ) → inode_at new key ≡ inode_at old key
  same_inode key = same_reading (λ k o. option_and_then inode_of o) (λ d t. refl) key

  -- a directory is counted whatever its names are
  pub same_count : (key : ℕ) → IsCounted (get old key) → IsCounted (get new key)
  same_count key h =
      elim (cases_eq key dir) [
        | inl e ↦ subst IsCounted (sym (ap (get new) e ∙ is_dir)) tt
        | inr differs ↦ subst IsCounted (sym (r.others key differs)) h
      ]

  pub entry_new : (name : List ℕ) → entry new dir name ≡ map.get (change r.retabled.before.names.entries) name
  entry_new name = ap (λ o. option_and_then (λ table. entry_in table name) (option_and_then table_of o)) is_dir ∙ ap (λ m. map.get m name) r.retabled.entries

  pub entry_old : (name : List ℕ) → entry old dir name ≡ map.get r.retabled.before.names.entries name
  entry_old name = ap (λ o. option_and_then (λ table. entry_in table name) (option_and_then table_of o)) was_dir

  pub entry_other : (d : ℕ) (name : List ℕ) → d ≢ dir → entry new d name ≡ entry old d name
  entry_other d name differs = ap (λ o. option_and_then (λ table. entry_in table name) (option_and_then table_of o)) (r.others d differs)

  pub room_kept : (d : ℕ) → names_room old d ≤ names_room new d + used
  room_kept d =
      elim (cases_eq d dir) [
        | inl e ↦ subst (λ (k : ℕ). names_room old k ≤ names_room new k + used) (sym e) at_dir
        | inr differs ↦
            let same : names_room new d ≡ names_room old d = ap (λ o. option_map_or (λ (t : Table). t.spare) (option_and_then table_of o) 0) (r.others d differs) in
            omega (arith, same)
      ]
    where
      at_dir : names_room old dir ≤ names_room new dir + used
      at_dir =
          let a : names_room old dir ≡ r.retabled.before.names.spare = ap (λ o. option_map_or (λ (t : Table). t.spare) (option_and_then table_of o) 0) was_dir in
          let b : names_room new dir ≡ r.retabled.table.spare = ap (λ o. option_map_or (λ (t : Table). t.spare) (option_and_then table_of o) 0) is_dir in
          omega (arith, a, b, r.retabled.spare)

-- where no entry changes, each name leads where it led
pub same_entries : (old new : Tree) (dir : ℕ) → Retables old new dir (λ m. m) 0 → (d : ℕ) (name : List ℕ) → entry new d name ≡ entry old d name
same_entries old new dir r d name =
    elim (cases_eq d dir) [
      | inl e ↦ subst (λ (k : ℕ). entry new k name ≡ entry old k name) (sym e) (entry_new old new dir (λ m. m) 0 r name ∙ sym (entry_old old new dir (λ m. m) 0 r name))
      | inr differs ↦ entry_other old new dir (λ m. m) 0 r d name differs
    ]
