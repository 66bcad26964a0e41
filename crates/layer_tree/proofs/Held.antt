-- What a tree keeps, said of the layer that it is.
use Rattle.std.proofs.Common.{◌≡◌, ◌≢◌, ℕ, List, [], ◌∷◌, Option, Some, None, Bool, true, IsSome, is_some, refl, sym, ap, subst, ◌∙◌, true≢false}
use Rattle.std.specs.Option.{option_and_then}
use Rattle.std.specs.Prelude.{option_map}
use Rattle.slab.specs.Slab.{get}
use Rattle.ov_base.specs.declared.redirect.Redirect.TheVariants as redirect
use Rattle.plain_model.specs.Layers as layers
use Rattle.plain_model.specs.Layers.{Path, held}
use Rattle.layer_tree.specs.Table.{entry_in, object_key}
use Rattle.layer_tree.specs.Tree.{Tree, ROOT, table_of, inode_of, seen, entry, child, key_at, entry_at, seen_at, seen_entry, inode_at, object_at, layer_of, leads_on, IsDirectory, IsTree, IsHeldTogether, directory_number}
use Rattle.layer_tree.specs.declared.name_table.Entry.{Entry}
use Rattle.layer_tree.specs.declared.name_table.Entry.TheVariants as to
use Rattle.layer_tree.specs.declared.node.Node.{Node}
use Rattle.layer_tree.specs.declared.node.Node.TheVariants as node
use Rattle.layer_tree.proofs.Walks.{bound, one_path}
use Rattle.layer_tree.proofs.Changing.{kind_seen, key_of_entry, is_placed, root_is_directory}

-- what is held somewhere has an entry in a directory
held_entry : (t : Tree) (name : List ℕ) (path : Path) → is_some (object_at t (name ∷ path)) ≡ true → (e : Entry) × (entry_at t (name ∷ path) ≡ Some e)
held_entry t name path h = of (entry_at t (name ∷ path)) h
  where
    of : (o : Option Entry) → is_some (option_and_then (seen_entry t) o) ≡ true → (e : Entry) × (o ≡ Some e)
    of None h = absurd (true≢false (sym h))
    of (Some e) h = (e, refl)

-- a key with an entry is a directory
entry_in_directory : (t : Tree) (dir : ℕ) (name : List ℕ) (e : Entry) → entry t dir name ≡ Some e → IsDirectory t dir
entry_in_directory t dir name e is =
    let table = bound (λ table. entry_in table name) (option_and_then table_of (get t dir)) e is in
    subst IsSome (sym table.1) refl

-- a path that leads to a directory holds one
directory_held : (t : Tree) (path : Path) (key : ℕ) → key_at t path ≡ Some key → IsDirectory t key → layers.holds_directory (held (layer_of t) path) ≡ true
directory_held t [] key at is = refl
directory_held t (name ∷ path) key at is =
    of (entry_at t (name ∷ path)) (sym (key_of_entry t (name ∷ path)) ∙ at)
  where
    of : (o : Option Entry) → option_and_then object_key o ≡ Some key → layers.holds_directory (option_and_then (seen_entry t) o) ≡ true
    of None e = absurd (cc)
    of (Some to.Whiteout) e = absurd (cc)
    of (Some (to.Object j)) e =
        let same : j ≡ key = cc in
        ap (λ (k : ℕ). layers.holds_directory (seen_at t k)) same ∙ sym (kind_seen t key) ∙ is

-- what stands at a path below the root is what is seen under a key, or a whiteout
held_seen : (t : Tree) (name : List ℕ) (path : Path) (o : layers.Object) → object_at t (name ∷ path) ≡ Some o → o ≢ layers.Whiteout → (key : ℕ) × (seen_at t key ≡ Some o)
held_seen t name path o is differs = of (entry_at t (name ∷ path)) is
  where
    of : (e : Option Entry) → option_and_then (seen_entry t) e ≡ Some o → (key : ℕ) × (seen_at t key ≡ Some o)
    of None f = absurd (cc)
    of (Some to.Whiteout) f = absurd (differs (cc))
    of (Some (to.Object key)) f = (key, f)

seen_number : (j key : ℕ) (o : Option Node) → directory_number (option_map (seen j) o) ≡ Some key → (j ≡ key) × IsSome (option_and_then table_of o)
seen_number j key None h = absurd (cc)
seen_number j key (Some (node.Directory d)) h = (cc, refl)
seen_number j key (Some (node.Inode i)) h = absurd (cc)

-- a directory that is held stands under its number, to which the path leads
number_at : (t : Tree) → IsTree t → (path : Path) (key : ℕ) → directory_number (held (layer_of t) path) ≡ Some key → (key_at t path ≡ Some key) × IsDirectory t key
number_at t tree [] key h =
    let root : ROOT ≡ key = cc in
    (ap Some root, subst (IsDirectory t) root (root_is_directory t tree))
number_at t tree (n ∷ p) key h = of (entry_at t (n ∷ p)) refl h
  where
    of : (e : Option Entry) → entry_at t (n ∷ p) ≡ e → directory_number (option_and_then (seen_entry t) e) ≡ Some key → (key_at t (n ∷ p) ≡ Some key) × IsDirectory t key
    of None is f = absurd (cc)
    of (Some to.Whiteout) is f = absurd (cc)
    of (Some (to.Object j)) is f =
        let there = seen_number j key (get t j) f in
        (key_of_entry t (n ∷ p) ∙ ap (option_and_then object_key) is ∙ ap Some there.0, subst (IsDirectory t) there.0 there.1)

pub held_together : (t : Tree) → IsTree t → IsHeldTogether (layer_of t)
held_together t tree =
    record {
      parents = λ name path h.
          let found = held_entry t name path h in
          let dir = bound (λ key. entry t key name) (key_at t path) found.0 found.1 in
          directory_held t path dir.0 dir.1 (entry_in_directory t dir.0 name found.0 dir.2);
      redirects = λ path key a opaque target h. leads path key a opaque target h;
      present = λ path key h. inode_there path key h;
      one_path = λ path other key h g.
          let first = number_at t tree path key h in
          one_path (child t) ROOT (IsDirectory t) (is_placed t tree) path other key first.0 (number_at t tree other key g).0 first.1;
    }
  where
    not_empty : (key : ℕ) (a : _) (opaque : Bool) (target : Path) → leads_on (Some (layers.Directory key a opaque (Some (redirect.Absolute target)))) ≡ true → target ≢ []
    not_empty key a opaque [] h e = true≢false (sym h)
    not_empty key a opaque (n ∷ p) h e = cc

    leads : (path : Path) (key : ℕ) (a : _) (opaque : Bool) (target : Path) → held (layer_of t) path ≡ Some (layers.Directory key a opaque (Some (redirect.Absolute target))) → target ≢ []
    leads [] key a opaque target h = absurd (cc)
    leads (n ∷ p) key a opaque target h =
        let found = held_seen t n p _ h (λ e. cc) in
        not_empty key a opaque target (sym (ap leads_on found.1) ∙ tree.redirects found.0)

    inode : (j key : ℕ) (o : Option Node) → option_map (seen j) o ≡ Some (layers.Named key) → (j ≡ key) × (is_some (option_and_then inode_of o) ≡ true)
    inode j key None e = absurd (cc)
    inode j key (Some (node.Directory d)) e = absurd (cc)
    inode j key (Some (node.Inode i)) e = (cc, refl)

    inode_there : (path : Path) (key : ℕ) → held (layer_of t) path ≡ Some (layers.Named key) → is_some (inode_at t key) ≡ true
    inode_there [] key h = absurd (cc)
    inode_there (n ∷ p) key h =
        let found = held_seen t n p _ h (λ e. cc) in
        let there = inode found.0 key (get t found.0) found.1 in
        subst (λ (k : ℕ). is_some (inode_at t k) ≡ true) there.0 there.1
