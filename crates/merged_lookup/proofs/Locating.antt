-- Keys at paths: what stands below a path, at how many paths a directory stands, and where the mount shows an object of the upper.
use Rattle.std.proofs.Common.{◌≡◌, ℕ, [], ◌∷◌, ◌++◌, Option, None, Some, IsSome, is_some, true, refl, sym, ap, ◌∙◌}
use Rattle.std.proofs.lemmas.Bool.{false≢true}
use Rattle.std.specs.Option.{option_and_then, option_map}
use Rattle.slab.specs.Slab.{get}
use Rattle.plain_model.specs.Layers.{Name, Path, Inode, held, over, shows, Shown, unless, cuts, below}
use Rattle.layer_tree.specs.Table.{Table, entry_in, object_key}
use Rattle.layer_tree.specs.Tree.{Tree, ROOT, layer_of, table_of, key_at, entry, child, seen, seen_at, seen_entry, directory_number, IsDirectory, IsTree, IsHeldTogether}
use Rattle.layer_tree.specs.declared.name_table.Entry.{Entry}
use Rattle.layer_tree.specs.declared.name_table.Entry.TheVariants as bound
use Rattle.layer_tree.specs.declared.node.Node.{Node}
use Rattle.layer_tree.specs.declared.node.Node.TheVariants as node
use Rattle.layer_tree.proofs.Walks.{bound as some-before}
use Rattle.merged_lookup.specs.declared.layers.Layers.{Layers}
use Rattle.merged_lookup.specs.Merged.{lowers_of, upper_of}
use Rattle.merged_lookup.specs.Locating.{IsPlaceOf, ShowsUpper, place_of}
use Rattle.merged_lookup.proofs.Descending.{held-in}

-- a path that leads on from another does so from a key
key-before : (t : Tree) (r q : Path) (k : ℕ) → key_at t (r ++ q) ≡ Some k → (j : ℕ) × (key_at t q ≡ Some j)
key-before t [] q k h = (k, h)
key-before t (n ∷ r) q k h =
    let w = some-before (λ d. child t d n) (key_at t (r ++ q)) k h in
    key-before t r q w.0 w.1

-- the entry that leads to a key
child-entry : (e : Option Entry) (k : ℕ) → option_and_then object_key e ≡ Some k → e ≡ Some (bound.Object k)
child-entry None k h = cc
child-entry (Some bound.Whiteout) k h = cc
child-entry (Some (bound.Object j)) k h = ap (λ i. Some (bound.Object i)) (let e : j ≡ k = cc in e)

-- what a path through a name of a directory finds there
pub child-below : (t : Tree) (r p : Path) (n : Name) (d k : ℕ) → key_at t p ≡ Some d → key_at t (r ++ n ∷ p) ≡ Some k → (j : ℕ) × (child t d n ≡ Some j)
child-below t r p n d k at h =
    let w = key-before t r (n ∷ p) k h in
    (w.0, sym (ap (λ o. option_and_then (λ e. child t e n) o) at) ∙ w.1)

-- so the directory binds the name
pub bound-below : (t : Tree) (r p : Path) (n : Name) (d k : ℕ) → key_at t p ≡ Some d → key_at t (r ++ n ∷ p) ≡ Some k → is_some (entry t d n) ≡ true
bound-below t r p n d k at h =
    let w = child-below t r p n d k at h in
    ap is_some (child-entry (entry t d n) w.0 w.1)

-- what has an entry has a table
table-some : (o : Option Table) (n : Name) (e : Entry) → option_and_then (λ table. entry_in table n) o ≡ Some e → IsSome o
table-some None n e h = cc
table-some (Some table) n e h = refl

-- what a path leads on from is a directory
pub below-directory : (t : Tree) (r p : Path) (n : Name) (d k : ℕ) → key_at t p ≡ Some d → key_at t (r ++ n ∷ p) ≡ Some k → IsDirectory t d
below-directory t r p n d k at h =
    let w = child-below t r p n d k at h in
    table-some (option_and_then table_of (get t d)) n (bound.Object w.0) (child-entry (entry t d n) w.0 w.1)

-- what is held where a key stands
key-held : (t : Tree) (p : Path) (n : Name) (k : ℕ) → key_at t (n ∷ p) ≡ Some k → held (layer_of t) (n ∷ p) ≡ seen_at t k
key-held t p n k h =
    let w = some-before (λ d. child t d n) (key_at t p) k h in
    held-in t p w.0 n w.1 ∙ ap (option_and_then (seen_entry t)) (child-entry (entry t w.0 n) k w.2)

-- a directory is seen by its key
directory-seen : (k : ℕ) (o : Option Node) → IsSome (option_and_then table_of o) → directory_number (option_map (seen k) o) ≡ Some k
directory-seen k None h = absurd (false≢true h)
directory-seen k (Some (node.Directory d)) h = refl
directory-seen k (Some (node.Inode i)) h = absurd (false≢true h)

-- and held by it
directory-held : (t : Tree) (p : Path) (k : ℕ) → IsDirectory t k → key_at t p ≡ Some k → directory_number (held (layer_of t) p) ≡ Some k
directory-held t [] k h e = e
directory-held t (n ∷ p) k h e = ap directory_number (key-held t p n k e) ∙ directory-seen k (get t k) h

-- a directory stands at one path
pub one-path : (t : Tree) → IsHeldTogether (layer_of t) → (p q : Path) (k : ℕ) → IsDirectory t k → key_at t p ≡ Some k → key_at t q ≡ Some k → p ≡ q
one-path t together p q k h e f = together.one_path p q k (directory-held t p k h e) (directory-held t q k h f)

-- what the upper holds shows the upper's key
seen-shown : (k : ℕ) (o : Option Node) (inodes : ℕ → Option Inode) (s : Option Shown) → IsSome o → place_of (over 0 inodes (option_map (seen k) o) s) ≡ Some (record { layer = 0; key = k })
seen-shown k None inodes s h = absurd (false≢true h)
seen-shown k (Some (node.Directory d)) inodes s h = refl
seen-shown k (Some (node.Inode i)) inodes s h = refl

-- the mount shows an object of the upper where its path leads
shown-at : (l : Layers) → IsTree l.upper → (k : ℕ) (p : Path) → key_at l.upper p ≡ Some k → ShowsUpper l k (Some p)
shown-at l is k [] h = let e : ROOT ≡ k = cc in ap (λ j. Some (record { layer = 0; key = j })) e
shown-at l is k (n ∷ p) h =
    let w = some-before (λ d. child l.upper d n) (key_at l.upper p) k h in
    let s : Option Shown = unless (cuts (layer_of l.upper) (n ∷ p)) (shows 1 (lowers_of l) (below (layer_of l.upper) (n ∷ p))) in
    ap (λ o. place_of (over 0 (upper_of l).inodes o s)) (key-held l.upper p n k h)
    ∙ seen-shown k (get l.upper k) (upper_of l).inodes s (is.present w.0 n k w.2)

-- the mount shows an object of the upper at its place
pub place-shown : (l : Layers) → IsTree l.upper → (k : ℕ) (o : Option Path) → IsPlaceOf l k o → ShowsUpper l k o
place-shown l is k None h = tt
place-shown l is k (Some p) h = shown-at l is k p h.0
