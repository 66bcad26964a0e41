-- Which nodes a call makes, and which go.
use Rattle.std.proofs.Common.{◌≡◌, ℕ, ◌-◌, Bool, true, false, not, cond, ◌||◌, ◌&&◌, [], ◌∷◌, List, Option, None, Some, refl, sym, ap, subst, ◌∙◌, nat_eq, nat_lt, length, is_none, is_some, arith}
use Rattle.std.proofs.lemmas.Bool.{false≢true}
use Rattle.std.proofs.lemmas.Bool.Decides.{nat_tests}
use Rattle.std.specs.FinMap as fin
use Rattle.ov_base.specs.declared.bytes.Content.TheVariants.{File, SymbolicLink}
use Rattle.ov_base.specs.declared.call.CallOf.TheVariants.{Stat, Readlink, Chmod, Chown, SetAttribute, GetAttribute, DeleteAttribute, ListAttributes, Mkdir, Symlink, Open, Unlink, Rmdir, Hardlink, Rename, Read, Write, Seek, Truncate, Fstat, ListNames, Close, Arm, Disarm, TakeNotices}
use Rattle.ov_base.specs.declared.call.OpenFlags.{OpenFlags}
use Rattle.ov_base.specs.declared.errno.Errno.TheVariants.{EEXIST}
use Rattle.ov_base.specs.declared.node_id.NodeId.{NodeId}
use Rattle.ov_base.specs.declared.node_id.NodeId.TheVariants.{New}
use Rattle.plain_model.specs.Layers.{Name, Path}
use Rattle.plain_model.specs.Tree.{same_id, Node, Branch, Leaf, Own, Tree, node_at, put, is_folder, count_of, is_untouched}
use Rattle.plain_model.specs.Machine.{MountOptions, Table, State, look, is_found, same_found, handle_of, write_place}
use Rattle.plain_model.specs.Refusals.{walked, when, bad_mode, ◌or_else◌}
use Rattle.plain_model.specs.Changes.{change, on_way, way_of, lead_way, meta_touched, one_fewer, one_more, node_of_handle, with_handle, wrote, opened, fresh, is_named, is_held, settled, made_way, dropped, renamed, re_ways, tree_after, tables_after}
use Rattle.plain_model.proofs.Flat.{lost, counts, fewer-counts, some-same}
use Rattle.plain_model.proofs.Held.{ways-held}
use Rattle.plain_model.proofs.Keeping.{change-like, put-here}
use Rattle.plain_model.proofs.Lasting.{named-count, way-counts, way-stands, change-stands}
use Rattle.plain_model.proofs.Kept.{by-path, open-reached}
use Rattle.plain_model.proofs.Looking.{or-second, when-not, Reached}
use Rattle.plain_model.proofs.Paths.{ids_tell}
use Rattle.plain_model.proofs.Renaming.{meta-mild}
use Rattle.mount_laws.specs.Nodes.{IsMade, loses, Goes, LawOfGone, LawOfMadeNode}
use Rattle.mount_laws.proofs.Leading.{free-reached, symlink-walk}
use Rattle.mount_laws.proofs.RenamedTree.{settled-here, settled-there}
use Rattle.mount_laws.proofs.Sorts.{way-folder, way-untouched}

-- what is there still, each node of t being so in u
abbrev AllStand : Tree → Tree → Type 0
AllStand t u = (x : NodeId) → is_some (u x) ≡ is_some (t x)

-- a node that may go is gone exactly where it has neither name nor handle
settled-goes :
    (ks : List Table) (u : Tree) (o : Option NodeId) (d : NodeId) → o ≡ Some d → is_some (u d) ≡ true →
    is_none (settled ks u o d) ≡ not (nat_lt 0 (count_of (u d))) && not (is_held ks d)
settled-goes ks u o d h some =
    ap is_none (settled-here ks u o d h)
    ∙ by (is_named (u d)) (is_held ks d) (u d) some
    ∙ ap (λ b. not b && not (is_held ks d)) (named-count (u d))
  where
    by : (named held : Bool) (z : Option Node) → is_some z ≡ true → is_none (cond (named || held) z None) ≡ not named && not held
    by true held (Some x) some = refl
    by false true (Some x) some = refl
    by false false z some = refl
    by named held None some = absurd (false≢true some)

-- a node with a name fewer has none where it had at most one
fewer-than : (n : ℕ) → nat_lt 0 (n - 1) ≡ nat_lt 1 n
fewer-than n = grind (arith, nat_tests)

-- what loses a name has one fewer
counted-fewer : (t : Tree) (o : Option NodeId) (d : NodeId) → o ≡ Some d → lost o (counts t) d ≡ count_of (t d) - 1
counted-fewer t None d h = cc
counted-fewer t (Some e) d h = ap (λ b. cond b (count_of (t d) - 1) (count_of (t d))) (some-same e d h)

-- a node lost a name, and may go
lost-goes :
    (ks : List Table) (t u : Tree) (o : Option NodeId) → AllStand t u → ((x : NodeId) → count_of (u x) ≡ lost o (counts t) x) →
    (d : NodeId) → o ≡ Some d → is_some (t d) ≡ true → is_none (settled ks u o d) ≡ not (nat_lt 1 (count_of (t d))) && not (is_held ks d)
lost-goes ks t u o stand told d h some =
    settled-goes ks u o d h (stand d ∙ some)
    ∙ ap (λ n. not (nat_lt 0 n) && not (is_held ks d)) (told d ∙ counted-fewer t o d h)
    ∙ ap (λ b. not b && not (is_held ks d)) (fewer-than (count_of (t d)))

-- other nodes stay
lost-stays :
    (ks : List Table) (t u : Tree) (o : Option NodeId) → AllStand t u → (d : NodeId) → is_some (t d) ≡ true → (o ≡ Some d → ⊥) →
    is_some (settled ks u o d) ≡ true
lost-stays ks t u o stand d some other = ap is_some (settled-there ks u o d other) ∙ stand d ∙ some

-- nothing goes
goes-none : (t u : Tree) → AllStand t u → (n : ℕ) (ks : List Table) → Goes t u None n ks
goes-none t u stand n ks = record { goes = λ d h some. cc; stays = λ d some other. stand d ∙ some }

-- the tree is as it was
goes-same : (t : Tree) (n : ℕ) (ks : List Table) → Goes t t None n ks
goes-same t = goes-none t t (λ x. refl)

-- the name of a path goes
drop-goes : (ks : List Table) (t : Tree) (p : Path) → Goes t (dropped ks t p) (node_at t p) 1 ks
drop-goes ks t p = record { goes = lost-goes ks t u o stand told; stays = lost-stays ks t u o stand }
  where
    o : Option NodeId
    o = node_at t p

    u : Tree
    u = lead_way (change one_fewer t o) (way_of t p) None

    stand : AllStand t u
    stand x = way-stands (change one_fewer t o) (way_of t p) None x ∙ change-stands one_fewer t o x

    told : (x : NodeId) → count_of (u x) ≡ lost o (counts t) x
    told x = way-counts (change one_fewer t o) (way_of t p) None x ∙ fewer-counts t o x

-- what stood at the new place of a rename loses a name
module _ (m : MountOptions) (ks : List Table) (t : Tree) (old new : Path) where
  abbrev taken : Option NodeId
  taken = node_at t new

  abbrev node : Option NodeId
  node = node_at t old

  abbrev t1 : Tree
  t1 = change one_fewer t taken

  abbrev t2 : Tree
  t2 = change (meta_touched m) t1 node

  abbrev t3 : Tree
  t3 = lead_way t2 (way_of t new) node

  stand : AllStand t (renamed m t old new)
  stand x =
      way-stands t3 (way_of t old) None x ∙ way-stands t2 (way_of t new) node x
      ∙ change-stands (meta_touched m) t1 node x ∙ change-stands one_fewer t taken x

  told : (x : NodeId) → count_of (renamed m t old new x) ≡ lost taken (counts t) x
  told x =
      way-counts t3 (way_of t old) None x ∙ way-counts t2 (way_of t new) node x
      ∙ (change-like (meta_touched m) (meta-mild m) t1 node x).counts ∙ fewer-counts t taken x

  moved-goes : Goes t (settled ks (renamed m t old new) taken) taken 1 ks
  moved-goes = record {
    goes = lost-goes ks t (renamed m t old new) taken stand told;
    stays = lost-stays ks t (renamed m t old new) taken stand;
  }

-- descriptors whose handles are on the same nodes
goes-held : (t u : Tree) (o : Option NodeId) (n : ℕ) (ks hs : List Table) → ((x : NodeId) → is_held hs x ≡ is_held ks x) → Goes t u o n ks → Goes t u o n hs
goes-held t u o n ks hs same g = record {
  goes = λ d h some. g.goes d h some ∙ ap (λ b. not (nat_lt n (count_of (t d))) && not b) (sym (same d));
  stays = g.stays;
}

-- a rename, also of an object onto itself
rename-goes : (s : State) (c : ℕ) (old new : Path) → Goes s.tree (tree_after s c (Rename old new)) (loses s c (Rename old new)) 1 (tables_after s c (Rename old new))
rename-goes s c old new = by (same_found (look s.tree old) (look s.tree new)) (way_of s.tree old) (way_of s.tree new)
  where
    by :
        (b : Bool) (v w : Option (NodeId × Name)) →
        Goes s.tree (cond b s.tree (settled s.tables (renamed s.options s.tree old new) (node_at s.tree new))) (cond b None (node_at s.tree new)) 1
        (cond b s.tables (re_ways s.tables (node_at s.tree old) v w))
    by true v w = goes-same s.tree 1 s.tables
    by false v w =
        goes-held s.tree (settled s.tables (renamed s.options s.tree old new) (node_at s.tree new)) (node_at s.tree new) 1 s.tables
        (re_ways s.tables (node_at s.tree old) v w) (ways-held s.tables (node_at s.tree old) v w) (moved-goes s.options s.tables s.tree old new)

-- a descriptor closes
close-goes : (t : Tree) (ks : List Table) (o : Option NodeId) → Goes t (settled ks t o) o 0 ks
close-goes t ks o = record { goes = settled-goes ks t o; stays = lost-stays ks t t o (λ x. refl) }

-- a node is made
made-stands : (t : Tree) (i : ℕ) (w : Option (NodeId × Name)) (x : Node) (d : NodeId) → is_some (t d) ≡ true → is_some (made_way t i w x d) ≡ true
made-stands t i None x d h = h
made-stands t i (Some w) x d h = way-stands (put t (New i) (Some x)) (Some w) (Some (New i)) d ∙ by (same_id (New i) d)
  where
    by : (b : Bool) → is_some (cond b (Some x) (t d)) ≡ true
    by true = refl
    by false = h

-- none goes for it
goes-made : (t : Tree) (i : ℕ) (w : Option (NodeId × Name)) (x : Node) (ks : List Table) → Goes t (made_way t i w x) None 1 ks
goes-made t i w x ks = record { goes = λ d h some. cc; stays = λ d some other. made-stands t i w x d some }

-- a node changes
goes-changed : (f : Node → Node) (t : Tree) (o : Option NodeId) (ks : List Table) → Goes t (change f t o) None 1 ks
goes-changed f t o ks = goes-none t (change f t o) (change-stands f t o) 1 ks

-- an open, also one that makes its file
open-goes : (s : State) (c : ℕ) (p : Path) (f : OpenFlags) (mode : ℕ) (ks : List Table) → Goes s.tree (tree_after s c (Open p f mode)) None 1 ks
open-goes s c p f mode ks = by (node_at s.tree p)
  where
    by : (o : Option NodeId) → Goes s.tree (cond (is_none o) (made_way s.tree s.serial (way_of s.tree p) (Leaf (File []) (fresh mode) (Own false) 1)) (change (opened f) s.tree o)) None 1 ks
    by None = goes-made s.tree s.serial (way_of s.tree p) (Leaf (File []) (fresh mode) (Own false) 1) ks
    by (Some d) = goes-changed (opened f) s.tree (Some d) ks

-- a write, also of no bytes
write-goes : (s : State) (c fd : ℕ) (bytes : List ℕ) (ks : List Table) → Goes s.tree (tree_after s c (Write fd bytes)) None 1 ks
write-goes s c fd bytes ks = by (nat_eq (length bytes) 0) (wrote s.options.file_limit (write_place s.tree (handle_of s.tables c fd)) bytes) (node_of_handle (handle_of s.tables c fd))
  where
    by : (b : Bool) (f : Node → Node) (o : Option NodeId) → Goes s.tree (cond b s.tree (change f s.tree o)) None 1 ks
    by true f o = goes-same s.tree 1 ks
    by false f o = goes-changed f s.tree o ks

-- which nodes go by a call
pub law_of_gone : LawOfGone
law_of_gone s c (Stat p) = goes-same s.tree 1 s.tables
law_of_gone s c (Readlink p) = goes-same s.tree 1 s.tables
law_of_gone s c (Chmod p mode) = goes-changed _ s.tree (node_at s.tree p) s.tables
law_of_gone s c (Chown p uid gid) = goes-changed _ s.tree (node_at s.tree p) s.tables
law_of_gone s c (SetAttribute p n v) = goes-changed _ s.tree (node_at s.tree p) s.tables
law_of_gone s c (GetAttribute p n) = goes-same s.tree 1 s.tables
law_of_gone s c (DeleteAttribute p n) = goes-changed _ s.tree (node_at s.tree p) s.tables
law_of_gone s c (ListAttributes p) = goes-same s.tree 1 s.tables
law_of_gone s c (Mkdir p mode) = goes-made s.tree s.serial (way_of s.tree p) (Branch (fresh mode) false fin.empty 1) s.tables
law_of_gone s c (Symlink target p) = goes-made s.tree s.serial (way_of s.tree p) (Leaf (SymbolicLink target) (fresh 0o777) (Own false) 1) s.tables
law_of_gone s c (Open p f mode) = open-goes s c p f mode (tables_after s c (Open p f mode))
law_of_gone s c (Unlink p) = drop-goes s.tables s.tree p
law_of_gone s c (Rmdir p) = drop-goes s.tables s.tree p
law_of_gone s c (Hardlink old new) =
    goes-none s.tree (tree_after s c (Hardlink old new))
    (λ x. way-stands (change (one_more s.options) s.tree (node_at s.tree old)) (way_of s.tree new) (node_at s.tree old) x ∙ change-stands (one_more s.options) s.tree (node_at s.tree old) x)
    1 s.tables
law_of_gone s c (Rename old new) = rename-goes s c old new
law_of_gone s c (Read fd n) = goes-same s.tree 1 (tables_after s c (Read fd n))
law_of_gone s c (Write fd bytes) = write-goes s c fd bytes (tables_after s c (Write fd bytes))
law_of_gone s c (Seek fd offset whence) = goes-same s.tree 1 (tables_after s c (Seek fd offset whence))
law_of_gone s c (Truncate fd size) = goes-changed _ s.tree (node_of_handle (handle_of s.tables c fd)) s.tables
law_of_gone s c (Fstat fd) = goes-same s.tree 1 s.tables
law_of_gone s c (ListNames fd n) = goes-same s.tree 1 (tables_after s c (ListNames fd n))
law_of_gone s c (Close fd) = close-goes s.tree (with_handle s.tables c fd None) (node_of_handle (handle_of s.tables c fd))
law_of_gone s c (Arm slot p mask) = goes-same s.tree 1 s.tables
law_of_gone s c (Disarm number) = goes-same s.tree 1 s.tables
law_of_gone s c (TakeNotices n) = goes-same s.tree 1 s.tables

-- the node that is made at a free name
made-node : (t : Tree) (i : ℕ) (n : Name) (q : Path) (x : Node) → Reached t n q None → is_untouched (Some x) ≡ false → IsMade (made_way t i (way_of t (n ∷ q)) x (New i)) (is_folder (Some x))
made-node t i n q x r own = subst (λ w. IsMade (made_way t i w x (New i)) (is_folder (Some x))) (sym (ap (λ o. on_way o n) r.at)) (record {
  there = way-stands apart w (Some (New i)) (New i) ∙ ap is_some here;
  folder = way-folder apart w (Some (New i)) (New i) ∙ ap is_folder here;
  own = way-untouched apart w (Some (New i)) (New i) ∙ ap is_untouched here ∙ own;
})
  where
    apart : Tree
    apart = put t (New i) (Some x)

    w : Option (NodeId × Name)
    w = Some (r.dir, n)

    here : put t (New i) (Some x) (New i) ≡ Some x
    here = put-here t (New i) (Some x) (New i) ((ids_tell (New i) (New i)).1 refl)

-- the node that a call makes
pub law_of_made_node : LawOfMadeNode
law_of_made_node s c (Mkdir [] mode) r made = let z = when-not true EEXIST (or-second (bad_mode mode) _ (by-path s c (Mkdir [] mode) r)) in absurd (false≢true (sym z))
law_of_made_node s c (Mkdir (n ∷ q) mode) r made =
    made-node s.tree s.serial n q (Branch (fresh mode) false fin.empty 1)
    (free-reached s.tree n q (or-second (bad_mode mode) _ (by-path s c (Mkdir (n ∷ q) mode) r))) refl
law_of_made_node s c (Symlink target p) r made = by p (symlink-walk s c target p r)
  where
    by : (p : Path) → walked (look s.tree p) or_else when (is_found (look s.tree p)) EEXIST ≡ None → IsMade (made_way s.tree s.serial (way_of s.tree p) (Leaf (SymbolicLink target) (fresh 0o777) (Own false) 1) (New s.serial)) false
    by [] w = absurd (false≢true (sym (when-not true EEXIST w)))
    by (n ∷ q) w = made-node s.tree s.serial n q (Leaf (SymbolicLink target) (fresh 0o777) (Own false) 1) (free-reached s.tree n q w) refl
law_of_made_node s c (Open [] f mode) r made = absurd (false≢true made)
law_of_made_node s c (Open (n ∷ q) f mode) r made =
    subst (λ b. IsMade (cond b (made_way s.tree s.serial (way_of s.tree (n ∷ q)) (Leaf (File []) (fresh mode) (Own false) 1)) (change (opened f) s.tree (node_at s.tree (n ∷ q))) (New s.serial)) false) (sym made)
    (made-node s.tree s.serial n q (Leaf (File []) (fresh mode) (Own false) 1) (open-reached s c n q f mode r made) refl)
law_of_made_node s c (Stat p) r made = absurd (false≢true made)
law_of_made_node s c (Readlink p) r made = absurd (false≢true made)
law_of_made_node s c (Chmod p mode) r made = absurd (false≢true made)
law_of_made_node s c (Chown p uid gid) r made = absurd (false≢true made)
law_of_made_node s c (SetAttribute p n v) r made = absurd (false≢true made)
law_of_made_node s c (GetAttribute p n) r made = absurd (false≢true made)
law_of_made_node s c (DeleteAttribute p n) r made = absurd (false≢true made)
law_of_made_node s c (ListAttributes p) r made = absurd (false≢true made)
law_of_made_node s c (Unlink p) r made = absurd (false≢true made)
law_of_made_node s c (Rmdir p) r made = absurd (false≢true made)
law_of_made_node s c (Hardlink old new) r made = absurd (false≢true made)
law_of_made_node s c (Rename old new) r made = absurd (false≢true made)
law_of_made_node s c (Read fd n) r made = absurd (false≢true made)
law_of_made_node s c (Write fd bytes) r made = absurd (false≢true made)
law_of_made_node s c (Seek fd offset whence) r made = absurd (false≢true made)
law_of_made_node s c (Truncate fd size) r made = absurd (false≢true made)
law_of_made_node s c (Fstat fd) r made = absurd (false≢true made)
law_of_made_node s c (ListNames fd n) r made = absurd (false≢true made)
law_of_made_node s c (Close fd) r made = absurd (false≢true made)
law_of_made_node s c (Arm slot p mask) r made = absurd (false≢true made)
law_of_made_node s c (Disarm number) r made = absurd (false≢true made)
law_of_made_node s c (TakeNotices n) r made = absurd (false≢true made)
