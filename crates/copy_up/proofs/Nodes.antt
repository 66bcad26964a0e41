-- From what a layer holds at a path to what stands under its keys.
use Rattle.std.proofs.Common.{◌≡◌, ℕ, true, false, Option, None, Some, refl, sym, ap, ◌∙◌, subst, IsSome}
use Rattle.std.proofs.lemmas.Bool.{false≢true}
use Rattle.std.specs.Option.{option_and_then, option_map}
use Rattle.slab.specs.Slab.{get}
use Rattle.ov_base.specs.declared.attributes.Attributes.{Attributes}
use Rattle.plain_model.specs.Layers.{Name, Path}
use Rattle.layer_tree.specs.Table.{object_key}
use Rattle.layer_tree.specs.Tree.{Tree, IsTree, IsDirectory, layer_of, table_of, key_at, entry, child, seen, seen_entry}
use Rattle.layer_tree.specs.declared.name_table.Entry.{Entry}
use Rattle.layer_tree.specs.declared.name_table.Entry.TheVariants as bound
use Rattle.layer_tree.specs.declared.node.Node.{Node}
use Rattle.layer_tree.specs.declared.node.Node.TheVariants as node
use Rattle.merged_lookup.proofs.Descending.{key-of, held-in}
use Rattle.merged_lookup.proofs.Folders.{IsDirectoryWith, held-node}
use Rattle.copy_up.specs.Showing.{is_object, HasPlace}

-- a node with attributes has a table
pub table-some : (x : Option Node) (a : Attributes) → IsDirectoryWith x a → IsSome (option_and_then table_of x)
table-some x a d = subst (λ (z : Option Node). IsSome (option_and_then table_of z)) (sym d.is) refl

-- the directory of a place is one
pub place-directory : (t : Tree) → IsTree t → (dir : ℕ) (n : Name) (p : Path) → HasPlace (layer_of t) dir n p → IsDirectory t dir
place-directory t i dir n p h = table-some (get t dir) h.attributes (held-node t i p dir h.attributes h.opaque h.redirect h.directory)

object-node : (j : ℕ) (x : Option Node) → IsSome x → is_object (option_map (seen j) x) ≡ true
object-node j None h = absurd (false≢true h)
object-node j (Some (node.Directory d)) h = refl
object-node j (Some (node.Inode i)) h = refl

-- a name that shows no object leads to none
pub free-entry : (t : Tree) (e : Option Entry) → ((j : ℕ) → e ≡ Some (bound.Object j) → IsSome (get t j)) → is_object (option_and_then (seen_entry t) e) ≡ false → option_and_then object_key e ≡ None
free-entry t None present h = refl
free-entry t (Some bound.Whiteout) present h = refl
free-entry t (Some (bound.Object j)) present h = absurd (false≢true (sym h ∙ object-node j (get t j) (present j refl)))

-- no object stands at the name of a place
pub place-free : (t : Tree) → IsTree t → (dir : ℕ) (n : Name) (p : Path) → HasPlace (layer_of t) dir n p → child t dir n ≡ None
place-free t i dir n p h =
    let key : key_at t p ≡ Some dir = key-of t p dir h.attributes h.opaque h.redirect h.directory in
    free-entry t (entry t dir n) (λ j e. i.present dir n j (ap (option_and_then object_key) e)) (sym (ap is_object (held-in t p dir n key)) ∙ h.free)
