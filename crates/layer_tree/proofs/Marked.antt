-- Which nodes bear a mark.
use Rattle.std.proofs.Common.{◌≡◌, ◌<◌, ℕ, List, ◌∷◌, true, Option, Some, None, option_map, Contains, arith, refl, sym, ap, ◌∙◌, length, is_some}
use Rattle.std.proofs.lemmas.Bool.{false≢true}
use Rattle.std.specs.Option.{option_and_then}
use Rattle.slab.specs.Slab.{get}
use Rattle.plain_model.specs.Layers as layers
use Rattle.layer_tree.specs.Tree.{Tree, inode_of, inode_at, layer_of, HasMark}
use Rattle.layer_tree.specs.Change.{is_marked_node}
use Rattle.layer_tree.specs.declared.node.Node.{Node}
use Rattle.layer_tree.specs.declared.node.Node.TheVariants as node

-- a marked node is an inode with a mark
pub marked_inode : (n : Node) → is_marked_node n ≡ true → (i : layers.Inode) × (inode_of n ≡ Some i) × (is_some i.mark ≡ true)
marked_inode (node.Directory d) h = absurd (false≢true h)
marked_inode (node.Inode x) h = (record { content = x.content; attributes = x.attributes; links = x.links; mark = option_map (λ b. b.value) x.mark }, refl, h)

-- so its layer has a mark
pub marked_layer : (t : Tree) (key : ℕ) (n : Node) → get t key ≡ Some n → is_marked_node n ≡ true → HasMark (layer_of t)
marked_layer t key n found marked = let i = marked_inode n marked in (key, i.0, ap (option_and_then inode_of) found ∙ i.1, i.2)

-- and the node under the key of an inode with a mark is marked
marked_at : (o : Option Node) (i : layers.Inode) → option_and_then inode_of o ≡ Some i → is_some i.mark ≡ true → (n : Node) × (o ≡ Some n) × (is_marked_node n ≡ true)
marked_at None i h m = absurd (cc)
marked_at (Some n) i h m = (n, refl, ap (λ o. is_some (option_and_then (λ (i : layers.Inode). i.mark) o)) h ∙ m)

pub marked_node : (t : Tree) → HasMark (layer_of t) → (key : ℕ) × (n : Node) × (get t key ≡ Some n) × (is_marked_node n ≡ true)
marked_node t h = let n = marked_at (get t h.0) h.1 h.2 h.3 in (h.0, n.0, n.1, n.2)

-- the first of a list is in it
pub contains_first : {A : Type 0} (x : A) (rest : List A) → Contains (x ∷ rest) x
contains_first x rest = (0, omega arith, refl)
