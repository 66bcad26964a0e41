-- The tree that layers are merged to when they are mounted (overlayfs.rst, "Upper and Lower", "Directories" and "Non-directories").
use Rattle.std.specs.Prelude.{◌≡◌, ℕ, Bool, true, false, cond, List, [], ◌∷◌, ◌++◌, Option, None, Some, is_some, nat_eq, filter, unwrap_or, ◌⊎◌}
use Rattle.std.specs.Cmp.Lexicographic.{slice_cmp}
use Rattle.std.specs.Ordering.{nat_cmp, is_gt}
use Rattle.std.specs.FinMap as fin
use Rattle.std.specs.declared.cmp.Ordering.{Ordering}
use Rattle.ov_base.specs.declared.node_id.NodeId.{NodeId}
use Rattle.ov_base.specs.declared.node_id.NodeId.TheVariants.{At, New}
use Rattle.plain_model.specs.Layers.{Name, Path, Object, Directory, Named, Whiteout, Layer, held, same_path, HasAllPaths, AreLayers}
use Rattle.plain_model.specs.Tree.{Names, Node, Branch, Leaf, Own, Untouched, Tree, node_at, sight_at, Sight, SeenBranch, SeenLeaf, merged, AreLinked, Remounts, IsKept}

-- the text of a path: each name after a '/'
abbrev pub text : Path → List ℕ
text [] = []
text (n ∷ p) = text p ++ (47 ∷ n)

-- the order of paths by the bytes of their texts
abbrev pub text_cmp : Path → Path → Ordering
text_cmp p q = slice_cmp nat_cmp (text p) (text q)

-- l names the node of p: it is p itself, or the name of p's upper inode whose text is least
pub record Leads (U : Layer) (p l : Path) : Type 0 where
  pub alike : (p ≡ l) ⊎ AreLinked U p l
  pub least : (x : Path) → AreLinked U p x → is_gt (text_cmp l x) ≡ false

-- The merge of layers: at each path what they show, one node for the names of one upper inode, named by the least of them, no others,
-- and none made yet.
pub record IsMerge (U : Layer) (lowers : List Layer) (t : Tree) : Type 0 where
  pub sights : (p : Path) → sight_at t p ≡ merged U lowers p
  pub names : (p : Path) (d : NodeId) → node_at t p ≡ Some d → (l : Path) × (d ≡ At l) × Leads U p l
  pub shared : (p q : Path) → AreLinked U p q → node_at t p ≡ node_at t q
  pub no_more : (d : NodeId) → is_some (t d) ≡ true → (p : Path) × (node_at t p ≡ Some d)
  pub kept : IsKept t 0

-- the path of the lesser text, and the path of the least of some
abbrev pub lesser : Path → Option Path → Path
lesser p None = p
lesser p (Some q) = cond (is_gt (text_cmp p q)) q p

abbrev pub least : List Path → Option Path
least [] = None
least (p ∷ ps) = Some (lesser p (least ps))

abbrev pub names_inode : ℕ → Option Object → Bool
names_inode k (Some (Named j)) = nat_eq j k
names_inode k _ = false

-- the path that names the node at p, where ps are all paths that the layers hold
abbrev pub leader_by : List Path → Layer → Path → Option Object → Path
leader_by ps U p (Some (Named k)) = unwrap_or (least (filter (λ x. names_inode k (held U x)) ps)) p
leader_by ps U p (Some (Directory k a o r)) = p
leader_by ps U p (Some Whiteout) = p
leader_by ps U p None = p

abbrev pub leader : List Path → Layer → Path → Path
leader ps U p = leader_by ps U p (held U p)

-- the last names of paths
abbrev pub last_names : List Path → List Name
last_names [] = []
last_names ([] ∷ ps) = last_names ps
last_names ((n ∷ p) ∷ ps) = n ∷ last_names ps

-- the entries of the names that pass
abbrev pub entries_of : (Name → Bool) → (Name → NodeId) → List Name → List (Name × NodeId)
entries_of f g [] = []
entries_of f g (n ∷ ns) = cond (f n) ((n, g n) ∷ entries_of f g ns) (entries_of f g ns)

-- the names that are shown in a directory
abbrev pub names_shown : List Path → Layer → List Layer → Path → Names
names_shown ps U lowers p = fin.from_entries (entries_of (λ n. is_some (merged U lowers (n ∷ p))) (λ n. At (leader ps U (n ∷ p))) (last_names ps))

-- the node of what is seen, with these names where it is a directory
abbrev pub node_seen : Option Sight → Names → Option Node
node_seen None names = None
node_seen (Some (SeenBranch a b)) names = Some (Branch a b names 1)
node_seen (Some (SeenLeaf content a (Own low) l)) names = Some (Leaf content a (Own low) l)
node_seen (Some (SeenLeaf content a (Untouched k) l)) names = Some (Leaf content a (Untouched k) 1)

-- the merge as a function, where ps are all paths that the layers hold
abbrev pub merge_tree : List Path → Layer → List Layer → Tree
merge_tree ps U lowers (New i) = None
merge_tree ps U lowers (At p) = cond (same_path (leader ps U p) p) (node_seen (merged U lowers p) (names_shown ps U lowers p)) None

-- a list has every path that one of the layers holds
abbrev pub HaveAllPaths : List Layer → List Path → Type 0
HaveAllPaths [] ps = Unit {0}
HaveAllPaths (L ∷ Ls) ps = HasAllPaths L ps × HaveAllPaths Ls ps

-- some list has every path that layers hold
abbrev pub LawOfPaths : Type 0
LawOfPaths = (Ls : List Layer) → AreLayers Ls → (ps : List Path) × HaveAllPaths Ls ps

-- with such a list the merge is computed, so all layers have one
abbrev pub LawOfMerge : Type 0
LawOfMerge = (U : Layer) (lowers : List Layer) → AreLayers (U ∷ lowers) → (ps : List Path) → HaveAllPaths (U ∷ lowers) ps → IsMerge U lowers (merge_tree ps U lowers)

-- layers show their merge
abbrev pub LawOfMount : Type 0
LawOfMount = (U : Layer) (lowers : List Layer) (t : Tree) → IsMerge U lowers t → Remounts U lowers t
