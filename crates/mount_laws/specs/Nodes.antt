-- What becomes of nodes by a call of the plain machine: which stay directories and untouched, which are made, and which go (POSIX.1-2017,
-- Base Definitions, Link Count, and the pages of the calls; overlayfs.rst, "Non-directories": a file of a lower layer is copied up first).
use Rattle.std.specs.Prelude.{◌≡◌, ℕ, ◌≤◌, Bool, true, false, not, cond, ◌&&◌, List, ◌∷◌, Option, None, Some, option_and_then, nat_lt, is_none, is_some}
use Rattle.ov_base.specs.Calls.{Call}
use Rattle.ov_base.specs.declared.call.CallOf.TheVariants.{Chmod, Chown, SetAttribute, DeleteAttribute, Mkdir, Open, Unlink, Rmdir, Hardlink, Rename, Close}
use Rattle.ov_base.specs.declared.node_id.NodeId.{NodeId}
use Rattle.ov_base.specs.declared.node_id.NodeId.TheVariants.{New}
use Rattle.plain_model.specs.Layers.{Path, Layer, AreLayers}
use Rattle.plain_model.specs.Tree.{Node, Tree, node_at, IsKept, is_folder, count_of, is_untouched}
use Rattle.plain_model.specs.Merging.{IsMerge}
use Rattle.plain_model.specs.Machine.{Table, State, look, same_found, handle_of}
use Rattle.plain_model.specs.Refusals.{refusal}
use Rattle.plain_model.specs.Changes.{node_of_handle, is_held, makes, tree_after, tables_after}

-- the path at which a call makes what stands there the upper's own, where that is a file or link
abbrev pub touches : State → Call → Option Path
touches s (Chmod p mode) = Some p
touches s (Chown p uid gid) = Some p
touches s (SetAttribute p n v) = Some p
touches s (DeleteAttribute p n) = Some p
touches s (Open p f mode) = cond f.writes (Some p) None
touches s (Hardlink old new) = Some old
touches s (Rename old new) = cond (same_found (look s.tree old) (look s.tree new)) None (Some old)
touches s _ = None

-- the node there
abbrev pub touched_by : State → Call → Option NodeId
touched_by s call = option_and_then (node_at s.tree) (touches s call)

-- From the tree t to u: what is there in both is a directory in both or in neither, and an untouched file or link in both or in neither, but
-- for the node that is touched, which is untouched no more.
pub record KeepsSorts (t u : Tree) (touched : Option NodeId) : Type 0 where
  pub folders : (d : NodeId) → is_some (t d) ≡ true → is_some (u d) ≡ true → is_folder (u d) ≡ is_folder (t d)
  pub others : (d : NodeId) → is_some (t d) ≡ true → is_some (u d) ≡ true → (touched ≡ Some d → ⊥) → is_untouched (u d) ≡ is_untouched (t d)
  pub own : (d : NodeId) → touched ≡ Some d → is_untouched (u d) ≡ false

-- each call keeps sorts so
abbrev pub LawOfSorts : Type 0
LawOfSorts = (s : State) (c : ℕ) (call : Call) → IsKept s.tree s.serial → KeepsSorts s.tree (tree_after s c call) (touched_by s call)

abbrev pub makes_directory : Call → Bool
makes_directory (Mkdir p mode) = true
makes_directory _ = false

-- a node that is there, a directory or else a file or link of the upper's own
pub record IsMade (o : Option Node) (directory : Bool) : Type 0 where
  pub there : is_some o ≡ true
  pub folder : is_folder o ≡ directory
  pub own : is_untouched o ≡ false

-- the node that a call makes is a directory by mkdir, and else a file or link of the upper's own
abbrev pub LawOfMadeNode : Type 0
LawOfMadeNode =
    (s : State) (c : ℕ) (call : Call) → refusal s c call ≡ None → makes s call ≡ true →
    IsMade (tree_after s c call (New s.serial)) (makes_directory call)

-- the node that loses a name or a handle by a call
abbrev pub loses : State → ℕ → Call → Option NodeId
loses s c (Unlink p) = node_at s.tree p
loses s c (Rmdir p) = node_at s.tree p
loses s c (Rename old new) = cond (same_found (look s.tree old) (look s.tree new)) None (node_at s.tree new)
loses s c (Close fd) = node_of_handle (handle_of s.tables c fd)
loses s c _ = None

-- how many names it loses
abbrev pub names_lost : Call → ℕ
names_lost (Close fd) = 0
names_lost _ = 1

-- From the tree t to u: the node that loses so many names is gone exactly where it had no more and no handle of ks is open on it, and every
-- other node that was there is there still.
pub record Goes (t u : Tree) (loser : Option NodeId) (lost : ℕ) (ks : List Table) : Type 0 where
  pub goes :
      (d : NodeId) → loser ≡ Some d → is_some (t d) ≡ true →
      is_none (u d) ≡ not (nat_lt lost (count_of (t d))) && not (is_held ks d)
  pub stays : (d : NodeId) → is_some (t d) ≡ true → (loser ≡ Some d → ⊥) → is_some (u d) ≡ true

-- so it is after each call, by the descriptors that are open then
abbrev pub LawOfGone : Type 0
LawOfGone = (s : State) (c : ℕ) (call : Call) → Goes s.tree (tree_after s c call) (loses s c call) (names_lost call) (tables_after s c call)

-- each directory has at most one name
abbrev pub HaveOneName : Tree → Type 0
HaveOneName t = (d : NodeId) → is_folder (t d) ≡ true → count_of (t d) ≤ 1

-- a mount begins so
abbrev pub LawOfOneNameBegun : Type 0
LawOfOneNameBegun = (U : Layer) (lowers : List Layer) (t : Tree) → AreLayers (U ∷ lowers) → IsMerge U lowers t → HaveOneName t

-- and each call keeps it
abbrev pub LawOfOneNameKept : Type 0
LawOfOneNameKept = (s : State) (c : ℕ) (call : Call) → HaveOneName s.tree → HaveOneName (tree_after s c call)

-- A directory that a path leads to has exactly one name then, and so does an untouched file or link.
pub record HasOneName (t : Tree) (d : NodeId) : Type 0 where
  pub directory : HaveOneName t → is_folder (t d) ≡ true → count_of (t d) ≡ 1
  pub untouched : is_untouched (t d) ≡ true → count_of (t d) ≡ 1

abbrev pub LawOfOneName : Type 0
LawOfOneName = (t : Tree) (i : ℕ) → IsKept t i → (p : Path) (d : NodeId) → node_at t p ≡ Some d → HasOneName t d
