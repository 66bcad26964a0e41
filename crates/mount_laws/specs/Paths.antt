-- Where paths lead after a call of the plain machine that is not refused (POSIX.1-2017, mkdir(), symlink(), open(), link(), unlink(),
-- rmdir() and rename()).
use Rattle.std.specs.Prelude.{◌≡◌, ◌≢◌, ℕ, Bool, true, false, List, ◌∷◌, ◌++◌, Option, None, Some}
use Rattle.ov_base.specs.Calls.{Call}
use Rattle.ov_base.specs.declared.call.CallOf.TheVariants.{Mkdir, Symlink, Open, Unlink, Rmdir, Hardlink, Rename}
use Rattle.ov_base.specs.declared.node_id.NodeId.{NodeId}
use Rattle.ov_base.specs.declared.node_id.NodeId.TheVariants.{New}
use Rattle.plain_model.specs.Layers.{Name, Path, Layer}
use Rattle.plain_model.specs.Laws.{IsOutside}
use Rattle.plain_model.specs.Tree.{Tree, node_at, IsKept, is_folder, is_untouched}
use Rattle.plain_model.specs.Machine.{State, look, same_found}
use Rattle.plain_model.specs.Refusals.{refusal}
use Rattle.plain_model.specs.Changes.{tree_after}
use Rattle.mount_laws.specs.Looks.{IsMountOf}
use Rattle.mount_laws.specs.Moving.{Follows}
use Rattle.mount_laws.specs.Nodes.{HaveOneName}

-- each path leads where it led
abbrev pub LeadsSame : Tree → Tree → Type 0
LeadsSame t u = (q : Path) → node_at u q ≡ node_at t q

-- p, which led nowhere, leads to d, and each other path where it led
pub record LeadsAlso (t u : Tree) (p : Path) (d : NodeId) : Type 0 where
  pub here : node_at u p ≡ Some d
  pub was : node_at t p ≡ None
  pub others : (q : Path) → q ≢ p → node_at u q ≡ node_at t q

-- p leads nowhere, and each other path where it led
pub record LeadsNoMore (t u : Tree) (p : Path) : Type 0 where
  pub gone : node_at u p ≡ None
  pub others : (q : Path) → q ≢ p → node_at u q ≡ node_at t q

-- A path leads where the one that it follows led, so that all that old led to goes along, and what else new led to keeps its other paths.
-- Old leads nowhere, nor does a path below it. Nothing was below new, and neither place is below the other.
pub record LeadsElsewhere (t u : Tree) (old new : Path) : Type 0 where
  pub follows : (x y : Path) → Follows old new x y → node_at u y ≡ node_at t x
  pub gone : (r : Path) → node_at u (r ++ old) ≡ None
  pub bare : (k : Name) (r : Path) → node_at t (k ∷ r ++ new) ≡ None
  pub apart : IsOutside old new
  pub back : IsOutside new old

-- an open leads its path to the node i that it makes where the path led nowhere
abbrev pub LeadsIfMade : Option NodeId → Tree → Tree → Path → NodeId → Type 0
LeadsIfMade None t u p i = LeadsAlso t u p i
LeadsIfMade (Some d) t u p i = LeadsSame t u

-- a rename moves what is at old, but not onto itself
abbrev pub LeadsIfMoved : Bool → Tree → Tree → Path → Path → Type 0
LeadsIfMoved true t u old new = LeadsSame t u
LeadsIfMoved false t u old new = LeadsElsewhere t u old new

-- where paths lead after a call, u being the tree then
abbrev pub LeadsBy : State → Call → Tree → Type 0
LeadsBy s (Mkdir p mode) u = LeadsAlso s.tree u p (New s.serial)
LeadsBy s (Symlink target p) u = LeadsAlso s.tree u p (New s.serial)
LeadsBy s (Open p f mode) u = LeadsIfMade (node_at s.tree p) s.tree u p (New s.serial)
LeadsBy s (Hardlink old new) u = (d : NodeId) × (node_at s.tree old ≡ Some d) × LeadsAlso s.tree u new d
LeadsBy s (Unlink p) u = LeadsNoMore s.tree u p
LeadsBy s (Rmdir p) u = LeadsNoMore s.tree u p
LeadsBy s (Rename old new) u = LeadsIfMoved (same_found (look s.tree old) (look s.tree new)) s.tree u old new
LeadsBy s _ u = LeadsSame s.tree u

-- each directory stands at one path alone, which `IsKept` doesn't say
abbrev pub HaveOnePath : Tree → Type 0
HaveOnePath t = (p q : Path) (d : NodeId) → is_folder (t d) ≡ true → node_at t p ≡ Some d → node_at t q ≡ Some d → p ≡ q

-- where paths lead after each call that is not refused
abbrev pub LawOfPaths : Type 0
LawOfPaths =
    (s : State) (c : ℕ) (call : Call) → IsKept s.tree s.serial → HaveOnePath s.tree → refusal s c call ≡ None →
    LeadsBy s call (tree_after s c call)

-- each directory stands at one path alone, and so does each untouched file or link
pub record HaveOwnPaths (t : Tree) : Type 0 where
  pub directories : HaveOnePath t
  pub untouched : (p q : Path) (d : NodeId) → is_untouched (t d) ≡ true → node_at t p ≡ Some d → node_at t q ≡ Some d → p ≡ q

-- so it is on a tree that layers show
abbrev pub LawOfOnePath : Type 0
LawOfOnePath = (U : Layer) (lowers : List Layer) (s : State) → IsMountOf U lowers s → HaveOwnPaths s.tree

-- and so it is where directories have at most one name each
abbrev pub LawOfNamedPaths : Type 0
LawOfNamedPaths = (t : Tree) (i : ℕ) → IsKept t i → HaveOneName t → HaveOwnPaths t
