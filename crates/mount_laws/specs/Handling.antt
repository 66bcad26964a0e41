-- Handles by client and descriptor: which nodes they are on, and what becomes of them and of their ways in (POSIX.1-2017, 2.14 File
-- Descriptor Allocation, and open() and rename()).
use Rattle.std.specs.Prelude.{◌≡◌, ◌↔◌, ℕ, ◌<◌, true, List, Option, Some, nat_eq, length}
use Rattle.std.specs.List.{IsDistinct}
use Rattle.ov_base.specs.declared.call.CallOf.TheVariants.{Open}
use Rattle.ov_base.specs.declared.call.OpenFlags.{OpenFlags}
use Rattle.ov_base.specs.declared.node_id.NodeId.{NodeId}
use Rattle.plain_model.specs.Layers.{Name, Path}
use Rattle.plain_model.specs.Tree.{node_at, node_of}
use Rattle.plain_model.specs.Machine.{Handle, Table, State, handles_of, handle_of, lowest_free}
use Rattle.plain_model.specs.Changes.{way_of, is_held, with_handle, new_handle, opens, re_way, re_ways, tables_after}
use Rattle.plain_model.specs.Settling.{clients_of}

-- some client has a handle open on the node
pub record HasHandle (ks : List Table) (d : NodeId) : Type 0 where
  pub client : ℕ
  pub descriptor : ℕ
  pub handle : Handle
  pub is_open : handle_of ks client descriptor ≡ Some handle
  pub on : handle.node ≡ d

-- so it is exactly where the node is held
abbrev pub LawOfHeld : Type 0
LawOfHeld = (ks : List Table) (d : NodeId) → IsDistinct nat_eq (clients_of ks) → (is_held ks d ≡ true) ↔ HasHandle ks d

-- a client's descriptor leads to what it is set to, where the client has it, and every other to what it led to
pub record SetsHandle (ks : List Table) (c fd : ℕ) (h : Option Handle) : Type 0 where
  pub here : fd < length (handles_of ks c) → handle_of (with_handle ks c fd h) c fd ≡ h
  pub others : (k i : ℕ) → ((k ≡ c) × (i ≡ fd) → ⊥) → handle_of (with_handle ks c fd h) k i ≡ handle_of ks k i

abbrev pub LawOfSetHandle : Type 0
LawOfSetHandle = (ks : List Table) (c fd : ℕ) (h : Option Handle) → SetsHandle ks c fd h

-- an open that isn't refused leads the lowest free descriptor to a new handle, by the way in of its path
abbrev pub LawOfNewHandle : Type 0
LawOfNewHandle =
    (s : State) (c : ℕ) (p : Path) (f : OpenFlags) (mode fd : ℕ) → lowest_free s.tables c ≡ Some fd →
    handle_of (tables_after s c (Open p f mode)) c fd
    ≡ Some (new_handle f (opens (node_at s.tree p) s.serial) (way_of s.tree p) (node_of s.tree (node_at s.tree p)))

-- a rename gives each handle the way in that it has then by itself
abbrev pub LawOfWays : Type 0
LawOfWays =
    (ks : List Table) (d : Option NodeId) (old new : Option (NodeId × Name)) (c fd : ℕ) →
    handle_of (re_ways ks d old new) c fd ≡ re_way d old new (handle_of ks c fd)
