-- Whom each call that is not refused tells, in order (inotify(7), "inotify events"; the order is this engine's own).
use Rattle.std.specs.Prelude.{ℕ, suc, ◌+◌, ◌-◌, ◌%◌, ◌^◌, cond, List, [], ◌∷◌, ◌++◌, Option, None, Some, nat_eq, is_none, length}
pub use Rattle.ov_base.specs.Cookies.{cookie_of}
use Rattle.std.specs.List.{All}
use Rattle.ov_base.specs.Calls.{Call}
use Rattle.ov_base.specs.declared.call.CallOf.TheVariants.{Chmod, Chown, SetAttribute, DeleteAttribute, Mkdir, Symlink, Open, Unlink, Rmdir, Hardlink, Rename, Read, Write, Truncate, Close, Disarm}
use Rattle.ov_base.specs.declared.node_id.NodeId.{NodeId}
use Rattle.ov_base.specs.declared.node_id.NodeId.TheVariants.{New}
use Rattle.plain_model.specs.Layers.{Name}
use Rattle.plain_model.specs.Tree.{Node, Tree, node_at, node_of, is_folder}
use Rattle.plain_model.specs.Watching.{ACCESS, MODIFY, ATTRIB, CLOSE_WRITE, CLOSE_NOWRITE, OPEN, MOVED_FROM, MOVED_TO, CREATE, DELETE, DELETE_SELF, MOVE_SELF, IGNORED, ISDIR, On, Only, Subject, IsSubject}
use Rattle.plain_model.specs.Machine.{Handle, State, look, same_found, handle_of, handle_node}
use Rattle.plain_model.specs.Changes.{way_of, node_of_handle, read_bytes, tree_after}

-- bits, with ISDIR where the object is a directory
abbrev pub marked : Option Node → ℕ → ℕ
marked o bits = cond (is_folder o) (bits + ISDIR) bits

-- the directory of a way in, with the name
abbrev pub by_way : Option (NodeId × Name) → ℕ → ℕ → List Subject
by_way None bits cookie = []
by_way (Some w) bits cookie = record { aim = On w.0; bits = bits; cookie = cookie; name = Some w.1 } ∷ []

-- a node, without a name
abbrev pub of_node : Option NodeId → ℕ → List Subject
of_node None bits = []
of_node (Some d) bits = record { aim = On d; bits = bits; cookie = 0; name = None } ∷ []

-- the directory of a way in, then the node
abbrev pub both : Option (NodeId × Name) → Option NodeId → ℕ → List Subject
both way d bits = by_way way bits 0 ++ of_node d bits

-- the end of a node that is not in the tree afterwards
abbrev pub gone : Tree → Option NodeId → List Subject
gone t None = []
gone t (Some d) = cond (is_none (t d)) (of_node (Some d) DELETE_SELF ++ of_node (Some d) IGNORED) []

abbrev pub way_in : Option Handle → Option (NodeId × Name)
way_in None = None
way_in (Some h) = h.way

-- a handle's way in, then its node
abbrev pub by_handle : Tree → Option Handle → ℕ → List Subject
by_handle t h bits = both (way_in h) (node_of_handle h) (marked (handle_node t h) bits)

abbrev pub closes : Option Handle → ℕ
closes None = CLOSE_NOWRITE
closes (Some h) = cond h.writes CLOSE_WRITE CLOSE_NOWRITE

-- a rename of d from the old way in to the new one, where e stood; t is the tree afterwards
abbrev pub rename_subjects : State → Option NodeId → Option NodeId → Option (NodeId × Name) → Option (NodeId × Name) → Tree → List Subject
rename_subjects s d e old new t =
    by_way old (marked (node_of s.tree d) MOVED_FROM) (cookie_of (suc s.renames))
    ++ by_way new (marked (node_of s.tree d) MOVED_TO) (cookie_of (suc s.renames))
    ++ cond (is_folder (node_of s.tree e)) [] (of_node e ATTRIB)
    ++ of_node d MOVE_SELF
    ++ gone t e

-- whom a client's call tells
abbrev pub subjects : State → ℕ → Call → List Subject
subjects s c (Chmod p mode) = both (way_of s.tree p) (node_at s.tree p) (marked (node_of s.tree (node_at s.tree p)) ATTRIB)
subjects s c (Chown p uid gid) = both (way_of s.tree p) (node_at s.tree p) (marked (node_of s.tree (node_at s.tree p)) ATTRIB)
subjects s c (SetAttribute p n v) = both (way_of s.tree p) (node_at s.tree p) (marked (node_of s.tree (node_at s.tree p)) ATTRIB)
subjects s c (DeleteAttribute p n) = both (way_of s.tree p) (node_at s.tree p) (marked (node_of s.tree (node_at s.tree p)) ATTRIB)
subjects s c (Mkdir p mode) = by_way (way_of s.tree p) (CREATE + ISDIR) 0
subjects s c (Symlink target p) = by_way (way_of s.tree p) CREATE 0
subjects s c (Open p f mode) =
    cond (is_none (node_at s.tree p))
    (by_way (way_of s.tree p) CREATE 0 ++ both (way_of s.tree p) (Some (New s.serial)) OPEN)
    (cond f.truncate (both (way_of s.tree p) (node_at s.tree p) MODIFY) [] ++ both (way_of s.tree p) (node_at s.tree p) (marked (node_of s.tree (node_at s.tree p)) OPEN))
subjects s c (Unlink p) = by_way (way_of s.tree p) DELETE 0 ++ of_node (node_at s.tree p) ATTRIB ++ gone (tree_after s c (Unlink p)) (node_at s.tree p)
subjects s c (Rmdir p) = by_way (way_of s.tree p) (DELETE + ISDIR) 0 ++ gone (tree_after s c (Rmdir p)) (node_at s.tree p)
subjects s c (Hardlink old new) = by_way (way_of s.tree new) CREATE 0 ++ of_node (node_at s.tree old) ATTRIB
subjects s c (Rename old new) = cond (same_found (look s.tree old) (look s.tree new)) [] (rename_subjects s (node_at s.tree old) (node_at s.tree new) (way_of s.tree old) (way_of s.tree new) (tree_after s c (Rename old new)))
subjects s c (Read fd n) = cond (nat_eq (length (read_bytes s.tree (handle_of s.tables c fd) n)) 0) [] (by_handle s.tree (handle_of s.tables c fd) ACCESS)
subjects s c (Write fd bytes) = cond (nat_eq (length bytes) 0) [] (by_handle s.tree (handle_of s.tables c fd) MODIFY)
subjects s c (Truncate fd size) = by_handle s.tree (handle_of s.tables c fd) MODIFY
subjects s c (Close fd) = by_handle s.tree (handle_of s.tables c fd) (closes (handle_of s.tables c fd)) ++ gone (tree_after s c (Close fd)) (node_of_handle (handle_of s.tables c fd))
subjects s c (Disarm number) = record { aim = Only c number; bits = IGNORED; cookie = 0; name = None } ∷ []
subjects s c _ = []

-- in every state, what a client's call tells are subjects
abbrev pub LawOfSubjects : Type 0
LawOfSubjects = (s : State) (c : ℕ) (call : Call) → All IsSubject (subjects s c call)
