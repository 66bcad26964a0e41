-- What rename does on the merge of layers, told by what the layers show (rename(2) and POSIX.1-2017, rename(), as Linux's namei.c asks for
-- its errors; overlayfs.rst, "redirect_dir": a directory that lower layers have moves with a redirect alone).
use Rattle.std.specs.Prelude.{◌≡◌, ◌↔◌, ℕ, Bool, true, false, not, ◌&&◌, ◌||◌, List, [], ◌∷◌, ◌++◌, Option, None, Some, nat_eq, is_some}
use Rattle.ov_base.specs.declared.call.CallOf.TheVariants as call
use Rattle.ov_base.specs.declared.errno.Errno.{Errno}
use Rattle.ov_base.specs.declared.errno.Errno.TheVariants as errno
use Rattle.ov_base.specs.declared.node_id.NodeId.{NodeId}
use Rattle.ov_base.specs.declared.reply.Reply.TheVariants as reply
use Rattle.plain_model.specs.Layers.{Name, Path, Object, Named, Layer, held, Shown, shows, is_directory, base, same_path, AreLayers}
use Rattle.plain_model.specs.Laws.{IsOutside}
use Rattle.plain_model.specs.Tree.{node_at, AreLinked, is_folder}
use Rattle.plain_model.specs.Machine.{Handle, State, is_root, is_below, handle_of, lowest_free}
use Rattle.plain_model.specs.Refusals.{when, unless_same, refusal}
use Rattle.plain_model.specs.Changes.{way_of, re_ways, names_in, is_held, after}
use Rattle.plain_model.specs.Replies.{reply_of}
use Rattle.mount_laws.specs.Looks.{or_else, parents_fault, walk_fault, IsMountOf, IsHidden, KeepsHidden}
use Rattle.mount_laws.specs.Removals.{ShowsNoName, folder_attributes}
use Rattle.mount_laws.specs.OpenFiles.{IsLive}
use Rattle.mount_laws.specs.StayOpen.{LosesLink}
use Rattle.mount_laws.specs.Moving.{Follows, MovesTo, MovesName, MovesDirectory, NamesNoInode}

-- whether two objects of a layer are names of one inode
abbrev pub same_inode : Option Object → Option Object → Bool
same_inode (Some (Named k)) (Some (Named j)) = nat_eq k j
same_inode _ _ = false

-- whether two paths are one, or both name one inode of the upper
abbrev pub is_one : Layer → Path → Path → Bool
is_one U p q = same_path p q || same_inode (held U p) (held U q)

-- why what o shows is not moved to where p is shown: to below itself, onto what is of another kind, for want of the redirect that it needs,
-- and last onto a directory with names
abbrev pub move_fault : Bool → Option Shown → Option Shown → Bool → Bool → Option Errno
move_fault inside o p redirected names =
    or_else (when inside errno.EINVAL)
    (or_else (when (is_directory o && is_some p && not (is_directory p)) errno.ENOTDIR)
    (or_else (when (not (is_directory o) && is_directory p) errno.EISDIR)
    (or_else (when redirected errno.EXDEV)
    (when (is_directory o && names) errno.ENOTEMPTY))))

-- Why rename is refused: the root, the walk of the old path, and the parents of the new one; then nothing, where both are one object; and
-- else why the object is not moved. names says whether a name is shown in what is shown at the new path.
abbrev pub rename_fault : Layer → List Layer → Bool → Path → Path → Bool → Option Errno
rename_fault U lowers redirects old new names =
    or_else (when (is_root old || is_root new) errno.EBUSY)
    (or_else (walk_fault (U ∷ lowers) old)
    (or_else (parents_fault (U ∷ lowers) new)
    (unless_same (is_one U old new)
    (move_fault (is_below old new) (shows 0 (U ∷ lowers) old) (shows 0 (U ∷ lowers) new) (base U lowers old && not redirects) names))))

-- rename is refused as the layers say, where no name is shown in what the new path shows, and where some name is
pub record RefusesRename (U : Layer) (lowers : List Layer) (s : State) (c : ℕ) (old new : Path) : Type 0 where
  pub empty : ShowsNoName (U ∷ lowers) new → refusal s c (call.Rename old new) ≡ rename_fault U lowers s.options.redirects old new false
  pub full :
      (n : Name) → is_some (shows 0 (U ∷ lowers) (n ∷ new)) ≡ true →
      refusal s c (call.Rename old new) ≡ rename_fault U lowers s.options.redirects old new true

abbrev pub LawOfRename : Type 0
LawOfRename =
    (U : Layer) (lowers : List Layer) (s : State) → IsMountOf U lowers s → (c : ℕ) (old new : Path) → RefusesRename U lowers s c old new

-- a rename of an object to itself is done, and changes nothing
pub record RenamesSame (s : State) (c : ℕ) (old new : Path) : Type 0 where
  pub answer : reply_of s c (call.Rename old new) ≡ reply.Done
  pub state : after s c (call.Rename old new) ≡ s

abbrev pub LawOfSameRename : Type 0
LawOfSameRename =
    (U : Layer) (lowers : List Layer) (s : State) → IsMountOf U lowers s → (c : ℕ) (old new : Path) (names : Bool) →
    rename_fault U lowers s.options.redirects old new names ≡ None → is_one U old new ≡ true → RenamesSame s c old new

-- Something is shown at old, and the parents of new are directories. Neither path is below the other, the upper doesn't name one inode by
-- both, and it names none at new where old shows a directory.
pub record CanMove (U : Layer) (lowers : List Layer) (old new : Path) : Type 0 where
  pub walk : walk_fault (U ∷ lowers) old ≡ None
  pub parents : parents_fault (U ∷ lowers) new ≡ None
  pub apart : IsOutside old new
  pub back : IsOutside new old
  pub unlinked : AreLinked U old new → ⊥
  pub unnamed : is_directory (shows 0 (U ∷ lowers) old) ≡ true → NamesNoInode U new

-- so it is where rename is not refused, of one object to another place
abbrev pub LawOfCanMove : Type 0
LawOfCanMove =
    (U : Layer) (lowers : List Layer) → AreLayers (U ∷ lowers) → (redirects : Bool) (old new : Path) → ShowsNoName (U ∷ lowers) new →
    rename_fault U lowers redirects old new false ≡ None → is_one U old new ≡ false → CanMove U lowers old new

-- a handle is as it was, but perhaps for the directory and name by which it was opened
abbrev pub KeepsHandle : Option Handle → Handle → Type 0
KeepsHandle o h = (way : Option (NodeId × Name)) × (o ≡ Some (record h { way = way }))

-- The call moves old to new: it makes the mount one of the upper to which it moved. A path leads where the one that it follows led, and old
-- leads nowhere, nor does a path below it. Handles whose way in was the old name get the new one, and stay else. Directories that a handle
-- is open on stay directories and keep their attributes; one that new led to has no names, and no path leads to it.
pub record Renames (V : Layer) (lowers : List Layer) (s : State) (c : ℕ) (old new : Path) : Type 0 where
  pub answer : reply_of s c (call.Rename old new) ≡ reply.Done
  pub mounts : IsMountOf V lowers (after s c (call.Rename old new))
  pub tables : (after s c (call.Rename old new)).tables ≡ re_ways s.tables (node_at s.tree old) (way_of s.tree old) (way_of s.tree new)
  pub handles :
      (k fd : ℕ) (h : Handle) → handle_of s.tables k fd ≡ Some h → KeepsHandle (handle_of (after s c (call.Rename old new)).tables k fd) h
  pub unopened : (k fd : ℕ) → handle_of s.tables k fd ≡ None → handle_of (after s c (call.Rename old new)).tables k fd ≡ None
  pub free : (k : ℕ) → lowest_free (after s c (call.Rename old new)).tables k ≡ lowest_free s.tables k
  pub follows : (x y : Path) → Follows old new x y → node_at (after s c (call.Rename old new)).tree y ≡ node_at s.tree x
  pub gone : (r : Path) → node_at (after s c (call.Rename old new)).tree (r ++ old) ≡ None
  pub hidden : KeepsHidden s.tree (after s c (call.Rename old new)).tree
  pub held :
      (k fd : ℕ) (h : Handle) → handle_of s.tables k fd ≡ Some h →
      folder_attributes ((after s c (call.Rename old new)).tree h.node) ≡ folder_attributes (s.tree h.node)
  pub empty :
      (d : NodeId) → node_at s.tree new ≡ Some d → is_folder (s.tree d) ≡ true →
      (names_in ((after s c (call.Rename old new)).tree d) ≡ []) × IsHidden (after s c (call.Rename old new)).tree d

abbrev pub LawOfRenamed : Type 0
LawOfRenamed =
    (U V : Layer) (lowers : List Layer) (s : State) → IsMountOf U lowers s →
    (c : ℕ) (old new : Path) → ShowsNoName (U ∷ lowers) new → rename_fault U lowers s.options.redirects old new false ≡ None →
    is_one U old new ≡ false → MovesTo U V lowers s.options.metacopy old new → Renames V lowers s c old new

-- the inode's names are those that follow its names, and it loses a link where new named it
pub record MovesLink (U V : Layer) (old new : Path) (j : ℕ) : Type 0 where
  pub names : (x y : Path) → Follows old new x y → (held V y ≡ Some (Named j)) ↔ (held U x ≡ Some (Named j))
  pub gone : (r : Path) → held V (r ++ old) ≡ Some (Named j) → ⊥
  pub loses : LosesLink U V new j

-- a live file stays so where rename moves an object, also where that is a name of it, and where it loses a name so, if a handle is open on
-- it then
abbrev pub LawOfLiveThroughRename : Type 0
LawOfLiveThroughRename =
    (U V : Layer) (lowers : List Layer) (s : State) (c : ℕ) (old new : Path) → Renames V lowers s c old new →
    (e : NodeId) (j : ℕ) → MovesLink U V old new j → (held U new ≡ Some (Named j) → is_held s.tables e ≡ true) →
    IsLive U s.tree e j → IsLive V (after s c (call.Rename old new)).tree e j

-- each inode's names move so where a name of the upper moves, if it loses a link so, and where a directory of the upper moves
pub record MovesEach (U V : Layer) (lowers : List Layer) (old : Path) (n : Name) (q : Path) (j : ℕ) : Type 0 where
  pub name : MovesName U V lowers old (n ∷ q) → LosesLink U V (n ∷ q) j → MovesLink U V old (n ∷ q) j
  pub directory : NamesNoInode U (n ∷ q) → MovesDirectory U V lowers old n q → MovesLink U V old (n ∷ q) j

abbrev pub LawOfMovedLink : Type 0
LawOfMovedLink =
    (U V : Layer) (lowers : List Layer) → AreLayers (U ∷ lowers) →
    (old : Path) (n : Name) (q : Path) (j : ℕ) → MovesEach U V lowers old n q j

-- and so they do where a copy of the upper moves it, W, that has the inode by the same names
abbrev pub LawOfKeptMoveLink : Type 0
LawOfKeptMoveLink =
    (U W V : Layer) (old new : Path) (j : ℕ) → ((x : Path) → (held W x ≡ Some (Named j)) ↔ (held U x ≡ Some (Named j))) →
    W.inodes j ≡ U.inodes j → MovesLink W V old new j → MovesLink U V old new j
