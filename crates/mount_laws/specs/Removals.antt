-- What unlink and rmdir do on the merge of layers, told by what the layers show (overlayfs.rst, "whiteouts and opaque directories";
-- POSIX.1-2017, unlink() and rmdir(), as Linux's namei.c asks for their errors).
use Rattle.std.specs.Prelude.{◌≡◌, ◌≢◌, ◌↔◌, ℕ, ◌-◌, ◌<◌, Bool, true, false, not, cond, List, [], ◌∷◌, ◌++◌, Option, None, Some, is_some}
use Rattle.ov_base.specs.declared.attributes.Attributes.{Attributes}
use Rattle.ov_base.specs.Calls.{Call}
use Rattle.ov_base.specs.declared.call.CallOf.TheVariants as call
use Rattle.ov_base.specs.declared.errno.Errno.{Errno}
use Rattle.ov_base.specs.declared.errno.Errno.TheVariants as errno
use Rattle.ov_base.specs.declared.node_id.NodeId.{NodeId}
use Rattle.ov_base.specs.declared.reply.Reply.TheVariants as reply
use Rattle.plain_model.specs.Layers.{Name, Path, Object, Named, Whiteout, Inode, Layer, held, shows, under, is_directory, AreLayers}
use Rattle.plain_model.specs.Laws.{IsOutside}
use Rattle.plain_model.specs.Tree.{Node, Branch, node_at, Sight, SeenLeaf, merged, AreLinked, is_folder}
use Rattle.plain_model.specs.Machine.{Handle, State, is_root, handle_of}
use Rattle.plain_model.specs.Refusals.{when, refusal}
use Rattle.plain_model.specs.Changes.{names_in, after}
use Rattle.plain_model.specs.Replies.{reply_of}
use Rattle.mount_laws.specs.Looks.{or_else, walk_fault, IsMountOf, IsHidden, KeepsHidden}

-- why unlink is refused: the root, the walk, and last a directory
abbrev pub unlink_fault : List Layer → Path → Option Errno
unlink_fault Ls p = or_else (when (is_root p) errno.EBUSY) (or_else (walk_fault Ls p) (when (is_directory (shows 0 Ls p)) errno.EISDIR))

abbrev pub LawOfUnlink : Type 0
LawOfUnlink =
    (U : Layer) (lowers : List Layer) (s : State) → IsMountOf U lowers s → (c : ℕ) (p : Path) →
    refusal s c (call.Unlink p) ≡ unlink_fault (U ∷ lowers) p

-- why rmdir is refused: the root, the walk, what is no directory, and last a name in it
abbrev pub rmdir_fault : List Layer → Path → Bool → Option Errno
rmdir_fault Ls p names =
    or_else (when (is_root p) errno.EBUSY)
    (or_else (walk_fault Ls p)
    (or_else (when (not (is_directory (shows 0 Ls p))) errno.ENOTDIR)
    (when names errno.ENOTEMPTY)))

-- no name is shown in p
abbrev pub ShowsNoName : List Layer → Path → Type 0
ShowsNoName Ls p = (n : Name) → shows 0 Ls (n ∷ p) ≡ None

-- rmdir is refused as the layers say, of a directory in which no name is shown, and of one in which some name is
pub record RefusesRmdir (Ls : List Layer) (s : State) (c : ℕ) (p : Path) : Type 0 where
  pub empty : ShowsNoName Ls p → refusal s c (call.Rmdir p) ≡ rmdir_fault Ls p false
  pub full : (n : Name) → is_some (shows 0 Ls (n ∷ p)) ≡ true → refusal s c (call.Rmdir p) ≡ rmdir_fault Ls p true

abbrev pub LawOfRmdir : Type 0
LawOfRmdir = (U : Layer) (lowers : List Layer) (s : State) → IsMountOf U lowers s → (c : ℕ) (p : Path) → RefusesRmdir (U ∷ lowers) s c p

-- The upper V is U with o at p in place of what it holds there, and nothing below. A name of an inode that goes leaves it with a link
-- fewer, where it has more than one; other inodes stay.
pub record TakesAway (U V : Layer) (p : Path) (o : Option Object) : Type 0 where
  pub here : held V p ≡ o
  pub beneath : (k : Name) (r : Path) → held V (k ∷ r ++ p) ≡ None
  pub elsewhere : (x : Path) → IsOutside p x → held V x ≡ held U x
  pub fewer : (k : ℕ) (i : Inode) → held U p ≡ Some (Named k) → U.inodes k ≡ Some i → 1 < i.links → V.inodes k ≡ Some (record i { links = i.links - 1 })
  pub inodes : (k : ℕ) → (held U p ≡ Some (Named k) → ⊥) → V.inodes k ≡ U.inodes k

-- what is seen of a file or link with a name fewer
abbrev pub fewer : Option Sight → Option Sight
fewer (Some (SeenLeaf content a u l)) = Some (SeenLeaf content a u (l - 1))
fewer o = o

-- The upper V shows nothing at p over the lower layers, what U does elsewhere, but for the link count of p's other names, and it names
-- the same inodes by all names but p.
pub record Loses (U V : Layer) (lowers : List Layer) (p : Path) : Type 0 where
  pub layers : AreLayers (V ∷ lowers)
  pub gone : merged V lowers p ≡ None
  pub linked : (q : Path) → q ≢ p → AreLinked U p q → merged V lowers q ≡ fewer (merged U lowers q)
  pub others : (q : Path) → q ≢ p → (AreLinked U p q → ⊥) → merged V lowers q ≡ merged U lowers q
  pub names : (q : Path) (k : ℕ) → (held V q ≡ Some (Named k)) ↔ ((q ≢ p) × (held U q ≡ Some (Named k)))

-- what the upper holds at the name n in p once that is removed: a whiteout exactly where the layers below show something
abbrev pub left_behind : Layer → List Layer → Name → Path → Option Object
left_behind U lowers n p = cond (is_some (under U lowers n p)) (Some Whiteout) None

-- The upper that has an object taken away in which nothing is shown loses it and no more.
abbrev pub LawOfTakenAway : Type 0
LawOfTakenAway =
    (U V : Layer) (lowers : List Layer) → AreLayers (U ∷ lowers) → AreLayers (V ∷ lowers) →
    (n : Name) (p : Path) → ShowsNoName (U ∷ lowers) (n ∷ p) →
    TakesAway U V (n ∷ p) (left_behind U lowers n p) → Loses U V lowers (n ∷ p)

-- the attributes of a directory; any other node has none
abbrev pub folder_attributes : Option Node → Option Attributes
folder_attributes (Some (Branch a b names c)) = Some a
folder_attributes _ = None

-- The call takes p away: it makes the mount one of the upper that loses p, other paths lead where they led, and no handle changes.
-- Directories that a handle is open on stay directories and keep their attributes; one that p led to has no names, and no path leads to
-- it.
pub record Removes (V : Layer) (lowers : List Layer) (s : State) (c : ℕ) (p : Path) (removal : Call) : Type 0 where
  pub answer : reply_of s c removal ≡ reply.Done
  pub mounts : IsMountOf V lowers (after s c removal)
  pub tables : (after s c removal).tables ≡ s.tables
  pub gone : node_at (after s c removal).tree p ≡ None
  pub stays : (q : Path) → q ≢ p → node_at (after s c removal).tree q ≡ node_at s.tree q
  pub hidden : KeepsHidden s.tree (after s c removal).tree
  pub held : (k fd : ℕ) (h : Handle) → handle_of s.tables k fd ≡ Some h → folder_attributes ((after s c removal).tree h.node) ≡ folder_attributes (s.tree h.node)
  pub empty : (d : NodeId) → node_at s.tree p ≡ Some d → is_folder (s.tree d) ≡ true → (names_in ((after s c removal).tree d) ≡ []) × IsHidden (after s c removal).tree d

abbrev pub LawOfUnlinked : Type 0
LawOfUnlinked =
    (U V : Layer) (lowers : List Layer) (s : State) → IsMountOf U lowers s →
    (c : ℕ) (p : Path) → unlink_fault (U ∷ lowers) p ≡ None →
    Loses U V lowers p → Removes V lowers s c p (call.Unlink p)

abbrev pub LawOfRemovedDirectory : Type 0
LawOfRemovedDirectory =
    (U V : Layer) (lowers : List Layer) (s : State) → IsMountOf U lowers s →
    (c : ℕ) (p : Path) → rmdir_fault (U ∷ lowers) p false ≡ None → ShowsNoName (U ∷ lowers) p →
    Loses U V lowers p → Removes V lowers s c p (call.Rmdir p)
