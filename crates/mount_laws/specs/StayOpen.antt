-- Open files of the upper stay live through changes of the mount that are not of their bytes (POSIX.1-2017, mkdir(), symlink(), open(),
-- link(), unlink(), rmdir(), chmod() and chown(); overlayfs.rst, "Non-directories": a file of a lower layer is copied up first).
use Rattle.std.specs.Prelude.{◌≡◌, ◌≢◌, ◌↔◌, ℕ, suc, ◌+◌, ◌-◌, true, false, List, [], ◌∷◌, None, Some, is_some}
use Rattle.ov_base.specs.declared.attributes.Attributes.{Attributes}
use Rattle.ov_base.specs.declared.bytes.Content.TheVariants as content
use Rattle.ov_base.specs.Calls.{Call}
use Rattle.ov_base.specs.declared.call.CallOf.TheVariants as call
use Rattle.ov_base.specs.declared.call.OpenFlags.{OpenFlags}
use Rattle.ov_base.specs.declared.node_id.NodeId.{NodeId}
use Rattle.plain_model.specs.Layers.{Name, Path, Directory, Named, Inode, Layer, held, Folder, Contents, shows, AreLayers}
use Rattle.plain_model.specs.Laws.{Placed}
use Rattle.plain_model.specs.Tree.{Tree}
use Rattle.plain_model.specs.Machine.{State}
use Rattle.plain_model.specs.Changes.{fresh, with_mode, with_owner, set_value, drop_value, is_held, after}
use Rattle.mount_laws.specs.Looks.{IsMountOf, Gains, Makes}
use Rattle.mount_laws.specs.Leaves.{PlacesLeaf, GainsLeaf, MakesLink, MakesFile}
use Rattle.mount_laws.specs.Removals.{Loses, Removes}
use Rattle.mount_laws.specs.Linking.{AddsName, GainsName, MakesName}
use Rattle.mount_laws.specs.Attributes.{shown_attributes}
use Rattle.mount_laws.specs.Altered.{AltersState, AltersInode, AltersDirectory}
use Rattle.mount_laws.specs.OpenFiles.{IsLive}

-- a live file stays so where mkdir makes a directory, if its inode stays
abbrev pub LawOfLiveThroughMade : Type 0
LawOfLiveThroughMade =
    (U V : Layer) (lowers : List Layer) (s : State) → IsMountOf U lowers s →
    (c : ℕ) (p : Path) (mode : ℕ) → Gains U V lowers p (fresh mode) → Makes V lowers s c p mode →
    (e : NodeId) (j : ℕ) → V.inodes j ≡ U.inodes j → IsLive U s.tree e j → IsLive V (after s c (call.Mkdir p mode)).tree e j

-- a live file stays so where symlink makes a link of another number, if its inode stays
abbrev pub LawOfLiveThroughLink : Type 0
LawOfLiveThroughLink =
    (U V : Layer) (lowers : List Layer) (s : State) → IsMountOf U lowers s →
    (c : ℕ) (target : List ℕ) (p : Path) → (g : GainsLeaf U V lowers p (content.SymbolicLink target) (fresh 0o777)) →
    MakesLink V lowers s c target p → (e : NodeId) (j : ℕ) → g.number ≢ j → V.inodes j ≡ U.inodes j →
    IsLive U s.tree e j → IsLive V (after s c (call.Symlink target p)).tree e j

-- a live file stays so where an open makes a file of another number, if its inode stays
abbrev pub LawOfLiveThroughFile : Type 0
LawOfLiveThroughFile =
    (U V : Layer) (lowers : List Layer) (s : State) → IsMountOf U lowers s →
    (c : ℕ) (p : Path) (flags : OpenFlags) (mode : ℕ) → (g : GainsLeaf U V lowers p (content.File []) (fresh mode)) →
    MakesFile V lowers s c p flags mode → (e : NodeId) (j : ℕ) → g.number ≢ j → V.inodes j ≡ U.inodes j →
    IsLive U s.tree e j → IsLive V (after s c (call.Open p flags mode)).tree e j

-- the inode loses a link where p names it, also its last one, and else stays
pub record LosesLink (U V : Layer) (p : Path) (j : ℕ) : Type 0 where
  pub fewer : (i : Inode) → held U p ≡ Some (Named j) → U.inodes j ≡ Some i → V.inodes j ≡ Some (record i { links = i.links - 1 })
  pub same : (held U p ≡ Some (Named j) → ⊥) → V.inodes j ≡ U.inodes j

-- a live file stays so where the call takes p away, also where that is a name of it, if a handle is open on it then
abbrev pub LivesThroughRemoval : Path → Call → Type 0
LivesThroughRemoval p removal =
    (U V : Layer) (lowers : List Layer) (s : State) (c : ℕ) → Loses U V lowers p → Removes V lowers s c p removal →
    (e : NodeId) (j : ℕ) → LosesLink U V p j → (held U p ≡ Some (Named j) → is_held s.tables e ≡ true) →
    IsLive U s.tree e j → IsLive V (after s c removal).tree e j

abbrev pub LawOfLiveThroughUnlink : Type 0
LawOfLiveThroughUnlink = (p : Path) → LivesThroughRemoval p (call.Unlink p)

abbrev pub LawOfLiveThroughRmdir : Type 0
LawOfLiveThroughRmdir = (p : Path) → LivesThroughRemoval p (call.Rmdir p)

-- the inode has the name q as well where p names it, one link more then, and else stays
pub record GainsLink (U V : Layer) (p q : Path) (j : ℕ) : Type 0 where
  pub names : (x : Path) → x ≢ q → (held V x ≡ Some (Named j)) ↔ (held U x ≡ Some (Named j))
  pub further : (held V q ≡ Some (Named j)) ↔ (held U p ≡ Some (Named j))
  pub more : (i : Inode) → held U p ≡ Some (Named j) → U.inodes j ≡ Some i → V.inodes j ≡ Some (record i { links = i.links + 1 })
  pub same : (held U p ≡ Some (Named j) → ⊥) → V.inodes j ≡ U.inodes j

-- a live file stays so where link makes a further name, also one of its own
abbrev pub LawOfLiveThroughName : Type 0
LawOfLiveThroughName =
    (U V : Layer) (lowers : List Layer) (s : State) → IsMountOf U lowers s →
    (c : ℕ) (old new : Path) → GainsName U V lowers s.options.metacopy old new → MakesName V lowers s c old new → (e : NodeId) (j : ℕ) →
    GainsLink U V old new j → IsLive U s.tree e j → IsLive V (after s c (call.Hardlink old new)).tree e j

-- each inode gains a link so where a name of the upper gets a further one
abbrev pub LawOfAddedLink : Type 0
LawOfAddedLink =
    (U V : Layer) (lowers : List Layer) → AreLayers (U ∷ lowers) → (p q : Path) → shows 0 (U ∷ lowers) q ≡ None →
    AddsName U V p q → (j : ℕ) → GainsLink U V p q j

-- and so does an inode that is there where p is copied up first, to W
abbrev pub LawOfCopiedLink : Type 0
LawOfCopiedLink =
    (U W V : Layer) (lowers : List Layer) → AreLayers (U ∷ lowers) → (p q : Path) (l k n : ℕ) (x i : Inode) →
    shows 0 (U ∷ lowers) p ≡ Some (Contents (suc l) n (Some x)) → PlacesLeaf U W p k i → shows 0 (U ∷ lowers) q ≡ None →
    AddsName W V p q → (j : ℕ) → is_some (U.inodes j) ≡ true → GainsLink U V p q j

-- the inode has the names that it had, and the attributes a where p is one of them; else it stays
pub record AltersNamed (U V : Layer) (p : Path) (a : Attributes) (j : ℕ) : Type 0 where
  pub names : (q : Path) → (held V q ≡ Some (Named j)) ↔ (held U q ≡ Some (Named j))
  pub altered : (i : Inode) → held U p ≡ Some (Named j) → U.inodes j ≡ Some i → V.inodes j ≡ Some (record i { attributes = a })
  pub same : (held U p ≡ Some (Named j) → ⊥) → V.inodes j ≡ U.inodes j

-- each change of what p shows alters an inode that is there so: of its inode, of its directory, and a copy from a lower layer
pub record AltersEach (U V : Layer) (lowers : List Layer) (p : Path) (a : Attributes) (j : ℕ) : Type 0 where
  pub inode : AltersInode U V p a → AltersNamed U V p a j
  pub directory : AltersDirectory U V p a → AltersNamed U V p a j
  pub copied :
      AreLayers (U ∷ lowers) → (l k n : ℕ) (x i : Inode) → shows 0 (U ∷ lowers) p ≡ Some (Contents (suc l) n (Some x)) →
      PlacesLeaf U V p k i → AltersNamed U V p a j

abbrev pub LawOfAltersNamed : Type 0
LawOfAltersNamed =
    (U V : Layer) (lowers : List Layer) (p : Path) (a : Attributes) (j : ℕ) → is_some (U.inodes j) ≡ true → AltersEach U V lowers p a j

-- a live file stays so through a call that changes p's attributes by f
abbrev pub LivesThroughChange : (Attributes → Attributes) → Path → Call → Type 0
LivesThroughChange f p change =
    (U V : Layer) (lowers : List Layer) (s : State) (c : ℕ) (a : Attributes) → shown_attributes (shows 0 (U ∷ lowers) p) ≡ Some a →
    AltersState V lowers s c p change → (e : NodeId) (j : ℕ) → AltersNamed U V p (f a) j →
    IsLive U s.tree e j → IsLive V (after s c change).tree e j

abbrev pub LawOfLiveThroughMode : Type 0
LawOfLiveThroughMode = (p : Path) (mode : ℕ) → LivesThroughChange (with_mode mode) p (call.Chmod p mode)

abbrev pub LawOfLiveThroughOwner : Type 0
LawOfLiveThroughOwner = (p : Path) (uid gid : ℕ) → LivesThroughChange (with_owner uid gid) p (call.Chown p uid gid)

abbrev pub LawOfLiveThroughSet : Type 0
LawOfLiveThroughSet =
    (p : Path) (n v : List ℕ) → LivesThroughChange (λ a. record a { user = set_value a.user n v }) p (call.SetAttribute p n v)

abbrev pub LawOfLiveThroughDeleted : Type 0
LawOfLiveThroughDeleted =
    (p : Path) (n : List ℕ) → LivesThroughChange (λ a. record a { user = drop_value a.user n }) p (call.DeleteAttribute p n)

-- a live file stays so in another upper that has its inode by the same names
abbrev pub LawOfLiveKept : Type 0
LawOfLiveKept =
    (U V : Layer) (t : Tree) (e : NodeId) (j : ℕ) → ((q : Path) → (held V q ≡ Some (Named j)) ↔ (held U q ≡ Some (Named j))) →
    V.inodes j ≡ U.inodes j → IsLive U t e j → IsLive V t e j

-- and so in one that gets a missing parent, a directory with the attributes that are shown and no marks
abbrev pub LawOfLiveThroughParent : Type 0
LawOfLiveThroughParent =
    (U V : Layer) (lowers : List Layer) → AreLayers (U ∷ lowers) →
    (n : Name) (p : Path) (i j k : ℕ) (a : Attributes) → held U (n ∷ p) ≡ None → shows 0 (U ∷ lowers) (n ∷ p) ≡ Some (Folder i j a) →
    Placed U V (n ∷ p) (Some (Directory k a false None)) →
    (t : Tree) (e : NodeId) (l : ℕ) → IsLive U t e l → IsLive V t e l
