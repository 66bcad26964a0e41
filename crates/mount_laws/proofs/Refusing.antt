-- The refusals of unlink, rmdir, symlink and readlink are told by the layers.
use Rattle.std.proofs.Common.{◌≡◌, ℕ, Bool, true, false, not, List, [], ◌∷◌, Option, None, Some, refl, sym, ap, ap₂, ◌∙◌, ◌||◌, is_some, length, arith}
use Rattle.std.specs.Prelude.{nat_eq, nat_lt}
use Rattle.std.proofs.lemmas.Bool.{false≢true}
use Rattle.std.proofs.lemmas.Bool.Decides.{nat_tests}
use Rattle.std.proofs.lemmas.Map.Entries.{length-keys_of}
use Rattle.std.specs.FinMap as fin
use Rattle.std.specs.List.{list_any}
use Rattle.ov_base.specs.declared.bytes.Content.{Content}
use Rattle.ov_base.specs.declared.bytes.Content.TheVariants.{File, SymbolicLink}
use Rattle.ov_base.specs.declared.call.CallOf.TheVariants.{Rmdir, Unlink, Symlink, Readlink}
use Rattle.ov_base.specs.declared.errno.Errno.TheVariants.{ENOENT, EBUSY, EEXIST, ENOTDIR, EISDIR, EINVAL, ENAMETOOLONG, ENOTEMPTY}
use Rattle.ov_base.specs.declared.node_id.NodeId.{NodeId}
use Rattle.ov_base.specs.declared.reply.Reply.TheVariants as reply
use Rattle.plain_model.specs.Layers.{Name, Path, Layer, Shown, Folder, Contents, shows, same_name}
use Rattle.plain_model.specs.Tree.{Node, Branch, Leaf, names_of, entry, node_at, node_of, face, Sight, SeenLeaf, origin_in, see, is_folder}
use Rattle.plain_model.specs.Machine.{State, look, is_found, is_link, is_root, has_names, bytes_of_node}
use Rattle.plain_model.specs.Refusals.{when, walked, there, has_nul, refusal}
use Rattle.plain_model.specs.Changes.{names_in}
use Rattle.plain_model.proofs.Paths.{names_tell}
use Rattle.plain_model.proofs.Looking.{refusal-writable, refusal-reading}
use Rattle.mount_laws.specs.Looks.{or_else as first, IsMountOf}
use Rattle.mount_laws.specs.Leaves.{LawOfSymlink, shown_target, LawOfReadlink}
use Rattle.mount_laws.specs.Removals.{LawOfUnlink, rmdir_fault, ShowsNoName, LawOfRmdir}
use Rattle.mount_laws.proofs.Looks.{none-of, chain-two, chain-three, chain-four, chain-five, at-some, to-parents, to-last, finds}
use Rattle.mount_laws.proofs.Opens.{folder-at, link-at}
use Rattle.mount_laws.proofs.Lists.{node-names}

-- unlink's refusals are told by the layers
pub law_of_unlink : LawOfUnlink
law_of_unlink U lowers s m c p =
    refusal-writable s c (Unlink p) m.writable
    ∙ chain-three (when (is_root p) EBUSY) (there (look s.tree p)) (when (is_folder (node_of s.tree (node_at s.tree p))) EISDIR)
    ∙ ap₂ (λ e b. first (when (is_root p) EBUSY) (first e (when b EISDIR))) (to-last U lowers s m p) (folder-at U lowers s m p)

-- symlink's refusals are told by the layers
pub law_of_symlink : LawOfSymlink
law_of_symlink U lowers s m c target p =
    refusal-writable s c (Symlink target p) m.writable
    ∙ chain-five (when (nat_lt 4095 (length target)) ENAMETOOLONG) (when (nat_eq (length target) 0) ENOENT) (when (has_nul target) EINVAL) (walked (look s.tree p)) (when (is_found (look s.tree p)) EEXIST)
    ∙ ap₂ (λ e b. first (when (nat_lt 4095 (length target)) ENAMETOOLONG) (first (when (nat_eq (length target) 0) ENOENT) (first (when (has_nul target) EINVAL) (first e (when b EEXIST))))) (to-parents U lowers s m p) (finds U lowers s m p)

-- whether a list is not empty
abbrev pub is_filled : List Name → Bool
is_filled [] = false
is_filled (n ∷ ns) = true

filled-length : (ns : List Name) → not (nat_eq (length ns) 0) ≡ is_filled ns
filled-length [] = refl
filled-length (n ∷ ns) = let z : nat_eq (length (n ∷ ns)) 0 ≡ false = grind (arith, nat_tests) in ap not z

filled-names : (o : Option Node) → has_names o ≡ is_filled (names_in o)
filled-names None = refl
filled-names (Some (Leaf content a u l)) = refl
filled-names (Some (Branch a b names c)) = ap (λ k. not (nat_eq k 0)) (fin.len-entries names ∙ sym (length-keys_of (fin.entries names))) ∙ filled-length (fin.keys names)

-- a node in which no name leads on has none, and one in which a name does has some
pub names-none : (o : Option Node) → ((n : Name) → names_of o n ≡ None) → names_in o ≡ []
names-none o h = by (names_in o) refl
  where
    by : (ns : List Name) → names_in o ≡ ns → names_in o ≡ []
    by [] e = e
    by (n ∷ ns) e = absurd (false≢true (sym (node-names o n ∙ ap is_some (h n)) ∙ ap (list_any (same_name n)) e ∙ ap (λ b. b || list_any (same_name n) ns) ((names_tell n n).1 refl)))

pub no-names : (o : Option Node) → ((n : Name) → names_of o n ≡ None) → has_names o ≡ false
no-names o h = filled-names o ∙ ap is_filled (names-none o h)

pub some-names : (o : Option Node) (n : Name) → is_some (names_of o n) ≡ true → has_names o ≡ true
some-names o n h = filled-names o ∙ by (names_in o) refl
  where
    by : (ns : List Name) → names_in o ≡ ns → is_filled (names_in o) ≡ true
    by [] e = absurd (false≢true (sym (ap (list_any (same_name n)) e) ∙ node-names o n ∙ h))
    by (m ∷ ns) e = ap is_filled e

module _ (U : Layer) (lowers : List Layer) (s : State) (m : IsMountOf U lowers s) where
  -- where a name of a path's node leads, the layers show something
  pub name-at : (p : Path) (n : Name) → is_some (names_of (node_of s.tree (node_at s.tree p)) n) ≡ is_some (shows 0 (U ∷ lowers) (n ∷ p))
  name-at p n = by (node_at s.tree p) ∙ at-some U lowers s m (n ∷ p)
    where
      by : (o : Option NodeId) → is_some (names_of (node_of s.tree o) n) ≡ is_some (entry s.tree o n)
      by None = refl
      by (Some d) = refl

  pub nameless-at : (p : Path) → ShowsNoName (U ∷ lowers) p → has_names (node_of s.tree (node_at s.tree p)) ≡ false
  nameless-at p h = no-names (node_of s.tree (node_at s.tree p)) (λ n. none-of (names_of (node_of s.tree (node_at s.tree p)) n) (name-at p n ∙ ap is_some (h n)))

-- rmdir's refusals are told by the layers
pub law_of_rmdir : LawOfRmdir
law_of_rmdir U lowers s m c p = record {
  empty = λ h. told false (nameless-at U lowers s m p h);
  full = λ n h. told true (some-names (node_of s.tree (node_at s.tree p)) n (name-at U lowers s m p n ∙ h));
}
  where
    told : (names : Bool) → has_names (node_of s.tree (node_at s.tree p)) ≡ names → refusal s c (Rmdir p) ≡ rmdir_fault (U ∷ lowers) p names
    told names h =
        refusal-writable s c (Rmdir p) m.writable
        ∙ chain-four (when (is_root p) EBUSY) (there (look s.tree p)) (when (not (is_folder (node_of s.tree (node_at s.tree p)))) ENOTDIR) (when (has_names (node_of s.tree (node_at s.tree p))) ENOTEMPTY)
        ∙ (λ i. first (when (is_root p) EBUSY) (first (to-last U lowers s m p i) (first (when (not (folder-at U lowers s m p i)) ENOTDIR) (when (h i) ENOTEMPTY))))

-- the target of a link, by what is seen
abbrev pub seen_bytes : Option Sight → List ℕ
seen_bytes (Some (SeenLeaf (File bytes) a u l)) = bytes
seen_bytes (Some (SeenLeaf (SymbolicLink target) a u l)) = target
seen_bytes _ = []

face-bytes : (o : Option Node) → bytes_of_node o ≡ seen_bytes (face o)
face-bytes None = refl
face-bytes (Some (Branch a b names c)) = refl
face-bytes (Some (Leaf (File bytes) a u l)) = refl
face-bytes (Some (Leaf (SymbolicLink target) a u l)) = refl

see-target : (b : Bool) (s : Option Shown) (target : List ℕ) → shown_target s ≡ Some target → seen_bytes (see b s) ≡ target
see-target b None target h = cc
see-target b (Some (Folder i k a)) target h = cc
see-target b (Some (Contents i k None)) target h = cc
see-target b (Some (Contents i k (Some inode))) target h = by inode.content h
  where
    by : (x : Content) → shown_target (Some (Contents i k (Some (record inode { content = x })))) ≡ Some target → seen_bytes (Some (SeenLeaf x inode.attributes (origin_in i inode) inode.links)) ≡ target
    by (File bytes) h = cc
    by (SymbolicLink t) h = let z : Some t ≡ Some target = h in cc

-- readlink is told by the layers
pub law_of_readlink : LawOfReadlink
law_of_readlink U lowers s m c p = record {
  refused =
      refusal-reading s c (Readlink p) refl
      ∙ chain-two (there (look s.tree p)) (when (not (is_link (node_of s.tree (node_at s.tree p)))) EINVAL)
      ∙ ap₂ (λ e b. first e (when (not b) EINVAL)) (to-last U lowers s m p) (link-at U lowers s m p);
  answer = λ target h. ap reply.Target (face-bytes (node_of s.tree (node_at s.tree p)) ∙ ap seen_bytes (m.shows.sights p) ∙ see-target _ (shows 0 (U ∷ lowers) p) target h);
}
