-- An open of a directory of the merge, as the layers tell it.
use Rattle.std.proofs.Common.{◌≡◌, ℕ, Bool, true, false, not, cond, ◌&&◌, ◌||◌, List, [], ◌∷◌, Option, None, Some, refl, sym, ap, ◌∙◌, ◌⊎◌, inl, inr, is_some, is_none}
use Rattle.std.specs.Option.{unwrap_or}
use Rattle.std.proofs.lemmas.Bool.{false≢true, cases_Bool}
use Rattle.ov_base.specs.declared.call.CallOf.TheVariants.{Open}
use Rattle.ov_base.specs.declared.bytes.Content.{Content}
use Rattle.ov_base.specs.declared.bytes.Content.TheVariants.{File, SymbolicLink}
use Rattle.ov_base.specs.declared.errno.Errno.{Errno}
use Rattle.ov_base.specs.declared.errno.Errno.TheVariants.{ENOENT, EEXIST, ENOTDIR, EISDIR, EMFILE, ELOOP}
use Rattle.ov_base.specs.declared.node_id.NodeId.{NodeId}
use Rattle.ov_base.specs.declared.node_id.NodeId.TheVariants.{At}
use Rattle.ov_base.specs.declared.reply.Reply.TheVariants as reply
use Rattle.plain_model.specs.Layers.{Path, Named, Inode, Layer, held, Shown, Folder, Contents, over, through, shows, is_directory}
use Rattle.plain_model.specs.Tree.{Node, Branch, Leaf, Own, Tree, node_at, node_of, face, origin_in, Sight, SeenBranch, SeenLeaf, see, same_id, put, AreLinked, is_folder}
use Rattle.plain_model.specs.Machine.{Live, State, opening, Look, Found, Absent, Fails, look, is_found, is_link, lowest_free, DESCRIPTORS_MAX}
use Rattle.plain_model.specs.Refusals.{◌or_else◌, when, walked, there, bad_mode}
use Rattle.plain_model.specs.Changes.{change, opened, over_node, made_way, fresh, view_of, opens, way_of, with_handle, next_if}
use Rattle.plain_model.proofs.Paths.{ids_tell}
use Rattle.plain_model.proofs.Looking.{refusal-writable}
use Rattle.mount_laws.specs.Looks.{or_else as first, absent, parents_fault, walk_fault, IsMountOf, LawOfDirectories, FOR_LISTING, shows_link, shows_file, OpensAs, LawOfOpen}
use Rattle.mount_laws.proofs.Looks.{is_present, here, at-some, to-last, finds, law_of_beginning}

-- the machine's refusals of such an open, without those that can't be
chain : (b : Option Errno) (l : Look) (k d n : Bool) → ((b or_else walked l or_else when (not (is_found l) && true) ENOENT or_else when (is_found l && false && false) EEXIST or_else when k ELOOP or_else when (is_found l && true && not d) ENOTDIR or_else when (d && (false || false)) EISDIR or_else when n EMFILE) or_else None) ≡ first b (first (there l) (first (when k ELOOP) (first (when (is_found l && not d) ENOTDIR) (when n EMFILE))))
chain (Some b) l k d n = refl
chain None (Fails e) k d n = refl
chain None (Absent x) k d n = refl
chain None (Found x) true d n = refl
chain None (Found x) false false n = refl
chain None (Found x) false true true = refl
chain None (Found x) false true false = refl

-- what a node is, by what is seen of it
abbrev pub seen_folder : Option Sight → Bool
seen_folder (Some (SeenBranch a b)) = true
seen_folder _ = false

abbrev pub seen_link : Option Sight → Bool
seen_link (Some (SeenLeaf (SymbolicLink target) a u l)) = true
seen_link _ = false

face-folder : (o : Option Node) → is_folder o ≡ seen_folder (face o)
face-folder None = refl
face-folder (Some (Branch a b names c)) = refl
face-folder (Some (Leaf content a u l)) = refl

face-link : (o : Option Node) → is_link o ≡ seen_link (face o)
face-link None = refl
face-link (Some (Branch a b names c)) = refl
face-link (Some (Leaf (File bytes) a u l)) = refl
face-link (Some (Leaf (SymbolicLink target) a u l)) = refl

see-folder : (b : Bool) (s : Option Shown) → seen_folder (see b s) ≡ is_directory s
see-folder b None = refl
see-folder b (Some (Folder i k a)) = refl
see-folder b (Some (Contents i k None)) = refl
see-folder b (Some (Contents i k (Some inode))) = refl

see-link : (b : Bool) (s : Option Shown) → seen_link (see b s) ≡ shows_link s
see-link b None = refl
see-link b (Some (Folder i k a)) = refl
see-link b (Some (Contents i k None)) = refl
see-link b (Some (Contents i k (Some inode))) = by inode.content
  where
    by : (x : Content) → seen_link (Some (SeenLeaf x inode.attributes (origin_in i inode) inode.links)) ≡ shows_link (Some (Contents i k (Some (record inode { content = x }))))
    by (File bytes) = refl
    by (SymbolicLink target) = refl

-- an inode that is shown, with this content
abbrev pub holding : ℕ → ℕ → Inode → Content → Option Shown
holding i k inode x = Some (Contents i k (Some (record inode { content = x })))

-- what is shown and neither a symbolic link nor a directory is a file
is-file : (s : Option Shown) (r : Option Errno) → is_present s ≡ true → first (when (shows_link s) ELOOP) (first (when (is_some s && not (is_directory s)) ENOTDIR) r) ≡ first (when (shows_link s) ELOOP) (first (when (shows_file s) ENOTDIR) r)
is-file None r h = refl
is-file (Some (Folder i k a)) r h = refl
is-file (Some (Contents i k None)) r h = absurd (false≢true h)
is-file (Some (Contents i k (Some inode))) r h = by inode.content
  where
    by : (x : Content) → first (when (shows_link (holding i k inode x)) ELOOP) (first (Some ENOTDIR) r) ≡ first (when (shows_link (holding i k inode x)) ELOOP) (first (when (shows_file (holding i k inode x)) ENOTDIR) r)
    by (File bytes) = refl
    by (SymbolicLink target) = refl

-- an open that is not refused shows a directory, and a descriptor is free
pub record Free (s : Option Shown) (free : Option ℕ) : Type 0 where
  pub directory : is_directory s ≡ true
  pub number : ℕ
  pub is : free ≡ Some number

open-free : (b e : Option Errno) (s : Option Shown) (free : Option ℕ) → is_present s ≡ true → first b (first (first e (absent s)) (first (when (shows_link s) ELOOP) (first (when (shows_file s) ENOTDIR) (when (is_none free) EMFILE)))) ≡ None → Free s free
open-free (Some b) e s free p h = cc
open-free None (Some e) s free p h = cc
open-free None None None free p h = cc
open-free None None (Some (Folder i k a)) None p h = cc
open-free None None (Some (Folder i k a)) (Some fd) p h = record { directory = refl; number = fd; is = refl }
open-free None None (Some (Contents i k None)) free p h = absurd (false≢true p)
open-free None None (Some (Contents i k (Some inode))) free p h = by inode.content h
  where
    by : (x : Content) → first (when (shows_link (holding i k inode x)) ELOOP) (first (when (shows_file (holding i k inode x)) ENOTDIR) (when (is_none free) EMFILE)) ≡ None → Free (holding i k inode x) free
    by (File bytes) h = cc
    by (SymbolicLink target) h = cc

-- a directory is live, and stays as it is
live : (o : Option Node) → is_folder o ≡ true → view_of FOR_LISTING o ≡ Live
live None h = refl
live (Some (Branch a b names c)) h = refl
live (Some (Leaf (File bytes) a u l)) h = absurd (false≢true h)
live (Some (Leaf (SymbolicLink target) a u l)) h = refl

unchanged : (o : Option Node) → over_node (opened FOR_LISTING) o ≡ o
unchanged None = refl
unchanged (Some x) = refl

pub put-same : (t : Tree) (d : NodeId) (o : Option Node) → o ≡ t d → (x : NodeId) → put t d o x ≡ t x
put-same t d o h x = by (cases_Bool (same_id d x))
  where
    by : (same_id d x ≡ true) ⊎ (same_id d x ≡ false) → cond (same_id d x) o (t x) ≡ t x
    by (inl y) = ap (λ b. cond b o (t x)) y ∙ h ∙ ap t ((ids_tell d x).0 y)
    by (inr n) = ap (λ b. cond b o (t x)) n

unmoved : (t : Tree) (d : NodeId) → change (opened FOR_LISTING) t (Some d) ≡ t
unmoved t d = λ i x. put-same t d (over_node (opened FOR_LISTING) (t d)) (unchanged (t d)) x i

module _ (U : Layer) (lowers : List Layer) (s : State) (m : IsMountOf U lowers s) where
  abbrev pub t : Tree
  t = s.tree

  abbrev pub shown : Path → Option Shown
  shown p = shows 0 (U ∷ lowers) p

  pub folder-at : (p : Path) → is_folder (node_of t (node_at t p)) ≡ is_directory (shown p)
  folder-at p = face-folder _ ∙ ap seen_folder (m.shows.sights p) ∙ see-folder _ (shown p)

  pub link-at : (p : Path) → is_link (node_of t (node_at t p)) ≡ shows_link (shown p)
  link-at p = face-link _ ∙ ap seen_link (m.shows.sights p) ∙ see-link _ (shown p)

opens-as : (U : Layer) (lowers : List Layer) (s : State) → IsMountOf U lowers s → (c : ℕ) (p : Path) (mode fd : ℕ) → is_directory (shows 0 (U ∷ lowers) p) ≡ true → lowest_free s.tables c ≡ Some fd → OpensAs s c p mode
opens-as U lowers s m c p mode fd h free = by (node_at s.tree p) refl (folder-at U lowers s m p ∙ h)
  where
    by : (o : Option NodeId) → node_at s.tree p ≡ o → is_folder (node_of s.tree (node_at s.tree p)) ≡ true → OpensAs s c p mode
    by None at f = absurd (false≢true (sym (ap (λ o. is_folder (node_of s.tree o)) at) ∙ f))
    by (Some d) at f =
        let view : view_of FOR_LISTING (node_of s.tree (node_at s.tree p)) ≡ Live = live _ f in
        let kept : cond (is_none (node_at s.tree p)) (made_way s.tree s.serial (way_of s.tree p) (Leaf (File []) (fresh mode) (Own false) 1)) (change (opened FOR_LISTING) s.tree (node_at s.tree p)) ≡ s.tree =
        ap (λ o. cond (is_none o) (made_way s.tree s.serial (way_of s.tree p) (Leaf (File []) (fresh mode) (Own false) 1)) (change (opened FOR_LISTING) s.tree o)) at ∙ unmoved s.tree d in
        record {
          node = d;
          at = at;
          descriptor = fd;
          free = free;
          answer = ap (λ o. reply.Descriptor (unwrap_or o DESCRIPTORS_MAX)) free;
          state = λ i. record s {
            tree = kept i;
            serial = next_if (is_none (at i)) s.serial;
            tables = with_handle s.tables c (unwrap_or (free i) DESCRIPTORS_MAX) (Some (record { node = opens (at i) s.serial; reads = true; writes = false; append = false; place = 0; way = way_of s.tree p; view = view i; listed = None }));
          };
        }

-- an open of a directory is told by the layers
pub law_of_open : LawOfOpen
law_of_open U lowers s m c p mode = record {
  refused =
      refusal-writable s c (Open p FOR_LISTING mode) m.writable
      ∙ chain (bad_mode mode) (look s.tree p) (is_link (node_of s.tree (node_at s.tree p))) (is_folder (node_of s.tree (node_at s.tree p))) (is_none (lowest_free s.tables c))
      ∙ (λ i. first (bad_mode mode) (first (to-last U lowers s m p i) (first (when (link-at U lowers s m p i) ELOOP) (first (when (finds U lowers s m p i && not (folder-at U lowers s m p i)) ENOTDIR) (when (is_none (lowest_free s.tables c)) EMFILE)))))
      ∙ ap (λ r. first (bad_mode mode) (first (walk_fault (U ∷ lowers) p) r)) (is-file (shows 0 (U ∷ lowers) p) (when (is_none (lowest_free s.tables c)) EMFILE) (here U lowers s m p));
  opened = λ h.
      let f = open-free (bad_mode mode) (parents_fault (U ∷ lowers) p) (shows 0 (U ∷ lowers) p) (lowest_free s.tables c) (here U lowers s m p) h in
      opens-as U lowers s m c p mode f.number f.directory f.is;
}

-- a directory of a merge is named by its own path
pub law_of_directories : LawOfDirectories
law_of_directories U lowers t a m p h = by (node_at t p) refl (at-some U lowers (opening t (record { redirects = false; metacopy = false; read_only = false; file_limit = 0 })) (law_of_beginning U lowers t false false 0 a m) p ∙ is-shown (shows 0 (U ∷ lowers) p) h)
  where
    is-shown : (s : Option Shown) → is_directory s ≡ true → is_some s ≡ true
    is-shown None h = h
    is-shown (Some s) h = refl

    no-name : (k : ℕ) → held U p ≡ Some (Named k) → ⊥
    no-name k e = false≢true (sym (ap (λ o. is_directory (over 0 U.inodes o (through U lowers p))) e) ∙ h)

    named : (d : NodeId) (l : Path) → d ≡ At l → (p ≡ l) ⊎ AreLinked U p l → Some d ≡ Some (At p)
    named d l e (inl b) = ap Some (e ∙ ap At (sym b))
    named d l e (inr b) = absurd (no-name b.number b.first)

    by : (o : Option NodeId) → node_at t p ≡ o → is_some o ≡ true → o ≡ Some (At p)
    by None e g = absurd (false≢true g)
    by (Some d) e g = let n = m.names p d e in named d n.0 n.1 n.2.alike
