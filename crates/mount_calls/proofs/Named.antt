-- Files of the upper to which a path leads are live, and stay so through each call.
use Rattle.std.proofs.Common.{◌≡◌, ◌≢◌, ℕ, ◌-◌, ◌≤◌, Bool, true, false, cond, List, [], ◌∷◌, Option, None, Some, Result, Ok, Err, IsOk, IsSome, arith, refl, sym, ap, ◌∙◌, subst, ◌⊎◌, inl, inr, is_none, is_some, length, nat_eq}
use Rattle.merged_lookup.specs.Merged.{upper_of}
use Rattle.mount_calls.proofs.Words.{after, AllocError, Call, cases_Bool, cases_eq, change, Content, Contents, false≢true, fresh, Handle, handle_of, Inode, IsLive, IsMountOf, Layer, layer_of, Layers, Leaf, lowers_of, lowest_free, made_way, Node, node_at, NodeId, OnErr, opening_fault, OpenFlags, Own, Path, refusal, Removes, Reply, reply_of, shows, sized, State, Tree, way_of, with_bytes, with_handle}
use Rattle.std.specs.Result.{OnOk}
use Rattle.ov_base.specs.declared.bytes.Content.TheVariants as content
use Rattle.ov_base.specs.declared.call.CallOf.TheVariants as call
use Rattle.ov_base.specs.declared.errno.Errno.{Errno}
use Rattle.ov_base.specs.declared.reply.Reply.TheVariants as reply
use Rattle.plain_model.specs.Layers.{Object, Directory, Named, Whiteout, held, over, through}
use Rattle.plain_model.specs.Tree.{entry, Sight, SeenBranch, SeenLeaf, see_inode, merged, AreLinked}
use Rattle.plain_model.specs.Machine.{bytes_of_node, write_place}
use Rattle.plain_model.specs.Changes.{fitting, node_of_handle, opened, settled, written, wrote}
use Rattle.plain_model.proofs.Keeping.{IsMild, change-like}
use Rattle.plain_model.proofs.Kept.{bytes-mild, opened-mild}
use Rattle.plain_model.proofs.Merged.{named-seen}
use Rattle.layer_tree.specs.ContentChange.{SetsBytes}
use Rattle.layer_tree.specs.Tree.{own_at, SameObjects, SameTree}
use Rattle.layer_tree.specs.Tree.{Tree as LayerTree}
use Rattle.mount_laws.specs.Removals.{Loses, fewer}
use Rattle.mount_laws.specs.Renaming.{MovesLink, Renames}
use Rattle.mount_laws.specs.StayOpen.{LosesLink}
use Rattle.mount_laws.proofs.OpenFiles.{law_of_live_shown}
use Rattle.mount_laws.proofs.Opening.{law_of_open_refusal, law_of_opened_for_reading, law_of_opened_for_writing}
use Rattle.mount_laws.proofs.RenamedTree.{came-from}
use Rattle.mount_calls.specs.declared.mount.Mount.{Mount}
use Rattle.mount_calls.specs.Living.{KeepsFiles, KeepsLive, KeepsNamed, KeepsPaths, NamesFile}
use Rattle.mount_calls.specs.States.{IsStateOf, Serves}
use Rattle.mount_calls.proofs.Closings.{closes-handle}
use Rattle.mount_calls.proofs.Raising.{filled-names, raw-names}

-- a path that leads to a live file names it
pub live-named : (U : Layer) (t : Tree) (d : NodeId) (k : ℕ) (q : Path) → IsLive U t d k → node_at t q ≡ Some d → NamesFile U q k
live-named U t d k q live at = record {
  inode = record { content = content.File live.bytes; attributes = live.attributes; links = live.links; mark = live.mark };
  bytes = live.bytes;
  named = (live.paths q).0 at;
  stored = live.inode;
  file = refl;
}

-- and one that names a file of the upper of a mount leads to a live one
pub named-live : (U : Layer) (lowers : List Layer) (s : State) → IsMountOf U lowers s → (d : NodeId) (k : ℕ) (q : Path) → node_at s.tree q ≡ Some d → NamesFile U q k → IsLive U s.tree d k
named-live U lowers s m d k q at f =
    law_of_live_shown U lowers s m q k f.inode f.bytes d
    (ap (λ o. over 0 U.inodes o (through U lowers q)) f.named ∙ ap (λ x. Some (Contents 0 k x)) f.stored)
    f.file at

-- the content of a file or link that is seen
abbrev seen_content : Option Sight → Option Content
seen_content (Some (SeenLeaf y a u l)) = Some y
seen_content _ = None

-- a name fewer leaves it
content-fewer : (o : Option Sight) → seen_content (fewer o) ≡ seen_content o
content-fewer None = refl
content-fewer (Some (SeenBranch a b)) = refl
content-fewer (Some (SeenLeaf y a u l)) = refl

-- at a path that names a file, that is seen
pub file-seen : (U : Layer) (lowers : List Layer) (q : Path) (k : ℕ) (f : NamesFile U q k) → seen_content (merged U lowers q) ≡ Some (content.File f.bytes)
file-seen U lowers q k f =
    ap seen_content (named-seen U lowers q k f.named)
    ∙ ap (λ o. seen_content (see_inode 0 o)) f.stored
    ∙ ap Some f.file

-- and a path that names what is seen as a file names a file
pub seen-file : (V : Layer) (lowers : List Layer) (q : Path) (k : ℕ) (bytes : List ℕ) → held V q ≡ Some (Named k) → seen_content (merged V lowers q) ≡ Some (content.File bytes) → NamesFile V q k
seen-file V lowers q k bytes named seen = by (V.inodes k) refl (sym (ap seen_content (named-seen V lowers q k named)) ∙ seen)
  where
    by : (o : Option Inode) → V.inodes k ≡ o → seen_content (see_inode 0 (V.inodes k)) ≡ Some (content.File bytes) → NamesFile V q k
    by None at h = absurd (let z : None ≡ Some (content.File bytes) = sym (ap (λ o. seen_content (see_inode 0 o)) at) ∙ h in cc)
    by (Some i) at h =
        let z : Some i.content ≡ Some (content.File bytes) = sym (ap (λ o. seen_content (see_inode 0 o)) at) ∙ h in
        record { inode = i; bytes = bytes; named = named; stored = at; file = cc }

-- whether an object is a name of the inode
names-it : (o : Option Object) (k : ℕ) → (o ≡ Some (Named k)) ⊎ (o ≡ Some (Named k) → ⊥)
names-it None k = inr (λ e. cc)
names-it (Some (Directory n a o r)) k = inr (λ e. cc)
names-it (Some Whiteout) k = inr (λ e. cc)
names-it (Some (Named n)) k = elim (cases_eq n k) [
  | inl e ↦ inl (ap (λ z. Some (Named z)) e)
  | inr away ↦ inr (λ e. away (let z : Some (Named n) ≡ Some (Named k) = e in cc))
]

-- where the upper loses a name, each other path names the file that it named
pub loses-files : (U V : Layer) (lowers : List Layer) (p : Path) → Loses U V lowers p → (q : Path) (k : ℕ) → q ≢ p → NamesFile U q k → NamesFile V q k
loses-files U V lowers p l q k away f =
    seen-file V lowers q k f.bytes ((l.names q k).1 (away, f.named)) (same (names-it (held U p) k) ∙ file-seen U lowers q k f)
  where
    same : (held U p ≡ Some (Named k)) ⊎ (held U p ≡ Some (Named k) → ⊥) → seen_content (merged V lowers q) ≡ seen_content (merged U lowers q)
    same (inl both) = ap seen_content (l.linked q away (record { number = k; first = both; second = f.named })) ∙ content-fewer (merged U lowers q)
    same (inr apart) = ap seen_content (l.others q away (λ (x : AreLinked U p q). apart (x.first ∙ sym x.second ∙ f.named)))

-- where an inode loses a link at most, its file stays one
loses-file : (U V : Layer) (p q y : Path) (k : ℕ) → LosesLink U V p k → NamesFile U q k → held V y ≡ Some (Named k) → NamesFile V y k
loses-file U V p q y k w f named = by (names-it (held U p) k)
  where
    by : (held U p ≡ Some (Named k)) ⊎ (held U p ≡ Some (Named k) → ⊥) → NamesFile V y k
    by (inl here) = record { inode = record f.inode { links = f.inode.links - 1 }; bytes = f.bytes; named = named; stored = w.fewer f.inode here f.stored; file = f.file }
    by (inr away) = record { inode = f.inode; bytes = f.bytes; named = named; stored = w.same away ∙ f.stored; file = f.file }

-- where an object moves, each path names the file that the one that it follows named
pub moves-files : (U V : Layer) (lowers : List Layer) (s : State) (c : ℕ) (p q : Path) → Renames V lowers s c p q → (d : NodeId) (k : ℕ) (y : Path) → MovesLink U V p q k → IsLive U s.tree d k → node_at (after s c (call.Rename p q)).tree y ≡ Some d → NamesFile V y k
moves-files U V lowers s c p q f d k y w live at = elim (came-from p q y) [
  | inl g ↦
      let was : NamesFile U g.0 k = live-named U s.tree d k g.0 live (sym (f.follows g.0 y g.1) ∙ at) in
      loses-file U V q g.0 y k w.loses was ((w.names g.0 y g.1).1 was.named)
  | inr b ↦ absurd (let z : None ≡ Some d = sym (f.gone b.0) ∙ ap (node_at (after s c (call.Rename p q)).tree) (sym b.1) ∙ at in cc)
]

-- what is seen as before, by the same names, is the same files
pub same-files : (old new : Layers) → SameObjects (upper_of old) (upper_of new) → ((q : Path) → merged (upper_of new) (lowers_of new) q ≡ merged (upper_of old) (lowers_of old) q) → KeepsFiles old new
same-files old new objects sights q k f =
    seen-file (upper_of new) (lowers_of new) q k f.bytes (objects q ∙ f.named)
    (ap seen_content (sights q) ∙ file-seen (upper_of old) (lowers_of old) q k f)

-- so are those of paths that stay
pub paths-files : (old new : Layers) → KeepsPaths old new → KeepsFiles old new
paths-files old new keeps q k f = record {
  inode = f.inode;
  bytes = f.bytes;
  named = keeps.objects q ∙ f.named;
  stored = keeps.inodes q k f.named ∙ f.stored;
  file = f.file;
}

-- and of layers that stay
pub stay-files : (old new : Layers) → new ≡ old → KeepsFiles old new
stay-files old new same q k f = subst (λ (l : Layers). NamesFile (upper_of l) q k) (sym same) f

-- a file gets other bytes
module _ (u new : LayerTree) (key : ℕ) (now : List ℕ → List ℕ) (there : IsSome (own_at u key)) (objects : SameObjects (layer_of u) (layer_of new)) where
  -- each path names the same file while it gets them
  sets-files : ((old : List ℕ) → own_at u key ≡ Some old → SetsBytes (layer_of u) (layer_of new) key (now old)) → (q : Path) (k : ℕ) → NamesFile (layer_of u) q k → NamesFile (layer_of new) q k
  sets-files sets q k f = by (own_at u key) refl there
    where
      in-it : (old : List ℕ) → SetsBytes (layer_of u) (layer_of new) key (now old) → (k ≡ key) ⊎ (k ≡ key → ⊥) → NamesFile (layer_of new) q k
      in-it old w (inl e) = record { inode = record w.inode { content = content.File (now old); mark = None }; bytes = now old; named = objects q ∙ f.named; stored = ap (layer_of new).inodes e ∙ w.now; file = refl }
      in-it old w (inr away) = record { inode = f.inode; bytes = f.bytes; named = objects q ∙ f.named; stored = w.inodes k away ∙ f.stored; file = f.file }

      by : (o : Option (List ℕ)) → own_at u key ≡ o → is_some o ≡ true → NamesFile (layer_of new) q k
      by None at some = absurd (false≢true some)
      by (Some old) at some = in-it old (sets old at) (cases_eq k key)

  -- and so where memory runs out for them
  pub written-files : (l : Layers) → l.upper ≡ u → (r : Result (Unit {0}) AllocError) → OnOk r ((old : List ℕ) → own_at u key ≡ Some old → SetsBytes (layer_of u) (layer_of new) key (now old)) → OnErr r (SameTree u new) → KeepsFiles l (record l { upper = new })
  written-files l is r sets same q k f = filled-names (lowers_of l) (layer_of new) q k (by r sets same)
    where
      was : NamesFile (layer_of u) q k
      was = subst (λ (z : LayerTree). NamesFile (layer_of z) q k) is (raw-names (lowers_of l) (layer_of l.upper) q k f)

      by : (x : Result (Unit {0}) AllocError) → OnOk x ((old : List ℕ) → own_at u key ≡ Some old → SetsBytes (layer_of u) (layer_of new) key (now old)) → OnErr x (SameTree u new) → NamesFile (layer_of new) q k
      by (Ok x) w tree = sets-files w q k was
      by (Err e) w tree = record { inode = was.inode; bytes = was.bytes; named = objects q ∙ was.named; stored = tree.inodes k ∙ was.stored; file = was.file }

-- bytes are cut to nothing where each cut of them is made
pub cut-empties : (o : Option (List ℕ)) (size : ℕ) (r : Result (Unit {0}) AllocError) → IsSome o → ((old : List ℕ) → o ≡ Some old → size ≤ length old → IsOk r) → size ≡ 0 → IsOk r
cut-empties None size r there cuts none = absurd (false≢true there)
cut-empties (Some old) size r there cuts none = cuts old refl (omega (arith, none))

-- paths lead where they led where a node changes, but not its names
change-paths : (f : Node → Node) → IsMild f → (t : Tree) (o : Option NodeId) (q : Path) → node_at (change f t o) q ≡ node_at t q
change-paths f mild t o [] = refl
change-paths f mild t o (n ∷ q) = ap (λ z. entry (change f t o) z n) (change-paths f mild t o q) ∙ entries (node_at t q)
  where
    entries : (z : Option NodeId) → entry (change f t o) z n ≡ entry t z n
    entries None = refl
    entries (Some x) = (change-like f mild t o x).names n

-- a write at a place changes no names
wrote-mild : (limit at : ℕ) (bytes : List ℕ) → IsMild (wrote limit at bytes)
wrote-mild limit at bytes x = bytes-mild (written (bytes_of_node (Some x)) at (fitting limit at bytes)) x

-- so after one, or none, paths lead where they led
wrote-paths : (limit : ℕ) (t : Tree) (o : Option NodeId) (at : ℕ) (bytes : List ℕ) (q : Path) (none : Bool) → node_at (cond none t (change (wrote limit at bytes) t o)) q ≡ node_at t q
wrote-paths limit t o at bytes q true = refl
wrote-paths limit t o at bytes q false = change-paths (wrote limit at bytes) (wrote-mild limit at bytes) t o q

-- as they do after each write
pub write-paths : (s : State) (c fd : ℕ) (bytes : List ℕ) (q : Path) → node_at (after s c (call.Write fd bytes)).tree q ≡ node_at s.tree q
write-paths s c fd bytes q = wrote-paths s.options.file_limit s.tree (node_of_handle (handle_of s.tables c fd)) (write_place s.tree (handle_of s.tables c fd)) bytes q (nat_eq (length bytes) 0)

-- after a truncation
pub truncate-paths : (s : State) (c fd size : ℕ) (q : Path) → node_at (after s c (call.Truncate fd size)).tree q ≡ node_at s.tree q
truncate-paths s c fd size q = change-paths (λ (x : Node). with_bytes (sized (bytes_of_node (Some x)) size) x) (λ x. bytes-mild (sized (bytes_of_node (Some x)) size) x) s.tree (node_of_handle (handle_of s.tables c fd)) q

-- after a close
pub close-paths : (U : Layer) (lowers : List Layer) (s : State) → IsMountOf U lowers s → (c fd : ℕ) (q : Path) → node_at (after s c (call.Close fd)).tree q ≡ node_at s.tree q
close-paths U lowers s m c fd q = by (handle_of s.tables c fd) refl
  where
    by : (o : Option Handle) → handle_of s.tables c fd ≡ o → node_at (after s c (call.Close fd)).tree q ≡ node_at s.tree q
    by None e = ap (λ h. node_at (settled (with_handle s.tables c fd None) s.tree (node_of_handle h)) q) e
    by (Some h) e = (closes-handle U lowers s m c fd h e).paths q

-- and after an open of what is shown
pub open-paths : (U : Layer) (lowers : List Layer) (s : State) → IsMountOf U lowers s → (c : ℕ) (p : Path) (f : OpenFlags) (mode : ℕ) → refusal s c (call.Open p f mode) ≡ None → is_some (shows 0 (U ∷ lowers) p) ≡ true → (q : Path) → node_at (after s c (call.Open p f mode)).tree q ≡ node_at s.tree q
open-paths U lowers s m c p f mode fine some q =
    ap (λ o. node_at (cond (is_none o) (made_way s.tree s.serial (way_of s.tree p) (Leaf (content.File []) (fresh mode) (Own false) 1)) (change (opened f) s.tree o)) q) there.1
    ∙ change-paths (opened f) (opened-mild f) s.tree (Some there.0) q
  where
    allowed : opening_fault (U ∷ lowers) p f mode (lowest_free s.tables c) ≡ None
    allowed = sym (law_of_open_refusal U lowers s m c p f mode) ∙ fine

    there : (d : NodeId) × (node_at s.tree p ≡ Some d)
    there = elim (cases_Bool f.writes) [
      | inl w ↦ (let law = law_of_opened_for_writing U lowers s m c p f mode allowed some w in (law.node, law.at))
      | inr r ↦ (let law = law_of_opened_for_reading U lowers s m c p f mode allowed some r in (law.node, law.at))
    ]

-- a call that was served, and leaves paths and files
pub stays-named : (old : Layers) (new : Mount) (s : State) (c : ℕ) (k : Call) (r : Reply) → Serves (refusal s c k) s c k r new → refusal s c k ≡ None → ((q : Path) → node_at (after s c k).tree q ≡ node_at s.tree q) → KeepsFiles old new.layers → KeepsNamed s c old new.layers k
stays-named old new s c k r served fine paths files d j q live at =
    named-live (upper_of new.layers) (lowers_of new.layers) (after s c k) stands.layers d j q at
    (files q j (live-named (upper_of old) s.tree d j q live (sym (paths q) ∙ at)))
  where
    stands : IsStateOf new (after s c k)
    stands = (subst (λ o. Serves o s c k r new) fine served).1

-- a call that takes a name away
pub removes-named : (old new : Layers) (s : State) (c : ℕ) (p : Path) (k : Call) (lowers : List Layer) → Loses (upper_of old) (upper_of new) lowers p → Removes (upper_of new) (lowers_of new) s c p k → KeepsNamed s c old new k
removes-named old new s c p k lowers loses x d j q live at =
    named-live (upper_of new) (lowers_of new) (after s c k) x.mounts d j q at
    (loses-files (upper_of old) (upper_of new) lowers p loses q j away (live-named (upper_of old) s.tree d j q live (sym (x.stays q away) ∙ at)))
  where
    away : q ≢ p
    away e = let z : None ≡ Some d = sym x.gone ∙ ap (node_at (after s c k).tree) (sym e) ∙ at in cc

-- whether a reply is a refusal
abbrev pub is_refused : Reply → Bool
is_refused (reply.Refused e) = true
is_refused _ = false

-- nothing is to be said of a call that was refused, where the machine answers no refusal
pub refused-named : (old : Layers) (s : State) (c : ℕ) (k : Call) (e : Errno) (new : Mount) → is_refused (reply_of s c k) ≡ false → Serves (refusal s c k) s c k (reply.Refused e) new → refusal s c k ≡ None → KeepsNamed s c old new.layers k
refused-named old s c k e new answers served fine =
    absurd (false≢true (sym answers ∙ sym (ap is_refused (subst (λ o. Serves o s c k (reply.Refused e) new) fine served).0)))

-- a call through which live files stay so
pub keeps-named : (old new : Layers) (metacopy : Bool) (k : Call) → KeepsLive old new metacopy k → (s : State) → IsMountOf (upper_of old) (lowers_of old) s → s.options.metacopy ≡ metacopy → (c : ℕ) → KeepsNamed s c old new k
keeps-named old new metacopy k keeps s m option c d j q live at = keeps s m option c d j live

-- a call that changes neither the layers nor the tree
pub reads-named : (old new : Layers) (s : State) (c : ℕ) (k : Call) → new ≡ old → (after s c k).tree ≡ s.tree → KeepsNamed s c old new k
reads-named old new s c k same tree d j q live at =
    subst (λ (l : Layers). IsLive (upper_of l) (after s c k).tree d j) (sym same) (subst (λ (t : Tree). IsLive (upper_of old) t d j) (sym tree) live)
