-- The machine's walk on the merge of layers is the layers' look-up.
use Rattle.std.proofs.Common.{◌≡◌, ℕ, zero, suc, Bool, true, false, List, [], ◌∷◌, Option, None, Some, refl, sym, ap, ap₂, ◌∙◌, is_some, is_none, length}
use Rattle.std.proofs.lemmas.Bool.{false≢true}
use Rattle.ov_base.specs.declared.bytes.Content.{Content}
use Rattle.ov_base.specs.declared.call.CallOf.TheVariants.{Stat, Mkdir}
use Rattle.ov_base.specs.declared.bytes.Content.TheVariants.{File, SymbolicLink}
use Rattle.ov_base.specs.declared.errno.Errno.{Errno}
use Rattle.ov_base.specs.declared.errno.Errno.TheVariants.{ENOENT, ENOTDIR, ELOOP, EEXIST}
use Rattle.ov_base.specs.declared.node_id.NodeId.{NodeId}
use Rattle.ov_base.specs.declared.reply.ObjectKind.TheVariants as kind
use Rattle.ov_base.specs.declared.reply.Reply.{Reply}
use Rattle.ov_base.specs.declared.reply.Reply.TheVariants as reply
use Rattle.plain_model.specs.Layers.{Name, Path, Object, Directory, Named, Whiteout, Layer, held, below, cuts, Shown, Folder, Contents, unless, over, shows, AreLayers}
use Rattle.plain_model.specs.Tree.{Node, Branch, Leaf, Tree, names_of, entry, node_at, node_of, face, origin_in, Sight, SeenBranch, SeenLeaf, see, merged, count_of}
use Rattle.plain_model.specs.Machine.{State, Look, Found, Absent, Fails, within, enter, into, look, is_found, found}
use Rattle.plain_model.specs.Refusals.{◌or_else◌, when, walked, there, bad_mode}
use Rattle.plain_model.specs.Replies.{capped, stat_by, stat_of}
use Rattle.plain_model.proofs.Kept.{at-path}
use Rattle.plain_model.proofs.Looking.{refusal-writable, refusal-reading}
use Rattle.plain_model.proofs.Opening.{merge-remounts}
use Rattle.mount_laws.specs.Looks.{fault, or_else as first, way_fault, parents_fault, absent, walk_fault, IsMountOf, LawOfBeginning, LawOfWalks, inode_status, shown_status, LawOfStat, LawOfMkdir}

-- the walk's node is the tree's
enter-found : (d : NodeId) (o : Option Node) (n : Name) → found (enter d o n) ≡ names_of o n
enter-found d None n = refl
enter-found d (Some (Leaf (File bytes) a u l)) n = refl
enter-found d (Some (Leaf (SymbolicLink target) a u l)) n = refl
enter-found d (Some (Branch a b names c)) n = by (names_of (Some (Branch a b names c)) n)
  where
    by : (e : Option NodeId) → found (within d e) ≡ e
    by None = refl
    by (Some e) = refl

into-found : (t : Tree) (n : Name) (l : Look) → found (into t n l) ≡ entry t (found l) n
into-found t n (Found d) = enter-found d (t d) n
into-found t n (Absent d) = refl
into-found t n (Fails e) = refl

pub found-at : (t : Tree) (p : Path) → found (look t p) ≡ node_at t p
found-at t [] = refl
found-at t (n ∷ p) = into-found t n (look t p) ∙ ap (λ o. entry t o n) (found-at t p)

-- why a walk can't go on from a node, and from what is seen of it
abbrev pub node_fault : Option Node → Option Errno
node_fault None = Some ENOENT
node_fault (Some (Branch a b names c)) = None
node_fault (Some (Leaf (File bytes) a u l)) = Some ENOTDIR
node_fault (Some (Leaf (SymbolicLink target) a u l)) = Some ELOOP

abbrev pub sight_fault : Option Sight → Option Errno
sight_fault None = Some ENOENT
sight_fault (Some (SeenBranch a b)) = None
sight_fault (Some (SeenLeaf (File bytes) a u l)) = Some ENOTDIR
sight_fault (Some (SeenLeaf (SymbolicLink target) a u l)) = Some ELOOP

face-fault : (o : Option Node) → node_fault o ≡ sight_fault (face o)
face-fault None = refl
face-fault (Some (Branch a b names c)) = refl
face-fault (Some (Leaf (File bytes) a u l)) = refl
face-fault (Some (Leaf (SymbolicLink target) a u l)) = refl

-- an inode that is shown is there
abbrev pub is_present : Option Shown → Bool
is_present None = true
is_present (Some (Folder i k a)) = true
is_present (Some (Contents i k inode)) = is_some inode

see-fault : (b : Bool) (s : Option Shown) → is_present s ≡ true → sight_fault (see b s) ≡ fault s
see-fault b None h = refl
see-fault b (Some (Folder i k a)) h = refl
see-fault b (Some (Contents i k None)) h = absurd (false≢true h)
see-fault b (Some (Contents i k (Some inode))) h = by inode.content
  where
    by : (x : Content) → sight_fault (Some (SeenLeaf x inode.attributes (origin_in i inode) inode.links)) ≡ Some (elim x [ File bytes ↦ ENOTDIR | SymbolicLink target ↦ ELOOP ])
    by (File bytes) = refl
    by (SymbolicLink target) = refl

see-some : (b : Bool) (s : Option Shown) → is_present s ≡ true → is_some (see b s) ≡ is_some s
see-some b None h = refl
see-some b (Some (Folder i k a)) h = refl
see-some b (Some (Contents i k None)) h = absurd (false≢true h)
see-some b (Some (Contents i k (Some inode))) h = refl

present-step : (L : Layer) (i : ℕ) (o : Option Object) (c : Bool) (s : Option Shown) → ((k : ℕ) → o ≡ Some (Named k) → is_some (L.inodes k) ≡ true) → is_present s ≡ true → is_present (over i L.inodes o (unless c s)) ≡ true
present-step L i None true s h g = refl
present-step L i None false s h g = g
present-step L i (Some Whiteout) c s h g = refl
present-step L i (Some (Directory k a o r)) c s h g = refl
present-step L i (Some (Named k)) c s h g = h k refl

pub present : (i : ℕ) (Ls : List Layer) → AreLayers Ls → (p : Path) → is_present (shows i Ls p) ≡ true
present i [] a p = refl
present i (L ∷ Ls) a p = present-step L i (held L p) (cuts L p) (shows (suc i) Ls (below L p)) (a.0.present p) (present (suc i) Ls a.1 (below L p))

-- the walk of the parents, one name on
enter-walked : (d : NodeId) (o : Option Node) (n : Name) → walked (enter d o n) ≡ node_fault o
enter-walked d None n = refl
enter-walked d (Some (Leaf (File bytes) a u l)) n = refl
enter-walked d (Some (Leaf (SymbolicLink target) a u l)) n = refl
enter-walked d (Some (Branch a b names c)) n = by (names_of (Some (Branch a b names c)) n)
  where
    by : (e : Option NodeId) → walked (within d e) ≡ None
    by None = refl
    by (Some e) = refl

into-walked : (t : Tree) (n : Name) (l : Look) → walked (into t n l) ≡ first (walked l) (node_fault (node_of t (found l)))
into-walked t n (Found d) = enter-walked d (t d) n
into-walked t n (Absent d) = refl
into-walked t n (Fails e) = refl

there-by : (l : Look) → there l ≡ first (walked l) (when (is_none (found l)) ENOENT)
there-by (Found d) = refl
there-by (Absent d) = refl
there-by (Fails e) = refl

found-is : (l : Look) → is_found l ≡ is_some (found l)
found-is (Found d) = refl
found-is (Absent d) = refl
found-is (Fails e) = refl

absent-by : (o : Option NodeId) (s : Option Shown) → is_some o ≡ is_some s → when (is_none o) ENOENT ≡ absent s
absent-by None None h = refl
absent-by None (Some s) h = absurd (false≢true h)
absent-by (Some d) None h = absurd (false≢true (sym h))
absent-by (Some d) (Some s) h = refl

pub face-some : (o : Option Node) → is_some (face o) ≡ is_some o
face-some None = refl
face-some (Some (Branch a b names c)) = refl
face-some (Some (Leaf content a u l)) = refl

module _ (U : Layer) (lowers : List Layer) (s : State) (m : IsMountOf U lowers s) where
  abbrev pub t : Tree
  t = s.tree

  abbrev pub shown : Path → Option Shown
  shown p = shows 0 (U ∷ lowers) p

  abbrev pub node : Path → Option Node
  node p = node_of t (node_at t p)

  pub here : (p : Path) → is_present (shown p) ≡ true
  here p = present 0 (U ∷ lowers) m.layers p

  -- a path's node is there where the path has one
  pub node-some : (p : Path) → is_some (node p) ≡ is_some (node_at t p)
  node-some p = by (node_at t p) refl
    where
      counted : (o : Option Node) → (count_of o ≡ zero → ⊥) → is_some o ≡ true
      counted None h = absurd (h refl)
      counted (Some x) h = refl

      by : (o : Option NodeId) → node_at t p ≡ o → is_some (node_of t o) ≡ is_some o
      by None e = refl
      by (Some d) e = counted (t d) (at-path t s.serial m.kept p d e)

  -- a path has a node where something is shown
  pub at-some : (p : Path) → is_some (node_at t p) ≡ is_some (shown p)
  at-some p = sym (node-some p) ∙ sym (face-some (node p)) ∙ ap is_some (m.shows.sights p) ∙ see-some _ (shown p) (here p)

  pub fault-at : (p : Path) → node_fault (node p) ≡ fault (shown p)
  fault-at p = face-fault (node p) ∙ ap sight_fault (m.shows.sights p) ∙ see-fault _ (shown p) (here p)

  pub to-parents : (p : Path) → walked (look t p) ≡ parents_fault (U ∷ lowers) p
  to-parents [] = refl
  to-parents (n ∷ p) =
      into-walked t n (look t p)
      ∙ ap₂ first (to-parents p) (ap (λ o. node_fault (node_of t o)) (found-at t p) ∙ fault-at p)
      ∙ on p
    where
      on : (p : Path) → first (parents_fault (U ∷ lowers) p) (fault (shown p)) ≡ way_fault (U ∷ lowers) p
      on [] = refl
      on (n ∷ p) = refl

  pub to-last : (p : Path) → there (look t p) ≡ walk_fault (U ∷ lowers) p
  to-last p = there-by (look t p) ∙ ap₂ first (to-parents p) (ap (λ o. when (is_none o) ENOENT) (found-at t p) ∙ absent-by (node_at t p) (shown p) (at-some p))

  pub finds : (p : Path) → is_found (look t p) ≡ is_some (shown p)
  finds p = found-is (look t p) ∙ ap is_some (found-at t p) ∙ at-some p

  pub seen : (p : Path) (d : NodeId) → look t p ≡ Found d → face (t d) ≡ merged U lowers p
  seen p d h = ap (λ o. face (node_of t o)) (sym (ap found h) ∙ found-at t p) ∙ m.shows.sights p

-- the machine's walk is the layers' look-up
pub law_of_walks : LawOfWalks
law_of_walks U lowers s m p = record {
  to_parents = to-parents U lowers s m p;
  to_last = to-last U lowers s m p;
  finds = finds U lowers s m p;
  seen = seen U lowers s m p;
}

-- what is not there
pub none-of : {X : Type 0} (o : Option X) → is_some o ≡ false → o ≡ None
none-of None h = refl
none-of (Some x) h = absurd (false≢true (sym h))

-- the words of refusals and of look-up for the first fault are one
none : (e : Option Errno) → (e or_else None) ≡ e
none None = refl
none (Some e) = refl

pub chain-two : (a b : Option Errno) → ((a or_else b) or_else None) ≡ first a b
chain-two (Some a) b = refl
chain-two None (Some b) = refl
chain-two None None = refl

pub chain-three : (a b c : Option Errno) → ((a or_else b or_else c) or_else None) ≡ first a (first b c)
chain-three (Some a) b c = refl
chain-three None b c = chain-two b c

pub chain-four : (a b c d : Option Errno) → ((a or_else b or_else c or_else d) or_else None) ≡ first a (first b (first c d))
chain-four (Some a) b c d = refl
chain-four None b c d = chain-three b c d

pub chain-five : (a b c d e : Option Errno) → ((a or_else b or_else c or_else d or_else e) or_else None) ≡ first a (first b (first c (first d e)))
chain-five (Some a) b c d e = refl
chain-five None b c d e = chain-four b c d e

-- what stat answers, by what is seen
abbrev pub sight_stat : Option Sight → Reply
sight_stat None = reply.Done
sight_stat (Some (SeenBranch a b)) = stat_by kind.Directory a 0 1
sight_stat (Some (SeenLeaf (File bytes) a u l)) = stat_by kind.File a (length bytes) (capped l)
sight_stat (Some (SeenLeaf (SymbolicLink target) a u l)) = stat_by kind.SymbolicLink a (length target) (capped l)

face-stat : (o : Option Node) → stat_of o ≡ sight_stat (face o)
face-stat None = refl
face-stat (Some (Branch a b names c)) = refl
face-stat (Some (Leaf (File bytes) a u l)) = refl
face-stat (Some (Leaf (SymbolicLink target) a u l)) = refl

see-stat : (b : Bool) (s : Option Shown) → is_present s ≡ true → is_some s ≡ true → sight_stat (see b s) ≡ reply.Status (shown_status s)
see-stat b None h g = absurd (false≢true g)
see-stat b (Some (Folder i k a)) h g = refl
see-stat b (Some (Contents i k None)) h g = absurd (false≢true h)
see-stat b (Some (Contents i k (Some inode))) h g = by inode.content
  where
    by : (x : Content) → sight_stat (Some (SeenLeaf x inode.attributes (origin_in i inode) inode.links)) ≡ reply.Status (inode_status (Some (record inode { content = x })))
    by (File bytes) = refl
    by (SymbolicLink target) = refl

-- a walk that isn't refused shows something
pub shown-there : (e : Option Errno) (s : Option Shown) → first e (absent s) ≡ None → is_some s ≡ true
shown-there None None h = cc
shown-there None (Some s) h = refl
shown-there (Some e) s h = cc

-- stat is told by the layers
pub law_of_stat : LawOfStat
law_of_stat U lowers s m c p = record {
  refused = refusal-reading s c (Stat p) refl ∙ none (there (look s.tree p)) ∙ to-last U lowers s m p;
  answer = λ h.
      face-stat (node_of s.tree (node_at s.tree p))
      ∙ ap sight_stat (m.shows.sights p)
      ∙ see-stat _ (shows 0 (U ∷ lowers) p) (here U lowers s m p) (shown-there (parents_fault (U ∷ lowers) p) (shows 0 (U ∷ lowers) p) h);
}

-- mkdir's refusals are told by the layers
pub law_of_mkdir : LawOfMkdir
law_of_mkdir U lowers s m c p mode =
    refusal-writable s c (Mkdir p mode) m.writable
    ∙ chain-three (bad_mode mode) (walked (look s.tree p)) (when (is_found (look s.tree p)) EEXIST)
    ∙ ap₂ (λ e b. first (bad_mode mode) (first e (when b EEXIST))) (to-parents U lowers s m p) (finds U lowers s m p)

-- a mount begins as one of its layers
pub law_of_beginning : LawOfBeginning
law_of_beginning U lowers t redirects metacopy limit a m = record { layers = a; shows = merge-remounts U lowers t m; kept = m.kept; writable = refl }
