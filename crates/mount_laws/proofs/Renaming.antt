-- The refusals of rename are told by the layers, and a rename of an object to itself changes nothing.
use Rattle.std.proofs.Common.{◌≡◌, ℕ, Bool, true, false, not, ◌&&◌, ◌||◌, List, [], ◌∷◌, Option, None, Some, refl, sym, ap, ap₂, ◌∙◌, ◌⊎◌, inl, inr, is_some, eqb-true, eq-eqb, cond}
use Rattle.std.specs.Cmp.{both_ways as alike}
use Rattle.std.proofs.Math.Bool.{or-true}
use Rattle.std.proofs.lemmas.Bool.{false≢true, cases_Bool}
use Rattle.ov_base.specs.declared.call.CallOf.TheVariants.{Rename}
use Rattle.ov_base.specs.declared.errno.Errno.{Errno}
use Rattle.ov_base.specs.declared.errno.Errno.TheVariants.{EBUSY, EXDEV, ENOTDIR, EISDIR, EINVAL, ENOTEMPTY}
use Rattle.ov_base.specs.declared.node_id.NodeId.{NodeId}
use Rattle.plain_model.specs.Layers.{Path, Object, Directory, Named, Whiteout, Layer, held, cuts, below, spell, unless, over, shows, is_directory, base, Inode, Shown, same_path, cut, Folder, Contents}
use Rattle.plain_model.specs.Tree.{Node, Branch, Leaf, node_at, node_of, face, Sight, SeenBranch, see, AreLinked, is_folder}
use Rattle.plain_model.specs.Machine.{State, Look, Found, Absent, Fails, look, is_found, found, node_found, same_found, is_root, is_below, has_names, is_base}
use Rattle.plain_model.specs.Refusals.{◌or_else◌, when, unless_same, walked, there, refusal}
use Rattle.plain_model.proofs.LookUp.{base-through}
use Rattle.plain_model.proofs.Looking.{refusal-writable}
use Rattle.plain_model.proofs.Paths.{paths_tell, ids_tell}
use Rattle.mount_laws.specs.Looks.{or_else as first, parents_fault, walk_fault, IsMountOf}
use Rattle.mount_laws.specs.Renaming.{same_inode, is_one, move_fault, rename_fault, LawOfRename, LawOfSameRename}
use Rattle.mount_laws.proofs.Looks.{chain-four, found-at, at-some, to-parents, to-last, finds, shown-there}
use Rattle.mount_laws.proofs.Opens.{folder-at}
use Rattle.mount_laws.proofs.Refusing.{nameless-at, some-names, name-at}
use Rattle.mount_laws.proofs.Links.{first-none, second-none}
use Rattle.plain_model.specs.Changes.{tree_after, settled, renamed, next_if, tables_after, re_ways, way_of}

-- the words for the first refusal are one
same-first : (a b : Option Errno) → (a or_else b) ≡ first a b
same-first None b = refl
same-first (Some e) b = refl

same-chain : (a b c d e : Option Errno) → (a or_else b or_else c or_else d or_else e) ≡ first a (first b (first c (first d e)))
same-chain (Some a) b c d e = refl
same-chain None (Some b) c d e = refl
same-chain None None (Some c) d e = refl
same-chain None None None d e = same-first d e

-- what follows a fault counts where there is none
then-alike : (e f x y : Option Errno) → e ≡ f → (f ≡ None → x ≡ y) → first e x ≡ first f y
then-alike e None x y h g = ap (λ e. first e x) h ∙ g refl
then-alike e (Some d) x y h g = ap (λ e. first e x) h

-- two paths that are one object, by the layer
same-named : (o p : Option Object) → same_inode o p ≡ true → (k : ℕ) × (o ≡ Some (Named k)) × (p ≡ Some (Named k))
same-named None p h = absurd (false≢true h)
same-named (Some Whiteout) p h = absurd (false≢true h)
same-named (Some (Directory k a o r)) p h = absurd (false≢true h)
same-named (Some (Named k)) None h = absurd (false≢true h)
same-named (Some (Named k)) (Some Whiteout) h = absurd (false≢true h)
same-named (Some (Named k)) (Some (Directory j a o r)) h = absurd (false≢true h)
same-named (Some (Named k)) (Some (Named j)) h = (k, refl, ap (λ j. Some (Named j)) (sym (eqb-true k j h)))

pub one-object : (U : Layer) (p q : Path) → is_one U p q ≡ true → (p ≡ q) ⊎ AreLinked U p q
one-object U p q h = elim (cases_Bool (same_path p q)) [
  | inl y ↦ inl ((paths_tell p q).0 y)
  | inr n ↦
      let l = same-named (held U p) (held U q) (ap (λ b. b || same_inode (held U p) (held U q)) (sym n) ∙ h) in
      inr (record { number = l.0; first = l.1; second = l.2 })
]

pub object-one : (U : Layer) (p q : Path) → (p ≡ q) ⊎ AreLinked U p q → is_one U p q ≡ true
object-one U p q (inl e) = ap (λ b. b || same_inode (held U p) (held U q)) ((paths_tell p q).1 e)
object-one U p q (inr l) =
    ap₂ (λ o x. same_path p q || same_inode o x) l.first l.second
    ∙ ap (λ b. same_path p q || b) (eq-eqb l.number l.number refl)
    ∙ or-true (same_path p q)

-- whether a directory is base, by what is seen
abbrev seen_base : Option Sight → Bool
seen_base (Some (SeenBranch a b)) = b
seen_base _ = false

face-base : (o : Option Node) → is_base o ≡ seen_base (face o)
face-base None = refl
face-base (Some (Branch a b names c)) = refl
face-base (Some (Leaf content a u l)) = refl

see-base : (b : Bool) (s : Option Shown) → seen_base (see b s) ≡ is_directory s && b
see-base b None = refl
see-base b (Some (Folder i k a)) = refl
see-base b (Some (Contents i k None)) = refl
see-base b (Some (Contents i k (Some inode))) = refl

-- where a directory comes through an object of the upper, one is shown
over-base :
    (inodes : ℕ → Option Inode) (o : Option Object) (c : Bool) (s : Option Shown) →
    is_directory (unless (cut o c) s) ≡ is_directory (over 0 inodes o (unless (cut o c) s)) && is_directory (unless (cut o c) s)
over-base inodes None true s = refl
over-base inodes None false s = twice (is_directory s)
  where
    twice : (b : Bool) → b ≡ b && b
    twice true = refl
    twice false = refl
over-base inodes (Some Whiteout) c s = refl
over-base inodes (Some (Named k)) c s = refl
over-base inodes (Some (Directory k a o r)) c s = refl

pub base-shown : (U : Layer) (lowers : List Layer) (p : Path) → is_directory (shows 0 (U ∷ lowers) p) && base U lowers p ≡ base U lowers p
base-shown U lowers [] = refl
base-shown U lowers (n ∷ q) =
    ap (λ b. is_directory (shows 0 (U ∷ lowers) (n ∷ q)) && b) (base-through U lowers (n ∷ q))
    ∙ sym (over-base U.inodes (held U (n ∷ q)) (cuts U q) (shows 1 lowers (spell (held U (n ∷ q)) n (below U q))))
    ∙ sym (base-through U lowers (n ∷ q))

-- two walks that find one node
pub same-node : (l k : Look) → same_found l k ≡ true → (d : NodeId) × (found l ≡ Some d) × (found k ≡ Some d)
same-node (Fails e) k h = absurd (false≢true h)
same-node (Absent x) k h = absurd (false≢true h)
same-node (Found d) (Fails e) h = absurd (false≢true h)
same-node (Found d) (Absent x) h = absurd (false≢true h)
same-node (Found d) (Found e) h = (d, refl, ap Some (sym ((ids_tell d e).0 h)))

node-same : (l k : Look) → is_some (found l) ≡ true → found l ≡ found k → same_found l k ≡ true
node-same (Fails e) k some h = absurd (false≢true some)
node-same (Absent x) k some h = absurd (false≢true some)
node-same (Found d) (Fails e) some h = cc
node-same (Found d) (Absent x) some h = cc
node-same (Found d) (Found e) some h = (ids_tell d e).1 (let z : d ≡ e = cc in z)

module _ (U : Layer) (lowers : List Layer) (s : State) (m : IsMountOf U lowers s) where
  base-at : (p : Path) → is_base (node_of s.tree (node_at s.tree p)) ≡ base U lowers p
  base-at p =
      face-base (node_of s.tree (node_at s.tree p))
      ∙ ap seen_base (m.shows.sights p)
      ∙ see-base (base U lowers p) (shows 0 (U ∷ lowers) p)
      ∙ base-shown U lowers p

  found-node : (p : Path) → node_found s.tree (look s.tree p) ≡ node_of s.tree (node_at s.tree p)
  found-node p = ap (node_of s.tree) (found-at s.tree p)

  -- where something is shown, the walks of two paths find one node exactly where the paths are one object
  pub same-object : (p q : Path) → is_some (shows 0 (U ∷ lowers) p) ≡ true → same_found (look s.tree p) (look s.tree q) ≡ is_one U p q
  same-object p q some = alike (same_found (look s.tree p) (look s.tree q)) (is_one U p q) to from
    where
      to : same_found (look s.tree p) (look s.tree q) ≡ true → is_one U p q ≡ true
      to h =
          let n = same-node (look s.tree p) (look s.tree q) h in
          object-one U p q (m.shows.apart p q n.0 (sym (found-at s.tree p) ∙ n.1) (sym (found-at s.tree q) ∙ n.2))

      one : (p ≡ q) ⊎ AreLinked U p q → node_at s.tree p ≡ node_at s.tree q
      one (inl e) = ap (node_at s.tree) e
      one (inr l) = m.shows.linked p q l

      from : is_one U p q ≡ true → same_found (look s.tree p) (look s.tree q) ≡ true
      from h =
          node-same (look s.tree p) (look s.tree q)
          (ap is_some (found-at s.tree p) ∙ at-some U lowers s m p ∙ some)
          (found-at s.tree p ∙ one (one-object U p q h) ∙ sym (found-at s.tree q))

  module _ (c : ℕ) (old new : Path) where
    abbrev redirects : Bool
    redirects = s.options.redirects

    abbrev from : Look
    from = look s.tree old

    abbrev to : Look
    to = look s.tree new

    abbrev moved : Option Node
    moved = node_found s.tree from

    abbrev taken : Option Node
    taken = node_found s.tree to

    -- what the machine asks of what stands at the two paths
    abbrev other_kind : Option Errno
    other_kind = when (is_folder moved && is_found to && not (is_folder taken)) ENOTDIR

    abbrev other_way : Option Errno
    other_way = when (not (is_folder moved) && is_folder taken) EISDIR

    abbrev no_redirect : Option Errno
    no_redirect = when (is_base moved && not redirects) EXDEV

    abbrev not_empty : Option Errno
    not_empty = when (is_folder moved && has_names taken) ENOTEMPTY

    abbrev machine_fault : Option Errno
    machine_fault = when (is_below old new) EINVAL or_else other_kind or_else other_way or_else no_redirect or_else not_empty

    folder-found : (p : Path) → is_folder (node_found s.tree (look s.tree p)) ≡ is_directory (shows 0 (U ∷ lowers) p)
    folder-found p = ap is_folder (found-node p) ∙ folder-at U lowers s m p

    faults :
        (names : Bool) → has_names (node_of s.tree (node_at s.tree new)) ≡ names →
        machine_fault
        ≡ move_fault (is_below old new) (shows 0 (U ∷ lowers) old) (shows 0 (U ∷ lowers) new) (base U lowers old && not redirects) names
    faults names h =
        same-chain (when (is_below old new) EINVAL) other_kind other_way no_redirect not_empty
        ∙ (λ i.
        first (when (is_below old new) EINVAL)
        (first (when (folder-found old i && finds U lowers s m new i && not (folder-found new i)) ENOTDIR)
        (first (when (not (folder-found old i) && folder-found new i) EISDIR)
        (first (when (based i && not redirects) EXDEV)
        (when (folder-found old i && named i) ENOTEMPTY)))))
      where
        based : is_base (node_found s.tree from) ≡ base U lowers old
        based = ap is_base (found-node old) ∙ base-at old

        named : has_names (node_found s.tree to) ≡ names
        named = ap has_names (found-node new) ∙ h

    pub told :
        (names : Bool) → has_names (node_of s.tree (node_at s.tree new)) ≡ names →
        refusal s c (Rename old new) ≡ rename_fault U lowers redirects old new names
    told names h =
        refusal-writable s c (Rename old new) m.writable
        ∙ chain-four (when (is_root old || is_root new) EBUSY) (there from) (walked to) (unless_same (same_found from to) machine_fault)
        ∙ ap (first (when (is_root old || is_root new) EBUSY))
        (then-alike (there from) (walk_fault (U ∷ lowers) old) _ _ (to-last U lowers s m old)
        (λ fine.
        let shown = shown-there (parents_fault (U ∷ lowers) old) (shows 0 (U ∷ lowers) old) fine in
        ap₂ first (to-parents U lowers s m new) (ap₂ unless_same (same-object old new shown) (faults names h))))

-- rename's refusals are told by the layers
pub law_of_rename : LawOfRename
law_of_rename U lowers s m c old new = record {
  empty = λ h. told U lowers s m c old new false (nameless-at U lowers s m new h);
  full = λ n h. told U lowers s m c old new true (some-names (node_of s.tree (node_at s.tree new)) n (name-at U lowers s m new n ∙ h));
}

-- a rename of an object to itself changes nothing
pub law_of_same_rename : LawOfSameRename
law_of_same_rename U lowers s m c old new names fine one = record {
  answer = refl;
  state = λ i. record s { tree = same_tree i; renames = same_renames i; tables = same_tables i };
}
  where
    shown : is_some (shows 0 (U ∷ lowers) old) ≡ true
    shown =
        shown-there (parents_fault (U ∷ lowers) old) (shows 0 (U ∷ lowers) old)
        (first-none (walk_fault (U ∷ lowers) old) _ (second-none (when (is_root old || is_root new) EBUSY) _ fine))

    same : same_found (look s.tree old) (look s.tree new) ≡ true
    same = same-object U lowers s m old new shown ∙ one

    same_tree : tree_after s c (Rename old new) ≡ s.tree
    same_tree = ap (λ b. cond b s.tree (settled s.tables (renamed s.options s.tree old new) (node_at s.tree new))) same

    same_renames : next_if (not (same_found (look s.tree old) (look s.tree new))) s.renames ≡ s.renames
    same_renames = ap (λ b. next_if (not b) s.renames) same

    same_tables : tables_after s c (Rename old new) ≡ s.tables
    same_tables = ap (λ b. cond b s.tables (re_ways s.tables (node_at s.tree old) (way_of s.tree old) (way_of s.tree new))) same
