-- Each call that is not refused keeps what trees keep.
use Rattle.std.proofs.Common.{◌≡◌, ℕ, suc, Bool, true, false, not, cond, ◌&&◌, List, [], ◌∷◌, Option, None, Some, refl, sym, ap, subst, ◌∙◌, is_none, inl, inr, nat_eq, nat_lt, arith, length}
use Rattle.std.proofs.lemmas.Bool.{cases_Bool, false≢true, both_ways}
use Rattle.std.proofs.lemmas.Bool.Decides.{nat_tests}
use Rattle.std.specs.Cmp.Lexicographic.{slice_cmp}
use Rattle.std.specs.Ordering.{nat_cmp}
use Rattle.std.specs.FinMap as fin
use Rattle.ov_base.specs.declared.attributes.Attributes.{Attributes}
use Rattle.ov_base.specs.declared.bytes.Content.TheVariants.{File, SymbolicLink}
use Rattle.ov_base.specs.Calls.{Call}
use Rattle.ov_base.specs.declared.call.CallOf.TheVariants.{Stat, Readlink, Chmod, Chown, SetAttribute, GetAttribute, DeleteAttribute, ListAttributes, Mkdir, Symlink, Open, Unlink, Rmdir, Hardlink, Rename, Read, Write, Seek, Truncate, Fstat, ListNames, Close, Arm, Disarm, TakeNotices}
use Rattle.ov_base.specs.declared.call.OpenFlags.{OpenFlags}
use Rattle.ov_base.specs.declared.errno.Errno.{Errno}
use Rattle.ov_base.specs.declared.errno.Errno.TheVariants.{EBUSY, ENOENT, EEXIST, EISDIR, ENOTDIR, EINVAL, EXDEV, ENOTEMPTY, EPERM, ENAMETOOLONG}
use Rattle.ov_base.specs.declared.node_id.NodeId.{NodeId}
use Rattle.plain_model.specs.Runs.{LawOfNames}
use Rattle.plain_model.specs.Layers.{Name, Path}
use Rattle.plain_model.specs.Tree.{same_id, Node, Branch, Leaf, Own, Tree, root, names_of, entry, node_at, node_of, lead, is_folder, count_of, IsKept}
use Rattle.plain_model.specs.Machine.{MountOptions, Table, State, Look, Found, Absent, Fails, look, is_found, same_found, has_names, is_base, node_found, is_below, bytes_of_node, handle_of, write_place}
use Rattle.plain_model.specs.Refusals.{refusal, path_of, path_refusal, walked, there, when, bad_mode, bad_flags, unless_same, has_nul, ◌or_else◌, writable_refusal}
use Rattle.plain_model.specs.Changes.{change, on_way, way_of, lead_way, touched, meta_touched, one_fewer, one_more, with_bytes, with_attributes, with_mode, with_owner, set_value, drop_value, sized, written, fitting, node_of_handle, with_handle, wrote, opened, fresh, settled, made_way, dropped, renamed, tree_after, next_if}
use Rattle.plain_model.proofs.Paths.{ids_tell}
use Rattle.plain_model.proofs.Names.{names-some, root-some}
use Rattle.plain_model.proofs.Keeping.{Like, like-refl, IsMild, change-kept, settled-kept}
use Rattle.plain_model.proofs.Dropping.{dropped-kept}
use Rattle.plain_model.proofs.Making.{made-kept}
use Rattle.plain_model.proofs.Linking.{is_leaf, linked-kept}
use Rattle.plain_model.proofs.Renaming.{renamed-kept}
use Rattle.plain_model.proofs.Looking.{or-first, or-second, when-not, Reached, Tells, look-found, look-reached}

-- mild changes of a node
pub bytes-mild : (bytes : List ℕ) → IsMild (with_bytes bytes)
bytes-mild bytes (Branch a b names c) = like-refl (Some (Branch a b names c))
bytes-mild bytes (Leaf (File old) a u c) = record { names = λ n. refl; counts = refl; folders = refl; stands = refl; untouched = λ h. h }
bytes-mild bytes (Leaf (SymbolicLink target) a u c) = like-refl (Some (Leaf (SymbolicLink target) a u c))

pub attributes-mild : (m : MountOptions) (f : Attributes → Attributes) → IsMild (with_attributes m f)
attributes-mild m f (Branch a b names c) = record { names = λ n. refl; counts = refl; folders = refl; stands = refl; untouched = λ h. h }
attributes-mild m f (Leaf content a u c) = record { names = λ n. refl; counts = refl; folders = refl; stands = refl; untouched = λ h. absurd (false≢true h) }

touched-mild : IsMild touched
touched-mild (Branch a b names c) = like-refl (Some (Branch a b names c))
touched-mild (Leaf content a u c) = record { names = λ n. refl; counts = refl; folders = refl; stands = refl; untouched = λ h. absurd (false≢true h) }

like-trans : (o p q : Option Node) → Like o p → Like p q → Like o q
like-trans o p q a b = record { names = λ n. b.names n ∙ a.names n; counts = b.counts ∙ a.counts; folders = b.folders ∙ a.folders; stands = b.stands ∙ a.stands; untouched = λ h. a.untouched (b.untouched h) }

pub opened-mild : (f : OpenFlags) → IsMild (opened f)
opened-mild f x = by f.writes f.truncate
  where
    by : (b c : Bool) → Like (Some x) (Some (cond b (cond c (with_bytes [] (touched x)) (touched x)) x))
    by false c = like-refl (Some x)
    by true false = touched-mild x
    by true true = like-trans (Some x) (Some (touched x)) (Some (with_bytes [] (touched x))) (touched-mild x) (bytes-mild [] (touched x))

-- a node at a path has a name
pub at-path : (t : Tree) (i : ℕ) → IsKept t i → (p : Path) (d : NodeId) → node_at t p ≡ Some d → (count_of (t d) ≡ 0 → ⊥)
at-path t i k [] d h e = let s : root ≡ d = cc in root-some t (count_of (t root)) (k.counted root) (ap (λ z. count_of (t z)) s ∙ e)
at-path t i k (n ∷ q) d h e = by (node_at t q) h
  where
    by : (o : Option NodeId) → entry t o n ≡ Some d → ⊥
    by None h = cc
    by (Some x) h = names-some t x n d (count_of (t d)) h (k.counted d) e

-- a path that is free: its directory is there, and has no such name
free-name : (t : Tree) (n : Name) (q : Path) → walked (look t (n ∷ q)) ≡ None → is_found (look t (n ∷ q)) ≡ false → Reached t n q None
free-name t n q w f =
    let r = look-reached t n q w in
    by (look t (n ∷ q)) f w r.0 r.1 r.2
  where
    by : (l : Look) → is_found l ≡ false → walked l ≡ None → (e : Option NodeId) → Reached t n q e → Tells l e → Reached t n q None
    by (Found d) f w e r h = absurd (false≢true (sym f))
    by (Fails x) f w e r h = let z : Some x ≡ None = w in cc
    by (Absent d) f w e r h = subst (Reached t n q) h r

-- a path that is taken: its directory has the name, and it leads to a node
-- a name that a walk finds
pub taken-name : (t : Tree) (n : Name) (q : Path) → there (look t (n ∷ q)) ≡ None → (e : NodeId) × Reached t n q (Some e) × (look t (n ∷ q) ≡ Found e)
taken-name t n q h = by (look t (n ∷ q)) refl h
  where
    by : (l : Look) → look t (n ∷ q) ≡ l → there l ≡ None → (e : NodeId) × Reached t n q (Some e) × (look t (n ∷ q) ≡ Found e)
    by (Fails x) e h = let z : Some x ≡ None = h in cc
    by (Absent d) e h = let z : Some ENOENT ≡ None = h in cc
    by (Found d) e h =
        let r = look-reached t n q (ap walked e) in
        (d, subst (Reached t n q) (subst (λ l. Tells l r.0) e r.2) r.1, e)

-- a new node at a free path
make-kept : (t : Tree) (i : ℕ) (n : Name) (q : Path) (x : Node) → count_of (Some x) ≡ 1 → ((m : Name) → names_of (Some x) m ≡ None) → IsKept t i → Reached t n q None → IsKept (made_way t i (on_way (node_at t q) n) x) (suc i)
make-kept t i n q x one empty k r =
    subst (λ o. IsKept (made_way t i (on_way o n) x) (suc i)) (sym r.at)
    (made-kept t i r.dir n x r.folder (at-path t i k q r.dir r.at) r.leads one empty k)

-- the name of a path goes, of a node without names in it
drop-kept : (ks : List Table) (t : Tree) (i : ℕ) (n : Name) (q : Path) (e : NodeId) → IsKept t i → Reached t n q (Some e) → node_at t (n ∷ q) ≡ Some e → ((m : Name) → names_of (t e) m ≡ None) → IsKept (dropped ks t (n ∷ q)) i
drop-kept ks t i n q e k r at empty =
    settled-kept ks (lead_way (change one_fewer t (node_at t (n ∷ q))) (way_of t (n ∷ q)) None) i (node_at t (n ∷ q))
    (subst (λ o. IsKept (lead_way (change one_fewer t (node_at t (n ∷ q))) (on_way o n) None) i) (sym r.at)
    (subst (λ o. IsKept (lead (change one_fewer t o) r.dir n None) i) (sym at)
    (dropped-kept t i r.dir n e r.folder r.leads empty k)))

-- what has no names
no-folder : (o : Option Node) (m : Name) → is_folder o ≡ false → names_of o m ≡ None
no-folder None m h = refl
no-folder (Some (Branch a b names c)) m h = absurd (false≢true (sym h))
no-folder (Some (Leaf content a u c)) m h = refl

no-names : (o : Option Node) (m : Name) → has_names o ≡ false → names_of o m ≡ None
no-names None m h = refl
no-names (Some (Leaf content a u c)) m h = refl
no-names (Some (Branch a b names c)) m h =
    ap (λ z. fin.get z m) (fin.empty_of_len names (let z : fin.len names ≡ 0 = grind (arith, nat_tests) in z)) ∙ fin.get-empty (slice_cmp nat_cmp) m

-- a call by path that is not refused
pub by-path : (s : State) (c : ℕ) (call : Call) → refusal s c call ≡ None → path_refusal s (look s.tree (path_of call)) (node_of s.tree (node_at s.tree (path_of call))) c call ≡ None
by-path s c call r = or-first _ _ (or-first (writable_refusal s c call) _ r)

mkdir-kept : (s : State) (c : ℕ) (p : Path) (mode : ℕ) → IsKept s.tree s.serial → refusal s c (Mkdir p mode) ≡ None → IsKept (tree_after s c (Mkdir p mode)) (suc s.serial)
mkdir-kept s c [] mode k r = let z = when-not true EEXIST (or-second (bad_mode mode) _ (by-path s c (Mkdir [] mode) r)) in absurd (false≢true (sym z))
mkdir-kept s c (n ∷ q) mode k r =
    let w = or-second (bad_mode mode) _ (by-path s c (Mkdir (n ∷ q) mode) r) in
    make-kept s.tree s.serial n q (Branch (fresh mode) false fin.empty 1) refl (λ m. fin.get-empty (slice_cmp nat_cmp) m) k
    (free-name s.tree n q (or-first (walked (look s.tree (n ∷ q))) _ w) (when-not (is_found (look s.tree (n ∷ q))) EEXIST (or-second (walked (look s.tree (n ∷ q))) _ w)))

symlink-kept : (s : State) (c : ℕ) (target : List ℕ) (p : Path) → IsKept s.tree s.serial → refusal s c (Symlink target p) ≡ None → IsKept (tree_after s c (Symlink target p)) (suc s.serial)
symlink-kept s c target p k r = by p (or-second (when (has_nul target) EINVAL) _ (or-second (when (nat_eq (length target) 0) ENOENT) _ (or-second (when (nat_lt 4095 (length target)) ENAMETOOLONG) _ (by-path s c (Symlink target p) r))))
  where
    by : (p : Path) → walked (look s.tree p) or_else when (is_found (look s.tree p)) EEXIST ≡ None → IsKept (tree_after s c (Symlink target p)) (suc s.serial)
    by [] w = absurd (false≢true (sym (when-not true EEXIST w)))
    by (n ∷ q) w =
        make-kept s.tree s.serial n q (Leaf (SymbolicLink target) (fresh 0o777) (Own false) 1) refl (λ m. refl) k
        (free-name s.tree n q (or-first (walked (look s.tree (n ∷ q))) _ w) (when-not (is_found (look s.tree (n ∷ q))) EEXIST (or-second (walked (look s.tree (n ∷ q))) _ w)))

-- an open that makes its file has a directory to make it in
pub open-reached : (s : State) (c : ℕ) (n : Name) (q : Path) (f : OpenFlags) (mode : ℕ) → refusal s c (Open (n ∷ q) f mode) ≡ None → is_none (node_at s.tree (n ∷ q)) ≡ true → Reached s.tree n q None
open-reached s c n q f mode r free = free-name s.tree n q w (not-found (look s.tree (n ∷ q)) refl)
  where
    w : walked (look s.tree (n ∷ q)) ≡ None
    w = or-first (walked (look s.tree (n ∷ q))) _ (or-second (bad_mode mode) _ (or-second (when (bad_flags f) EINVAL) _ (by-path s c (Open (n ∷ q) f mode) r)))

    not-found : (l : Look) → look s.tree (n ∷ q) ≡ l → is_found l ≡ false
    not-found (Found d) h = absurd (false≢true (ap is_none (sym (look-found s.tree (n ∷ q) d h)) ∙ free))
    not-found (Absent d) h = refl
    not-found (Fails x) h = refl

open-made : (s : State) (c : ℕ) (p : Path) (f : OpenFlags) (mode : ℕ) → IsKept s.tree s.serial → refusal s c (Open p f mode) ≡ None → is_none (node_at s.tree p) ≡ true → IsKept (made_way s.tree s.serial (way_of s.tree p) (Leaf (File []) (fresh mode) (Own false) 1)) (suc s.serial)
open-made s c [] f mode k r free = absurd (false≢true free)
open-made s c (n ∷ q) f mode k r free = make-kept s.tree s.serial n q (Leaf (File []) (fresh mode) (Own false) 1) refl (λ m. refl) k (open-reached s c n q f mode r free)

open-kept : (s : State) (c : ℕ) (p : Path) (f : OpenFlags) (mode : ℕ) → IsKept s.tree s.serial → refusal s c (Open p f mode) ≡ None → IsKept (tree_after s c (Open p f mode)) (next_if (is_none (node_at s.tree p)) s.serial)
open-kept s c p f mode k r = by (is_none (node_at s.tree p)) (λ h. open-made s c p f mode k r h)
  where
    by : (b : Bool) → (b ≡ true → IsKept (made_way s.tree s.serial (way_of s.tree p) (Leaf (File []) (fresh mode) (Own false) 1)) (suc s.serial)) → IsKept (cond b (made_way s.tree s.serial (way_of s.tree p) (Leaf (File []) (fresh mode) (Own false) 1)) (change (opened f) s.tree (node_at s.tree p))) (next_if b s.serial)
    by true made = made refl
    by false made = change-kept (opened f) (opened-mild f) s.tree s.serial (node_at s.tree p) k

unlink-kept : (s : State) (c : ℕ) (p : Path) → IsKept s.tree s.serial → refusal s c (Unlink p) ≡ None → IsKept (tree_after s c (Unlink p)) s.serial
unlink-kept s c [] k r = let z : Some EBUSY ≡ None = by-path s c (Unlink []) r in cc
unlink-kept s c (n ∷ q) k r =
    let t = s.tree in
    let l = look s.tree (n ∷ q) in
    let h = taken-name s.tree n q (or-first (there (look s.tree (n ∷ q))) _ (by-path s c (Unlink (n ∷ q)) r)) in
    let at = look-found s.tree (n ∷ q) h.0 h.2 in
    let file = when-not (is_folder (node_of s.tree (node_at s.tree (n ∷ q)))) EISDIR (or-second (there (look s.tree (n ∷ q))) _ (by-path s c (Unlink (n ∷ q)) r)) in
    drop-kept s.tables s.tree s.serial n q h.0 k h.1 at (λ m. no-folder (s.tree h.0) m (ap (λ o. is_folder (node_of s.tree o)) (sym at) ∙ file))

rmdir-kept : (s : State) (c : ℕ) (p : Path) → IsKept s.tree s.serial → refusal s c (Rmdir p) ≡ None → IsKept (tree_after s c (Rmdir p)) s.serial
rmdir-kept s c [] k r = let z : Some EBUSY ≡ None = by-path s c (Rmdir []) r in cc
rmdir-kept s c (n ∷ q) k r =
    let x = node_of s.tree (node_at s.tree (n ∷ q)) in
    let h = taken-name s.tree n q (or-first (there (look s.tree (n ∷ q))) _ (by-path s c (Rmdir (n ∷ q)) r)) in
    let at = look-found s.tree (n ∷ q) h.0 h.2 in
    let rest = or-second (there (look s.tree (n ∷ q))) _ (by-path s c (Rmdir (n ∷ q)) r) in
    let bare = when-not (has_names (node_of s.tree (node_at s.tree (n ∷ q)))) ENOTEMPTY (or-second (when (not (is_folder (node_of s.tree (node_at s.tree (n ∷ q))))) ENOTDIR) _ rest) in
    drop-kept s.tables s.tree s.serial n q h.0 k h.1 at (λ m. no-names (s.tree h.0) m (ap (λ o. has_names (node_of s.tree o)) (sym at) ∙ bare))

-- what is no directory, and there, is a file or link
leaf-of : (o : Option Node) → is_folder o ≡ false → (count_of o ≡ 0 → ⊥) → is_leaf o ≡ true
leaf-of None h c = absurd (c refl)
leaf-of (Some (Branch a b names n)) h c = absurd (false≢true (sym h))
leaf-of (Some (Leaf content a u n)) h c = refl

link-kept : (s : State) (c : ℕ) (old new : Path) → IsKept s.tree s.serial → refusal s c (Hardlink old new) ≡ None → IsKept (tree_after s c (Hardlink old new)) s.serial
link-kept s c old [] k r = let z : Some EEXIST ≡ None = or-second (there (look s.tree old)) _ (by-path s c (Hardlink old []) r) in cc
link-kept s c old (n ∷ q) k r = by (look s.tree old) refl (or-first (there (look s.tree old)) _ (by-path s c (Hardlink old (n ∷ q)) r))
  where
    rest : walked (look s.tree (n ∷ q)) or_else when (is_found (look s.tree (n ∷ q))) EEXIST or_else when (is_folder (node_of s.tree (node_at s.tree old))) EPERM ≡ None
    rest = or-second (there (look s.tree old)) _ (by-path s c (Hardlink old (n ∷ q)) r)

    last : when (is_found (look s.tree (n ∷ q))) EEXIST or_else when (is_folder (node_of s.tree (node_at s.tree old))) EPERM ≡ None
    last = or-second (walked (look s.tree (n ∷ q))) _ rest

    by : (l : Look) → look s.tree old ≡ l → there l ≡ None → IsKept (tree_after s c (Hardlink old (n ∷ q))) s.serial
    by (Fails x) h y = let z : Some x ≡ None = y in cc
    by (Absent d) h y = let z : Some ENOENT ≡ None = y in cc
    by (Found e) h y =
        let at = look-found s.tree old e h in
        let free = free-name s.tree n q (or-first (walked (look s.tree (n ∷ q))) _ rest) (when-not (is_found (look s.tree (n ∷ q))) EEXIST (or-first (when (is_found (look s.tree (n ∷ q))) EEXIST) _ last)) in
        let file = when-not (is_folder (node_of s.tree (node_at s.tree old))) EPERM (or-second (when (is_found (look s.tree (n ∷ q))) EEXIST) _ last) in
        subst (λ o. IsKept (lead_way (change (one_more s.options) s.tree o) (on_way (node_at s.tree q) n) o) s.serial) (sym at)
        (subst (λ o. IsKept (lead_way (change (one_more s.options) s.tree (Some e)) (on_way o n) (Some e)) s.serial) (sym free.at)
        (linked-kept s.options s.tree s.serial free.dir n e free.folder (at-path s.tree s.serial k q free.dir free.at) free.leads
        (leaf-of (s.tree e) (ap (λ o. is_folder (node_of s.tree o)) (sym at) ∙ file) (at-path s.tree s.serial k old e at)) k))

-- a rename that moves something
module _ (s : State) (c : ℕ) (n1 : Name) (q1 : Path) (n2 : Name) (q2 : Path) (k : IsKept s.tree s.serial) where
  abbrev t : Tree
  t = s.tree

  abbrev old : Path
  old = n1 ∷ q1

  abbrev new : Path
  new = n2 ∷ q2

  shape : (e d1 d2 : NodeId) → node_at t old ≡ Some e → node_at t q1 ≡ Some d1 → node_at t q2 ≡ Some d2 → lead (lead (change (meta_touched s.options) (change one_fewer t (node_at t new)) (Some e)) d2 n2 (Some e)) d1 n1 None ≡ renamed s.options t old new
  shape e d1 d2 he h1 h2 = λ i. lead_way (lead_way (change (meta_touched s.options) (change one_fewer t (node_at t new)) (sym he i)) (on_way (sym h2 i) n2) (sym he i)) (on_way (sym h1 i) n1) None

  -- what stands at the new place has no names
  abbrev Rest : Look → Look → Type 0
  Rest l m =
      when (is_folder (node_found t l) && is_found m && not (is_folder (node_found t m))) ENOTDIR
      or_else when (not (is_folder (node_found t l)) && is_folder (node_found t m)) EISDIR
      or_else when (is_base (node_found t l) && not s.options.redirects) EXDEV
      or_else when (is_folder (node_found t l) && has_names (node_found t m)) ENOTEMPTY
      ≡ None

  empty-at : (l : Look) (x : NodeId) → Rest l (Found x) → (m : Name) → names_of (t x) m ≡ None
  empty-at l x r m = elim (cases_Bool (is_folder (t x))) [
    | inr f ↦ no-folder (t x) m f
    | inl y ↦ no-names (t x) m (second (is_folder (node_found t l)) (has_names (t x)) (first (is_folder (node_found t l)) y two) four)
  ]
    where
      later : when (not (is_folder (node_found t l)) && is_folder (t x)) EISDIR or_else when (is_base (node_found t l) && not s.options.redirects) EXDEV or_else when (is_folder (node_found t l) && has_names (t x)) ENOTEMPTY ≡ None
      later = or-second (when (is_folder (node_found t l) && true && not (is_folder (t x))) ENOTDIR) _ r

      two : not (is_folder (node_found t l)) && is_folder (t x) ≡ false
      two = when-not _ EISDIR (or-first (when (not (is_folder (node_found t l)) && is_folder (t x)) EISDIR) _ later)

      four : is_folder (node_found t l) && has_names (t x) ≡ false
      four = when-not _ ENOTEMPTY (or-second (when (is_base (node_found t l) && not s.options.redirects) EXDEV) _ (or-second (when (not (is_folder (node_found t l)) && is_folder (t x)) EISDIR) _ later))

      first : (a : Bool) {b : Bool} → b ≡ true → not a && b ≡ false → a ≡ true
      first true h g = refl
      first false h g = absurd (false≢true (sym g ∙ h))

      second : (a b : Bool) → a ≡ true → a && b ≡ false → b ≡ false
      second true b h g = g
      second false b h g = absurd (false≢true h)

  -- what a walk that is not refused says of the node at its path
  walk-node : (m : Look) → look t new ≡ m → walked m ≡ None → Tells m (node_at t new)
  walk-node (Fails x) h w = tt
  walk-node (Found x) h w = look-found t new x h
  walk-node (Absent d) h w =
      let r = look-reached t n2 q2 (ap walked h ∙ w) in
      ap (λ o. entry t o n2) r.1.at ∙ r.1.leads ∙ subst (λ l. Tells l r.0) h r.2

  -- the target of a rename: it is another node, and has no names
  record Target (e : NodeId) : Type 0 where
    pub other : node_at t new ≡ Some e → ⊥
    pub empty : (x : NodeId) → node_at t new ≡ Some x → (m : Name) → names_of (t x) m ≡ None

  target : (e : NodeId) (m : Look) → Tells m (node_at t new) → walked m ≡ None → same_found (Found e) m ≡ false → Rest (Found e) m → Target e
  target e (Fails x) tells w apart r = let z : Some x ≡ None = w in cc
  target e (Absent d) tells w apart r = record { other = λ h. let z : None ≡ Some e = sym tells ∙ h in cc; empty = λ x h m. let z : None ≡ Some x = sym tells ∙ h in cc }
  target e (Found y) tells w apart r = record {
    other = λ h. both_ways (same_id e y) apart ((ids_tell e y).1 (let z : Some y ≡ Some e = sym tells ∙ h in cc));
    empty = λ x h m. let z : Some y ≡ Some x = sym tells ∙ h in let s : y ≡ x = cc in empty-at (Found e) x (subst (λ y. Rest (Found e) (Found y)) s r) m;
  }

  moved-kept : same_found (look t old) (look t new) ≡ false → there (look t old) ≡ None → walked (look t new) ≡ None → Rest (look t old) (look t new) → IsKept (renamed s.options t old new) s.serial
  moved-kept apart th w r =
      let h = taken-name t n1 q1 th in
      let g = look-reached t n2 q2 w in
      let at = look-found t old h.0 h.2 in
      let z = target h.0 (look t new) (walk-node (look t new) refl w) w (ap (λ l. same_found l (look t new)) (sym h.2) ∙ apart) (subst (λ l. Rest l (look t new)) h.2 r) in
      subst (λ u. IsKept u s.serial) (shape h.0 h.1.dir g.1.dir at h.1.at g.1.at)
      (renamed-kept s.options t s.serial h.1.dir n1 g.1.dir n2 h.0 (node_at t new) h.1.folder g.1.folder (at-path t s.serial k q2 g.1.dir g.1.at) h.1.leads (sym (ap (λ o. entry t o n2) g.1.at)) z.other z.empty k)

  abbrev rest_of : Option Errno
  rest_of =
      when (is_folder (node_found t (look t old)) && is_found (look t new) && not (is_folder (node_found t (look t new)))) ENOTDIR
      or_else when (not (is_folder (node_found t (look t old))) && is_folder (node_found t (look t new))) EISDIR
      or_else when (is_base (node_found t (look t old)) && not s.options.redirects) EXDEV
      or_else when (is_folder (node_found t (look t old)) && has_names (node_found t (look t new))) ENOTEMPTY

  pub rename-kept : refusal s c (Rename old new) ≡ None → IsKept (tree_after s c (Rename old new)) s.serial
  rename-kept r = by (same_found (look t old) (look t new)) refl
    where
      first : there (look t old) or_else walked (look t new) or_else unless_same (same_found (look t old) (look t new)) (when (is_below old new) EINVAL or_else rest_of) ≡ None
      first = by-path s c (Rename old new) r

      second : walked (look t new) or_else unless_same (same_found (look t old) (look t new)) (when (is_below old new) EINVAL or_else rest_of) ≡ None
      second = or-second (there (look t old)) _ first

      by : (b : Bool) → same_found (look t old) (look t new) ≡ b → IsKept (cond b t (settled s.tables (renamed s.options t old new) (node_at t new))) s.serial
      by true h = k
      by false h =
          settled-kept s.tables (renamed s.options t old new) s.serial (node_at t new)
          (moved-kept h (or-first (there (look t old)) _ first) (or-first (walked (look t new)) _ second)
          (or-second (when (is_below old new) EINVAL) rest_of (ap (λ b. unless_same b (when (is_below old new) EINVAL or_else rest_of)) (sym h) ∙ or-second (walked (look t new)) _ second)))

-- each call that is not refused keeps what trees keep
pub law_of_names : LawOfNames
law_of_names s c (Stat p) k r = k
law_of_names s c (Readlink p) k r = k
law_of_names s c (Chmod p mode) k r = change-kept _ (attributes-mild s.options (with_mode mode)) s.tree s.serial (node_at s.tree p) k
law_of_names s c (Chown p uid gid) k r = change-kept _ (attributes-mild s.options (with_owner uid gid)) s.tree s.serial (node_at s.tree p) k
law_of_names s c (SetAttribute p n v) k r = change-kept _ (attributes-mild s.options (λ a. record a { user = set_value a.user n v })) s.tree s.serial (node_at s.tree p) k
law_of_names s c (GetAttribute p n) k r = k
law_of_names s c (DeleteAttribute p n) k r = change-kept _ (attributes-mild s.options (λ a. record a { user = drop_value a.user n })) s.tree s.serial (node_at s.tree p) k
law_of_names s c (ListAttributes p) k r = k
law_of_names s c (Mkdir p mode) k r = mkdir-kept s c p mode k r
law_of_names s c (Symlink target p) k r = symlink-kept s c target p k r
law_of_names s c (Open p f mode) k r = open-kept s c p f mode k r
law_of_names s c (Unlink p) k r = unlink-kept s c p k r
law_of_names s c (Rmdir p) k r = rmdir-kept s c p k r
law_of_names s c (Hardlink old new) k r = link-kept s c old new k r
law_of_names s c (Rename [] new) k r = let z : Some EBUSY ≡ None = by-path s c (Rename [] new) r in cc
law_of_names s c (Rename (n ∷ q) []) k r = let z : Some EBUSY ≡ None = by-path s c (Rename (n ∷ q) []) r in cc
law_of_names s c (Rename (n1 ∷ q1) (n2 ∷ q2)) k r = rename-kept s c n1 q1 n2 q2 k r
law_of_names s c (Read fd n) k r = k
law_of_names s c (Write fd bytes) k r = by (nat_eq (length bytes) 0)
  where
    by : (b : Bool) → IsKept (cond b s.tree (change (wrote s.options.file_limit (write_place s.tree (handle_of s.tables c fd)) bytes) s.tree (node_of_handle (handle_of s.tables c fd)))) s.serial
    by true = k
    by false = change-kept (wrote s.options.file_limit (write_place s.tree (handle_of s.tables c fd)) bytes) (λ x. bytes-mild (written (bytes_of_node (Some x)) (write_place s.tree (handle_of s.tables c fd)) (fitting s.options.file_limit (write_place s.tree (handle_of s.tables c fd)) bytes)) x) s.tree s.serial (node_of_handle (handle_of s.tables c fd)) k
law_of_names s c (Seek fd offset whence) k r = k
law_of_names s c (Truncate fd size) k r = change-kept (λ x. with_bytes (sized (bytes_of_node (Some x)) size) x) (λ x. bytes-mild (sized (bytes_of_node (Some x)) size) x) s.tree s.serial (node_of_handle (handle_of s.tables c fd)) k
law_of_names s c (Fstat fd) k r = k
law_of_names s c (ListNames fd n) k r = k
law_of_names s c (Close fd) k r = settled-kept (with_handle s.tables c fd None) s.tree s.serial (node_of_handle (handle_of s.tables c fd)) k
law_of_names s c (Arm slot p mask) k r = k
law_of_names s c (Disarm number) k r = k
law_of_names s c (TakeNotices n) k r = k
