-- Where paths lead after each change of the plain tree.
use Rattle.std.proofs.Common.{◌≡◌, ℕ, Bool, true, false, not, cond, ◌||◌, ◌&&◌, [], ◌∷◌, ◌++◌, List, Option, None, Some, refl, sym, ap, subst, ◌∙◌, inl, inr, nat_eq, nat_lt, arith, length, is_none}
use Rattle.std.proofs.lemmas.Bool.{cases_Bool, false≢true, both_ways}
use Rattle.std.proofs.lemmas.Bool.Decides.{nat_tests}
use Rattle.std.specs.Cmp.Lexicographic.{slice_cmp}
use Rattle.std.specs.Ordering.{nat_cmp}
use Rattle.std.specs.FinMap as fin
use Rattle.ov_base.specs.declared.bytes.Content.TheVariants.{File, SymbolicLink}
use Rattle.ov_base.specs.declared.call.CallOf.TheVariants.{Stat, Readlink, Chmod, Chown, SetAttribute, GetAttribute, DeleteAttribute, ListAttributes, Mkdir, Symlink, Open, Unlink, Rmdir, Hardlink, Rename, Read, Write, Seek, Truncate, Fstat, ListNames, Close, Arm, Disarm, TakeNotices}
use Rattle.ov_base.specs.declared.call.OpenFlags.{OpenFlags}
use Rattle.ov_base.specs.declared.errno.Errno.{Errno}
use Rattle.ov_base.specs.declared.errno.Errno.TheVariants.{EBUSY, ENOENT, EEXIST, EISDIR, ENOTDIR, EINVAL, EXDEV, ENOTEMPTY, EPERM, ENAMETOOLONG}
use Rattle.ov_base.specs.declared.node_id.NodeId.{NodeId}
use Rattle.ov_base.specs.declared.node_id.NodeId.TheVariants.{New}
use Rattle.plain_model.specs.Layers.{Name, Path}
use Rattle.plain_model.specs.Laws.{IsOutside}
use Rattle.plain_model.specs.Tree.{same_id, Node, Branch, Leaf, Own, Tree, names_of, entry, node_at, node_of, lead, is_folder, IsKept}
use Rattle.plain_model.specs.Machine.{Table, State, Look, Found, Absent, Fails, look, is_found, same_found, has_names, is_base, node_found, is_below, bytes_of_node, handle_of, write_place}
use Rattle.plain_model.specs.Refusals.{refusal, walked, there, when, bad_mode, unless_same, has_nul, ◌or_else◌}
use Rattle.plain_model.specs.Changes.{change, on_way, way_of, lead_way, one_fewer, one_more, with_mode, with_owner, set_value, drop_value, sized, written, fitting, node_of_handle, with_handle, wrote, opened, fresh, is_named, is_held, settled, made_way, dropped, renamed, tree_after}
use Rattle.plain_model.proofs.Keeping.{IsMild, change-like, unnamed}
use Rattle.plain_model.proofs.Kept.{by-path, taken-name, open-reached, bytes-mild, attributes-mild, opened-mild}
use Rattle.plain_model.proofs.Looking.{or-first, or-second, when-not, Reached, Tells, look-found, look-reached}
use Rattle.plain_model.proofs.Paths.{ids_tell}
use Rattle.mount_laws.specs.Paths.{LeadsSame, LeadsAlso, LeadsNoMore, LeadsElsewhere, LeadsIfMade, LeadsIfMoved, LeadsBy, HaveOnePath, LawOfPaths}
use Rattle.mount_laws.proofs.CanMove.{below-told}
use Rattle.mount_laws.proofs.Linked as links
use Rattle.mount_laws.proofs.Makes as makes
use Rattle.mount_laws.proofs.Removes as removes
use Rattle.mount_laws.proofs.RenamedTree.{is-it, settled-here, settled-there, same-paths, Places, gone-at, follows-at, renamed-is}

-- a change that leaves names leads nowhere else
mild-same : (f : Node → Node) → IsMild f → (t : Tree) (o : Option NodeId) → LeadsSame t (change f t o)
mild-same f mild t o = same-paths t (change f t o) (λ x k. (change-like f mild t o x).names k)

-- a node that goes for want of a name and of handles leads nowhere else
settled-same : (ks : List Table) (t : Tree) (i : ℕ) → IsKept t i → (o : Option NodeId) → LeadsSame t (settled ks t o)
settled-same ks t i kept o = same-paths t (settled ks t o) names
  where
    left : (x : NodeId) (k : Name) (named held : Bool) → is_named (t x) ≡ named → names_of (cond (named || held) (t x) None) k ≡ names_of (t x) k
    left x k true held h = refl
    left x k false true h = refl
    left x k false false h = sym (kept.bare x k (unnamed (t x) h))

    names : (x : NodeId) (k : Name) → names_of (settled ks t o x) k ≡ names_of (t x) k
    names x k = elim (is-it o x) [
      | inl h ↦ ap (λ z. names_of z k) (settled-here ks t o x h) ∙ left x k (is_named (t x)) (is_held ks x) refl
      | inr h ↦ ap (λ z. names_of z k) (settled-there ks t o x h)
    ]

-- a free name that a walk is not refused for stands in a directory
pub free-reached : (t : Tree) (n : Name) (q : Path) → walked (look t (n ∷ q)) or_else when (is_found (look t (n ∷ q))) EEXIST ≡ None → Reached t n q None
free-reached t n q w = by (look t (n ∷ q)) refl (when-not (is_found (look t (n ∷ q))) EEXIST (or-second (walked (look t (n ∷ q))) _ w)) (or-first (walked (look t (n ∷ q))) _ w)
  where
    by : (l : Look) → look t (n ∷ q) ≡ l → is_found l ≡ false → walked l ≡ None → Reached t n q None
    by (Found d) h f w = absurd (false≢true (sym f))
    by (Fails x) h f w = let z : Some x ≡ None = w in cc
    by (Absent d) h f w =
        let r = look-reached t n q (ap walked h ∙ w) in
        subst (Reached t n q) (subst (λ l. Tells l r.0) h r.2) r.1

-- what is no directory has no names
file-bare : (o : Option Node) → is_folder o ≡ false → (k : Name) → names_of o k ≡ None
file-bare None h k = refl
file-bare (Some (Branch a b names c)) h k = absurd (false≢true (sym h))
file-bare (Some (Leaf content a u c)) h k = refl

-- nor has an empty directory
empty-bare : (o : Option Node) → has_names o ≡ false → (k : Name) → names_of o k ≡ None
empty-bare None h k = refl
empty-bare (Some (Leaf content a u c)) h k = refl
empty-bare (Some (Branch a b names c)) h k =
    ap (λ z. fin.get z k) (fin.empty_of_len names (let z : fin.len names ≡ 0 = grind (arith, nat_tests) in z)) ∙ fin.get-empty (slice_cmp nat_cmp) k

-- below a node without names stands nothing
none-below : (t : Tree) (p : Path) → ((k : Name) → entry t (node_at t p) k ≡ None) → (k : Name) (r : Path) → node_at t (k ∷ r ++ p) ≡ None
none-below t p h k [] = h k
none-below t p h k (j ∷ r) = ap (λ o. entry t o k) (none-below t p h j r)

module _ (t : Tree) (i : ℕ) (kept : IsKept t i) (alone : HaveOnePath t) where
  -- a node that is made under a free name
  made-leads : (n : Name) (q : Path) (x : Node) → ((k : Name) → names_of (Some x) k ≡ None) → Reached t n q None → LeadsAlso t (made_way t i (way_of t (n ∷ q)) x) (n ∷ q) (New i)
  made-leads n q x empty r = subst (λ o. LeadsAlso t (made_way t i (on_way o n) x) (n ∷ q) (New i)) (sym r.at) (record {
    here = makes.here-at t i kept q n r.dir r.at r.folder r.leads only x empty;
    was = makes.before-at t i kept q n r.dir r.at r.folder r.leads only x empty [];
    others = makes.stays-at t i kept q n r.dir r.at r.folder r.leads only x empty;
  })
    where
      only : (y : Path) → node_at t y ≡ Some r.dir → y ≡ q
      only y h = alone y q r.dir r.folder h r.at

  -- a name that goes, of a node without names
  dropped-leads : (ks : List Table) (n : Name) (q : Path) (e : NodeId) → Reached t n q (Some e) → ((k : Name) → names_of (t e) k ≡ None) → LeadsNoMore t (dropped ks t (n ∷ q)) (n ∷ q)
  dropped-leads ks n q e r bare = subst (λ u. LeadsNoMore t u (n ∷ q)) shape (record {
    gone = removes.gone-at t ks n q r.dir e r.at r.folder r.leads only bare;
    others = removes.stays-at t ks n q r.dir e r.at r.folder r.leads only bare;
  })
    where
      only : (y : Path) → node_at t y ≡ Some r.dir → y ≡ q
      only y h = alone y q r.dir r.folder h r.at

      at : node_at t (n ∷ q) ≡ Some e
      at = ap (λ o. entry t o n) r.at ∙ r.leads

      shape : settled ks (lead (change one_fewer t (Some e)) r.dir n None) (Some e) ≡ dropped ks t (n ∷ q)
      shape = λ j. settled ks (lead_way (change one_fewer t (sym at j)) (on_way (sym r.at j) n) None) (sym at j)

-- a name that is made by link
linked-leads : (s : State) → HaveOnePath s.tree → (n : Name) (q : Path) (e : NodeId) (old : Path) → node_at s.tree old ≡ Some e → Reached s.tree n q None → is_folder (s.tree e) ≡ false → LeadsAlso s.tree (lead_way (change (one_more s.options) s.tree (node_at s.tree old)) (way_of s.tree (n ∷ q)) (node_at s.tree old)) (n ∷ q) e
linked-leads s alone n q e old at r file = subst (λ u. LeadsAlso s.tree u (n ∷ q) e) shape (record {
  here = links.joined-at s.options s.tree n q r.dir e r.at r.folder r.leads only file;
  was = links.none-before s.options s.tree n q r.dir e r.at r.folder r.leads only file [];
  others = links.others-at s.options s.tree n q r.dir e r.at r.folder r.leads only file;
})
  where
    only : (y : Path) → node_at s.tree y ≡ Some r.dir → y ≡ q
    only y h = alone y q r.dir r.folder h r.at

    shape : lead (change (one_more s.options) s.tree (Some e)) r.dir n (Some e) ≡ lead_way (change (one_more s.options) s.tree (node_at s.tree old)) (way_of s.tree (n ∷ q)) (node_at s.tree old)
    shape = λ j. lead_way (change (one_more s.options) s.tree (sym at j)) (on_way (sym r.at j) n) (sym at j)

-- a mkdir
mkdir-leads : (s : State) (c : ℕ) (p : Path) (mode : ℕ) → IsKept s.tree s.serial → HaveOnePath s.tree → refusal s c (Mkdir p mode) ≡ None → LeadsBy s (Mkdir p mode) (tree_after s c (Mkdir p mode))
mkdir-leads s c [] mode k a r = let z = when-not true EEXIST (or-second (bad_mode mode) _ (by-path s c (Mkdir [] mode) r)) in absurd (false≢true (sym z))
mkdir-leads s c (n ∷ q) mode k a r =
    made-leads s.tree s.serial k a n q (Branch (fresh mode) false fin.empty 1) (λ m. fin.get-empty (slice_cmp nat_cmp) m)
    (free-reached s.tree n q (or-second (bad_mode mode) _ (by-path s c (Mkdir (n ∷ q) mode) r)))

-- a symlink that is not refused walks to a free name
pub symlink-walk : (s : State) (c : ℕ) (target : List ℕ) (p : Path) → refusal s c (Symlink target p) ≡ None → walked (look s.tree p) or_else when (is_found (look s.tree p)) EEXIST ≡ None
symlink-walk s c target p r = or-second (when (has_nul target) EINVAL) _ (or-second (when (nat_eq (length target) 0) ENOENT) _ (or-second (when (nat_lt 4095 (length target)) ENAMETOOLONG) _ (by-path s c (Symlink target p) r)))

-- a symlink
symlink-leads : (s : State) (c : ℕ) (target : List ℕ) (p : Path) → IsKept s.tree s.serial → HaveOnePath s.tree → refusal s c (Symlink target p) ≡ None → LeadsBy s (Symlink target p) (tree_after s c (Symlink target p))
symlink-leads s c target p k a r = by p (symlink-walk s c target p r)
  where
    by : (p : Path) → walked (look s.tree p) or_else when (is_found (look s.tree p)) EEXIST ≡ None → LeadsBy s (Symlink target p) (tree_after s c (Symlink target p))
    by [] w = absurd (false≢true (sym (when-not true EEXIST w)))
    by (n ∷ q) w = made-leads s.tree s.serial k a n q (Leaf (SymbolicLink target) (fresh 0o777) (Own false) 1) (λ m. refl) (free-reached s.tree n q w)

-- an open, which makes a file where its path leads nowhere
open-leads : (s : State) (c : ℕ) (p : Path) (f : OpenFlags) (mode : ℕ) → IsKept s.tree s.serial → HaveOnePath s.tree → refusal s c (Open p f mode) ≡ None → LeadsBy s (Open p f mode) (tree_after s c (Open p f mode))
open-leads s c p f mode k a r = by (node_at s.tree p) (λ h. made p r h)
  where
    made : (p : Path) → refusal s c (Open p f mode) ≡ None → node_at s.tree p ≡ None → LeadsAlso s.tree (made_way s.tree s.serial (way_of s.tree p) (Leaf (File []) (fresh mode) (Own false) 1)) p (New s.serial)
    made [] r h = cc
    made (n ∷ q) r h = made-leads s.tree s.serial k a n q (Leaf (File []) (fresh mode) (Own false) 1) (λ m. refl) (open-reached s c n q f mode r (ap is_none h))

    by :
        (o : Option NodeId) → (o ≡ None → LeadsAlso s.tree (made_way s.tree s.serial (way_of s.tree p) (Leaf (File []) (fresh mode) (Own false) 1)) p (New s.serial)) →
        LeadsIfMade o s.tree (cond (is_none o) (made_way s.tree s.serial (way_of s.tree p) (Leaf (File []) (fresh mode) (Own false) 1)) (change (opened f) s.tree o)) p (New s.serial)
    by None made = made refl
    by (Some d) made = mild-same (opened f) (opened-mild f) s.tree (Some d)

-- an unlink
unlink-leads : (s : State) (c : ℕ) (p : Path) → IsKept s.tree s.serial → HaveOnePath s.tree → refusal s c (Unlink p) ≡ None → LeadsNoMore s.tree (dropped s.tables s.tree p) p
unlink-leads s c [] k a r = let z : Some EBUSY ≡ None = by-path s c (Unlink []) r in cc
unlink-leads s c (n ∷ q) k a r =
    let fine = by-path s c (Unlink (n ∷ q)) r in
    let h = taken-name s.tree n q (or-first (there (look s.tree (n ∷ q))) _ fine) in
    let at = look-found s.tree (n ∷ q) h.0 h.2 in
    let file = when-not (is_folder (node_of s.tree (node_at s.tree (n ∷ q)))) EISDIR (or-second (there (look s.tree (n ∷ q))) _ fine) in
    dropped-leads s.tree s.serial k a s.tables n q h.0 h.1 (file-bare (s.tree h.0) (ap (λ o. is_folder (node_of s.tree o)) (sym at) ∙ file))

-- an rmdir
rmdir-leads : (s : State) (c : ℕ) (p : Path) → IsKept s.tree s.serial → HaveOnePath s.tree → refusal s c (Rmdir p) ≡ None → LeadsNoMore s.tree (dropped s.tables s.tree p) p
rmdir-leads s c [] k a r = let z : Some EBUSY ≡ None = by-path s c (Rmdir []) r in cc
rmdir-leads s c (n ∷ q) k a r =
    let fine = by-path s c (Rmdir (n ∷ q)) r in
    let h = taken-name s.tree n q (or-first (there (look s.tree (n ∷ q))) _ fine) in
    let at = look-found s.tree (n ∷ q) h.0 h.2 in
    let rest = or-second (there (look s.tree (n ∷ q))) _ fine in
    let empty = when-not (has_names (node_of s.tree (node_at s.tree (n ∷ q)))) ENOTEMPTY (or-second (when (not (is_folder (node_of s.tree (node_at s.tree (n ∷ q))))) ENOTDIR) _ rest) in
    dropped-leads s.tree s.serial k a s.tables n q h.0 h.1 (empty-bare (s.tree h.0) (ap (λ o. has_names (node_of s.tree o)) (sym at) ∙ empty))

-- a link to a free name
module _ (s : State) (c : ℕ) (old : Path) (n : Name) (q : Path) (alone : HaveOnePath s.tree) (fine : refusal s c (Hardlink old (n ∷ q)) ≡ None) where
  abbrev taken : Option Errno
  taken = when (is_found (look s.tree (n ∷ q))) EEXIST

  abbrev folder : Option Errno
  folder = when (is_folder (node_of s.tree (node_at s.tree old))) EPERM

  walks_free : walked (look s.tree (n ∷ q)) or_else taken or_else folder ≡ None
  walks_free = or-second (there (look s.tree old)) _ (by-path s c (Hardlink old (n ∷ q)) fine)

  first-two : (a b c : Option Errno) → a or_else b or_else c ≡ None → a or_else b ≡ None
  first-two None b c h = or-first b c h
  first-two (Some e) b c h = cc

  found-leads : (l : Look) → look s.tree old ≡ l → there l ≡ None → LeadsBy s (Hardlink old (n ∷ q)) (tree_after s c (Hardlink old (n ∷ q)))
  found-leads (Fails x) h y = let z : Some x ≡ None = y in cc
  found-leads (Absent d) h y = let z : Some ENOENT ≡ None = y in cc
  found-leads (Found e) h y =
      let at = look-found s.tree old e h in
      let file = when-not (is_folder (node_of s.tree (node_at s.tree old))) EPERM (or-second taken folder (or-second (walked (look s.tree (n ∷ q))) _ walks_free)) in (
        e,
        at,
        linked-leads s alone n q e old at (free-reached s.tree n q (first-two (walked (look s.tree (n ∷ q))) taken folder walks_free))
            (ap (λ o. is_folder (node_of s.tree o)) (sym at) ∙ file),
      )

-- a link
link-leads : (s : State) (c : ℕ) (old new : Path) → HaveOnePath s.tree → refusal s c (Hardlink old new) ≡ None → LeadsBy s (Hardlink old new) (tree_after s c (Hardlink old new))
link-leads s c old [] a r = let z : Some EEXIST ≡ None = or-second (there (look s.tree old)) _ (by-path s c (Hardlink old []) r) in cc
link-leads s c old (n ∷ q) a r = found-leads s c old n q a r (look s.tree old) refl (or-first (there (look s.tree old)) _ (by-path s c (Hardlink old (n ∷ q)) r))

-- a rename of one object to another place
module _ (s : State) (c : ℕ) (n1 : Name) (q1 : Path) (n2 : Name) (q2 : Path) (alone : HaveOnePath s.tree) (fine : refusal s c (Rename (n1 ∷ q1) (n2 ∷ q2)) ≡ None) (two : same_found (look s.tree (n1 ∷ q1)) (look s.tree (n2 ∷ q2)) ≡ false) where
  abbrev t : Tree
  t = s.tree

  abbrev old : Path
  old = n1 ∷ q1

  abbrev new : Path
  new = n2 ∷ q2

  -- why what is at old is not moved onto what the walk m finds
  abbrev onto : Look → Option Errno
  onto m =
      when (is_folder (node_found t (look t old)) && is_found m && not (is_folder (node_found t m))) ENOTDIR
      or_else when (not (is_folder (node_found t (look t old))) && is_folder (node_found t m)) EISDIR
      or_else when (is_base (node_found t (look t old)) && not s.options.redirects) EXDEV
      or_else when (is_folder (node_found t (look t old)) && has_names (node_found t m)) ENOTEMPTY

  abbrev moving : Option Errno
  moving = when (is_below old new) EINVAL or_else onto (look t new)

  walks : there (look t old) or_else walked (look t new) or_else unless_same (same_found (look t old) (look t new)) moving ≡ None
  walks = by-path s c (Rename old new) fine

  found_old : there (look t old) ≡ None
  found_old = or-first (there (look t old)) _ walks

  walks_new : walked (look t new) or_else unless_same (same_found (look t old) (look t new)) moving ≡ None
  walks_new = or-second (there (look t old)) _ walks

  parents_new : walked (look t new) ≡ None
  parents_new = or-first (walked (look t new)) _ walks_new

  moves : moving ≡ None
  moves = ap (λ b. unless_same b moving) (sym two) ∙ or-second (walked (look t new)) _ walks_new

  not_inside : is_below old new ≡ false
  not_inside = when-not (is_below old new) EINVAL (or-first (when (is_below old new) EINVAL) _ moves)

  -- what is found at the new place has no names
  found-bare : (x : NodeId) → onto (Found x) ≡ None → (k : Name) → names_of (t x) k ≡ None
  found-bare x h = elim (cases_Bool (is_folder (t x))) [
    | inr file ↦ file-bare (t x) file
    | inl folder ↦ empty-bare (t x) (second (is_folder (node_found t (look t old))) (has_names (t x)) (first (is_folder (node_found t (look t old))) folder kind) full)
  ]
    where
      later :
          when (not (is_folder (node_found t (look t old))) && is_folder (t x)) EISDIR
          or_else when (is_base (node_found t (look t old)) && not s.options.redirects) EXDEV
          or_else when (is_folder (node_found t (look t old)) && has_names (t x)) ENOTEMPTY ≡ None
      later = or-second (when (is_folder (node_found t (look t old)) && true && not (is_folder (t x))) ENOTDIR) _ h

      kind : not (is_folder (node_found t (look t old))) && is_folder (t x) ≡ false
      kind = when-not _ EISDIR (or-first (when (not (is_folder (node_found t (look t old))) && is_folder (t x)) EISDIR) _ later)

      full : is_folder (node_found t (look t old)) && has_names (t x) ≡ false
      full = when-not _ ENOTEMPTY (or-second (when (is_base (node_found t (look t old)) && not s.options.redirects) EXDEV) _ (or-second (when (not (is_folder (node_found t (look t old))) && is_folder (t x)) EISDIR) _ later))

      first : (a : Bool) {b : Bool} → b ≡ true → not a && b ≡ false → a ≡ true
      first true h g = refl
      first false h g = absurd (false≢true (sym g ∙ h))

      second : (a b : Bool) → a ≡ true → a && b ≡ false → b ≡ false
      second true b h g = g
      second false b h g = absurd (false≢true h)

  -- the two ends of the move
  record Ends : Type 0 where
    pub node : NodeId
    pub from : Reached t n1 q1 (Some node)
    pub walk : look t old ≡ Found node
    pub taken : Option NodeId
    pub to : Reached t n2 q2 taken
    pub bare : (x : NodeId) → taken ≡ Some x → (k : Name) → names_of (t x) k ≡ None
    pub other : taken ≡ Some node → ⊥

  ends : Ends
  ends =
      let a = taken-name t n1 q1 found_old in
      let b = look-reached t n2 q2 parents_new in
      let apart = ap (λ l. same_found l (look t new)) (sym a.2) ∙ two in
      record {
        node = a.0;
        from = a.1;
        walk = a.2;
        taken = b.0;
        to = b.1;
        bare = λ x h. bare-at (look t new) b.0 x b.2 parents_new h (or-second (when (is_below old new) EINVAL) _ moves);
        other = λ h. other-at a.0 (look t new) b.0 b.2 parents_new h apart;
      }
    where
      bare-at : (l : Look) (o : Option NodeId) (x : NodeId) → Tells l o → walked l ≡ None → o ≡ Some x → onto l ≡ None → (k : Name) → names_of (t x) k ≡ None
      bare-at (Fails e) o x g w h m = let z : Some e ≡ None = w in cc
      bare-at (Absent d) o x g w h m = let z : None ≡ Some x = sym g ∙ h in cc
      bare-at (Found y) o x g w h m = let z : Some y ≡ Some x = sym g ∙ h in let is : y ≡ x = cc in found-bare x (subst (λ y. onto (Found y) ≡ None) is m)

      other-at : (e : NodeId) (l : Look) (o : Option NodeId) → Tells l o → walked l ≡ None → o ≡ Some e → same_found (Found e) l ≡ false → ⊥
      other-at e (Fails x) o g w h apart = let z : Some x ≡ None = w in cc
      other-at e (Absent d) o g w h apart = let z : None ≡ Some e = sym g ∙ h in cc
      other-at e (Found y) o g w h apart = let z : Some y ≡ Some e = sym g ∙ h in let is : y ≡ e = cc in both_ways (same_id e y) apart ((ids_tell e y).1 (sym is))

  at_old : node_at t old ≡ Some ends.node
  at_old = ap (λ o. entry t o n1) ends.from.at ∙ ends.from.leads

  at_new : node_at t new ≡ ends.taken
  at_new = ap (λ o. entry t o n2) ends.to.at ∙ ends.to.leads

  new-names : (o : Option NodeId) → ((x : NodeId) → o ≡ Some x → (k : Name) → names_of (t x) k ≡ None) → (k : Name) → entry t o k ≡ None
  new-names None h k = refl
  new-names (Some x) h k = h x refl k

  -- nothing stands below the new place
  bare-new : (k : Name) (r : Path) → node_at t (k ∷ r ++ new) ≡ None
  bare-new = none-below t new (λ k. ap (λ o. entry t o k) at_new ∙ new-names ends.taken ends.bare k)

  differ : old ≡ new → ⊥
  differ e = ends.other (sym at_new ∙ ap (node_at t) (sym e) ∙ at_old)

  apart : IsOutside old new
  apart [] e = differ (sym e)
  apart (k ∷ r) e = both_ways (is_below old new) not_inside (ap (is_below old) e ∙ below-told old k r)

  back : IsOutside new old
  back [] e = differ e
  back (k ∷ r) e = let z : None ≡ Some ends.node = sym (bare-new k r) ∙ ap (node_at t) (sym e) ∙ at_old in cc

  places : Places t
  places = record {
    old_name = n1;
    old_parent = q1;
    old_dir = ends.from.dir;
    new_name = n2;
    new_parent = q2;
    new_dir = ends.to.dir;
    node = ends.node;
    taken = ends.taken;
    old_at = ends.from.at;
    old_folder = ends.from.folder;
    leads = ends.from.leads;
    new_at = ends.to.at;
    new_folder = ends.to.folder;
    led_to = ends.to.leads;
    old_only = λ y h. alone y q1 ends.from.dir ends.from.folder h ends.from.at;
    new_only = λ y h. alone y q2 ends.to.dir ends.to.folder h ends.to.at;
    apart = apart;
    back = back;
    bare = ends.bare;
    other = ends.other;
  }

  moved-leads : LeadsElsewhere t (settled s.tables (renamed s.options t old new) (node_at t new)) old new
  unfolding places
  moved-leads = subst (λ u. LeadsElsewhere t u old new) (sym (renamed-is s.options t s.tables places)) (record {
    follows = follows-at s.options t s.tables places;
    gone = gone-at s.options t s.tables places;
    bare = bare-new;
    apart = apart;
    back = back;
  })

-- a rename, also of an object onto itself
rename-leads : (s : State) (c : ℕ) (old new : Path) → HaveOnePath s.tree → refusal s c (Rename old new) ≡ None → LeadsBy s (Rename old new) (tree_after s c (Rename old new))
rename-leads s c [] new a r = let z : Some EBUSY ≡ None = by-path s c (Rename [] new) r in cc
rename-leads s c (n ∷ q) [] a r = let z : Some EBUSY ≡ None = by-path s c (Rename (n ∷ q) []) r in cc
rename-leads s c (n1 ∷ q1) (n2 ∷ q2) a r = by (same_found (look s.tree (n1 ∷ q1)) (look s.tree (n2 ∷ q2))) refl
  where
    by :
        (b : Bool) → same_found (look s.tree (n1 ∷ q1)) (look s.tree (n2 ∷ q2)) ≡ b →
        LeadsIfMoved b s.tree (cond b s.tree (settled s.tables (renamed s.options s.tree (n1 ∷ q1) (n2 ∷ q2)) (node_at s.tree (n2 ∷ q2)))) (n1 ∷ q1) (n2 ∷ q2)
    by true h = λ q. refl
    by false h = moved-leads s c n1 q1 n2 q2 a r h

-- a write, also of no bytes
write-leads : (s : State) (c fd : ℕ) (bytes : List ℕ) → LeadsSame s.tree (tree_after s c (Write fd bytes))
write-leads s c fd bytes = by (nat_eq (length bytes) 0) (write_place s.tree (handle_of s.tables c fd))
  where
    by : (b : Bool) (at : ℕ) → LeadsSame s.tree (cond b s.tree (change (wrote s.options.file_limit at bytes) s.tree (node_of_handle (handle_of s.tables c fd))))
    by true at = λ q. refl
    by false at = mild-same (wrote s.options.file_limit at bytes) (λ x. bytes-mild (written (bytes_of_node (Some x)) at (fitting s.options.file_limit at bytes)) x) s.tree (node_of_handle (handle_of s.tables c fd))

-- where paths lead after each call that is not refused
pub law_of_paths : LawOfPaths
law_of_paths s c (Stat p) k a r = λ q. refl
law_of_paths s c (Readlink p) k a r = λ q. refl
law_of_paths s c (Chmod p mode) k a r = mild-same _ (attributes-mild s.options (with_mode mode)) s.tree (node_at s.tree p)
law_of_paths s c (Chown p uid gid) k a r = mild-same _ (attributes-mild s.options (with_owner uid gid)) s.tree (node_at s.tree p)
law_of_paths s c (SetAttribute p n v) k a r = mild-same _ (attributes-mild s.options (λ a. record a { user = set_value a.user n v })) s.tree (node_at s.tree p)
law_of_paths s c (GetAttribute p n) k a r = λ q. refl
law_of_paths s c (DeleteAttribute p n) k a r = mild-same _ (attributes-mild s.options (λ a. record a { user = drop_value a.user n })) s.tree (node_at s.tree p)
law_of_paths s c (ListAttributes p) k a r = λ q. refl
law_of_paths s c (Mkdir p mode) k a r = mkdir-leads s c p mode k a r
law_of_paths s c (Symlink target p) k a r = symlink-leads s c target p k a r
law_of_paths s c (Open p f mode) k a r = open-leads s c p f mode k a r
law_of_paths s c (Unlink p) k a r = unlink-leads s c p k a r
law_of_paths s c (Rmdir p) k a r = rmdir-leads s c p k a r
law_of_paths s c (Hardlink old new) k a r = link-leads s c old new a r
law_of_paths s c (Rename old new) k a r = rename-leads s c old new a r
law_of_paths s c (Read fd n) k a r = λ q. refl
law_of_paths s c (Write fd bytes) k a r = write-leads s c fd bytes
law_of_paths s c (Seek fd offset whence) k a r = λ q. refl
law_of_paths s c (Truncate fd size) k a r = mild-same _ (λ x. bytes-mild (sized (bytes_of_node (Some x)) size) x) s.tree (node_of_handle (handle_of s.tables c fd))
law_of_paths s c (Fstat fd) k a r = λ q. refl
law_of_paths s c (ListNames fd n) k a r = λ q. refl
law_of_paths s c (Close fd) k a r = settled-same (with_handle s.tables c fd None) s.tree s.serial k (node_of_handle (handle_of s.tables c fd))
law_of_paths s c (Arm slot p mask) k a r = λ q. refl
law_of_paths s c (Disarm number) k a r = λ q. refl
law_of_paths s c (TakeNotices n) k a r = λ q. refl
