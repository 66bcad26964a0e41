-- The listing of a directory of the merge is the names that the layers show in it, in order.
use Rattle.std.proofs.Common.{◌≡◌, ℕ, zero, Bool, true, false, cond, not, ◌||◌, T, ◌&&◌, List, [], ◌∷◌, Option, None, Some, refl, sym, ap, ◌∙◌, is_some, is_none, map, subst, arith}
use Rattle.std.specs.Option.{unwrap_or}
use Rattle.std.specs.Prelude.{nat_eq, nat_lt}
use Rattle.std.proofs.lemmas.Bool.{false≢true, lt-ltb}
use Rattle.std.specs.Cmp.Lexicographic.{slice_cmp, texts_ties, nat_list_cmp_total}
use Rattle.std.specs.FinMap as fin
use Rattle.std.specs.FinMap.Entries as entries
use Rattle.std.specs.List.{list_any, AllByRecursion}
use Rattle.std.specs.List.Sorted.{IsStrictlySortedBy}
use Rattle.std.specs.Ordering.{nat_cmp, is_lt, eq_by_cmp}
use Rattle.std.specs.declared.cmp.Ordering.{Ordering}
use Rattle.std.specs.declared.cmp.Ordering.TheVariants.{Less, Equal, Greater}
use Rattle.ov_base.specs.declared.call.CallOf.TheVariants.{ListNames, Seek, Close}
use Rattle.ov_base.specs.declared.errno.Errno.TheVariants.{EBADF, EINVAL, ENOTDIR}
use Rattle.ov_base.specs.declared.reply.Reply.TheVariants as reply
use Rattle.plain_model.specs.Layers.{Name, shows, same_name}
use Rattle.plain_model.specs.Tree.{Node, Branch, Leaf, names_of, entry, node_of, is_folder, count_of}
use Rattle.plain_model.specs.Machine.{handle_of, handle_node}
use Rattle.plain_model.specs.Refusals.{◌or_else◌, when}
use Rattle.plain_model.specs.Replies.{page}
use Rattle.plain_model.specs.Changes.{is_named, is_held, settled, node_of_handle, names_in, listing, listed_on, with_handle}
use Rattle.plain_model.proofs.Kept.{at-path}
use Rattle.plain_model.proofs.Looking.{refusal-reading}
use Rattle.mount_laws.specs.Looks.{AreShown, LawOfList, LawOfClose, LawOfBadDescriptors}
use Rattle.mount_laws.proofs.Looks.{at-some}
use Rattle.mount_laws.proofs.Opens.{folder-at, put-same}
use Rattle.mount_laws.proofs.Seeks.{seek_chain}

-- the order of names by their bytes
abbrev pub by_bytes : Name → Name → Ordering
by_bytes = slice_cmp nat_cmp

left : (a b : Bool) → T (a && b) → T a
left true b h = tt
left false b h = absurd h

right : (a b : Bool) → T (a && b) → T b
right true b h = h
right false b h = absurd h

both : (a b : Bool) → T a → T b → T (a && b)
both true b g h = h
both false b g h = absurd g

is-less : (o : Ordering) → T (is_lt o) → o ≡ Less
is-less Less h = refl
is-less Equal h = absurd h
is-less Greater h = absurd h

-- the first parts of entries
abbrev pub firsts : {X : Type 0} → List (Name × X) → List Name
firsts es = map (λ e. e.0) es

below-from : {X : Type 0} (x : Name) (es : List (Name × X)) → T (entries.below_all by_bytes x es) → AllByRecursion (λ y. by_bytes x y ≡ Less) (firsts es)
below-from x [] h = tt
below-from x (e ∷ es) h = (is-less _ (left _ _ h), below-from x es (right (is_lt (by_bytes x e.0)) _ h))

sorted-from : {X : Type 0} (es : List (Name × X)) → T (entries.is_sorted by_bytes es) → IsStrictlySortedBy by_bytes (firsts es)
unfolding IsStrictlySortedBy
sorted-from [] h = tt
sorted-from (e ∷ es) h = (below-from e.0 es (left _ _ h), sorted-from es (right (entries.below_all by_bytes e.0 es) _ h))

-- names as entries without values
abbrev pub bare : List Name → List (Name × Unit {0})
bare [] = []
bare (n ∷ ns) = (n, tt) ∷ bare ns

bare-firsts : (ns : List Name) → firsts (bare ns) ≡ ns
bare-firsts [] = refl
bare-firsts (n ∷ ns) = ap (λ xs. n ∷ xs) (bare-firsts ns)

below-bare : (x : Name) (ns : List Name) → AllByRecursion (λ y. by_bytes x y ≡ Less) ns → T (entries.below_all by_bytes x (bare ns))
below-bare x [] h = tt
below-bare x (n ∷ ns) h = both _ _ (subst (λ o. T (is_lt o)) (sym h.0) tt) (below-bare x ns h.1)

sorted-bare : (ns : List Name) → IsStrictlySortedBy by_bytes ns → T (entries.is_sorted by_bytes (bare ns))
unfolding IsStrictlySortedBy
sorted-bare [] h = tt
sorted-bare (n ∷ ns) h = both _ _ (below-bare n ns h.0) (sorted-bare ns h.1)

any-ties : (n : Name) (ns : List Name) → list_any (same_name n) ns ≡ list_any (eq_by_cmp by_bytes n) ns
any-ties n ns = λ i. list_any (λ m. texts_ties n m i) ns

unit-option : (x y : Option (Unit {0})) → is_some x ≡ is_some y → x ≡ y
unit-option None None h = refl
unit-option None (Some v) h = absurd (false≢true h)
unit-option (Some v) None h = absurd (false≢true (sym h))
unit-option (Some v) (Some w) h = refl

found-bare : (n : Name) (ns : List Name) → is_some (entries.find by_bytes n (bare ns)) ≡ list_any (same_name n) ns
found-bare n ns = entries.is_some-find by_bytes n (bare ns) ∙ ap (list_any (eq_by_cmp by_bytes n)) (bare-firsts ns) ∙ sym (any-ties n ns)

-- lists in strict order with the same names are one
pub same-sorted : (ms ns : List Name) → IsStrictlySortedBy by_bytes ms → IsStrictlySortedBy by_bytes ns → ((n : Name) → list_any (same_name n) ms ≡ list_any (same_name n) ns) → ms ≡ ns
same-sorted ms ns g h e =
    sym (bare-firsts ms)
    ∙ ap firsts (entries.same_entries by_bytes nat_list_cmp_total (fin.slice_cmp-IsAntisymmetric fin.nat_cmp-IsAntisymmetric) (bare ms) (bare ns) (sorted-bare ms g) (sorted-bare ns h) (λ n. unit-option _ _ (found-bare n ms ∙ e n ∙ sym (found-bare n ns))))
    ∙ bare-firsts ns

-- the names of a node, in strict order
node-sorted : (o : Option Node) → IsStrictlySortedBy by_bytes (names_in o)
unfolding IsStrictlySortedBy
node-sorted None = tt
node-sorted (Some (Leaf content a u l)) = tt
node-sorted (Some (Branch a b names c)) = sorted-from (fin.entries names) (fin.entries_sorted names)

pub node-names : (o : Option Node) (n : Name) → list_any (same_name n) (names_in o) ≡ is_some (names_of o n)
node-names None n = refl
node-names (Some (Leaf content a u l)) n = refl
node-names (Some (Branch a b names c)) n = any-ties n (fin.keys names) ∙ sym (fin.contains_key-keys names n)

-- a listing's refusals, where the handle is open on a directory
pub list-chain : (b : Bool) (d : Bool) → d ≡ true → (when false EBADF or_else when (not d) ENOTDIR or_else when b EINVAL) ≡ when b EINVAL
list-chain b true h = refl
list-chain b false h = absurd (false≢true h)

-- the listing is told by the layers
pub law_of_list : LawOfList
law_of_list U lowers s m c fd p dir h o = record {
  shown = shown;
  alone = λ new names a. same-sorted names (listing s.tree h) a.sorted (shown new).sorted (λ n. a.exact n ∙ sym ((shown new).exact n));
  refused = λ n.
      refusal-reading s c (ListNames fd n) refl
      ∙ ap (λ x. when (is_none x) EBADF or_else when (not (is_folder (handle_node s.tree x))) ENOTDIR or_else when (nat_eq n 0 || nat_lt 256 n) EINVAL) o.handle
      ∙ list-chain (nat_eq n 0 || nat_lt 256 n) (is_folder (s.tree h.node)) (ap (λ x. is_folder (node_of s.tree x)) (sym o.at) ∙ folder-at U lowers s m p ∙ dir);
  answer = λ n. ap (λ x. reply.Names (page s.tree x n)) o.handle;
  state = λ n i. record s { tables = with_handle s.tables c fd (listed_on s.tree n (o.handle i)) };
}
  where
    exact : (n : Name) → list_any (same_name n) (names_in (s.tree h.node)) ≡ is_some (shows 0 (U ∷ lowers) (n ∷ p))
    exact n = node-names (s.tree h.node) n ∙ ap (λ x. is_some (entry s.tree x n)) (sym o.at) ∙ at-some U lowers s m (n ∷ p)

    shown : h.listed ≡ None → AreShown (U ∷ lowers) p (listing s.tree h)
    shown new = subst (AreShown (U ∷ lowers) p) (ap (λ kept. unwrap_or kept (names_in (s.tree h.node))) (sym new)) (record { sorted = node-sorted (s.tree h.node); exact = exact })

-- a handle on a node with a name closes
pub law_of_close : LawOfClose
law_of_close U lowers s m c fd p h o = record {
  refused = refusal-reading s c (Close fd) refl ∙ ap (λ x. when (is_none x) EBADF) o.handle;
  answer = refl;
  state = λ i. record s { tree = kept i; tables = with_handle s.tables c fd None };
}
  where
    some : (l : ℕ) → (l ≡ zero → ⊥) → nat_lt 0 l ≡ true
    some l h = lt-ltb 0 l (omega arith)

    named : (x : Option Node) → (count_of x ≡ zero → ⊥) → is_named x ≡ true
    named None h = absurd (h refl)
    named (Some (Leaf content a u l)) h = some l h
    named (Some (Branch a b names l)) h = some l h

    same : cond (is_named (s.tree h.node) || is_held (with_handle s.tables c fd None) h.node) (s.tree h.node) None ≡ s.tree h.node
    same = ap (λ b. cond (b || is_held (with_handle s.tables c fd None) h.node) (s.tree h.node) None) (named (s.tree h.node) (at-path s.tree s.serial m.kept p h.node o.at))

    kept : settled (with_handle s.tables c fd None) s.tree (node_of_handle (handle_of s.tables c fd)) ≡ s.tree
    kept = ap (λ x. settled (with_handle s.tables c fd None) s.tree (node_of_handle x)) o.handle ∙ (λ i x. put-same s.tree h.node _ same x i)

-- a descriptor that is not open is refused
pub law_of_bad_descriptors : LawOfBadDescriptors
law_of_bad_descriptors s c fd none = record {
  listing = λ n. refusal-reading s c (ListNames fd n) refl ∙ ap (λ x. when (is_none x) EBADF or_else when (not (is_folder (handle_node s.tree x))) ENOTDIR or_else when (nat_eq n 0 || nat_lt 256 n) EINVAL) none;
  seeking = λ offset whence. refusal-reading s c (Seek fd offset whence) refl ∙ ap (λ x. seek_chain s.tree x offset whence) none;
  closing = refusal-reading s c (Close fd) refl ∙ ap (λ x. when (is_none x) EBADF) none;
}
