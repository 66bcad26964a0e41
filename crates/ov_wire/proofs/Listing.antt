-- The texts of the paths of further names: one path has one text, so a text tells whether a further name stands at its path.
use Rattle.std.proofs.Common.{◌≡◌, ◌⊎◌, inl, inr, codes, ℕ, Bool, true, false, ◌||◌, List, [], ◌∷◌, ◌++◌, Option, Some, None, is_some, Ok, Err, cond, length, nat_eq, nat_lt, bytes_eq, reverse, append-nil, refl, sym, ap, subst, ◌∙◌, true≢false, eqb-true}
use Rattle.std.specs.Option.{option_map_or}
use Rattle.std.specs.Result.{result_ok}
use Rattle.std.specs.List.{join_with_byte}
use Rattle.std.proofs.lemmas.Bool.{cases_Bool, both_ways}
use Rattle.std.proofs.lemmas.List.{nil_from_length, reverse-append, reverse-reverse, append_assoc}
use Rattle.std.proofs.lemmas.List.Splits.{join_with_byte-slice_split}
use Rattle.toml.specs.Data.{Members}
use Rattle.ov_base.specs.declared.errno.Errno.TheVariants.{ENAMETOOLONG, EINVAL}
use Rattle.ov_base.specs.Names.{is_name, name_fault}
use Rattle.ov_base.specs.Paths.{pieces, path_below, path_spelled, path_of_text}
use Rattle.plain_model.specs.Layers.{Name, Path, same_path}
use Rattle.plain_model.proofs.Paths.{names_tell, paths_tell}
use Rattle.layer_tree.proofs.Walks.{bound}
use Rattle.ov_wire.specs.ManifestEntries.{text_at, kind_of, path_of, item_of, checked, read}
use Rattle.ov_wire.specs.ManifestLayers.{Entry, put_at, is_further, with_entry}
use Rattle.ov_wire.specs.Drafts.{Lists, Tells, has_text}
use Rattle.ov_wire.specs.declared.manifest.entry.EntryKind.{EntryKind}
use Rattle.ov_wire.specs.declared.manifest.entry.Item.{Item}
use Rattle.ov_wire.specs.declared.manifest.entry.Item.TheVariants as put
use Rattle.ov_wire.specs.declared.manifest.fault.EntryFault.TheVariants as fault
use Rattle.ov_wire.proofs.Placing.{placed-is, was-free}
use Rattle.ov_wire.proofs.Said.{ok, then-ok, ok_or-ok, result_ok-some, link-item}

-- a path has the pieces of its text as names
below-reverse : (p : Path) (xs : List Name) (q : Path) → path_below p xs ≡ Ok q → q ≡ reverse xs ++ p
below-reverse p [] q e = cc
below-reverse p (x ∷ xs) q e = at (is_name x) (below-reverse (x ∷ p) xs q) e
  where
    at : (b : Bool) → (path_below (x ∷ p) xs ≡ Ok q → q ≡ reverse xs ++ x ∷ p) → cond b (path_below (x ∷ p) xs) (Err (name_fault x)) ≡ Ok q → q ≡ reverse (x ∷ xs) ++ p
    at true onward e = onward e ∙ sym (append_assoc (reverse xs) (x ∷ []) p) ∙ ap (λ (r : Path). r ++ p) (sym (reverse-append (x ∷ []) xs))
    at false onward e = absurd (cc)

-- the text of a path
abbrev text_for : Path → List ℕ
text_for p = 47 ∷ join_with_byte 47 (reverse p)

spelled-text : (text : List ℕ) (p : Path) → path_of_text text ≡ Ok p → text ≡ text_for p
spelled-text text p e = long (nat_lt 4095 (length text)) e
  where
    spelled : (text : List ℕ) → path_spelled text ≡ Ok p → text ≡ text_for p
    spelled [] e = absurd (cc)
    spelled (b ∷ bs) e = at (nat_eq b 47) (nat_eq (length bs) 0) refl refl e
      where
        at : (s z : Bool) → nat_eq b 47 ≡ s → nat_eq (length bs) 0 ≡ z → cond s (cond z (Ok []) (path_below [] (pieces bs))) (Err EINVAL) ≡ Ok p → b ∷ bs ≡ text_for p
        at true true is_slash is_end e =
            let slash : b ≡ 47 = eqb-true b 47 is_slash in
            let end : bs ≡ [] = nil_from_length bs (eqb-true (length bs) 0 is_end) in
            let root : [] ≡ p = cc in
            ap (λ (x : ℕ). x ∷ bs) slash ∙ ap (λ (x : List ℕ). 47 ∷ x) end ∙ ap text_for root
        at true false is_slash is_end e =
            let slash : b ≡ 47 = eqb-true b 47 is_slash in
            let names : pieces bs ≡ reverse p = sym (reverse-reverse (pieces bs)) ∙ ap reverse (sym (append-nil (reverse (pieces bs))) ∙ sym (below-reverse [] (pieces bs) p e)) in
            ap (λ (x : ℕ). x ∷ bs) slash ∙ ap (λ (x : List ℕ). 47 ∷ x) (sym (join_with_byte-slice_split 47 bs) ∙ ap (join_with_byte 47) names)
        at false z is_slash is_end e = absurd (cc)

    long : (t : Bool) → cond t (Err ENAMETOOLONG) (path_spelled text) ≡ Ok p → text ≡ text_for p
    long true e = absurd (cc)
    long false e = spelled text e

-- A PATH HAS ONE TEXT
pub one-text : (s t : List ℕ) (p : Path) → path_of_text s ≡ Ok p → path_of_text t ≡ Ok p → s ≡ t
one-text s t p e f = spelled-text s p e ∙ sym (spelled-text t p f)

-- an entry without a fault has a path text and an item
record IsRead (limit : ℕ) (blobs : List (List ℕ)) (m : Members) (p : Path) (i : Item) : Type 0 where
  k : EntryKind
  is_item : item_of limit blobs k m ≡ Ok i
  text : List ℕ
  is_text : text_at (codes "path") m ≡ Some text
  is_path : path_of_text text ≡ Ok p

is-read : (limit : ℕ) (blobs : List (List ℕ)) (m : Members) (p : Path) (i : Item) → read limit blobs m ≡ Ok (p, i) → IsRead limit blobs m p i
is-read limit blobs m p i e =
    let k = then-ok (kind_of m) _ (p, i) e in
    let q = then-ok (path_of m) _ (p, i) k.2 in
    let c = then-ok (checked k.0 q.0 m) _ (p, i) q.2 in
    let j = then-ok (item_of limit blobs k.0 m) _ (p, i) c.2 in
    let pair : (q.0, j.0) ≡ (p, i) = unwrap _ _ j.2 in
    let same_path : q.0 ≡ p = ap (λ (x : Path × Item). x.0) pair in
    let same_item : j.0 ≡ i = ap (λ (x : Path × Item). x.1) pair in
    let text = bound (λ text. result_ok (path_of_text text)) (text_at (codes "path") m) q.0 (ok_or-ok _ fault.Path q.0 q.1) in
    record {
      k = k.0;
      is_item = j.1 ∙ ap (λ (x : Item). ok x) same_item;
      text = text.0;
      is_text = text.1;
      is_path = subst (λ (x : Path). path_of_text text.0 ≡ Ok x) same_path (result_ok-some (path_of_text text.0) q.0 text.2);
    }
  where
    unwrap : (x y : Path × Item) → ok x ≡ Ok y → x ≡ y
    unwrap x y e = cc

-- whether the path to which an entry leads is listed tells whether a further name stands there
pub tells : (limit : ℕ) (blobs : List (List ℕ)) (texts : List (List ℕ)) (before : List Entry) (m : Members) (p : Path) (i : Item) (b : Bool) → Lists texts before → read limit blobs m ≡ Ok (p, i) → b ≡ option_map_or (has_text texts) (text_at (codes "to") m) false → Tells before i b
tells limit blobs texts before m p (put.Object o) b lists e is = tt
tells limit blobs texts before m p put.Whiteout b lists e is = tt
tells limit blobs texts before m p (put.Link None) b lists e is = tt
tells limit blobs texts before m p (put.Link (Some to)) b lists e is =
    let r = is-read limit blobs m p (put.Link (Some to)) e in
    let text = bound (λ text. result_ok (path_of_text text)) (text_at (codes "to") m) to (link-item limit blobs r.k m (Some to) r.is_item) in
    is ∙ ap (λ (o : Option (List ℕ)). option_map_or (has_text texts) o false) text.1 ∙ lists text.0 to (result_ok-some (path_of_text text.0) to text.2)

or-false : (b : Bool) → b || false ≡ b
or-false true = refl
or-false false = refl

-- with an entry that is no further name the list stays
pub lists-kept : (texts : List (List ℕ)) (before after : List Entry) (p : Path) (i : Item) → Lists texts before → is_further (Some i) ≡ false → with_entry before p i ≡ Ok after → Lists texts after
lists-kept texts before after p i lists plain w =
    subst (Lists texts) (placed-is before p i after w) (λ text q e. lists text q e ∙ at q (cases_Bool (same_path p q)))
  where
    of : (o : Option Item) → is_some o ≡ false → is_further o ≡ false
    of None h = refl
    of (Some x) h = absurd (true≢false h)

    at : (q : Path) → (same_path p q ≡ true) ⊎ (same_path p q ≡ false) → is_further (put_at before q) ≡ is_further (cond (same_path p q) (Some i) (put_at before q))
    at q (inl same) =
        let here : p ≡ q = (paths_tell p q).0 same in
        ap (λ (x : Path). is_further (put_at before x)) (sym here) ∙ of (put_at before p) (was-free before p i after w) ∙ sym plain
        ∙ ap (λ (b : Bool). is_further (cond b (Some i) (put_at before q))) (sym same)
    at q (inr off) = ap (λ (b : Bool). is_further (cond b (Some i) (put_at before q))) (sym off)

-- with a further name its text is listed too
pub lists-more : (limit : ℕ) (blobs : List (List ℕ)) (texts more : List (List ℕ)) (before after : List Entry) (m : Members) (p : Path) (i : Item) → Lists texts before → read limit blobs m ≡ Ok (p, i) → is_further (Some i) ≡ true → ((text : List ℕ) → text_at (codes "path") m ≡ Some text → (other : List ℕ) → has_text more other ≡ (bytes_eq other text || has_text texts other)) → with_entry before p i ≡ Ok after → Lists more after
lists-more limit blobs texts more before after m p i lists e further adds w =
    let r = is-read limit blobs m p i e in
    subst (Lists more) (placed-is before p i after w) (λ text q is. adds r.text r.is_text text ∙ at r.text r.is_path text q is (cases_Bool (same_path p q)))
  where
    at : (own : List ℕ) → path_of_text own ≡ Ok p → (text : List ℕ) (q : Path) → path_of_text text ≡ Ok q → (same_path p q ≡ true) ⊎ (same_path p q ≡ false) → (bytes_eq text own || has_text texts text) ≡ is_further (cond (same_path p q) (Some i) (put_at before q))
    at own is_own text q is (inl same) =
        let here : p ≡ q = (paths_tell p q).0 same in
        let equal : text ≡ own = one-text text own q is (is_own ∙ ap (λ (x : Path). Ok x) here) in
        ap (λ (b : Bool). b || has_text texts text) ((names_tell text own).1 equal) ∙ sym further
        ∙ ap (λ (b : Bool). is_further (cond b (Some i) (put_at before q))) (sym same)
    at own is_own text q is (inr off) =
        ap (λ (b : Bool). b || has_text texts text) (differs (cases_Bool (bytes_eq text own))) ∙ lists text q is
        ∙ ap (λ (b : Bool). is_further (cond b (Some i) (put_at before q))) (sym off)
      where
        unwrap : (t : List ℕ) (x y : Path) → path_of_text t ≡ Ok x → path_of_text t ≡ Ok y → x ≡ y
        unwrap t x y e f = cc

        differs : (bytes_eq text own ≡ true) ⊎ (bytes_eq text own ≡ false) → bytes_eq text own ≡ false
        differs (inr other) = other
        differs (inl same) =
            let equal : text ≡ own = (names_tell text own).0 same in
            let one : p ≡ q = unwrap own p q is_own (subst (λ (t : List ℕ). path_of_text t ≡ Ok q) equal is) in
            absurd (both_ways (same_path p q) off ((paths_tell p q).1 one))

-- bytes are the same both ways
pub bytes-flip : (xs ys : List ℕ) → bytes_eq xs ys ≡ bytes_eq ys xs
bytes-flip xs ys = of (cases_Bool (bytes_eq xs ys)) (cases_Bool (bytes_eq ys xs))
  where
    of : (bytes_eq xs ys ≡ true) ⊎ (bytes_eq xs ys ≡ false) → (bytes_eq ys xs ≡ true) ⊎ (bytes_eq ys xs ≡ false) → bytes_eq xs ys ≡ bytes_eq ys xs
    of (inl a) (inl b) = a ∙ sym b
    of (inr a) (inr b) = a ∙ sym b
    of (inl a) (inr b) = absurd (both_ways (bytes_eq ys xs) b ((names_tell ys xs).1 (sym ((names_tell xs ys).0 a))))
    of (inr a) (inl b) = absurd (both_ways (bytes_eq xs ys) a ((names_tell xs ys).1 (sym ((names_tell ys xs).0 b))))

-- a text that is added is there, with those that were
pub added : (text other : List ℕ) (b : Bool) → cond (bytes_eq text other) true b ≡ (bytes_eq other text || b)
added text other b = ap (λ (s : Bool). cond s true b) (bytes-flip text other) ∙ of (bytes_eq other text)
  where
    of : (s : Bool) → cond s true b ≡ (s || b)
    of true = refl
    of false = refl
