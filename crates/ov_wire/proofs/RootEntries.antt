-- The attributes that the entry at `/` gives, where no entry is at fault.
use Rattle.std.proofs.Common.{◌≡◌, ◌≢◌, inl, inr, codes, ℕ, suc, ◌+◌, Bool, true, false, not, ◌&&◌, List, [], ◌∷◌, length, Option, Some, None, is_some, Result, Ok, Err, cond, nat_eq, nat_lt, position, drop, take, refl, sym, ap, subst, ◌∙◌, true≢false, eqb-true}
use Rattle.std.specs.Option.{option_and_then, option_map_or, unwrap_or}
use Rattle.std.specs.Result.{result_ok}
use Rattle.std.specs.Str.{bytes_eq}
use Rattle.std.proofs.lemmas.Bool.{cases_Bool}
use Rattle.std.proofs.lemmas.List.{nil_from_length}
use Rattle.toml.specs.Data.{Data, Items, no_items, item, Members, as_table}
use Rattle.ov_base.specs.declared.attributes.Attributes.{Attributes}
use Rattle.ov_base.specs.declared.errno.Errno.TheVariants.{ENAMETOOLONG, EINVAL}
use Rattle.ov_base.specs.Names.{is_name, name_fault}
use Rattle.ov_base.specs.Paths.{pieces, path_below, path_spelled, path_of_text}
use Rattle.ov_base.proofs.PathLemmas.{pieces-whole, pieces-first}
use Rattle.plain_model.specs.Layers.{Name, Path}
use Rattle.plain_model.proofs.Paths.{names_tell}
use Rattle.layer_tree.specs.declared.node.Object.TheVariants as object
use Rattle.ov_wire.specs.ManifestEntries.{text_at, kind_named, kind_of, path_of, attributes_of, marks_of, bytes_of, target_of, path_to, item_of}
use Rattle.ov_wire.specs.ManifestLayers.{Entry, put_at, is_directory, with_entry, with_spelled, numbered, entries_from, root_of}
use Rattle.ov_wire.specs.Drafts.{is_text_at, root_given, first_root}
use Rattle.ov_wire.proofs.Placing.{none-of, placed-is}
use Rattle.ov_wire.proofs.Said.{ok, then-ok, ok_or-ok, result_ok-some, says, unnumbered}
use Rattle.ov_wire.specs.declared.manifest.entry.EntryKind.{EntryKind}
use Rattle.ov_wire.specs.declared.manifest.entry.EntryKind.TheVariants as kind
use Rattle.ov_wire.specs.declared.manifest.entry.Item.{Item}
use Rattle.ov_wire.specs.declared.manifest.entry.Item.TheVariants as put
use Rattle.ov_wire.specs.declared.manifest.fault.EntryFault.{EntryFault}
use Rattle.ov_wire.specs.declared.manifest.fault.EntryFault.TheVariants as fault

-- a path of names is not the root
below-not-root : (n : Name) (p pieces : List Name) → path_below (n ∷ p) pieces ≢ Ok []
below-not-root n p [] e = cc
below-not-root n p (x ∷ xs) e = of (is_name x) (below-not-root x (n ∷ p) xs) e
  where
    of : (b : Bool) → path_below (x ∷ (n ∷ p)) xs ≢ Ok [] → cond b (path_below (x ∷ (n ∷ p)) xs) (Err (name_fault x)) ≡ Ok [] → ⊥
    of true later e = later e
    of false later e = cc

-- a text has a piece
has-piece : (text : List ℕ) → (x : List ℕ) × (xs : List (List ℕ)) × (pieces text ≡ x ∷ xs)
has-piece text = of (position (λ b. nat_eq b 47) text) refl
  where
    of : (o : Option ℕ) → position (λ b. nat_eq b 47) text ≡ o → (x : List ℕ) × (xs : List (List ℕ)) × (pieces text ≡ x ∷ xs)
    of None e = (text, [], pieces-whole text e)
    of (Some place) e = (take place text, pieces (drop (place + 1) text), pieces-first text place e)

names-not-root : (text : List ℕ) → path_below [] (pieces text) ≢ Ok []
names-not-root text e =
    let p = has-piece text in
    of p.0 p.1 (subst (λ (ps : List (List ℕ)). path_below [] ps ≡ Ok []) p.2 e)
  where
    of : (x : List ℕ) (xs : List (List ℕ)) → path_below [] (x ∷ xs) ≡ Ok [] → ⊥
    of x xs e = at (is_name x) e
      where
        at : (b : Bool) → cond b (path_below (x ∷ []) xs) (Err (name_fault x)) ≡ Ok [] → ⊥
        at true e = below-not-root x [] xs e
        at false e = cc

-- only the text `/` spells the root
root-text : (text : List ℕ) → path_of_text text ≡ Ok [] → text ≡ 47 ∷ []
root-text text e = long (nat_lt 4095 (length text)) e
  where
    spelled : (text : List ℕ) → path_spelled text ≡ Ok [] → text ≡ 47 ∷ []
    spelled [] e = cc
    spelled (b ∷ bs) e = at (nat_eq b 47) (nat_eq (length bs) 0) refl refl e
      where
        at : (s z : Bool) → nat_eq b 47 ≡ s → nat_eq (length bs) 0 ≡ z → cond s (cond z (Ok []) (path_below [] (pieces bs))) (Err EINVAL) ≡ Ok [] → b ∷ bs ≡ 47 ∷ []
        at true true is_slash is_end e =
            let slash : b ≡ 47 = eqb-true b 47 is_slash in
            let end : bs ≡ [] = nil_from_length bs (eqb-true (length bs) 0 is_end) in
            cc
        at true false is_slash is_end e = absurd (names-not-root bs e)
        at false z is_slash is_end e = absurd (cc)

    long : (t : Bool) → cond t (Err ENAMETOOLONG) (path_spelled text) ≡ Ok [] → text ≡ 47 ∷ []
    long true e = absurd (cc)
    long false e = spelled text e

-- an entry's path text is `/` where its path is the root, and only there
root-path : (m : Members) → path_of m ≡ Ok [] → is_text_at (codes "path") (codes "/") m ≡ true
root-path m h = of (text_at (codes "path") m) (ok_or-ok _ fault.Path [] h)
  where
    of : (o : Option (List ℕ)) → option_and_then (λ text. result_ok (path_of_text text)) o ≡ Some [] → option_map_or (λ text. bytes_eq text (codes "/")) o false ≡ true
    of None e = absurd (cc)
    of (Some text) e = (names_tell text (codes "/")).1 (root-text text (result_ok-some (path_of_text text) [] e))

below-path : (m : Members) (n : Name) (p : Path) → path_of m ≡ Ok (n ∷ p) → is_text_at (codes "path") (codes "/") m ≡ false
below-path m n p h = of (text_at (codes "path") m) (ok_or-ok _ fault.Path (n ∷ p) h)
  where
    of : (o : Option (List ℕ)) → option_and_then (λ text. result_ok (path_of_text text)) o ≡ Some (n ∷ p) → option_map_or (λ text. bytes_eq text (codes "/")) o false ≡ false
    of None e = absurd (cc)
    of (Some text) e = elim (cases_Bool (bytes_eq text (codes "/"))) [
      | inr off ↦ off
      | inl same ↦ absurd (root text e ((names_tell text (codes "/")).0 same))
    ]
      where
        root : (text : List ℕ) → result_ok (path_of_text text) ≡ Some (n ∷ p) → text ≢ codes "/"
        root text e is = let f : result_ok (path_of_text (codes "/")) ≡ Some (n ∷ p) = subst (λ t. result_ok (path_of_text t) ≡ Some (n ∷ p)) is e in cc

-- an entry of kind `dir` has this text there
directory-text : (m : Members) → kind_of m ≡ Ok kind.Directory → is_text_at (codes "kind") (codes "dir") m ≡ true
directory-text m h = of (text_at (codes "kind") m) (ok_or-ok _ fault.Kind kind.Directory h)
  where
    named : (b c d e f : Bool) → cond b (Some kind.Directory) (cond c (Some kind.File) (cond d (Some kind.SymbolicLink) (cond e (Some kind.Whiteout) (cond f (Some kind.HardLink) None)))) ≡ Some kind.Directory → b ≡ true
    named true c d e f h = refl
    named false true d e f h = absurd (cc)
    named false false true e f h = absurd (cc)
    named false false false true f h = absurd (cc)
    named false false false false true h = absurd (cc)
    named false false false false false h = absurd (cc)

    of : (o : Option (List ℕ)) → option_and_then kind_named o ≡ Some kind.Directory → option_map_or (λ text. bytes_eq text (codes "dir")) o false ≡ true
    of None e = absurd (cc)
    of (Some text) e = named (bytes_eq text (codes "dir")) (bytes_eq text (codes "file")) (bytes_eq text (codes "symlink")) (bytes_eq text (codes "whiteout")) (bytes_eq text (codes "link")) e

-- an item that is no directory
other-item : (i j : Item) → ok j ≡ Ok i → is_directory (Some j) ≡ false → is_directory (Some i) ≡ true → ⊥
other-item i j e off on =
    let same : j ≡ i = cc in
    true≢false (sym on ∙ ap (λ (x : Item). is_directory (Some x)) (sym same) ∙ off)

same-root : (i j : Item) → ok j ≡ Ok i → root_of (Some j) ≡ root_of (Some i)
same-root i j e = let same : j ≡ i = cc in ap (λ (x : Item). root_of (Some x)) same

-- what puts a directory is of kind `dir`, and gives its attributes
directory-item : (limit : ℕ) (blobs : List (List ℕ)) (k : EntryKind) (m : Members) (i : Item) → item_of limit blobs k m ≡ Ok i → is_directory (Some i) ≡ true → (k ≡ kind.Directory) × (attributes_of 493 m ≡ Ok (root_of (Some i)))
directory-item limit blobs kind.Directory m i h d =
    let a = then-ok (attributes_of 493 m) _ i h in
    let b = then-ok (marks_of m) _ i a.2 in
    (refl, a.1 ∙ ap Ok (same-root i (put.Object (object.Directory a.0 b.0)) b.2))
directory-item limit blobs kind.File m i h d =
    let a = then-ok (attributes_of 420 m) _ i h in
    let b = then-ok (bytes_of limit blobs m) _ i a.2 in
    absurd (other-item i _ b.2 refl d)
directory-item limit blobs kind.SymbolicLink m i h d =
    let a = then-ok (attributes_of 511 m) _ i h in
    let b = then-ok (target_of m) _ i a.2 in
    absurd (other-item i _ b.2 refl d)
directory-item limit blobs kind.Whiteout m i h d = absurd (other-item i put.Whiteout h refl d)
directory-item limit blobs kind.HardLink m i h d = absurd (other-item i (put.Link (path_to m)) h refl d)

-- an entry at `/` is the first there, and a directory
placed-root : (before : List Entry) (i : Item) (after : List Entry) → with_entry before [] i ≡ Ok after → (is_directory (Some i) ≡ true) × (is_some (put_at before []) ≡ false) × (put_at after [] ≡ Some i)
placed-root before i after h = of (is_directory (Some i)) (is_some (put_at before [])) refl refl h
  where
    of : (d s : Bool) → is_directory (Some i) ≡ d → is_some (put_at before []) ≡ s → cond (d && not s) (Ok (([], i) ∷ before)) (Err fault.Exists) ≡ Ok after → (is_directory (Some i) ≡ true) × (is_some (put_at before []) ≡ false) × (put_at after [] ≡ Some i)
    of true false d s h = let same : ([], i) ∷ before ≡ after = cc in (d, s, ap (λ (es : List Entry). put_at es []) (sym same))
    of true true d s h = absurd (cc)
    of false b d s h = absurd (cc)

-- an entry elsewhere leaves what is put at `/`
placed-below : (before : List Entry) (n : Name) (p : Path) (i : Item) (after : List Entry) → with_entry before (n ∷ p) i ≡ Ok after → put_at after [] ≡ put_at before []
placed-below before n p i after h = ap (λ (es : List Entry). put_at es []) (sym (placed-is before (n ∷ p) i after h))

-- what is put at `/` stays so
keeps-root : (limit : ℕ) (blobs : List (List ℕ)) (number : ℕ) (before : List Entry) (items : Items) (final : List Entry) → entries_from limit blobs number before items ≡ Ok final → (i : Item) → put_at before [] ≡ Some i → put_at final [] ≡ Some i
keeps-root limit blobs number before no_items final h i e = let same : before ≡ final = cc in ap (λ (es : List Entry). put_at es []) (sym same) ∙ e
keeps-root limit blobs number before (item d rest) final h i e =
    let step = then-ok (numbered number (with_spelled limit blobs before d)) _ final h in
    let s = says limit blobs before d step.0 (unnumbered number (with_spelled limit blobs before d) step.0 step.1) in
    keeps-root limit blobs (suc number) step.0 rest final step.2 i (one s.path s.puts step.0 s.is_placed)
  where
    one : (p : Path) (j : Item) (after : List Entry) → with_entry before p j ≡ Ok after → put_at after [] ≡ Some i
    one [] j after w = absurd (true≢false (sym (ap (λ (o : Option Item). is_some o) e) ∙ (placed-root before j after w).1))
    one (n ∷ p) j after w = placed-below before n p j after w ∙ e

-- the attributes that a directory at `/` gives
given : (d : Data) (m : Members) (a : Attributes) → as_table d ≡ Some m → is_text_at (codes "path") (codes "/") m ≡ true → is_text_at (codes "kind") (codes "dir") m ≡ true → attributes_of 493 m ≡ Ok a → root_given d ≡ Some a
given d m a t p k e =
    ap (option_and_then (λ (m : Members). cond (is_text_at (codes "path") (codes "/") m && is_text_at (codes "kind") (codes "dir") m) (result_ok (attributes_of 493 m)) None)) t
    ∙ ap (λ (b : Bool). cond (b && is_text_at (codes "kind") (codes "dir") m) (result_ok (attributes_of 493 m)) None) p
    ∙ ap (λ (b : Bool). cond b (result_ok (attributes_of 493 m)) None) k
    ∙ ap (λ (r : Result Attributes EntryFault). result_ok r) e

-- an entry elsewhere gives none
not-given : (d : Data) (m : Members) → as_table d ≡ Some m → is_text_at (codes "path") (codes "/") m ≡ false → root_given d ≡ None
not-given d m t p =
    ap (option_and_then (λ (m : Members). cond (is_text_at (codes "path") (codes "/") m && is_text_at (codes "kind") (codes "dir") m) (result_ok (attributes_of 493 m)) None)) t
    ∙ ap (λ (b : Bool). cond (b && is_text_at (codes "kind") (codes "dir") m) (result_ok (attributes_of 493 m)) None) p

-- THE ROOT'S ATTRIBUTES, where no entry is at fault, are those of the first entry that gives some
pub root-said : (limit : ℕ) (blobs : List (List ℕ)) (number : ℕ) (before : List Entry) (items : Items) (final : List Entry) → entries_from limit blobs number before items ≡ Ok final → is_some (put_at before []) ≡ false → root_of (put_at final []) ≡ first_root items
root-said limit blobs number before no_items final h none =
    let same : before ≡ final = cc in
    ap (λ (es : List Entry). root_of (put_at es [])) (sym same) ∙ ap root_of (none-of (put_at before []) none)
root-said limit blobs number before (item d rest) final h none =
    let step = then-ok (numbered number (with_spelled limit blobs before d)) _ final h in
    let s = says limit blobs before d step.0 (unnumbered number (with_spelled limit blobs before d) step.0 step.1) in
    at s.table s.k s.path s.puts step.0 s.is_table s.is_kind s.is_path s.is_item s.is_placed step.2 (root-said limit blobs (suc number) step.0 rest final step.2)
  where
    at : (m : Members) (k : EntryKind) (p : Path) (i : Item) (after : List Entry) → as_table d ≡ Some m → kind_of m ≡ Ok k → path_of m ≡ Ok p → item_of limit blobs k m ≡ Ok i → with_entry before p i ≡ Ok after → entries_from limit blobs (suc number) after rest ≡ Ok final → (is_some (put_at after []) ≡ false → root_of (put_at final []) ≡ first_root rest) → root_of (put_at final []) ≡ unwrap_or (root_given d) (first_root rest)
    at m k [] i after t is_kind is_path is_item w later onward =
        let placed = placed-root before i after w in
        let dir = directory-item limit blobs k m i is_item placed.0 in
        ap root_of (keeps-root limit blobs (suc number) after rest final later i placed.2)
        ∙ sym (ap (λ (o : Option Attributes). unwrap_or o (first_root rest)) (given d m (root_of (Some i)) t (root-path m is_path) (directory-text m (is_kind ∙ ap Ok dir.0)) dir.1))
    at m k (n ∷ p) i after t is_kind is_path is_item w later onward =
        onward (ap (λ (o : Option Item). is_some o) (placed-below before n p i after w) ∙ none)
        ∙ sym (ap (λ (o : Option Attributes). unwrap_or o (first_root rest)) (not-given d m t (below-path m n p is_path)))
