-- What a text that spells a path says of its names and of its length.
use Rattle.std.proofs.Common.{◌≡◌, ℕ, ◌+◌, ◌≤◌, Bool, true, false, List, [], ◌∷◌, Ok, Err, IsTrue, cond, length, nat_eq, nat_lt, refl, sym, ap, subst, ◌∙◌, arith}
use Rattle.std.specs.List.{onto_first}
use Rattle.std.proofs.lemmas.Bool.{ltb-false}
use Rattle.std.proofs.lemmas.List.Elements.{All-nil, All-cons}
use Rattle.std.proofs.lemmas.List.Splits.{slice_split-cons_yes, slice_split-cons_no}
use Rattle.ov_base.specs.declared.errno.Errno.TheVariants.{ENAMETOOLONG, EINVAL}
use Rattle.ov_base.specs.Names.{is_name, name_fault}
use Rattle.ov_base.specs.Paths.{pieces, path_below, path_spelled, path_of_text}
use Rattle.plain_model.specs.Layers.{Name, Path}
use Rattle.plain_model.specs.Limits.{IsOfNames, text_length}

-- the bytes of pieces, each with the `/` before it
abbrev total : List Name → ℕ
total [] = 0
total (x ∷ xs) = total xs + 1 + length x

total-onto : (b : ℕ) (parts : List Name) → 1 ≤ total parts → total (onto_first b parts) ≡ total parts + 1
total-onto b [] some = absurd (omega arith)
total-onto b (x ∷ xs) some = omega arith

-- the pieces of a text take one byte more than it has
total-pieces : (text : List ℕ) → total (pieces text) ≡ length text + 1
total-pieces [] = refl
total-pieces (b ∷ bs) = at (nat_eq b 47) refl (total-pieces bs)
  where
    at : (slash : Bool) → nat_eq b 47 ≡ slash → total (pieces bs) ≡ length bs + 1 → total (pieces (b ∷ bs)) ≡ length (b ∷ bs) + 1
    at true e rest = ap total (slice_split-cons_yes (λ c. nat_eq c 47) b bs e) ∙ omega arith
    at false e rest =
        let some : 1 ≤ total (pieces bs) = omega arith in
        ap total (slice_split-cons_no (λ c. nat_eq c 47) b bs e) ∙ total-onto b (pieces bs) some ∙ omega arith

-- each piece of a path is a name
below-names : (p : Path) (xs : List Name) (q : Path) → path_below p xs ≡ Ok q → IsOfNames p → IsOfNames q
below-names p [] q e names = let same : p ≡ q = cc in subst IsOfNames same names
below-names p (x ∷ xs) q e names = at (is_name x) refl (below-names (x ∷ p) xs q) e
  where
    at : (b : Bool) → is_name x ≡ b → (path_below (x ∷ p) xs ≡ Ok q → IsOfNames (x ∷ p) → IsOfNames q) → cond b (path_below (x ∷ p) xs) (Err (name_fault x)) ≡ Ok q → IsOfNames q
    at true is onward e = onward e (All-cons (λ n. IsTrue (is_name n)) x p is names)
    at false is onward e = absurd (cc)

-- a path takes the bytes of its pieces
below-length : (p : Path) (xs : List Name) (q : Path) → path_below p xs ≡ Ok q → text_length q ≡ text_length p + total xs
below-length p [] q e = let same : p ≡ q = cc in ap text_length (sym same) ∙ omega arith
below-length p (x ∷ xs) q e = at (is_name x) (below-length (x ∷ p) xs q) e
  where
    at : (b : Bool) → (path_below (x ∷ p) xs ≡ Ok q → text_length q ≡ text_length (x ∷ p) + total xs) → cond b (path_below (x ∷ p) xs) (Err (name_fault x)) ≡ Ok q → text_length q ≡ text_length p + total (x ∷ xs)
    at true onward e = onward e ∙ omega arith
    at false onward e = absurd (cc)

-- a path that a text spells: it consists of names, and is short
pub record IsSpelledPath (p : Path) : Type 0 where
  pub names : IsOfNames p
  pub short : text_length p ≤ 4095

root-spelled : IsSpelledPath []
root-spelled = record { names = All-nil (λ n. IsTrue (is_name n)); short = omega arith }

-- WHAT A TEXT SPELLS consists of names, and is short
pub spelled-path : (text : List ℕ) (p : Path) → path_of_text text ≡ Ok p → IsSpelledPath p
spelled-path text p e = long (nat_lt 4095 (length text)) refl e
  where
    spelled : (text : List ℕ) → length text ≤ 4095 → path_spelled text ≡ Ok p → IsSpelledPath p
    spelled [] short e = absurd (cc)
    spelled (b ∷ bs) short e = at (nat_eq b 47) (nat_eq (length bs) 0) e
      where
        at : (slash end : Bool) → cond slash (cond end (Ok []) (path_below [] (pieces bs))) (Err EINVAL) ≡ Ok p → IsSpelledPath p
        at true true e = let same : [] ≡ p = cc in subst IsSpelledPath same root-spelled
        at true false e =
            let bytes = below-length [] (pieces bs) p e in
            record { names = below-names [] (pieces bs) p e root-spelled.names; short = omega (arith, total-pieces bs) }
        at false end e = absurd (cc)

    long : (t : Bool) → nat_lt 4095 (length text) ≡ t → cond t (Err ENAMETOOLONG) (path_spelled text) ≡ Ok p → IsSpelledPath p
    long true is e = absurd (cc)
    long false is e = spelled text (ltb-false 4095 (length text) is) e
