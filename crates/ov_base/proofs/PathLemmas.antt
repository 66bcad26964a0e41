-- How the pieces of a path text follow one another, and a path by its last name.
use Rattle.std.proofs.Common.{◌≡◌, ◌++◌, ◌+◌, ◌<◌, ◌≤◌, ℕ, List, [], ◌∷◌, Option, Some, None, Bool}
use Rattle.std.proofs.Common.{true, false, not, ◌&&◌, cond, Result, Ok, Err, nat_eq, nat_lt}
use Rattle.std.proofs.Common.{position, take, drop, get_or, length, reverse, MatchOption, refl, sym}
use Rattle.std.proofs.Common.{ap, ◌∙◌, arith, inl, inr, lt-ltb}
use Rattle.std.specs.List.{All, prefix_len, list_all, position_or_len, before_first}
use Rattle.std.proofs.lemmas.Grind.{common_steps}
use Rattle.std.proofs.lemmas.Bool.{cases_lt, cases_eq, cond-false, false≢true, ltb-true}
use Rattle.std.proofs.lemmas.Option.{cond_some, none-some}
use Rattle.std.proofs.lemmas.List.{reverse-reverse, reverse-append, length-reverse, take_all}
use Rattle.std.proofs.lemmas.List.{get_or-take}
use Rattle.std.proofs.lemmas.List.Folds.{length-prefix_len, list_all_at}
use Rattle.std.proofs.lemmas.List.Sums.{prefix_len-le-length, prefix_len_passes, prefix_len_stops}
use Rattle.std.proofs.lemmas.List.Sums.{position_or_len_is, fails_before_first, passes_at_first}
use Rattle.std.proofs.lemmas.List.Splits.{slice_split_none, slice_split_first}
use Rattle.ov_base.specs.declared.errno.Errno.{Errno}
use Rattle.ov_base.specs.declared.errno.Errno.TheVariants.{ENAMETOOLONG}
use Rattle.ov_base.specs.Names.{is_name, name_fault, name_of}
use Rattle.ov_base.specs.Paths.{pieces, path_below}
use Rattle.ov_base.proofs.PlainLemmas.{is_plain}

-- where a search finds nothing, nothing passes
pub none-passes : {X : Type 0} (p : X → Bool) (xs : List X) → position p xs ≡ None
    → All (λ x. p x ≡ false) xs
none-passes p xs none k d lt = elim (cases_lt (position_or_len p xs) (length xs)) [
  | inl inside ↦ absurd (none-some (position_or_len p xs)
      (sym (rw (lt-ltb (position_or_len p xs) (length xs) inside) at none)))
  | inr past ↦ fails_before_first p xs k d (omega arith)
]

-- whether a byte is '/'
abbrev pub is_slash : ℕ → Bool
is_slash b = nat_eq b 47

-- a text whose first '/' is there is the piece before it, and the pieces of what follows
pub first-at : (text : List ℕ) (place : ℕ) → position_or_len is_slash text ≡ place
    → place < length text → pieces text ≡ take place text ∷ pieces (drop (place + 1) text)
first-at text place found within =
    let zero : ℕ = 0 in
    slice_split_first is_slash text zero (omega arith)
    ∙ ap (λ k. take k text ∷ pieces (drop (k + 1) text)) found

-- a text without '/' is one piece
pub whole-at : (text : List ℕ) (place : ℕ) → position_or_len is_slash text ≡ place → place
    ≡ length text → pieces text ≡ take place text ∷ []
whole-at text place found whole =
    slice_split_none is_slash text (λ k d lt. fails_before_first is_slash text k d (omega arith))
    ∙ ap (λ (piece : List ℕ). piece ∷ []) (sym (take_all place text (omega arith)))

-- a text in which no '/' is found is one piece
pub pieces-whole : (text : List ℕ) → position is_slash text ≡ None → pieces text ≡ text ∷ []
pieces-whole text none = slice_split_none is_slash text (none-passes is_slash text none)

-- a text in which one is found is the piece before it, and the pieces of what follows
pub pieces-first : (text : List ℕ) (place : ℕ) → position is_slash text ≡ Some place
    → pieces text ≡ take place text ∷ pieces (drop (place + 1) text)
pieces-first text place found =
    let there = cond_some _ _ _ found in
    let within : position_or_len is_slash text < length text = ltb-true _ _ there.0 in
    first-at text place there.1 (omega arith)

-- the first piece of a text, and the others
pub pieces-head : (text : List ℕ) (place : ℕ) → position_or_len is_slash text ≡ place
    → (more : List (List ℕ)) × (pieces text ≡ take place text ∷ more)
pieces-head text place found = elim (cases_lt place (length text)) [
  | inl within ↦ (pieces (drop (place + 1) text), first-at text place found within)
  | inr past ↦ (
    [],
    whole-at text place found
        (omega (arith, prefix_len-le-length (λ b. not (is_slash b)) text)),
  )
]

-- a path is refused at a first piece that is no name
pub below-refused : (p : List (List ℕ)) (text : List ℕ) (fault : Errno)
    → is_name (before_first is_slash text) ≡ false → name_fault (before_first is_slash text)
    ≡ fault → path_below p (pieces text) ≡ Err fault
below-refused p text fault none same =
    let head = pieces-head text (position_or_len is_slash text) refl in
    ap (path_below p) head.1 ∙ cond-false _ _ _ none ∙ ap Err same

-- whether a NUL stands at a place
abbrev pub nul-at : List ℕ → ℕ → Bool
nul-at text place = nat_lt place (length text) && nat_eq (get_or text place 0) 0

-- a plain byte is no '/'
plain-no-slash : (b : ℕ) → is_plain b ≡ true → is_slash b ≡ false
plain-no-slash b plain = grind (arith, common_steps)

-- a byte that is neither plain nor NUL is '/'
stop-slash : (b : ℕ) → is_plain b ≡ false → nat_eq b 0 ≡ false → is_slash b ≡ true
stop-slash b stop no-nul = grind (arith, common_steps)

-- where one test holds and not both do, the other fails
other-fails : (a b : Bool) → a ≡ true → (a && b) ≡ false → b ≡ false
other-fails a b holds not-both = grind (arith, common_steps)

-- one more byte before the first that is not plain, and before the first '/'
one-more : (slash nul : Bool) (m n : ℕ) → m ≤ n
    → cond (not slash && not nul) (1 + m) 0 ≤ cond (not slash) (1 + n) 0
one-more true nul m n le = omega arith
one-more false true m n le = omega arith
one-more false false m n le = omega arith

-- a run of plain bytes has no '/'
run-before-slash : (text : List ℕ) → prefix_len is_plain text ≤ position_or_len is_slash text
run-before-slash [] = omega arith
run-before-slash (b ∷ text) = one-more (is_slash b) (nat_eq b 0) _ _ (run-before-slash text)

-- a run that no NUL ends goes up to the first '/', or to the end
pub run-to-slash : (text : List ℕ) (run : ℕ) → run ≡ prefix_len is_plain text → nul-at text run
    ≡ false → position_or_len is_slash text ≡ run
run-to-slash text run same no-nul =
    position_or_len_is is_slash text run 0 (omega (arith, prefix_len-le-length is_plain text))
    (λ k lt. plain-no-slash _ (prefix_len_passes is_plain text k 0 (omega arith))) (λ lt.
    let stop = ap (λ k. is_plain (get_or text k 0)) same
    ∙ prefix_len_stops is_plain text 0 (omega arith) in
    stop-slash _ stop (other-fails _ _ (lt-ltb run (length text) lt) no-nul))

-- more than 255 bytes are no name
long-no-name : (bytes : List ℕ) → 255 < length bytes → is_name bytes ≡ false
long-no-name bytes long = grind (arith, common_steps)

-- and too long for one
long-fault : (bytes : List ℕ) → 255 < length bytes → name_fault bytes ≡ ENAMETOOLONG
long-fault bytes long = grind (arith, common_steps)

-- bytes that are not all plain are no name
not-plain-no-name : (bytes : List ℕ) → list_all is_plain bytes ≡ false → is_name bytes ≡ false
not-plain-no-name bytes not-all = grind (arith, common_steps)

-- a run of over 255 bytes begins a piece that is too long
pub run-too-long : (text : List ℕ) → 255 < prefix_len is_plain text
    → (is_name (before_first is_slash text) ≡ false) ×
    (name_fault (before_first is_slash text) ≡ ENAMETOOLONG)
run-too-long text long =
    let longer : 255 < length (before_first is_slash text) =
    omega (arith, run-before-slash text, length-prefix_len (λ b. not (is_slash b)) text) in
    (long-no-name _ longer, long-fault _ longer)

-- a run that a NUL ends begins a piece that is no name
pub run-to-nul : (text : List ℕ) (run : ℕ) → run ≡ prefix_len is_plain text → nul-at text run
    ≡ true → is_name (before_first is_slash text) ≡ false
run-to-nul text run same found =
    let within : run < length text = ltb-true _ _ (grind (arith, common_steps)) in
    let nul : get_or text run 0 ≡ 0 = grind (arith, common_steps) in
    let past : run < position_or_len is_slash text =
    elim (cases_eq run (position_or_len is_slash text)) [
      | inl here ↦ absurd (false≢true (sym (ap is_slash nul)
          ∙ ap (λ k. is_slash (get_or text k 0)) here ∙ passes_at_first is_slash text 0 (omega arith)))
      | inr other ↦ omega (arith, run-before-slash text)
    ] in
    let at = get_or-take (position_or_len is_slash text) text run 0 past ∙ nul in
    not-plain-no-name (before_first is_slash text)
    (list_all_at is_plain (before_first is_slash text) run 0
    (omega (arith, length-prefix_len (λ b. not (is_slash b)) text)) (ap is_plain at))

-- a name leads on
pub below-Ok : (b : Bool) (name piece : List ℕ) (fault : Errno)
    (more : Result (List (List ℕ)) Errno) → Ok name ≡ cond b (Ok piece) (Err fault)
    → (cond b more (Err fault) ≡ more) × (name ≡ piece)
below-Ok true name piece fault more e = (refl, cc)
below-Ok false name piece fault more e = cc

-- what is no name is the fault
pub below-Err : (b : Bool) (piece : List ℕ) (told fault : Errno)
    (more : Result (List (List ℕ)) Errno) → Err told ≡ cond b (Ok piece) (Err fault)
    → cond b more (Err fault) ≡ Err told
below-Err true piece told fault more e = cc
below-Err false piece told fault more e = let same : told ≡ fault = cc in ap Err (sym same)

-- the path after a name and what follows it
pub below-next : (p : List (List ℕ)) (name piece : List ℕ) (rest : List (List ℕ)) → Ok name
    ≡ name_of piece → path_below p (piece ∷ rest) ≡ path_below (name ∷ p) rest
below-next p name piece rest e =
    let on = below-Ok (is_name piece) name piece (name_fault piece) (path_below (piece ∷ p) rest) e
    in
    on.0 ∙ ap (λ (n : List ℕ). path_below (n ∷ p) rest) (sym on.1)

-- a path by its names from the root
pub path-split : (p parents : List (List ℕ)) (n : List ℕ) → reverse p ≡ parents ++ n ∷ [] → p
    ≡ n ∷ reverse parents
path-split p parents n e = sym (reverse-reverse p) ∙ ap reverse e ∙ reverse-append parents (n ∷ [])

pub path-none : (p : List (List ℕ)) → length (reverse p) ≡ 0 → p ≡ []
path-none [] h = refl
path-none (n ∷ p) h = absurd (omega (arith, h, length-reverse (n ∷ p)))

-- what holds of an answer follows from what its search tells
pub match-map : {T : Type 0} (P R : Type 0) (Q S : T → Type 0) (o : Option T) → (P → R)
    → ((x : T) → Q x → S x) → MatchOption o P Q → MatchOption o R S
match-map P R Q S None f g h = f h
match-map P R Q S (Some x) f g h = g x h
