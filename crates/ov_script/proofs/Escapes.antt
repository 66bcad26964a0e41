-- How the first byte of a text reads.
use Rattle.std.proofs.Common.{◌≡◌, ℕ, ◌<◌, List, [], ◌∷◌, ◌++◌, append_assoc, append-nil, sym, length, IfSome, IsSome, Option, Some, None, option_map, is_some, false, true, nat_eq, refl, arith}
use Rattle.std.specs.Option.{unwrap_or}
use Rattle.std.specs.Str.{bytes_eq}
use Rattle.ov_script.specs.Escapes.{spelled, spelled_word, is_graphic, plain_before, escape_before}

-- A byte that is no backslash stands for itself.
pub spelled_plain : (c : ℕ) (cs : List ℕ) → nat_eq c 92 ≡ false → spelled (c ∷ cs) ≡ plain_before c (spelled cs)
spelled_plain c [] h = refl
spelled_plain c (x ∷ []) h = refl
spelled_plain c (x ∷ y ∷ []) h = refl
spelled_plain c (x ∷ y ∷ z ∷ rest) h = rw h refl

-- A backslash begins an escape of three more bytes.
pub spelled_escape : (x h l : ℕ) (rest : List ℕ) → spelled (92 ∷ x ∷ h ∷ l ∷ rest) ≡ escape_before x h l (spelled rest)
spelled_escape x h l rest = refl

-- A backslash with fewer bytes after it is no escape.
pub spelled_short : (cs : List ℕ) → length cs < 3 → spelled (92 ∷ cs) ≡ None
spelled_short [] h = refl
spelled_short (x ∷ []) h = refl
spelled_short (x ∷ y ∷ []) h = refl
spelled_short (x ∷ y ∷ z ∷ rest) h = absurd (omega arith)

-- A byte that is no backslash is none by the test.
no_backslash : (b : ℕ) → (b ≡ 92 → ⊥) → nat_eq b 92 ≡ false
no_backslash b h = grind arith

-- A text that begins with a plain byte.
pub spelled_first : (text rest : List ℕ) (b : ℕ) → is_graphic b ≡ true → (b ≡ 92 → ⊥) → text ≡ b ∷ rest → spelled text ≡ option_map (λ bytes. b ∷ bytes) (spelled rest)
spelled_first text rest b graphic other e = let plain = no_backslash b other in rw (e, spelled_plain b rest plain, graphic, plain) refl

-- An empty text spells no bytes.
pub spelled_nothing : (text : List ℕ) → length text ≡ 0 → spelled text ≡ Some []
spelled_nothing [] h = refl
spelled_nothing (c ∷ cs) h = absurd (omega arith)

-- What stays when the first byte is taken.
pub is_some_after : (f : List ℕ → List ℕ) (whole before after : Option (List ℕ)) → before ≡ option_map f after → is_some before ≡ is_some whole → is_some after ≡ is_some whole
is_some_after f whole before None e h = grind arith
is_some_after f whole before (Some x) e h = grind arith

-- No bytes before what a text spells.
pub none_before : (o : Option (List ℕ)) → option_map (λ more. [] ++ more) o ≡ o
none_before None = refl
none_before (Some x) = refl

-- One more byte before what a text spells.
pub more_before : (bytes : List ℕ) (b : ℕ) (whole before after : Option (List ℕ)) → before ≡ option_map (λ more. b ∷ more) after → option_map (λ more. bytes ++ more) before ≡ whole → option_map (λ more. (bytes ++ b ∷ []) ++ more) after ≡ whole
more_before bytes b whole before None e h = rw e at h
more_before bytes b whole before (Some x) e h = simp append_assoc (rw e at h)

-- All bytes are read where nothing is left.
pub all_read : (bytes : List ℕ) (whole left : Option (List ℕ)) (n : ℕ) → (n ≡ 0 → left ≡ Some []) → is_some left ≡ nat_eq n 0 → option_map (λ more. bytes ++ more) left ≡ whole → IfSome whole (λ all. bytes ≡ all)
all_read bytes whole None n at_end h e = rw (← e) tt
all_read bytes whole (Some x) n at_end h e =
    let none : n ≡ 0 = grind arith in
    let empty : x ≡ [] = cc (at_end none) in
    rw (← e, empty) (sym (append-nil bytes))

-- The bytes of a word that has its form.
pub word_read : (word bytes : List ℕ) → bytes_eq word (92 ∷ 45 ∷ []) ≡ false → IsSome (spelled_word word) → IfSome (spelled word) (λ all. bytes ≡ all) → bytes ≡ unwrap_or (spelled_word word) []
word_read [] bytes other form read = let no : false ≡ true = form in cc
word_read (c ∷ word) bytes other form read = read_is (spelled (c ∷ word)) _ bytes (rw other refl) form read
  where
    read_is : (whole spelling : Option (List ℕ)) (bytes : List ℕ) → spelling ≡ whole → IsSome spelling → IfSome whole (λ all. bytes ≡ all) → bytes ≡ unwrap_or spelling []
    read_is None spelling bytes e form read = let none = rw e at form in let no : false ≡ true = none in cc
    read_is (Some x) spelling bytes e form read = rw (e, read) refl
