-- The bytes that one more chunk makes.
use Rattle.std.proofs.Common.{arith, mul-le-mul_left, div-add-mod', mod-lt, ◌≡◌, ℕ, zero, suc, ◌+◌, ◌-◌, ◌*◌, ◌/◌, ◌%◌, ◌<◌, ◌≤◌, ◌⊎◌, inl, inr, Bool, true, false, cond, nat_le, nat_lt, min, List, [], ◌∷◌, ◌++◌, length, take, drop, refl, sym, ap, ◌∙◌, add-one}
use Rattle.std.proofs.lemmas.Bool.{cases_Bool, leb-true, ltb-false, ltb-true}
use Rattle.std.proofs.Math.Nat.{mul-suc}
use Rattle.std.proofs.lemmas.List.{length-drop, length-take-le, take_all, take_min}
use Rattle.std.proofs.Math.Seq.{take-add}
use Rattle.work_dir.specs.Chunks.{chunk_of}
use Rattle.work_dir.specs.declared.limits.TheConstants.{CHUNK, CHUNKS_MAX, SMALL_MAX}

-- what is left after a beginning
drop_taken : (k : ℕ) (whole : List ℕ) → drop (length (take k whole)) whole ≡ drop k whole
drop_taken zero whole = refl
drop_taken (suc k) [] = refl
drop_taken (suc k) (x ∷ whole) = drop_taken k whole

-- a beginning and the chunk after it
chunk_after : (chunk n : ℕ) (whole : List ℕ) → take (chunk * n) whole ++ take chunk (drop (chunk * n) whole) ≡ take (chunk * (n + 1)) whole
chunk_after chunk n whole = sym (take-add (chunk * n) chunk whole) ∙ ap (λ (k : ℕ). take k whole) (sym (ap (λ (m : ℕ). chunk * m) (add-one n) ∙ mul-suc chunk n))

-- a beginning with one chunk more, or with what is left
with_chunk : (chunk n from len : ℕ) (whole bytes rest : List ℕ) → bytes ≡ take (chunk * n) whole → from ≡ length bytes → rest ≡ drop from whole → len ≡ min chunk (length rest) → bytes ++ take len rest ≡ take (chunk * (n + 1)) whole
with_chunk chunk n from len whole bytes rest begun at left most =
    let left_after : rest ≡ drop (chunk * n) whole =
    left ∙ (ap (λ (k : ℕ). drop k whole) (at ∙ ap length begun) ∙ drop_taken (chunk * n) whole) in
    ap (λ (k : ℕ). bytes ++ take k rest) most
    ∙ (ap (λ (t : List ℕ). bytes ++ t) (take_min chunk rest)
    ∙ (ap (λ (t : List ℕ). t ++ take chunk rest) begun
    ∙ (ap (λ (t : List ℕ). take (chunk * n) whole ++ take chunk t) left_after
    ∙ chunk_after chunk n whole)))

-- a beginning that covers one chunk more, or what is left
pub longer_front : (chunk n covered len : ℕ) (whole : List ℕ) → take covered whole ≡ take (chunk * n) whole → covered ≤ length whole →
    len ≡ min chunk (length whole - covered) → take (covered + len) whole ≡ take (chunk * (n + 1)) whole
longer_front chunk n covered len whole begun within most =
    let size : length (take covered whole) ≡ covered = length-take-le covered whole within in
    take-add covered len whole
    ∙ with_chunk chunk n covered len whole (take covered whole) (drop covered whole) begun (sym size) refl
    (most ∙ ap (λ k. min chunk k) (sym (length-drop covered whole)))

-- so many chunks hold each file
chunks_hold : (size : ℕ) → size ≤ chunk_of size * CHUNKS_MAX
chunks_hold size = by (nat_le size SMALL_MAX) refl
  where
    by : (b : Bool) → nat_le size SMALL_MAX ≡ b → size ≤ cond b CHUNK ((size - 1) / CHUNKS_MAX + 1) * CHUNKS_MAX
    by true small = let most = leb-true size SMALL_MAX small in omega (arith, most)
    by false large =
        let parts = div-add-mod' (size - 1) CHUNKS_MAX in
        let rest : (size - 1) % CHUNKS_MAX < CHUNKS_MAX = mod-lt (size - 1) (omega arith) in
        omega (arith, parts, rest)

-- a beginning that has fewer bytes than its file has fewer chunks than a file may have
pub few_chunks : (n : ℕ) (whole bytes : List ℕ) → bytes ≡ take (chunk_of (length whole) * n) whole →
    length bytes < length whole → n < CHUNKS_MAX
few_chunks n whole bytes begun less = elim (cases_Bool (nat_lt n CHUNKS_MAX)) [
  | inl few ↦ ltb-true n CHUNKS_MAX few
  | inr many ↦
      let copied = chunk_of (length whole) * n in
      let most : chunk_of (length whole) * CHUNKS_MAX ≤ copied =
      mul-le-mul_left (chunk_of (length whole)) (ltb-false n CHUNKS_MAX many) in
      let hold = chunks_hold (length whole) in
      let all : bytes ≡ whole = begun ∙ take_all copied whole (omega (arith, hold, most)) in
      let same = ap (λ (y : List ℕ). length y) all in
      absurd (omega (arith, less, same))
]
