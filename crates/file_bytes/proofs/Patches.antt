-- Bytes that are laid over a part of others, as a stretch of which a part was written has them.
use Rattle.std.proofs.Common.{◌≡◌, ℕ, ◌+◌, ◌-◌, ◌<◌, ◌≤◌, List, [], ◌++◌, length, take, drop}
use Rattle.std.proofs.Common.{append-nil, append_assoc, length-append, length-take, length-drop}
use Rattle.std.proofs.Common.{sym, ap, ◌∙◌, refl, inl, inr, arith}
use Rattle.std.proofs.lemmas.Bool.{cases_lt}
use Rattle.std.proofs.lemmas.List.{take-append-le, drop-append-le, take_all, drop_all, take_at}
use Rattle.std.proofs.lemmas.List.{drop-drop, length-take-le, take-take, drop-take}
use Rattle.file_bytes.specs.Bytes.{over}
use Rattle.file_bytes.proofs.Lists.{drop_past, take_past, over_middle, over_none, length-over}

-- how many bytes there are up to the end of those that were laid
length_front : (u own : List ℕ) (at : ℕ) → at ≤ length u →
    length (take at u ++ own) ≡ at + length own
length_front u own at within =
    omega (arith, length-append (take at u) own, length-take-le at u within)

-- what lies past the bytes that were laid
pub over_past : (u own : List ℕ) (at n : ℕ) → at ≤ length u → at + length own ≤ n →
    drop n (over u at own) ≡ drop n u
over_past u own at n within past =
    let front : length (take at u ++ own) ≡ at + length own = length_front u own at within in
    let more : ℕ = n - (at + length own) in
    drop_past (take at u ++ own) (drop (at + length own) u) n more (omega arith)
    ∙ drop-drop more (at + length own) u
    ∙ ap (λ k. drop k u) (omega arith)

-- what lies before a place in the bytes that were laid, or at their end
pub take_laid : (u own : List ℕ) (at n from : ℕ) → at ≤ length u → n ≡ at + from →
    from ≤ length own → take n (over u at own) ≡ take at u ++ take from own
take_laid u own at n from within is fits =
    let front : length (take at u ++ own) ≡ at + length own = length_front u own at within in
    take-append-le n (take at u ++ own) (drop (at + length own) u) (omega arith)
    ∙ take_past (take at u) own n from (omega (arith, length-take-le at u within))

-- bytes laid over those that were laid
pub laid_again : (u own new : List ℕ) (at n from : ℕ) → at ≤ length u → n ≡ at + from →
    from ≤ length own → over (over u at own) n new ≡ over u at (over own from new)
laid_again u own new at n from within is fits =
    let before : List ℕ = take from own in
    let end : ℕ = n + length new in
    elim (cases_lt (length own) (from + length new)) [
      | inr room ↦
          let same : length own ≡ length (over own from new) =
          omega (arith, length-over own new from fits) in
          over_middle (take at u) own (drop (at + length own) u) new n from
          (omega (arith, length-take-le at u within)) fits (inl room)
          ∙ ap (λ k. take at u ++ over own from new ++ drop (at + k) u) same
      | inl more ↦
          let short : over own from new ≡ before ++ new =
          ap (λ x. before ++ new ++ x) (drop_all (from + length new) own (omega arith))
          ∙ append-nil (before ++ new) in
          let many : length (before ++ new) ≡ from + length new =
          omega (arith, length-append before new, length-take-le from own fits) in
          ap (λ x. x ++ new ++ drop end (over u at own)) (take_laid u own at n from within is fits)
          ∙ ap (λ x. take at u ++ before ++ new ++ x) (over_past u own at end within (omega arith))
          ∙ ap (λ x. x ++ drop end u) (append_assoc (take at u) before new)
          ∙ ap (λ k. take at u ++ (before ++ new) ++ drop k u) (omega arith)
          ∙ ap (λ x. over u at x) (sym short)
    ]

-- a cut before the bytes that were laid
cut_before : (u own none : List ℕ) (at c : ℕ) → at ≤ length u → c ≤ at → length none ≡ 0 →
    over (take c u) c none ≡ take c (over u at own)
cut_before u own none at c within before is =
    let rest : List ℕ = drop (at + length own) u in
    over_none (take c u) none c is
    ∙ sym (ap (take c) (append_assoc (take at u) own rest)
    ∙ take-append-le c (take at u) (own ++ rest) (omega (arith, length-take-le at u within))
    ∙ take-take c at u before)

-- a cut in them
cut_inside : (u own : List ℕ) (at c k : ℕ) → at ≤ length u → at ≤ c → c ≤ at + length own →
    at ≤ k → k ≤ c → over (take k u) at (take (c - at) own) ≡ take c (over u at own)
cut_inside u own at c k within past fits above below =
    let kept : List ℕ = take (c - at) own in
    let long : length kept ≡ c - at = length-take-le (c - at) own (omega arith) in
    let nothing : drop (at + length kept) (take k u) ≡ [] =
    drop_all (at + length kept) (take k u) (omega (arith, length-take k u)) in
    ap (λ x. x ++ kept ++ drop (at + length kept) (take k u)) (take-take at k u above)
    ∙ ap (λ x. take at u ++ kept ++ x) nothing
    ∙ append-nil (take at u ++ kept)
    ∙ sym (take_laid u own at c (c - at) within (omega arith) (omega arith))

-- a cut behind them
cut_behind : (u own : List ℕ) (at c : ℕ) → at ≤ length u → at + length own ≤ c → c ≤ length u →
    over (take c u) at own ≡ take c (over u at own)
cut_behind u own at c within past fits =
    let end : ℕ = at + length own in
    let front : length (take at u ++ own) ≡ end = length_front u own at within in
    ap (λ x. x ++ own ++ drop end (take c u)) (take-take at c u (omega arith))
    ∙ ap (λ k. take at u ++ own ++ drop end (take k u)) (omega arith)
    ∙ ap (λ x. take at u ++ own ++ x) (drop-take end (c - end) u)
    ∙ sym (take_past (take at u ++ own) (drop end u) c (c - end) (omega arith))

-- a cut in them or behind them
cut_past : (u own : List ℕ) (at c k : ℕ) → at ≤ length u → at < c →
    c ≤ length u + ((at + length own) - length u) → (length u ≤ c → k ≡ length u) →
    (c ≤ length u → k ≡ c) → over (take k u) at (take (c - at) own) ≡ take c (over u at own)
cut_past u own at c k within past fits all cut =
    elim (cases_lt (at + length own) c) [
      | inr inside ↦ elim (cases_lt c (length u)) [
        | inl less ↦
            let same : k ≡ c = cut (omega arith) in
            cut_inside u own at c k within (omega arith) inside (omega arith) (omega arith)
        | inr more ↦
            let same : k ≡ length u = all more in
            cut_inside u own at c k within (omega arith) inside (omega arith) (omega arith)
      ]
      | inl behind ↦
          let same : k ≡ c = cut (omega arith) in
          ap (λ x. over (take k u) at x) (take_all (c - at) own (omega arith))
          ∙ ap (λ n. over (take n u) at own) same
          ∙ cut_behind u own at c within (omega arith) (omega arith)
    ]

-- a cut, where m is the place or less and k the length or less
pub cut_laid : (u own : List ℕ) (at c m k : ℕ) → at ≤ length u → c ≤ length (over u at own) →
    (at ≤ c → m ≡ at) → (c ≤ at → m ≡ c) → (length u ≤ c → k ≡ length u) →
    (c ≤ length u → k ≡ c) → over (take k u) m (take (c - m) own) ≡ take c (over u at own)
cut_laid u own at c m k within fits start start_cut all cut =
    let none : List ℕ = take (c - m) own in
    elim (cases_lt at c) [
      | inr before ↦
          let is : m ≡ c = start_cut before in
          let same : k ≡ c = cut (omega arith) in
          ap (λ n. over (take n u) m none) same
          ∙ ap (λ n. over (take c u) n none) is
          ∙ cut_before u own none at c within before (omega (arith, length-take (c - m) own))
      | inl past ↦
          let is : m ≡ at = start (omega arith) in
          ap (λ n. over (take k u) n (take (c - n) own)) is
          ∙ cut_past u own at c k within past (omega (arith, length-over u own at within)) all cut
    ]

-- bytes that others begin with
begins : (x y all : List ℕ) → all ≡ x ++ y → x ≡ take (length x) all
begins x y all is = sym (ap (take (length x)) is ∙ take_at x y (length x) refl)

-- the bytes before those that were laid, from a place on
pub slice_before : (u own all : List ℕ) (at n : ℕ) → at ≤ length u → n < at →
    over u at own ≡ all →
    take (at - n) (drop n u) ≡ take (length (take (at - n) (drop n u))) (drop n all)
slice_before u own all at n within before view =
    let rest : List ℕ = own ++ drop (at + length own) u in
    let is : drop n (take at u) ≡ take (at - n) (drop n u) =
    ap (λ k. drop n (take k u)) (omega arith) ∙ drop-take n (at - n) u in
    begins (take (at - n) (drop n u)) rest (drop n all)
    (ap (drop n) (sym view ∙ append_assoc (take at u) own (drop (at + length own) u))
    ∙ drop-append-le n (take at u) rest (omega (arith, length-take-le at u within))
    ∙ ap (λ x. x ++ rest) is)

-- those that were laid, from a place on
pub slice_laid : (u own all : List ℕ) (at n from : ℕ) → at ≤ length u → n ≡ at + from →
    from ≤ length own → over u at own ≡ all →
    take (length own - from) (drop from own)
    ≡ take (length (take (length own - from) (drop from own))) (drop n all)
slice_laid u own all at n from within is fits view =
    let d : List ℕ = drop (at + length own) u in
    let slice : List ℕ = take (length own - from) (drop from own) in
    let whole : slice ≡ drop from own =
    take_all (length own - from) (drop from own) (omega (arith, length-drop from own)) in
    begins slice d (drop n all)
    (ap (drop n) (sym view ∙ append_assoc (take at u) own d)
    ∙ drop_past (take at u) (own ++ d) n from (omega (arith, length-take-le at u within))
    ∙ drop-append-le from own d fits
    ∙ ap (λ x. x ++ d) (sym whole))

-- those behind them, from a place on
pub slice_behind : (u own all : List ℕ) (at n : ℕ) → at ≤ length u → at + length own ≤ n →
    over u at own ≡ all →
    take (length u - n) (drop n u) ≡ take (length (take (length u - n) (drop n u))) (drop n all)
slice_behind u own all at n within past view =
    let slice : List ℕ = take (length u - n) (drop n u) in
    let whole : slice ≡ drop n u =
    take_all (length u - n) (drop n u) (omega (arith, length-drop n u)) in
    begins slice [] (drop n all)
    (ap (drop n) (sym view)
    ∙ over_past u own at n within past
    ∙ sym whole
    ∙ sym (append-nil slice))
