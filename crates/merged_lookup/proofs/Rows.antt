-- What a row of cursors spells with one more.
use Rattle.std.proofs.Common.{◌≡◌, ℕ, zero, suc, ◌-◌, ◌<◌, ◌≤◌, ◌∷◌, [], ◌++◌, List, refl, ap, ◌∙◌, length, drop, set, arith}
use Rattle.merged_lookup.specs.declared.cursor.Cursor.{Cursor}
use Rattle.merged_lookup.specs.Passing.{pass}
use Rattle.merged_lookup.specs.Cursors.{spelled}

drop-set : (cs : List Cursor) (i : ℕ) (c : Cursor) → i < length cs → drop i (set cs i c) ≡ c ∷ drop (suc i) cs
drop-set [] i c h = absurd (omega (arith, h))
drop-set (d ∷ cs) zero c h = refl
drop-set (d ∷ cs) (suc i) c h = drop-set cs i c (omega (arith, h))

-- a cursor written before the first of a row
pub spelled-below : (cs : List Cursor) (first : ℕ) (c : Cursor) → 0 < first → first ≤ length cs → spelled (drop (first - 1) (set cs (first - 1) c)) ≡ c.names.now ++ pass c.layer.now c.dir (spelled (drop first cs))
spelled-below cs first c h k =
    let less : first - 1 < length cs = omega arith in
    let next : suc (first - 1) ≡ first = omega arith in
    ap spelled (drop-set cs (first - 1) c less) ∙ ap (λ j. c.names.now ++ pass c.layer.now c.dir (spelled (drop j cs))) next
