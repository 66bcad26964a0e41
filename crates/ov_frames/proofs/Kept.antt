-- What stays of bytes behind which others are put.
use Rattle.std.proofs.Common.{◌≡◌, ℕ, ◌≤◌, List, ◌++◌, length, take, arith, refl, sym, ap, subst, ◌∙◌}
use Rattle.std.proofs.lemmas.List.{length-take, take-take, take_all, take_at}
use Rattle.ov_frames.specs.Kept.{StartsWith}

-- bytes that stayed
pub kept_all : (a b : List ℕ) → b ≡ a → StartsWith a b
kept_all a b e =
    record {
      front = subst (λ (l : List ℕ). take (length a) l ≡ a) (sym e)
          (take_all (length a) a (omega arith));
    }

-- bytes behind which others were put
pub kept_first : (a b more : List ℕ) → b ≡ a ++ more → StartsWith a b
kept_first a b more e =
    record {
      front = subst (λ (l : List ℕ). take (length a) l ≡ a) (sym e)
          (take_at a more (length a) refl);
    }

-- step after step
pub kept_then : {a b c : List ℕ} → StartsWith a b → StartsWith b c → StartsWith a c
kept_then {a} {b} {c} h k =
    let short : length a ≤ length b = omega (arith, ap length h.front, length-take (length a) b) in
    record {
      front = sym (take-take (length a) (length b) c short) ∙ ap (take (length a)) k.front
          ∙ h.front;
    }
