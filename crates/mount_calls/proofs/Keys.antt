-- What was seen at a path, and under which key the upper has what a path shows once a call brought it there.
use Rattle.std.proofs.Common.{◌≡◌, ◌⊎◌, inl, inr, ℕ, Bool, true, false, Option, Some, sym, ap, ◌∙◌}
use Rattle.std.proofs.lemmas.Bool.{cases_Bool}
use Rattle.ov_base.specs.declared.redirect.Redirect.{Redirect}
use Rattle.plain_model.specs.Layers.{Path, Contents, Folder, Named, base, held, over, through}
use Rattle.layer_tree.specs.Tree.{SameObjects}
use Rattle.merged_lookup.specs.declared.layers.Layers.{Layers}
use Rattle.merged_lookup.specs.Merged.{upper_of, lowers_of}
use Rattle.rename_redirect.specs.Renaming.{HasMarks, Moves, MovesMarks}
use Rattle.rename_redirect.specs.Judging.{IsSeen}
use Rattle.mount_calls.specs.declared.look.Look.{Look}
use Rattle.mount_calls.specs.Looking.{IsKeyAt, IsLook}

-- a look is what was seen
pub look-seen : (l : Layers) (p : Path) (look : Look) → IsLook l p look → IsSeen l p look.shown
look-seen l p look h = record { refused = h.refused; way = h.way; directory = h.directory; top = h.top }

-- what the upper names at a path is what is shown there
pub named-key : (l : Layers) (p : Path) (k : ℕ) → held (upper_of l) p ≡ Some (Named k) → IsKeyAt l p k
named-key l p k h j last is =
    let z : Some (Contents 0 k ((upper_of l).inodes k)) ≡ Some (Contents 0 j (Some is.inode)) = sym (ap (λ o. over 0 (upper_of l).inodes o (through (upper_of l) (lowers_of l) p)) h) ∙ is.shown in
    cc

-- where the upper has a directory no file is shown
marks-key : (l : Layers) (p : Path) (opaque : Bool) (r : Option Redirect) (k : ℕ) → HasMarks (upper_of l) p opaque r → IsKeyAt l p k
marks-key l p opaque r k (i, a, h) j last is =
    let z : Some (Folder 0 i a) ≡ Some (Contents 0 j (Some is.inode)) = sym (ap (λ o. over 0 (upper_of l).inodes o (through (upper_of l) (lowers_of l) p)) h) ∙ is.shown in
    absurd (cc)

-- so it is where a directory moved, also once what was replaced is freed
pub folder-key : (a b c : Layers) (metacopy : Bool) (p q : Path) (released : Option ℕ) (k : ℕ) → Moves a b metacopy p q true released → SameObjects (upper_of b) (upper_of c) → IsKeyAt c q k
folder-key a b c metacopy p q released k m same = by (cases_Bool (base (upper_of a) (lowers_of a) p))
  where
    marks : MovesMarks a b p q
    marks = m.over.marks m.kind

    still : (opaque : Bool) (r : Option Redirect) → HasMarks (upper_of b) q opaque r → IsKeyAt c q k
    still opaque r (i, x, h) = marks-key c q opaque r k (i, x, same q ∙ h)

    by : (base (upper_of a) (lowers_of a) p ≡ true) ⊎ (base (upper_of a) (lowers_of a) p ≡ false) → IsKeyAt c q k
    by (inl h) = still _ _ (marks.when_base h)
    by (inr h) = still _ _ (marks.when_not h)
