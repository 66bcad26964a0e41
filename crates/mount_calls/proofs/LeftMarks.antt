-- Which marks, redirects and whiteouts a call leaves in the upper.
use Rattle.std.proofs.Common.{◌≡◌, ℕ, Bool, true, false, [], ◌∷◌, Option, Result, Ok, Err, refl, ◌∙◌}
use Rattle.std.specs.Prelude.{IsErr}
use Rattle.std.specs.declared.alloc.AllocError.{AllocError}
use Rattle.ov_base.specs.Calls.{Call}
use Rattle.ov_base.specs.declared.errno.Errno.{Errno}
use Rattle.ov_base.specs.declared.redirect.Redirect.{Redirect}
use Rattle.ov_base.specs.declared.reply.Reply.{Reply}
use Rattle.ov_base.specs.declared.reply.Reply.TheVariants.{Done, Refused}
use Rattle.plain_model.specs.Laws as laws
use Rattle.plain_model.specs.Layers.{Layer, Path}
use Rattle.layer_tree.specs.Tree.{SameObjects}
use Rattle.merged_lookup.specs.declared.layers.Layers.{Layers}
use Rattle.merged_lookup.specs.Merged.{upper_of, lowers_of}
use Rattle.make_remove.specs.Removing.{left_at}
use Rattle.rename_redirect.specs.Renaming.{HasMarks, Moves, MovesMarks}
use Rattle.mount_calls.specs.LeftMarks.{LeavesMarks, LeavesMoved, MarksIfDone}

-- what stands where a name went is told of the upper and the lower layers, or of both at once
left-same : (l : Layers) (p : Path) → laws.left_at (upper_of l) (lowers_of l) p ≡ left_at l p
left-same l [] = refl
left-same l (n ∷ p) = refl

-- a layer that holds the same has the same marks
marks-same : (U V : Layer) (p : Path) (opaque : Bool) (r : Option Redirect) → SameObjects U V → HasMarks U p opaque r → HasMarks V p opaque r
marks-same U V p opaque r same marks = (marks.0, marks.1, same p ∙ marks.2)

-- what moved has its marks once what lost its last name is freed
pub moved-marks : (a b c : Layers) (low : Bool) (p q : Path) (directory : Bool) (released : Option ℕ) → Moves a b low p q directory released →
    SameObjects (upper_of b) (upper_of c) → LeavesMoved a c p q
moved-marks a b c low p q directory released moves same = record {
  left = same p ∙ moves.over.left ∙ left-same a p;
  marks = λ folder.
      let there : MovesMarks a b p q = moves.over.marks folder in
      record {
        when_base = λ is. marks-same (upper_of b) (upper_of c) q _ _ same (there.when_base is);
        when_not = λ is. marks-same (upper_of b) (upper_of c) q _ _ same (there.when_not is);
      };
}

-- nothing is told where memory ran out
pub wanted-marks : (k : Call) (old new : Layers) (result : Result Reply AllocError) → IsErr result → MarksIfDone k old new result
wanted-marks k old new (Ok r) wrong = let no : false ≡ true = wrong in absurd (cc)
wanted-marks k old new (Err e) wrong = tt

-- nor of any call that leaves none, whatever came of it
pub marks-none : (k : Call) (old new : Layers) → LeavesMarks k old new → (result : Result Reply AllocError) → MarksIfDone k old new result
marks-none k old new marks (Ok r) = λ is. marks
marks-none k old new marks (Err e) = tt
