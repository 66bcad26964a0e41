use Rattle.std.proofs.Common.{◌≡◌, ◌≤◌, ℕ, List, length, sym, ap, subst, ◌∙◌, is_ok, if◌then◌else◌}
use Rattle.ov_base.specs.declared.bytes.Content.TheVariants as content
use Rattle.plain_model.specs.Changes.{sized}
use Rattle.layer_tree.specs.Tree.{file_bytes}
use Rattle.layer_tree.proofs.Walks.{unwrapped}
use Rattle.layer_tree.proofs.file_size.resize_content.Goals as goal

pub returns-clause-sized : goal.returns-clause-sized
returns-clause-sized c old is =
    let same : c.in-File.file ≡ old = unwrapped c.in-File.file old (sym (ap file_bytes c.in-File.is) ∙ is) in
    let bytes : List ℕ → List ℕ = λ (x : List ℕ). if is_ok c.resize.result then sized x c.args.size else x in
    ap content.File (c.resize.ensures.sized ∙ ap bytes same)

pub returns-clause-succeeds : goal.returns-clause-succeeds
returns-clause-succeeds c old is cut =
    let same : c.in-File.file ≡ old = unwrapped c.in-File.file old (sym (ap file_bytes c.in-File.is) ∙ is) in
    c.resize.ensures.succeeds (subst (λ (x : List ℕ). c.args.size ≤ length x) (sym same) cut)
