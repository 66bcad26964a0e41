use Rattle.std.proofs.Common.{◌≡◌, ℕ, List, sym, ap, ◌∙◌, is_ok, if◌then◌else◌}
use Rattle.ov_base.specs.declared.bytes.Content.TheVariants as content
use Rattle.layer_tree.specs.Tree.{file_bytes, written}
use Rattle.layer_tree.proofs.Walks.{unwrapped}
use Rattle.layer_tree.proofs.file_write.write_content.Goals as goal

pub returns-clause-wrote : goal.returns-clause-wrote
returns-clause-wrote c old is =
    let same : c.in-File.file ≡ old = unwrapped c.in-File.file old (sym (ap file_bytes c.in-File.is) ∙ is) in
    let bytes : List ℕ → List ℕ = λ (x : List ℕ). if is_ok c.lay_over.result then written x c.args.start c.args.bytes.now else x in
    ap content.File (c.lay_over.ensures ∙ ap bytes same)
