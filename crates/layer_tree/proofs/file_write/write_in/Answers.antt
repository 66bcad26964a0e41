use Rattle.std.proofs.Common.{ℕ, List, sym, ap, ◌∙◌, is_ok, if◌then◌else◌}
use Rattle.layer_tree.specs.Tree.{written}
use Rattle.layer_tree.specs.Change.{node_own, with_file}
use Rattle.layer_tree.proofs.Writing.{own_node}
use Rattle.layer_tree.proofs.file_write.write_in.Goals as goal

pub returns-clause-wrote : goal.returns-clause-wrote
returns-clause-wrote c old is =
    let bytes : List ℕ = if is_ok c.write_content.result then written old c.args.start c.args.bytes.now else old in
    own_node c.in-Inode.inode c.write_content.new.content old bytes (sym (ap node_own c.in-Inode.is) ∙ is) (c.write_content.ensures.wrote old)
    ∙ ap (with_file bytes) (sym c.in-Inode.is)
