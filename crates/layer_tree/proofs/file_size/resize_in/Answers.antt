use Rattle.std.proofs.Common.{ℕ, List, sym, ap, ◌∙◌, is_ok, if◌then◌else◌}
use Rattle.plain_model.specs.Changes.{sized}
use Rattle.layer_tree.specs.Change.{node_own, with_file}
use Rattle.layer_tree.proofs.Writing.{own_bytes, own_node}
use Rattle.layer_tree.proofs.file_size.resize_in.Goals as goal

pub returns-clause-sized : goal.returns-clause-sized
returns-clause-sized c old is =
    let bytes : List ℕ = if is_ok c.resize_content.result then sized old c.args.size else old in
    own_node c.in-Inode.inode c.resize_content.new.content old bytes (sym (ap node_own c.in-Inode.is) ∙ is) (c.resize_content.ensures.sized old)
    ∙ ap (with_file bytes) (sym c.in-Inode.is)

pub returns-clause-succeeds : goal.returns-clause-succeeds
returns-clause-succeeds c old is = c.resize_content.ensures.succeeds old (own_bytes c.in-Inode.inode old (sym (ap node_own c.in-Inode.is) ∙ is))
