use Rattle.std.proofs.Common.{[], sym, ap, ◌∙◌, unwrap_or}
use Rattle.std.specs.Option.{option_and_then}
use Rattle.std.specs.Prelude.{option_copied, option_map}
use Rattle.layer_tree.specs.Tree.{inode_of}
use Rattle.merged_lookup.specs.Lower.{lower_bytes}
use Rattle.merged_lookup.specs.Marking.{inode_over}
use Rattle.merged_lookup.specs.Merged.{trees, node_in, upper_of, lowers_of}
use Rattle.mount_calls.specs.Files.{seen_inode, with_file}
use Rattle.mount_calls.specs.Status.{stat_of_inode}
use Rattle.mount_calls.proofs.Marks.{source-kept, source-over}
use Rattle.mount_calls.proofs.files.status_in.Goals as goal

pub returns-in-Some : goal.returns-in-Some
returns-in-Some c = λ i h.
    let l = c.args.layers.now in
    let bytes = unwrap_or (lower_bytes (lowers_of l) c.in-Some.low) [] in
    c.sized_status.ensures
    ∙ ap (λ o. stat_of_inode (option_map (with_file (unwrap_or (option_copied c.low_bytes.result) [])) (option_and_then inode_of o))) c.node.ensures
    ∙ ap (λ b. stat_of_inode (option_map (with_file (unwrap_or b [])) (option_and_then inode_of (node_in (trees l) c.place_of-place.result)))) c.low_bytes.ensures
    ∙ ap (λ d. stat_of_inode (option_map (with_file bytes) (option_and_then inode_of (node_in (trees l) d)))) c.place_of-place.ensures
    ∙ ap stat_of_inode (source-kept l c.args.file.source bytes i (sym (ap (seen_inode (upper_of l) (lowers_of l) c.args.file.source) c.in-Some.is) ∙ h))

pub returns-in-None : goal.returns-in-None
returns-in-None c = λ i h.
    let l = c.args.layers.now in
    c.inode_status.ensures
    ∙ ap (λ d. stat_of_inode (inode_over l d)) c.place_of-place.ensures
    ∙ ap stat_of_inode (source-over l c.args.file.source i (sym (ap (seen_inode (upper_of l) (lowers_of l) c.args.file.source) c.in-None.is) ∙ h))
