use Rattle.std.proofs.Common.{[], sym, ap, ◌∙◌, unwrap_or}
use Rattle.merged_lookup.specs.Lower.{lower_bytes}
use Rattle.merged_lookup.specs.Merged.{upper_of, lowers_of}
use Rattle.mount_calls.specs.Files.{seen_inode, source_inode}
use Rattle.mount_calls.proofs.Marks.{kept-bytes}
use Rattle.mount_calls.proofs.files.bytes_in.Goals as goal

pub returns-in-Some : goal.returns-in-Some
returns-in-Some c = λ i h.
    let l = c.args.layers.now in
    ap (λ o. unwrap_or o []) c.low_bytes.ensures
    ∙ kept-bytes (unwrap_or (lower_bytes (lowers_of l) c.in-Some.low) []) (source_inode (upper_of l) (lowers_of l) c.args.file.source) i
    (sym (ap (seen_inode (upper_of l) (lowers_of l) c.args.file.source) c.in-Some.is) ∙ h)

pub returns-in-None : goal.returns-in-None
returns-in-None c = λ i h. c.bytes_now.ensures i (sym (ap (seen_inode (upper_of c.args.layers.now) (lowers_of c.args.layers.now) c.args.file.source) c.in-None.is) ∙ h)
