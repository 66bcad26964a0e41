use Rattle.ov_frames.proofs.Kept.{kept_first, kept_then}
use Rattle.ov_frames.proofs.writing.put_list.Goals as goal

pub returns-in_err-put-clause-kept : goal.returns-in_err-put-clause-kept
returns-in_err-put-clause-kept g c =
    kept_then (kept_first _ _ _ c.loop-item.invariant) c.put.ensures.kept
