use Rattle.std.proofs.Common.{◌≡◌, ◌+◌, ◌++◌, drop, length, sum}
use Rattle.ov_embedded.specs.Mounting.{pieces_of}
use Rattle.ov_embedded.proofs.manifest.blobs_in.Given as goal

-- what is taken, with the parts that the rest is to give, are those of all, and so are their lengths
abbrev pub invariant-loop-length : goal.invariant-loop-length
invariant-loop-length l =
    record {
      parts : l.blobs.items ++ pieces_of (drop l.length-index l.lengths) l.rest
          ≡ pieces_of l.lengths l.bytes;
      lengths : sum l.lengths + length l.rest
          ≡ sum (drop l.length-index l.lengths) + length l.bytes;
    }
