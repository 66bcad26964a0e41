-- What stands at the places that the layers show.
use Rattle.std.proofs.Common.{◌≡◌, List, None, Result, refl}
use Rattle.merged_lookup.specs.Marking.{inode_over}
use Rattle.mount_calls.proofs.Words.{Errno, Layer, Layers, layers_of, Path, Place, shows, ShowsInode, Stat}
use Rattle.merged_lookup.specs.Merged.{walk_fault}
use Rattle.mount_calls.specs.Status.{stat_at, stat_shown, stat_of_inode}
use Rattle.mount_calls.proofs.Marks.{over-shown}

-- What stat shows of a file or symbolic link that is found.
pub stat-inode : (l : Layers) (p : Path) (d : Place) → ShowsInode l p d → stat_shown (shows 0 (layers_of l) p) ≡ stat_of_inode (inode_over l d)
stat-inode l p d i =
    let same : inode_over l d ≡ i.inode = over-shown l p d i.inode i.shown in
    rw (i.shown, ← same) refl

-- The answer where the walk isn't refused.
pub stat-found : (Ls : List Layer) (p : Path) (r : Result Stat Errno) → walk_fault Ls p ≡ None → stat_shown (shows 0 Ls p) ≡ r → r ≡ stat_at Ls p
stat-found Ls p r none e = rw (none, e) refl
