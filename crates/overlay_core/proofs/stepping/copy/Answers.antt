use Rattle.std.proofs.Common.{◌<◌, length, sym}
use Rattle.merged_lookup.specs.Merged.{lowers_of}
use Rattle.work_dir.specs.declared.next.Lack.TheVariants.{File}
use Rattle.mount_calls.specs.Lacks.{lack_size}
use Rattle.overlay_core.specs.Steps.{held_by}
use Rattle.overlay_core.proofs.KeptTemps.{copied-more, copies-few, lacks-more, some-and}
use Rattle.overlay_core.proofs.stepping.copy.Goals as goal

pub returns-clause-makes : goal.returns-clause-makes
returns-clause-makes g c =
    let L = lowers_of c.args.watched.now.mount.layers in
    let work = c.args.work.now in
    let j = c.args.job.now in
    let n = c.in-Some.number in
    let number = sym c.in-Some.ensures in
    let some = some-and (held_by work j) (λ t. length t.bytes < lack_size L (File t.source)) c.requires.due in
    copied-more g.R.Rule.shows c.args.watched.now work c.copy_chunk.new.self j c.copy.new.self n number some.0 some.1
    c.requires.temps c.copy_chunk.ensures.numbers
    c.copy.ensures.standing c.copy.ensures.number c.copy.ensures.counts

pub copy-requires-clause-few : goal.copy-requires-clause-few
copy-requires-clause-few g c =
    let m = c.args.watched.now in
    let L = lowers_of m.mount.layers in
    let work = c.args.work.now in
    let j = c.args.job.now in
    let some = some-and (held_by work j) (λ t. length t.bytes < lack_size L (File t.source)) c.requires.due in
    copies-few g.R.Rule.shows m work work j j c.in-Some.number (sym c.in-Some.ensures) some.0 some.1 c.requires.temps some.2

pub copy_chunk-requires : goal.copy_chunk-requires
copy_chunk-requires g c =
    let m = c.args.watched.now in
    let L = lowers_of m.mount.layers in
    let work = c.args.work.now in
    let j = c.args.job.now in
    let some = some-and (held_by work j) (λ t. length t.bytes < lack_size L (File t.source)) c.requires.due in
    lacks-more g.R.Rule.shows m work work j j c.in-Some.number (sym c.in-Some.ensures) some.0 some.1 c.requires.temps some.2
