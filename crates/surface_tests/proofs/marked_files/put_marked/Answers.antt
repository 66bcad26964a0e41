use Rattle.std.proofs.Common.{[], refl}
use Rattle.surface_tests.proofs.marked_files.put_marked.Goals as goal
use Rattle.surface_tests.proofs.marked_files.put_marked.Goals.{in-Ok, in-Err}

pub returns : goal.returns
returns g c = record {
  layer = elim c.match-insert.branch [
    | in-Ok w ↦ rw w.result-is (c.insert.ensures.keeps [] refl c.requires.layer)
    | in-Err w ↦ rw w.result-is tt
  ];
}
