use Rattle.std.proofs.Common.{◌≡◌, ◌+◌, ◌*◌, ◌-◌, List, ℕ, length, take, min, ap, sym, subst, ◌∙◌, rules}
use Rattle.work_dir.specs.Chunks.{chunk_of}
use Rattle.work_dir.specs.Beginnings.{Beginning, IsBeginning, longer_beginning}
use Rattle.work_dir.proofs.Chunks.{few_chunks, longer_front}
use Rattle.work_dir.proofs.temp.Temp.copy_chunk.Goals as goal

pub returns-clause-longer : goal.returns-clause-longer
returns-clause-longer c =
    let t = c.self.inside in
    let whole : List ℕ = t.whole in
    let chunk = chunk_of (length whole) in
    let longer : List ℕ → Beginning = λ bytes. record { source = t.source; whole = t.whole; chunks = t.chunks + 1; bytes = bytes } in
    let begun : take t.covered whole ≡ take (chunk * t.chunks) whole =
    subst (λ (b : Beginning). IsBeginning b) (sym c.self.view_is) c.requires.begun in
    let most : c.min-count.result ≡ min chunk (length whole - t.covered) = search rules in
    ap longer (longer_front chunk t.chunks t.covered c.min-count.result whole begun c.self.invariant most)
    ∙ ap longer_beginning c.self.view_is

pub returns-clause-few : goal.returns-clause-few
returns-clause-few c =
    let t = c.args.self.now in
    few_chunks t.chunks t.whole t.bytes c.requires.begun c.requires.more
