-- Beginnings of lower files.
use Rattle.std.specs.Prelude.{◌≡◌, ℕ, ◌+◌, ◌*◌, Bool, ◌&&◌, List, [], length, take, nat_eq, nat_le}
use Rattle.work_dir.specs.Chunks.{chunk_of}
use Rattle.ov_base.specs.declared.place.Place.{Place}

-- some bytes of a lower file, which were copied in so many chunks, and all that the file has
pub record Beginning : Type 0 where
  pub source : Place
  pub whole : List ℕ
  pub chunks : ℕ
  pub bytes : List ℕ

-- they are the file's first bytes, as many as the chunks hold
abbrev pub IsBeginning : Beginning → Type 0
IsBeginning t = t.bytes ≡ take (chunk_of (length t.whole) * t.chunks) t.whole

-- no bytes yet of a file of these
abbrev pub empty_beginning : Place → List ℕ → Beginning
empty_beginning source whole = record { source = source; whole = whole; chunks = 0; bytes = [] }

-- the beginning with one chunk more of its file, or what was left of it
abbrev pub longer_beginning : Beginning → Beginning
longer_beginning t = record t {
  chunks = t.chunks + 1;
  bytes = take (chunk_of (length t.whole) * (t.chunks + 1)) t.whole;
}

-- whether they are all bytes of a file that has so many
abbrev pub is_whole : Beginning → ℕ → Bool
is_whole t size = nat_le size (length t.bytes)

-- whether they are bytes of this file
abbrev pub is_from : Place → Beginning → Bool
is_from d t = nat_eq t.source.layer d.layer && nat_eq t.source.key d.key
