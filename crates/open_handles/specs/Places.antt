-- The places in an open file where a seek, a read and a write begin (lseek(2), write(2); POSIX.1-2017, open, O_APPEND).
use Rattle.std.specs.Prelude.{◌≡◌, ℕ, ◌-◌, ℤ, pos, ◌+ℤ◌, int_lt, nat_abs, not, cond, ◌&&◌, min, nat_eq, nat_lt}
use Rattle.std.specs.Prelude.{List, length, take, Option, Some, Result, Ok, Err}
use Rattle.ov_base.specs.declared.errno.Errno.{Errno}
use Rattle.ov_base.specs.declared.errno.Errno.TheVariants.{EINVAL, EFBIG, EOVERFLOW}
use Rattle.plain_model.specs.Tree.{Tree}
use Rattle.plain_model.specs.Machine.{Handle, place_of, bytes_of, bytes_of_node, seek_base, write_place}
use Rattle.plain_model.specs.Changes.{fitting}
use Rattle.plain_model.specs.Refusals.{PLACE_MAX}
use Rattle.open_handles.specs.declared.open_file.OpenFile.{OpenFile}

-- where a seek leads from a base: over the greatest place is EOVERFLOW, before the start EINVAL
abbrev pub sought_from : ℕ → ℤ → Result ℕ Errno
sought_from base offset =
    cond (int_lt PLACE_MAX (pos base +ℤ offset)) (Err EOVERFLOW)
    (cond (int_lt (pos base +ℤ offset) (pos 0)) (Err EINVAL) (Ok (nat_abs (pos base +ℤ offset))))

-- from where a seek counts: the start, the place, or the end; another whence is EINVAL
abbrev pub base_of : ℕ → ℕ → ℕ → Result ℕ Errno
base_of place size whence = cond (nat_lt 2 whence) (Err EINVAL) (Ok (cond (nat_eq whence 0) 0 (cond (nat_eq whence 1) place size)))

-- the machine's seek counts from there, for each of its handles that has this place and reads so many bytes
abbrev pub IsSeekBase : ℕ → ℕ → ℕ → ℕ → Type 0
IsSeekBase place size whence base =
    (t : Tree) (h : Option Handle) → place_of h ≡ place → length (bytes_of t h) ≡ size → base ≡ seek_base t h whence

-- where a write to a file of so many bytes begins
abbrev pub write_begin : OpenFile → ℕ → ℕ
write_begin f size = cond f.append size f.place

-- the machine's write begins there, for each of its handles that has this place and access to a file of so many bytes
abbrev pub IsWritePlace : OpenFile → ℕ → ℕ → Type 0
IsWritePlace f size at =
    (t : Tree) (h : Handle) → h.append ≡ f.append → h.place ≡ f.place → length (bytes_of_node (t h.node)) ≡ size
    → at ≡ write_place t (Some h)

-- how many of so many bytes fit into a file from a place on; where none fits, any are EFBIG
abbrev pub count_fitting : ℕ → ℕ → ℕ → Result ℕ Errno
count_fitting limit at count = cond (nat_lt 0 count && not (nat_lt at limit)) (Err EFBIG) (Ok (min (limit - at) count))

-- these are as many as the machine writes, whatever so many bytes are
abbrev pub AreFitting : ℕ → ℕ → ℕ → ℕ → Type 0
AreFitting limit at count n = (bytes : List ℕ) → length bytes ≡ count → take n bytes ≡ fitting limit at bytes
