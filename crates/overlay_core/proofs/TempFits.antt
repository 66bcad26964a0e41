-- What the steps of a job leave: temps that are beginnings of their files, and the mount as it was.
use Rattle.std.proofs.Common.{arith, mul-zero, ◌≡◌, ℕ, ◌*◌, ◌<◌, ◌⊎◌, inl, inr, Bool, true, false, cond, nat_lt, List, [], length, take, Option, None, Some, option_map, unwrap_or, refl, sym, ap, subst}
use Rattle.std.specs.Option.{ForSome}
use Rattle.plain_model.specs.Layers.{Layer}
use Rattle.work_dir.specs.Beginnings.{Beginning, empty_beginning, longer_beginning}
use Rattle.work_dir.specs.OpenJobs.{job_at, temp_of, of_client, unless_of, of_chunks, is_of, held, closed_any, Changes, Same}
use Rattle.work_dir.specs.Chunks.{chunk_of}
use Rattle.work_dir.proofs.Chunks.{few_chunks}
use Rattle.work_dir.specs.declared.limits.TheConstants.{CHUNKS_MAX}
use Rattle.work_dir.specs.declared.next.Lack.TheVariants.{File}
use Rattle.ov_base.specs.declared.place.Place.{Place}
use Rattle.work_dir.specs.declared.table.OpenJob.{OpenJob}
use Rattle.mount_calls.specs.Lacks.{bytes_at, lack_size}
use Rattle.mount_calls.proofs.Words.{cases_eq}
use Rattle.overlay_core.specs.declared.job.Job.{Job}
use Rattle.overlay_core.specs.Steps.{begun, held_by}
use Rattle.overlay_core.specs.Temps.{AreTemps, IsTemp}

-- a job's entry, where its temp is one
abbrev pub FitsJob : List Layer → Option OpenJob → Type 0
FitsJob lowers o = ForSome (temp_of o) (IsTemp lowers)

-- where one entry changes to one whose temp is one, all temps are
pub changes-fit : (lowers : List Layer) (old new : List (Option OpenJob)) (n : ℕ) (x : Option OpenJob) →
    Changes old new n x → AreTemps lowers old → FitsJob lowers x → AreTemps lowers new
changes-fit lowers old new n x h temps fits m = by (cases_eq n m)
  where
    by : (n ≡ m) ⊎ (n ≡ m → ⊥) → FitsJob lowers (job_at new m)
    by (inl is) = subst (λ k. FitsJob lowers (job_at new k)) is (subst (FitsJob lowers) (sym h.here) fits)
    by (inr other) = subst (FitsJob lowers) (sym (h.others m (λ e. other (sym e)))) (temps m)

-- so they are where nothing changes
pub same-fit : (lowers : List Layer) (old new : List (Option OpenJob)) →
    Same old new → AreTemps lowers old → AreTemps lowers new
same-fit lowers old new same temps n = subst (FitsJob lowers) (sym (same n)) (temps n)

-- and where an entry goes that is a client's
pub unless-fits : (lowers : List Layer) (client : ℕ) (o : Option OpenJob) →
    FitsJob lowers o → FitsJob lowers (unless_of client o)
unless-fits lowers client o fits = by (is_of client o)
  where
    by : (own : Bool) → FitsJob lowers (cond own None o)
    by true = λ t e. absurd (cc)
    by false = fits

-- so where what is kept of a job goes
pub closed-fit : (lowers : List Layer) (old new : List (Option OpenJob)) (number : Option ℕ) (client : ℕ) →
    new ≡ closed_any old number client →
    ForSome number (λ n. Changes old new n (unless_of client (job_at old n))) →
    AreTemps lowers old → AreTemps lowers new
closed-fit lowers old new None client same changes temps = subst (AreTemps lowers) (sym same) temps
closed-fit lowers old new (Some n) client same changes temps =
    changes-fit lowers old new n (unless_of client (job_at old n)) (changes n refl) temps
    (unless-fits lowers client (job_at old n) (temps n))

-- so where all of a client's go
pub forgotten-fit : (lowers : List Layer) (old new : List (Option OpenJob)) (client : ℕ) →
    ((n : ℕ) → job_at new n ≡ unless_of client (job_at old n)) → AreTemps lowers old → AreTemps lowers new
forgotten-fit lowers old new client gone temps n =
    subst (FitsJob lowers) (sym (gone n)) (unless-fits lowers client (job_at old n) (temps n))

-- THE TEMP THAT A JOB HOLDS is one of those that are kept
pub held-fits : (lowers : List Layer) (work : List (Option OpenJob)) (j : Job) → AreTemps lowers work →
    ForSome (held_by work j) (IsTemp lowers)
held-fits lowers work j temps t e = by (nat_lt 0 j.begins) e
  where
    of-chunks : (o : Option Beginning) → of_chunks j.chunks o ≡ Some t → o ≡ Some t
    of-chunks None h = cc
    of-chunks (Some x) h = grind arith

    of-client : (o : Option OpenJob) → temp_of (of_client j.client o) ≡ Some t → temp_of o ≡ Some t
    of-client o h = own (is_of j.client o) h
      where
        own : (b : Bool) → temp_of (cond b o None) ≡ Some t → temp_of o ≡ Some t
        own true h = h
        own false h = cc

    counted : (n : Option ℕ) → held work n j.client j.chunks ≡ Some t → IsTemp lowers t
    counted None h = cc
    counted (Some n) h =
        temps n t (of-client (job_at work n) (of-chunks (temp_of (of_client j.client (job_at work n))) h))

    by : (b : Bool) → cond b (held work j.number j.client j.chunks) None ≡ Some t → IsTemp lowers t
    by true h = counted j.number h
    by false h = cc

-- a temp without a byte is one
pub begun-fits : (lowers : List Layer) (d : Place) (b : List ℕ) → bytes_at lowers d ≡ Some b →
    IsTemp lowers (empty_beginning d b)
begun-fits lowers d b is = (is, ap (λ n. take n b) (sym (mul-zero (chunk_of (length b)))))

-- which has the bytes that its file has
pub begun-of : (lowers : List Layer) (d : Place) (b : List ℕ) → bytes_at lowers d ≡ Some b →
    empty_beginning d b ≡ begun lowers d
begun-of lowers d b is = ap (λ o. empty_beginning d (unwrap_or o [])) (sym is)

module _ (lowers : List Layer) (t : Beginning) (fits : IsTemp lowers t) where
  -- so many bytes have its chunks
  abbrev copied : ℕ
  copied = chunk_of (length t.whole) * t.chunks

  -- with a chunk more it is one still
  pub longer-fits : IsTemp lowers (longer_beginning t)
  longer-fits = (fits.0, refl)

  -- one that has fewer bytes than its file has fewer chunks than a file may have
  pub temp-few : length t.bytes < length t.whole → t.chunks < CHUNKS_MAX
  temp-few less = few_chunks t.chunks t.whole t.bytes fits.1 less

  -- there is more to copy where the file has more bytes
  pub temp-part : length t.bytes < lack_size lowers (File t.source) → length t.bytes < length t.whole
  temp-part less = subst (λ o. length t.bytes < unwrap_or (option_map length o) 0) fits.0 less
