-- The values of replies that are read are those that were written, and what was written is read
-- again.
use Rattle.std.proofs.Common.{◌≡◌, ℕ, zero, suc, ◌<◌, ◌^◌, List, [], ◌∷◌, ◌++◌, length, Option, Some, None, Result, Ok, refl, sym, ap, subst, ◌∙◌, append_assoc, arith}
use Rattle.std.specs.Prelude.{nat_eq, unwrap_or}
use Rattle.std.specs.Int.{w16, w32, to_be_bytes}
use Rattle.std.specs.List.{AllByRecursion, flat_map}
use Rattle.std.proofs.lemmas.Bool.{eqb-true}
use Rattle.ov_base.specs.Errnos.{number_of}
use Rattle.ov_base.specs.declared.errno.Errno.{Errno}
use Rattle.ov_base.specs.declared.errno.Errno.TheVariants.{EPERM, ENOENT, EBADF, ENOMEM, EBUSY, EEXIST, EXDEV, ENOTDIR, EISDIR, EINVAL, ENFILE, EMFILE, EFBIG, ENOSPC, EROFS, ENAMETOOLONG, ENOTEMPTY, ELOOP, ENODATA, EOVERFLOW, EOPNOTSUPP}
use Rattle.ov_base.specs.declared.notice.Notice.{Notice}
use Rattle.ov_base.specs.declared.reply.ObjectKind.{ObjectKind}
use Rattle.ov_base.specs.declared.reply.ObjectKind.TheVariants.{Directory, File, SymbolicLink}
use Rattle.ov_base.specs.declared.reply.Stat.{Stat}
use Rattle.ov_frames.specs.Fields.{Format, ◌>>=◌, ◌then◌, byte, number_read, signed, text}
use Rattle.ov_frames.specs.Frames.{IsBytes}
use Rattle.ov_frames.specs.Reading.{ListFits, NameFits, NoticeFits, StatFits, TextFits}
use Rattle.ov_frames.specs.Replies.{kind_byte}
use Rattle.ov_frames.specs.Requests.{u32, u64}
use Rattle.ov_frames.specs.Values.{standing, many_read, listed, kind_of_byte, kind, errnos, numbered, errno_byte, name_of, name, stat, notice}
use Rattle.ov_frames.specs.declared.fault.FrameFault.{FrameFault}
use Rattle.ov_frames.proofs.Formats.{IsFormat, Takes, Takes-then, bind_ok, both, done, either, number_again, number_takes, number32, number64, ok_is, one_byte, signed32, text_law, wide16}

-- the laws of a value, of those of the fields that stand for it
standing_law : {A B : Type 0} (f : Format A) (from : B → A) (to : A → Result B FrameFault)
    (fits : A → Type 0) (suits : B → Type 0) → IsFormat f fits →
    ((x : A) (y : B) → fits x → to x ≡ Ok y → (from y ≡ x) × suits y) →
    ((y : B) → suits y → (to (from y) ≡ Ok y) × fits (from y)) →
    IsFormat (standing f from to) suits
standing_law {A} {B} f from to fits suits law back forth = record {
  takes = λ bytes y rest bs e.
      let a = bind_ok (f.read bytes) (λ x. to x.0 >>= λ z. Ok (z, x.1)) (y, rest) e in
      let b = bind_ok (to a.0.0) (λ z. Ok (z, a.0.1)) (y, rest) a.2 in
      let t = law.takes bytes a.0.0 a.0.1 bs a.1 in
      let g = back a.0.0 b.0 t.1 b.1 in
      let its = subst (λ (x : A). Takes bytes (f.written x) a.0.1) (sym g.0) t.0 in
      subst (λ (p : B × List ℕ). Takes bytes (f.written (from p.0)) p.1 × suits p.0)
      (ok_is (b.0, a.0.1) (y, rest) b.2) (its, g.1);
  again = λ y rest h. let g = forth y h in rw (law.again (from y) rest g.1, g.0) refl;
}

-- ---- values one after the other

-- they are taken
many_takes : {A : Type 0} (f : Format A) (fits : A → Type 0) → IsFormat f fits →
    (n : ℕ) (bytes : List ℕ) (xs : List A) (rest : List ℕ) → IsBytes bytes →
    many_read f n bytes ≡ Ok (xs, rest) →
    Takes bytes (flat_map f.written xs) rest × (length xs ≡ n) × AllByRecursion fits xs
many_takes {A} f fits law zero bytes xs rest bs e =
    subst (λ (p : List A × List ℕ).
    Takes bytes (flat_map f.written p.0) p.1 × (length p.0 ≡ 0) × AllByRecursion fits p.0)
    (ok_is ([], bytes) (xs, rest) e) (record { parts = refl; rest_fits = bs }, refl, tt)
many_takes {A} f fits law (suc n) bytes xs rest bs e =
    let a =
    bind_ok (f.read bytes) (λ x. many_read f n x.1 >>= λ ys. Ok (x.0 ∷ ys.0, ys.1))
    (xs, rest) e in
    let b = bind_ok (many_read f n a.0.1) (λ ys. Ok (a.0.0 ∷ ys.0, ys.1)) (xs, rest) a.2 in
    let first = law.takes bytes a.0.0 a.0.1 bs a.1 in
    let others = many_takes f fits law n a.0.1 b.0.0 b.0.1 first.0.rest_fits b.1 in
    let all =
    Takes-then bytes (f.written a.0.0) a.0.1 (flat_map f.written b.0.0) b.0.1 first.0
    others.0 in
    subst (λ (p : List A × List ℕ).
    Takes bytes (flat_map f.written p.0) p.1 × (length p.0 ≡ suc n) × AllByRecursion fits p.0)
    (ok_is (a.0.0 ∷ b.0.0, b.0.1) (xs, rest) b.2) (all, ap suc others.1, (first.1, others.2))

-- they are read again
many_again : {A : Type 0} (f : Format A) (fits : A → Type 0) → IsFormat f fits →
    (xs : List A) (rest : List ℕ) → AllByRecursion fits xs →
    many_read f (length xs) (flat_map f.written xs ++ rest) ≡ Ok (xs, rest)
many_again f fits law [] rest h = refl
many_again f fits law (x ∷ xs) rest h =
    ap (many_read f (suc (length xs))) (append_assoc (f.written x) (flat_map f.written xs) rest)
    ∙ rw (law.again x (flat_map f.written xs ++ rest) h.0, many_again f fits law xs rest h.1) refl

-- the laws of a counted list, of those of its values
pub listed_law : {A : Type 0} {f : Format A} {fits : A → Type 0} → IsFormat f fits →
    IsFormat (listed f) (ListFits fits)
listed_law {A} {f} {fits} law = record {
  takes = λ bytes xs rest bs e.
      let a = bind_ok (number_read w16 bytes) (λ n. many_read f n.0 n.1) (xs, rest) e in
      let t = number_takes w16 (2 ^ 16) wide16 bytes a.0.0 a.0.1 bs a.1 in
      let m = many_takes f fits law a.0.0 a.0.1 xs rest t.0.rest_fits a.2 in
      let all = Takes-then bytes (to_be_bytes w16 a.0.0) a.0.1
      (flat_map f.written xs) rest t.0 m.0 in (
        subst (λ (k : ℕ). Takes bytes (to_be_bytes w16 k ++ flat_map f.written xs) rest)
            (sym m.1) all,
        (subst (λ (k : ℕ). k < 2 ^ 16) (sym m.1) t.1, m.2),
      );
  again = λ xs rest h.
      let front = to_be_bytes w16 (length xs) in
      ap (listed f).read (append_assoc front (flat_map f.written xs) rest)
      ∙ rw (
        number_again w16 (2 ^ 16) wide16 (length xs) (flat_map f.written xs ++ rest) h.0,
        many_again f fits law xs rest h.1,
      ) refl;
}

-- ---- kinds and refusals

-- a kind has its byte
kind_back : (x : ℕ) (y : ObjectKind) → kind_of_byte x ≡ Ok y → kind_byte y ≡ x
kind_back x y e =
    either (nat_eq x 1) (Ok Directory) _ y (kind_byte y ≡ x) e
    (λ t k. ap kind_byte (sym (ok_is Directory y k)) ∙ sym (eqb-true _ _ t))
    (λ e2. either (nat_eq x 2) (Ok File) _ y (kind_byte y ≡ x) e2
    (λ t k. ap kind_byte (sym (ok_is File y k)) ∙ sym (eqb-true _ _ t))
    (λ e3. either (nat_eq x 3) (Ok SymbolicLink) _ y (kind_byte y ≡ x) e3
    (λ t k. ap kind_byte (sym (ok_is SymbolicLink y k)) ∙ sym (eqb-true _ _ t))
    (λ e4. absurd cc)))

kind_forth : (y : ObjectKind) → (kind_of_byte (kind_byte y) ≡ Ok y) × (kind_byte y < 2 ^ 8)
kind_forth Directory = (refl, omega arith)
kind_forth File = (refl, omega arith)
kind_forth SymbolicLink = (refl, omega arith)

kind_law : IsFormat kind (λ _. Unit {0})
kind_law =
    standing_law byte kind_byte kind_of_byte (λ n. n < 2 ^ 8) (λ _. Unit {0}) one_byte
    (λ x y h e. (kind_back x y e, tt)) (λ y h. kind_forth y)

-- a refusal has its number
errno_back : (es : List Errno) (n : ℕ) (e : Errno) → numbered es n ≡ Ok e → number_of e ≡ n
errno_back [] n e h = absurd cc
errno_back (x ∷ es) n e h =
    either (nat_eq n (number_of x)) (Ok x) (numbered es n) e (number_of e ≡ n) h
    (λ t k. ap number_of (sym (ok_is x e k)) ∙ sym (eqb-true _ _ t))
    (λ k. errno_back es n e k)

errno_forth : (e : Errno) → (numbered errnos (number_of e) ≡ Ok e) × (number_of e < 2 ^ 8)
errno_forth EPERM = (refl, omega arith)
errno_forth ENOENT = (refl, omega arith)
errno_forth EBADF = (refl, omega arith)
errno_forth ENOMEM = (refl, omega arith)
errno_forth EBUSY = (refl, omega arith)
errno_forth EEXIST = (refl, omega arith)
errno_forth EXDEV = (refl, omega arith)
errno_forth ENOTDIR = (refl, omega arith)
errno_forth EISDIR = (refl, omega arith)
errno_forth EINVAL = (refl, omega arith)
errno_forth ENFILE = (refl, omega arith)
errno_forth EMFILE = (refl, omega arith)
errno_forth EFBIG = (refl, omega arith)
errno_forth ENOSPC = (refl, omega arith)
errno_forth EROFS = (refl, omega arith)
errno_forth ENAMETOOLONG = (refl, omega arith)
errno_forth ENOTEMPTY = (refl, omega arith)
errno_forth ELOOP = (refl, omega arith)
errno_forth ENODATA = (refl, omega arith)
errno_forth EOVERFLOW = (refl, omega arith)
errno_forth EOPNOTSUPP = (refl, omega arith)

-- the laws of a refusal
pub errno_law : IsFormat errno_byte (λ _. Unit {0})
errno_law =
    standing_law byte number_of (numbered errnos) (λ n. n < 2 ^ 8) (λ _. Unit {0}) one_byte
    (λ x y h e. (errno_back errnos x y e, tt)) (λ y h. errno_forth y)

-- ---- names, notices and what `stat` answers

-- no bytes are no name
named : (bytes : List ℕ) → TextFits bytes →
    (unwrap_or (name_of bytes) [] ≡ bytes) × NameFits (name_of bytes)
named [] h = (refl, tt)
named (b ∷ bytes) h = (refl, (omega arith, h))

name_back : (bytes : List ℕ) (y : Option (List ℕ)) → TextFits bytes →
    done (name_of bytes) ≡ Ok y → (unwrap_or y [] ≡ bytes) × NameFits y
name_back bytes y h e =
    subst (λ (o : Option (List ℕ)). (unwrap_or o [] ≡ bytes) × NameFits o)
    (ok_is (name_of bytes) y e) (named bytes h)

name_forth : (y : Option (List ℕ)) → NameFits y →
    (done (name_of (unwrap_or y [])) ≡ Ok y) × TextFits (unwrap_or y [])
name_forth None h = (refl, omega arith)
name_forth (Some []) h = absurd (omega (arith, h.0))
name_forth (Some (b ∷ bytes)) h = (refl, h.1)

name_law : IsFormat name NameFits
name_law =
    standing_law text (λ o. unwrap_or o []) (λ bytes. Ok (name_of bytes)) TextFits NameFits
    text_law name_back name_forth

-- the laws of what `stat` answers
pub stat_law : IsFormat stat StatFits
stat_law =
    standing_law (kind then u32 then u32 then u32 then u64 then u32) _ _ _ StatFits
    (both kind_law (both number32 (both number32 (both number32 (both number64 number32)))))
    (λ x y h e.
    let same = ok_is _ y e in
    subst (λ (s : Stat). ((s.kind, (s.mode, (s.uid, (s.gid, (s.size, s.links))))) ≡ x)
    × StatFits s)
    same (refl, h.1))
    (λ y h. (refl, (tt, h)))

-- the laws of a notice
pub notice_law : IsFormat notice NoticeFits
notice_law =
    standing_law (signed w32 then u32 then u32 then name) _ _ _ NoticeFits
    (both signed32 (both number32 (both number32 name_law)))
    (λ x y h e.
    let same = ok_is _ y e in
    subst (λ (n : Notice). ((n.watch, (n.mask, (n.cookie, n.name))) ≡ x) × NoticeFits n)
    same (refl, h))
    (λ y h. (refl, h))
