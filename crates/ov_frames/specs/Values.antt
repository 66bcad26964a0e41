-- The fields of replies, in both directions.
use Rattle.std.specs.Prelude.{ℕ, zero, suc, List, [], ◌∷◌, ◌++◌, length, Option, Some, None, Result, Ok, Err, nat_eq, if◌then◌else◌, unwrap_or}
use Rattle.std.specs.Int.{w16, w32, to_be_bytes}
use Rattle.std.specs.List.{flat_map}
use Rattle.ov_base.specs.Errnos.{number_of}
use Rattle.ov_base.specs.declared.errno.Errno.{Errno}
use Rattle.ov_base.specs.declared.errno.Errno.TheVariants.{EPERM, ENOENT, EBADF, ENOMEM, EBUSY, EEXIST, EXDEV, ENOTDIR, EISDIR, EINVAL, ENFILE, EMFILE, EFBIG, ENOSPC, EROFS, ENAMETOOLONG, ENOTEMPTY, ELOOP, ENODATA, EOVERFLOW, EOPNOTSUPP}
use Rattle.ov_base.specs.declared.notice.Notice.{Notice}
use Rattle.ov_base.specs.declared.reply.ObjectKind.{ObjectKind}
use Rattle.ov_base.specs.declared.reply.ObjectKind.TheVariants.{Directory, File, SymbolicLink}
use Rattle.ov_base.specs.declared.reply.Stat.{Stat}
use Rattle.ov_frames.specs.Fields.{Format, ◌>>=◌, ◌then◌, byte, number_read, signed, text}
use Rattle.ov_frames.specs.Replies.{kind_byte}
use Rattle.ov_frames.specs.Requests.{u32, u64}
use Rattle.ov_frames.specs.declared.fault.FrameFault.{FrameFault}
use Rattle.ov_frames.specs.declared.fault.FrameFault.TheVariants.{BadFields}

-- a value by fields that stand for it; not each value of the fields may stand for one
abbrev pub standing : {A B : Type 0} → Format A → (B → A) → (A → Result B FrameFault) → Format B
standing f from to = record {
  written = λ y. f.written (from y);
  read = λ bytes. do
    x ← f.read bytes
    y ← to x.0
    Ok (y, x.1);
}

-- so many values, one after the other
abbrev pub many_read : {A : Type 0} → Format A → ℕ → List ℕ → Result (List A × List ℕ) FrameFault
many_read f zero bytes = Ok ([], bytes)
many_read f (suc n) bytes = do
  x ← f.read bytes
  xs ← many_read f n x.1
  Ok (x.0 ∷ xs.0, xs.1)

-- a count of two bytes, and so many values
abbrev pub listed : {A : Type 0} → Format A → Format (List A)
listed f = record {
  written = λ xs. to_be_bytes w16 (length xs) ++ flat_map f.written xs;
  read = λ bytes. do
    n ← number_read w16 bytes
    many_read f n.0 n.1;
}

-- the kind of an object by a byte
abbrev pub kind_of_byte : ℕ → Result ObjectKind FrameFault
kind_of_byte n =
    if nat_eq n 1 then Ok Directory
    else (if nat_eq n 2 then Ok File
    else (if nat_eq n 3 then Ok SymbolicLink
    else Err BadFields))

abbrev pub kind : Format ObjectKind
kind = standing byte kind_byte kind_of_byte

-- a refusal by its number
abbrev pub errnos : List Errno
errnos =
    EPERM ∷ ENOENT ∷ EBADF ∷ ENOMEM ∷ EBUSY ∷ EEXIST ∷ EXDEV ∷ ENOTDIR ∷ EISDIR ∷ EINVAL ∷ ENFILE
    ∷ EMFILE ∷ EFBIG ∷ ENOSPC ∷ EROFS ∷ ENAMETOOLONG ∷ ENOTEMPTY ∷ ELOOP ∷ ENODATA ∷ EOVERFLOW
    ∷ EOPNOTSUPP ∷ []

abbrev pub numbered : List Errno → ℕ → Result Errno FrameFault
numbered [] n = Err BadFields
numbered (e ∷ es) n = if nat_eq n (number_of e) then Ok e else numbered es n

abbrev pub errno_byte : Format Errno
errno_byte = standing byte number_of (numbered errnos)

-- a name, or none by no bytes
abbrev pub name_of : List ℕ → Option (List ℕ)
name_of [] = None
name_of (b ∷ bytes) = Some (b ∷ bytes)

abbrev pub name : Format (Option (List ℕ))
name = standing text (λ name. unwrap_or name []) (λ bytes. Ok (name_of bytes))

-- what `stat` answers: the kind, the mode, the owner, the group, the size and the links
abbrev pub stat : Format Stat
stat =
    standing (kind then u32 then u32 then u32 then u64 then u32)
    (λ s. (s.kind, (s.mode, (s.uid, (s.gid, (s.size, s.links))))))
    (λ x. Ok (record {
      kind = x.0;
      mode = x.1.0;
      uid = x.1.1.0;
      gid = x.1.1.1.0;
      size = x.1.1.1.1.0;
      links = x.1.1.1.1.1;
    }))

-- a notice: the watch, the mask, the cookie and the name
abbrev pub notice : Format Notice
notice =
    standing (signed w32 then u32 then u32 then name)
    (λ n. (n.watch, (n.mask, (n.cookie, n.name))))
    (λ x. Ok (record { watch = x.0; mask = x.1.0; cookie = x.1.1.0; name = x.1.1.1 }))
