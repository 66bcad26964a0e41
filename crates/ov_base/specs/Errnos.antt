-- The numbers and names of refusals, as Linux's asm-generic/errno.h and errno(3) have them.
use Rattle.std.specs.Prelude.{ℕ, List, codes}
use Rattle.ov_base.specs.declared.errno.Errno.{Errno}
use Rattle.ov_base.specs.declared.errno.Errno.TheVariants.{EPERM, ENOENT, EBADF, ENOMEM, EBUSY, EEXIST, EXDEV, ENOTDIR, EISDIR, EINVAL, ENFILE, EMFILE, EFBIG, ENOSPC, EROFS, ENAMETOOLONG, ENOTEMPTY, ELOOP, ENODATA, EOVERFLOW, EOPNOTSUPP}

-- the number of a refusal
abbrev pub number_of : Errno → ℕ
number_of EPERM = 1
number_of ENOENT = 2
number_of EBADF = 9
number_of ENOMEM = 12
number_of EBUSY = 16
number_of EEXIST = 17
number_of EXDEV = 18
number_of ENOTDIR = 20
number_of EISDIR = 21
number_of EINVAL = 22
number_of ENFILE = 23
number_of EMFILE = 24
number_of EFBIG = 27
number_of ENOSPC = 28
number_of EROFS = 30
number_of ENAMETOOLONG = 36
number_of ENOTEMPTY = 39
number_of ELOOP = 40
number_of ENODATA = 61
number_of EOVERFLOW = 75
number_of EOPNOTSUPP = 95

-- the name of a refusal
abbrev pub text_of : Errno → List ℕ
text_of EPERM = codes "EPERM"
text_of ENOENT = codes "ENOENT"
text_of EBADF = codes "EBADF"
text_of ENOMEM = codes "ENOMEM"
text_of EBUSY = codes "EBUSY"
text_of EEXIST = codes "EEXIST"
text_of EXDEV = codes "EXDEV"
text_of ENOTDIR = codes "ENOTDIR"
text_of EISDIR = codes "EISDIR"
text_of EINVAL = codes "EINVAL"
text_of ENFILE = codes "ENFILE"
text_of EMFILE = codes "EMFILE"
text_of EFBIG = codes "EFBIG"
text_of ENOSPC = codes "ENOSPC"
text_of EROFS = codes "EROFS"
text_of ENAMETOOLONG = codes "ENAMETOOLONG"
text_of ENOTEMPTY = codes "ENOTEMPTY"
text_of ELOOP = codes "ELOOP"
text_of ENODATA = codes "ENODATA"
text_of EOVERFLOW = codes "EOVERFLOW"
text_of EOPNOTSUPP = codes "EOPNOTSUPP"
