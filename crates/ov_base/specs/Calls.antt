-- Calls, and what texts of calls come to.
use Rattle.std.specs.Prelude.{ℕ, List, Result, Ok, Err}
use Rattle.ov_base.specs.Paths.{path_of_text}
use Rattle.ov_base.specs.declared.call.CallOf.{CallOf}
use Rattle.ov_base.specs.declared.call.CallOf.TheVariants.{Stat, Readlink, Chmod, Chown}
use Rattle.ov_base.specs.declared.call.CallOf.TheVariants.{SetAttribute, GetAttribute}
use Rattle.ov_base.specs.declared.call.CallOf.TheVariants.{DeleteAttribute, ListAttributes, Mkdir}
use Rattle.ov_base.specs.declared.call.CallOf.TheVariants.{Symlink, Open, Unlink, Rmdir, Hardlink}
use Rattle.ov_base.specs.declared.call.CallOf.TheVariants.{Rename, Read, Write, Seek, Truncate}
use Rattle.ov_base.specs.declared.call.CallOf.TheVariants.{Fstat, ListNames, Close, Arm, Disarm}
use Rattle.ov_base.specs.declared.call.CallOf.TheVariants.{TakeNotices}
use Rattle.ov_base.specs.declared.errno.Errno.{Errno}

-- a call: each path as its names, the last one first, and each other text as its bytes
abbrev pub Call : Type 0
Call = CallOf (List (List ℕ)) (List ℕ)

-- a call as its texts spell it, each seen as its bytes
abbrev pub TextCall : Type 0
TextCall = CallOf (List ℕ) (List ℕ)

-- what is made of a path, or its refusal
abbrev pub on_path : {A B : Type 0} → (A → B) → Result A Errno → Result B Errno
on_path make (Ok path) = Ok (make path)
on_path make (Err errno) = Err errno

-- two paths, or the refusal of the first that is refused
abbrev pub pair_of : {A : Type 0} → Result A Errno → Result A Errno → Result (A × A) Errno
pair_of (Err errno) other = Err errno
pair_of (Ok path) other = on_path (λ p. (path, p)) other

-- THE CALL of texts that spell these bytes, or the refusal of its path, of two the first that is
abbrev pub read_of : {T : Type 0} → (T → List ℕ) → CallOf T T → Result Call Errno
read_of text (Stat path) = on_path Stat (path_of_text (text path))
read_of text (Readlink path) = on_path Readlink (path_of_text (text path))
read_of text (Chmod path mode) = on_path (λ p. Chmod p mode) (path_of_text (text path))
read_of text (Chown path uid gid) = on_path (λ p. Chown p uid gid) (path_of_text (text path))
read_of text (SetAttribute path name value) =
    on_path (λ p. SetAttribute p (text name) (text value)) (path_of_text (text path))
read_of text (GetAttribute path name) =
    on_path (λ p. GetAttribute p (text name)) (path_of_text (text path))
read_of text (DeleteAttribute path name) =
    on_path (λ p. DeleteAttribute p (text name)) (path_of_text (text path))
read_of text (ListAttributes path) = on_path ListAttributes (path_of_text (text path))
read_of text (Mkdir path mode) = on_path (λ p. Mkdir p mode) (path_of_text (text path))
read_of text (Symlink target path) = on_path (Symlink (text target)) (path_of_text (text path))
read_of text (Open path flags mode) = on_path (λ p. Open p flags mode) (path_of_text (text path))
read_of text (Unlink path) = on_path Unlink (path_of_text (text path))
read_of text (Rmdir path) = on_path Rmdir (path_of_text (text path))
read_of text (Hardlink old new) =
    on_path (λ x. Hardlink x.0 x.1) (pair_of (path_of_text (text old)) (path_of_text (text new)))
read_of text (Rename old new) =
    on_path (λ x. Rename x.0 x.1) (pair_of (path_of_text (text old)) (path_of_text (text new)))
read_of text (Read descriptor count) = Ok (Read descriptor count)
read_of text (Write descriptor bytes) = Ok (Write descriptor (text bytes))
read_of text (Seek descriptor offset whence) = Ok (Seek descriptor offset whence)
read_of text (Truncate descriptor size) = Ok (Truncate descriptor size)
read_of text (Fstat descriptor) = Ok (Fstat descriptor)
read_of text (ListNames descriptor count) = Ok (ListNames descriptor count)
read_of text (Close descriptor) = Ok (Close descriptor)
read_of text (Arm slot path mask) = on_path (λ p. Arm slot p mask) (path_of_text (text path))
read_of text (Disarm watch) = Ok (Disarm watch)
read_of text (TakeNotices count) = Ok (TakeNotices count)

-- so where the texts are their bytes
abbrev pub call_of : TextCall → Result Call Errno
call_of = read_of (λ bytes. bytes)
