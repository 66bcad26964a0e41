-- The commands of a script's lines, by the number of their words.
use Rattle.std.specs.Prelude.{ℕ, List, [], ◌∷◌, Option, Some, None, option_map, codes, if◌then◌else◌}
use Rattle.std.specs.Option.{option_and_then}
use Rattle.std.specs.Str.{bytes_eq}
use Rattle.ov_base.specs.Calls.{TextCall}
use Rattle.ov_base.specs.declared.call.CallOf.TheVariants.{Stat, Readlink, Mkdir, Symlink, Hardlink}
use Rattle.ov_base.specs.declared.call.CallOf.TheVariants.{Rename, Unlink, Rmdir, Open, Read, Write}
use Rattle.ov_base.specs.declared.call.CallOf.TheVariants.{Seek, Truncate, Fstat, ListNames, Close}
use Rattle.ov_base.specs.declared.call.CallOf.TheVariants.{Arm, Disarm, TakeNotices}
use Rattle.ov_base.specs.declared.call.CallOf.TheVariants.{Chmod, Chown, SetAttribute, GetAttribute}
use Rattle.ov_base.specs.declared.call.CallOf.TheVariants.{DeleteAttribute, ListAttributes}
use Rattle.ov_script.specs.Escapes.{spelled_word}
use Rattle.ov_script.specs.Flags.{flags_of}
use Rattle.ov_script.specs.Numbers.{number_of, mask_of, mode_of, size_of, slot_of, offset_of, steps_of, watch_of}
use Rattle.ov_script.specs.Words.{words}
use Rattle.ov_script.specs.declared.script.Command.{Command}
use Rattle.ov_script.specs.declared.script.Command.TheVariants.{Attach, Detach, Call, Start, Step, Drop, Layer, Merge, Work}

-- what two words come to, if each has its form
abbrev pub both : {A B C : Type 0} → (A → B → C) → Option A → Option B → Option C
both f None b = None
both f (Some a) b = option_map (f a) b

-- what three words come to, if each has its form
abbrev pub all_three : {A B C D : Type 0} → (A → B → C → D) → Option A → Option B → Option C → Option D
all_three f None b c = None
all_three f (Some a) b c = both (f a) b c

-- `stat P`, `readlink P`, `attrs P`, `unlink P`, `rmdir P`
abbrev pub call_of_path : List ℕ → List ℕ → Option TextCall
call_of_path name path =
    if bytes_eq name (codes "stat") then Some (Stat path)
    else (if bytes_eq name (codes "readlink") then Some (Readlink path)
    else (if bytes_eq name (codes "attrs") then Some (ListAttributes path)
    else (if bytes_eq name (codes "unlink") then Some (Unlink path)
    else (if bytes_eq name (codes "rmdir") then Some (Rmdir path) else None))))

-- `close FD`, `fstat FD`, `disarm WD`, `notices N`, and the calls of one path
abbrev pub call_of_one : List ℕ → List ℕ → Option TextCall
call_of_one name w =
    if bytes_eq name (codes "close") then option_map Close (number_of 10 w)
    else (if bytes_eq name (codes "fstat") then option_map Fstat (number_of 10 w)
    else (if bytes_eq name (codes "disarm") then option_map Disarm (watch_of w)
    else (if bytes_eq name (codes "notices") then option_map TakeNotices (number_of 10 w)
    else option_and_then (call_of_path name) (spelled_word w))))

-- `chmod MODE P`, `getattr P NAME`, `delattr P NAME`, `mkdir MODE P`, `symlink TARGET P`, `link OLD NEW`, `rename OLD NEW`, `open FLAGS P`,
-- whose mode is 0o644
abbrev pub path_call_of_two : List ℕ → List ℕ → List ℕ → Option TextCall
path_call_of_two name v w =
    if bytes_eq name (codes "chmod")
    then both (λ mode path. Chmod path mode) (mode_of v) (spelled_word w)
    else (if bytes_eq name (codes "getattr") then both GetAttribute (spelled_word v) (spelled_word w)
    else (if bytes_eq name (codes "delattr") then both DeleteAttribute (spelled_word v) (spelled_word w)
    else (if bytes_eq name (codes "mkdir")
    then both (λ mode path. Mkdir path mode) (mode_of v) (spelled_word w)
    else (if bytes_eq name (codes "symlink") then both Symlink (spelled_word v) (spelled_word w)
    else (if bytes_eq name (codes "link") then both Hardlink (spelled_word v) (spelled_word w)
    else (if bytes_eq name (codes "rename") then both Rename (spelled_word v) (spelled_word w)
    else (if bytes_eq name (codes "open") then both (λ flags path. Open path flags 420) (flags_of v) (spelled_word w) else None)))))))

-- `read FD N`, `write FD DATA`, `truncate FD SIZE`, `list FD N`, and the calls of a path and one word more
abbrev pub call_of_two : List ℕ → List ℕ → List ℕ → Option TextCall
call_of_two name v w =
    if bytes_eq name (codes "read") then both Read (number_of 10 v) (number_of 10 w)
    else (if bytes_eq name (codes "write") then both Write (number_of 10 v) (spelled_word w)
    else (if bytes_eq name (codes "truncate") then both Truncate (number_of 10 v) (size_of w)
    else (if bytes_eq name (codes "list") then both ListNames (number_of 10 v) (number_of 10 w)
    else path_call_of_two name v w)))

-- from where a seek counts: the start, the place, or the end
abbrev pub whence_of : List ℕ → Option ℕ
whence_of w =
    if bytes_eq w (codes "set") then Some 0
    else (if bytes_eq w (codes "cur") then Some 1
    else (if bytes_eq w (codes "end") then Some 2 else None))

-- `chown UID GID P`, `setattr P NAME VALUE`, `open FLAGS P MODE`, `arm SLOT MASK P`
abbrev pub path_call_of_three : List ℕ → List ℕ → List ℕ → List ℕ → Option TextCall
path_call_of_three name u v w =
    if bytes_eq name (codes "chown") then all_three (λ uid gid path. Chown path uid gid) (number_of 10 u) (number_of 10 v) (spelled_word w)
    else (if bytes_eq name (codes "setattr") then all_three SetAttribute (spelled_word u) (spelled_word v) (spelled_word w)
    else (if bytes_eq name (codes "open") then all_three (λ flags path mode. Open path flags mode) (flags_of u) (spelled_word v) (mode_of w)
    else (if bytes_eq name (codes "arm") then all_three (λ slot mask path. Arm slot path mask) (slot_of u) (mask_of v) (spelled_word w) else None)))

-- `seek FD OFFSET set|cur|end`, and the calls of a path and two words more
abbrev pub call_of_three : List ℕ → List ℕ → List ℕ → List ℕ → Option TextCall
call_of_three name u v w =
    if bytes_eq name (codes "seek") then all_three Seek (number_of 10 u) (offset_of v) (whence_of w)
    else path_call_of_three name u v w

-- the call of a name and the words after it
abbrev pub call_text : List ℕ → List (List ℕ) → Option TextCall
call_text name [] = None
call_text name (w ∷ []) = call_of_one name w
call_text name (v ∷ w ∷ []) = call_of_two name v w
call_text name (u ∷ v ∷ w ∷ []) = call_of_three name u v w
call_text name (u ∷ v ∷ w ∷ x ∷ more) = None

-- `attach`, `merge`, `work`
abbrev pub one_word : List ℕ → Option Command
one_word w =
    if bytes_eq w (codes "attach") then Some Attach
    else (if bytes_eq w (codes "merge") then Some Merge
    else (if bytes_eq w (codes "work") then Some Work else None))

-- `layer I`, `C detach`, `C step`, which makes one step, `C drop`
abbrev pub two_words : List ℕ → List ℕ → Option Command
two_words v w =
    if bytes_eq v (codes "layer") then option_map Layer (number_of 10 w)
    else (if bytes_eq w (codes "detach") then option_map Detach (number_of 10 v)
    else (if bytes_eq w (codes "step") then option_map (λ client. Step client 1) (number_of 10 v)
    else (if bytes_eq w (codes "drop") then option_map Drop (number_of 10 v) else None)))

-- `C CALL`
abbrev pub client_call : List ℕ → Option TextCall → Option Command
client_call client text = both Call (number_of 10 client) text

-- `C start CALL`
abbrev pub client_start : List ℕ → Option TextCall → Option Command
client_start client text = both Start (number_of 10 client) text

-- `C step N`
abbrev pub client_steps : List ℕ → Option ℕ → Option Command
client_steps client steps = both Step (number_of 10 client) steps

-- the call of its name and the words after it
abbrev pub call_of_words : List (List ℕ) → Option TextCall
call_of_words [] = None
call_of_words (name ∷ rest) = call_text name rest

-- how many steps one word spells
abbrev pub steps_of_words : List (List ℕ) → Option ℕ
steps_of_words [] = None
steps_of_words (w ∷ []) = steps_of w
steps_of_words (w ∷ x ∷ more) = None

-- what a client asks for by a word and those after it
abbrev pub client_words : List ℕ → List ℕ → List (List ℕ) → Option Command
client_words client name rest =
    if bytes_eq name (codes "start") then client_start client (call_of_words rest)
    else (if bytes_eq name (codes "step") then client_steps client (steps_of_words rest)
    else client_call client (call_text name rest))

-- the command of a word and those after it
abbrev pub more_words : List ℕ → List (List ℕ) → Option Command
more_words first [] = one_word first
more_words first (second ∷ []) = two_words first second
more_words first (second ∷ w ∷ rest) = client_words first second (w ∷ rest)

-- the command of the words of a line
abbrev pub command_of_words : List (List ℕ) → Option Command
command_of_words [] = None
command_of_words (first ∷ rest) = more_words first rest

-- the command of a line, if it is one
abbrev pub command_of : List ℕ → Option Command
command_of line = command_of_words (words line)
