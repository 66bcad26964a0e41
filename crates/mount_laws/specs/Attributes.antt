-- What chmod, chown and the calls on user attributes do on the merge of layers, told by what the layers show (chmod(2), chown(2),
-- setxattr(2), getxattr(2), listxattr(2), removexattr(2)).
use Rattle.std.specs.Prelude.{◌≡◌, ℕ, not, ◌&&◌, List, [], ◌∷◌, Option, None, Some, nat_lt, is_none, length, map}
use Rattle.ov_base.specs.declared.attributes.Attributes.{Attributes}
use Rattle.ov_base.specs.declared.call.CallOf.TheVariants as call
use Rattle.ov_base.specs.declared.errno.Errno.{Errno}
use Rattle.ov_base.specs.declared.errno.Errno.TheVariants as errno
use Rattle.ov_base.specs.declared.reply.Reply.TheVariants as reply
use Rattle.plain_model.specs.Layers.{Path, Inode, Layer, Shown, Folder, Contents, shows}
use Rattle.plain_model.specs.Machine.{State, value_of}
use Rattle.plain_model.specs.Refusals.{when, bad_mode, bad_attribute, refusal}
use Rattle.plain_model.specs.Replies.{reply_of}
use Rattle.mount_laws.specs.Looks.{or_else, walk_fault, shows_link, IsMountOf}

-- the attributes of an inode that is there
abbrev pub inode_attributes : Option Inode → Option Attributes
inode_attributes None = None
inode_attributes (Some i) = Some i.attributes

-- the attributes of what is shown
abbrev pub shown_attributes : Option Shown → Option Attributes
shown_attributes None = None
shown_attributes (Some (Folder i k a)) = Some a
shown_attributes (Some (Contents i k inode)) = inode_attributes inode

-- the user attributes of some attributes, in the order in which they were set
abbrev pub user_in : Option Attributes → List (List ℕ × List ℕ)
user_in None = []
user_in (Some a) = a.user

-- the user attributes of what is shown
abbrev pub shown_user : Option Shown → List (List ℕ × List ℕ)
shown_user s = user_in (shown_attributes s)

-- why chown is refused, and a list of the user attributes: the walk, and last a symbolic link
abbrev pub chown_fault : List Layer → Path → Option Errno
chown_fault Ls p = or_else (walk_fault Ls p) (when (shows_link (shows 0 Ls p)) errno.ELOOP)

-- why chmod is refused: the mode, then as chown is
abbrev pub chmod_fault : List Layer → Path → ℕ → Option Errno
chmod_fault Ls p mode = or_else (bad_mode mode) (chown_fault Ls p)

-- why a user attribute is not set: its name, its value's length, then as chown is, and last a new name where there are 64
abbrev pub set_fault : List Layer → Path → List ℕ → List ℕ → Option Errno
set_fault Ls p n v =
    or_else (bad_attribute n)
    (or_else (when (nat_lt 1024 (length v)) errno.EFBIG)
    (or_else (chown_fault Ls p)
    (when (is_none (value_of (shown_user (shows 0 Ls p)) n) && not (nat_lt (length (shown_user (shows 0 Ls p))) 64)) errno.EFBIG)))

-- why a user attribute is not got, and not deleted: its name, then as chown is, and last that there is none
abbrev pub get_fault : List Layer → Path → List ℕ → Option Errno
get_fault Ls p n =
    or_else (bad_attribute n)
    (or_else (chown_fault Ls p)
    (when (is_none (value_of (shown_user (shows 0 Ls p)) n)) errno.ENODATA))

abbrev pub LawOfChmod : Type 0
LawOfChmod =
    (U : Layer) (lowers : List Layer) (s : State) → IsMountOf U lowers s → (c : ℕ) (p : Path) (mode : ℕ) →
    refusal s c (call.Chmod p mode) ≡ chmod_fault (U ∷ lowers) p mode

abbrev pub LawOfChown : Type 0
LawOfChown =
    (U : Layer) (lowers : List Layer) (s : State) → IsMountOf U lowers s → (c : ℕ) (p : Path) (uid gid : ℕ) →
    refusal s c (call.Chown p uid gid) ≡ chown_fault (U ∷ lowers) p

abbrev pub LawOfSetAttribute : Type 0
LawOfSetAttribute =
    (U : Layer) (lowers : List Layer) (s : State) → IsMountOf U lowers s → (c : ℕ) (p : Path) (n v : List ℕ) →
    refusal s c (call.SetAttribute p n v) ≡ set_fault (U ∷ lowers) p n v

abbrev pub LawOfDeleteAttribute : Type 0
LawOfDeleteAttribute =
    (U : Layer) (lowers : List Layer) (s : State) → IsMountOf U lowers s → (c : ℕ) (p : Path) (n : List ℕ) →
    refusal s c (call.DeleteAttribute p n) ≡ get_fault (U ∷ lowers) p n

-- a get is refused as the layers say, and answers the value of the attribute that is shown
pub record GetsAttribute (Ls : List Layer) (s : State) (c : ℕ) (p : Path) (n : List ℕ) : Type 0 where
  pub refused : refusal s c (call.GetAttribute p n) ≡ get_fault Ls p n
  pub answer : (value : List ℕ) → value_of (shown_user (shows 0 Ls p)) n ≡ Some value → reply_of s c (call.GetAttribute p n) ≡ reply.Value value

abbrev pub LawOfGetAttribute : Type 0
LawOfGetAttribute =
    (U : Layer) (lowers : List Layer) (s : State) → IsMountOf U lowers s → (c : ℕ) (p : Path) (n : List ℕ) → GetsAttribute (U ∷ lowers) s c p n

-- a list is refused as the layers say, and answers the names of the user attributes that are shown
pub record ListsAttributes (Ls : List Layer) (s : State) (c : ℕ) (p : Path) : Type 0 where
  pub refused : refusal s c (call.ListAttributes p) ≡ chown_fault Ls p
  pub answer : reply_of s c (call.ListAttributes p) ≡ reply.AttributeNames (map (λ x. x.0) (shown_user (shows 0 Ls p)))

abbrev pub LawOfListAttributes : Type 0
LawOfListAttributes = (U : Layer) (lowers : List Layer) (s : State) → IsMountOf U lowers s → (c : ℕ) (p : Path) → ListsAttributes (U ∷ lowers) s c p
