-- What an entry of a manifest says: its kind, its path and what it puts there, or its first fault before it is placed.
use Rattle.std.specs.Prelude.{◌≡◌, codes, ℕ, ℤ, pos, negsuc, ◌+◌, ◌-◌, ◌*◌, List, [], ◌++◌, replicate, take, drop, slice_get, Bool, true, false, ◌&&◌, ◌||◌, not, nat_le, nat_lt, ◌∷◌, length, Option, Some, None, is_some, option_map, Result, Ok, Err, is_ok, IsTrue, if◌then◌else◌}
use Rattle.std.specs.Option.{option_and_then, option_map_or, ok_or, unwrap_or}
use Rattle.std.specs.Result.{result_ok}
use Rattle.std.specs.Str.{bytes_eq}
use Rattle.toml.specs.Data.{Data, Items, no_items, item, Members, no_members, member, get_member, as_str, as_integer, as_bool, as_array}
use Rattle.ov_base.specs.AttributeNames.{attribute_of}
use Rattle.ov_base.specs.Names.{is_name}
use Rattle.ov_base.specs.Paths.{path_of_text}
use Rattle.ov_base.specs.declared.errno.Errno.{Errno}
use Rattle.ov_base.specs.declared.redirect.Redirect.{Redirect}
use Rattle.ov_base.specs.declared.redirect.Redirect.TheVariants as redirect
use Rattle.ov_base.specs.Targets.{is_target}
use Rattle.ov_base.specs.UserValues.{value_of}
use Rattle.ov_base.specs.declared.attributes.Attributes.{Attributes}
use Rattle.ov_base.specs.declared.bytes.Content.TheVariants as content
use Rattle.layer_tree.specs.Tree.{leads_on, seen_object}
use Rattle.layer_tree.specs.declared.node.Marks.{Marks}
use Rattle.layer_tree.specs.declared.node.Object.{Object}
use Rattle.layer_tree.specs.declared.node.Object.TheVariants as object
use Rattle.ov_wire.specs.declared.manifest.entry.EntryKind.{EntryKind}
use Rattle.ov_wire.specs.declared.manifest.entry.EntryKind.TheVariants as kind
use Rattle.ov_wire.specs.declared.manifest.entry.Item.{Item}
use Rattle.ov_wire.specs.declared.manifest.entry.Item.TheVariants as puts
use Rattle.ov_wire.specs.declared.manifest.fault.EntryFault.{EntryFault}
use Rattle.ov_wire.specs.declared.manifest.fault.EntryFault.TheVariants as fault
use Rattle.ov_wire.specs.declared.manifest.fault.EntryError.{EntryError}
use Rattle.ov_wire.specs.declared.manifest.fault.EntryError.TheVariants as error

-- the next step, where there was no fault
abbrev pub and_then : {T U E : Type 0} → Result T E → (T → Result U E) → Result U E
and_then (Ok x) step = step x
and_then (Err e) step = Err e

-- this is answered, unless memory ran out
abbrev pub Answers : {T : Type 0} → Result T EntryError → Result T EntryFault → Type 0
Answers (Ok x) wanted = wanted ≡ Ok x
Answers (Err (error.Fault f)) wanted = wanted ≡ Err f
Answers (Err (error.Memory e)) wanted = Unit {0}

-- each key with its value passes the test
abbrev pub members_all : (List ℕ → Data → Bool) → Members → Bool
members_all test no_members = true
members_all test (member key value rest) = test key value && members_all test rest

-- each item passes the test
abbrev pub items_all : (Data → Bool) → Items → Bool
items_all test no_items = true
items_all test (item d rest) = test d && items_all test rest

-- an array, and each of its items passes the test
abbrev pub is_array_of : (Data → Bool) → Data → Bool
is_array_of test d = option_map_or (items_all test) (as_array d) false

-- the array at a key, none without it
abbrev pub items_at : List ℕ → Members → Items
items_at key table = unwrap_or (option_and_then as_array (get_member key table)) no_items

-- the text at a key, where there is one
abbrev pub text_at : List ℕ → Members → Option (List ℕ)
text_at key entry = option_and_then as_str (get_member key entry)

-- the kind that a text names
abbrev pub kind_named : List ℕ → Option EntryKind
kind_named text =
    if bytes_eq text (codes "dir") then Some kind.Directory
    else (if bytes_eq text (codes "file") then Some kind.File
    else (if bytes_eq text (codes "symlink") then Some kind.SymbolicLink
    else (if bytes_eq text (codes "whiteout") then Some kind.Whiteout
    else (if bytes_eq text (codes "link") then Some kind.HardLink
    else None))))

-- the kind that an entry names
abbrev pub kind_of : Members → Result EntryKind EntryFault
kind_of entry = ok_or (option_and_then kind_named (text_at (codes "kind") entry)) fault.Kind

-- the path that an entry names
abbrev pub path_of : Members → Result (List (List ℕ)) EntryFault
path_of entry = ok_or (option_and_then (λ text. result_ok (path_of_text text)) (text_at (codes "path") entry)) fault.Path

-- directories and files have a mode and user attributes; they and symbolic links have an owner
abbrev pub has_mode : EntryKind → Bool
has_mode kind.Directory = true
has_mode kind.File = true
has_mode _ = false

abbrev pub has_owner : EntryKind → Bool
has_owner kind.Whiteout = false
has_owner kind.HardLink = false
has_owner _ = true

abbrev pub is_file : EntryKind → Bool
is_file kind.File = true
is_file _ = false

abbrev pub is_link : EntryKind → Bool
is_link kind.SymbolicLink = true
is_link _ = false

abbrev pub is_hard_link : EntryKind → Bool
is_hard_link kind.HardLink = true
is_hard_link _ = false

-- the name and the value that an array of two texts gives
abbrev pub pair_in : Items → Option (List ℕ × List ℕ)
pair_in (item name (item value no_items)) = option_and_then (λ n. option_map (λ v. (n, v)) (as_str value)) (as_str name)
pair_in _ = None

abbrev pub pair_of : Data → Option (List ℕ × List ℕ)
pair_of d = option_and_then pair_in (as_array d)

abbrev pub is_pair : Data → Bool
is_pair d = is_some (pair_of d)

-- a directory has marks, unless it is the root
abbrev pub has_marks : EntryKind → List (List ℕ) → Bool
has_marks kind.Directory (name ∷ path) = true
has_marks _ _ = false

-- whether an entry of the kind at the path may have this key, with such a value
abbrev pub takes : EntryKind → List (List ℕ) → List ℕ → Data → Bool
takes k path key value =
    if bytes_eq key (codes "path") || bytes_eq key (codes "kind") then is_some (as_str value)
    else (if bytes_eq key (codes "mode") then has_mode k && is_some (as_integer value)
    else (if bytes_eq key (codes "uid") || bytes_eq key (codes "gid") then has_owner k && is_some (as_integer value)
    else (if bytes_eq key (codes "attrs") then has_mode k && is_array_of is_pair value
    else (if bytes_eq key (codes "text") || bytes_eq key (codes "hex") then is_file k && is_some (as_str value)
    else (if bytes_eq key (codes "zeros") || bytes_eq key (codes "blob") then is_file k && is_some (as_integer value)
    else (if bytes_eq key (codes "at") || bytes_eq key (codes "size") then is_file k && is_some (as_integer value)
    else (if bytes_eq key (codes "to") then is_hard_link k && is_some (as_str value)
    else (if bytes_eq key (codes "target") then is_link k && is_some (as_str value)
    else (if bytes_eq key (codes "opaque") then has_marks k path && is_some (as_bool value)
    else (if bytes_eq key (codes "redirect") then has_marks k path && is_some (as_str value)
    else false))))))))))

-- a number of 0 to the most
abbrev pub within : ℕ → ℤ → Result ℕ EntryFault
within most (pos n) = if nat_le n most then Ok n else Err fault.Value
within most (negsuc n) = Err fault.Value

-- a number, or what stands in its place where there is none
abbrev pub number_in : ℕ → ℕ → Option ℤ → Result ℕ EntryFault
number_in most default (Some z) = within most z
number_in most default None = Ok default

-- the whole number at a key, where there is one
abbrev pub integer_at : List ℕ → Members → Option ℤ
integer_at key entry = option_and_then as_integer (get_member key entry)

-- the number at a key
abbrev pub number_at : List ℕ → ℕ → ℕ → Members → Result ℕ EntryFault
number_at key most default entry = number_in most default (integer_at key entry)

-- whether a name and a value may be set beside these user attributes: the name is one and new, the value has at most 1,024 bytes, and
-- there are at most 64
abbrev pub is_settable : List (List ℕ × List ℕ) → List ℕ × List ℕ → Bool
is_settable before x = is_ok (attribute_of x.0) && nat_le (length x.1) 1024 && nat_lt (length before) 64 && not (is_some (value_of before x.0))

-- the user attributes with one more, which goes last
abbrev pub with_attribute : List (List ℕ × List ℕ) → Option (List ℕ × List ℕ) → Result (List (List ℕ × List ℕ)) EntryFault
with_attribute before (Some x) = if is_settable before x then Ok (before ++ x ∷ []) else Err fault.Value
with_attribute before None = Err fault.Key

-- the user attributes with those that follow
abbrev pub attributes_from : List (List ℕ × List ℕ) → Items → Result (List (List ℕ × List ℕ)) EntryFault
attributes_from before no_items = Ok before
attributes_from before (item d rest) = and_then (with_attribute before (pair_of d)) (λ more. attributes_from more rest)

-- the user attributes that an entry gives, in their order
abbrev pub user_of : Members → Result (List (List ℕ × List ℕ)) EntryFault
user_of entry = attributes_from [] (items_at (codes "attrs") entry)

-- the attributes that an entry gives, with this mode where it gives none
abbrev pub attributes_of : ℕ → Members → Result Attributes EntryFault
attributes_of default_mode entry =
    and_then (number_at (codes "mode") 4095 default_mode entry) (λ mode.
    and_then (number_at (codes "uid") 4294967295 0 entry) (λ uid.
    and_then (number_at (codes "gid") 4294967295 0 entry) (λ gid.
    and_then (user_of entry) (λ user.
    Ok (record { mode = mode; uid = uid; gid = gid; user = user })))))

-- the value of a lower case hexadecimal digit
abbrev pub digit_value : ℕ → Option ℕ
digit_value b =
    if nat_le 48 b && nat_le b 57 then Some (b - 48)
    else (if nat_le 97 b && nat_le b 102 then Some (b - 87)
    else None)

-- the byte that two digits spell, the higher first
abbrev pub pair_value : ℕ → ℕ → Option ℕ
pair_value high low = option_and_then (λ h. option_map (λ l. 16 * h + l) (digit_value low)) (digit_value high)

-- the bytes that pairs of digits spell
abbrev pub hex_bytes : List ℕ → Option (List ℕ)
hex_bytes [] = Some []
hex_bytes (high ∷ []) = None
hex_bytes (high ∷ low ∷ rest) = option_and_then (λ b. option_map (λ bs. b ∷ bs) (hex_bytes rest)) (pair_value high low)

-- so many zero bytes, at most the limit
abbrev pub zero_bytes : ℕ → ℤ → Result (List ℕ) EntryFault
zero_bytes limit count = and_then (within limit count) (λ n. Ok (replicate n 0))

-- bytes that are at most so many
abbrev pub limited : ℕ → List ℕ → Result (List ℕ) EntryFault
limited limit bytes = if nat_lt limit (length bytes) then Err fault.Value else Ok bytes

-- the blob of a number
abbrev pub blob_at : List (List ℕ) → ℤ → Result (List ℕ) EntryFault
blob_at blobs (pos n) = ok_or (slice_get blobs n) fault.Value
blob_at blobs (negsuc n) = Err fault.Value

-- so many of these bytes, all of them without a number; `value` where there are fewer
abbrev pub first_of : List ℕ → Option ℤ → Result (List ℕ) EntryFault
first_of bytes size = and_then (number_in (length bytes) (length bytes) size) (λ count. Ok (take count bytes))

-- THE BYTES OF A BLOB from a place on, or else from its start; `value` where there is no such blob, or where it ends before
abbrev pub stretch : List (List ℕ) → ℤ → Option ℤ → Option ℤ → Result (List ℕ) EntryFault
stretch blobs number at size =
    and_then (blob_at blobs number) (λ blob.
    and_then (number_in (length blob) 0 at) (λ start. first_of (drop start blob) size))

-- the bytes of the blob that an entry names, at most so many
abbrev pub part_of : ℕ → List (List ℕ) → Members → ℤ → Result (List ℕ) EntryFault
part_of limit blobs entry number = and_then (stretch blobs number (integer_at (codes "at") entry) (integer_at (codes "size") entry)) (limited limit)

-- the bytes by a text, by hexadecimal digits, by a count of zero bytes or by a part of a blob; none without them
abbrev pub bytes_in : ℕ → (ℤ → Result (List ℕ) EntryFault) → Option (List ℕ) → Option (List ℕ) → Option ℤ → Option ℤ → Result (List ℕ) EntryFault
bytes_in limit part (Some text) digits zeros blob = Ok text
bytes_in limit part None (Some digits) zeros blob = ok_or (hex_bytes digits) fault.Value
bytes_in limit part None None (Some count) blob = zero_bytes limit count
bytes_in limit part None None None (Some number) = part number
bytes_in limit part None None None None = Ok []

abbrev pub bytes_given : ℕ → List (List ℕ) → Members → Result (List ℕ) EntryFault
bytes_given limit blobs entry =
    bytes_in limit (part_of limit blobs entry) (text_at (codes "text") entry) (text_at (codes "hex") entry) (integer_at (codes "zeros") entry) (integer_at (codes "blob") entry)

-- the bytes that an entry gives, at most so many
abbrev pub bytes_of : ℕ → List (List ℕ) → Members → Result (List ℕ) EntryFault
bytes_of limit blobs entry = and_then (bytes_given limit blobs entry) (limited limit)

-- the target that an entry gives
abbrev pub target_of : Members → Result (List ℕ) EntryFault
target_of entry = let text = unwrap_or (text_at (codes "target") entry) [] in if is_target text then Ok text else Err fault.Value

-- a redirect to a path from the root, which has at least one name
abbrev pub redirect_to : Result (List (List ℕ)) Errno → Result Redirect EntryFault
redirect_to (Ok (name ∷ path)) = Ok (redirect.Absolute (name ∷ path))
redirect_to _ = Err fault.Value

-- the redirect that a text spells: one name, or a path from the root
abbrev pub redirect_spelled : List ℕ → Result Redirect EntryFault
redirect_spelled text = if is_name text then Ok (redirect.Single text) else redirect_to (path_of_text text)

-- the redirect by its text, where there is one
abbrev pub redirect_in : Option (List ℕ) → Result (Option Redirect) EntryFault
redirect_in (Some text) = and_then (redirect_spelled text) (λ r. Ok (Some r))
redirect_in None = Ok None

-- whether an entry makes its directory opaque
abbrev pub opaque_of : Members → Bool
opaque_of entry = unwrap_or (option_and_then as_bool (get_member (codes "opaque") entry)) false

-- the marks that an entry gives
abbrev pub marks_of : Members → Result Marks EntryFault
marks_of entry = and_then (redirect_in (text_at (codes "redirect") entry)) (λ r. Ok (record { opaque = opaque_of entry; redirect = r }))

-- the path to which an entry of kind `link` leads, where its text spells one
abbrev pub path_to : Members → Option (List (List ℕ))
path_to entry = option_and_then (λ text. result_ok (path_of_text text)) (text_at (codes "to") entry)

-- what an entry of the kind puts at its path, where a file has at most so many bytes and may be part of these blobs
abbrev pub item_of : ℕ → List (List ℕ) → EntryKind → Members → Result Item EntryFault
item_of limit blobs kind.Directory entry = and_then (attributes_of 493 entry) (λ a. and_then (marks_of entry) (λ m. Ok (puts.Object (object.Directory a m))))
item_of limit blobs kind.File entry = and_then (attributes_of 420 entry) (λ a. and_then (bytes_of limit blobs entry) (λ bytes. Ok (puts.Object (object.Inode (content.File bytes) a))))
item_of limit blobs kind.SymbolicLink entry = and_then (attributes_of 511 entry) (λ a. and_then (target_of entry) (λ target. Ok (puts.Object (object.Inode (content.SymbolicLink target) a))))
item_of limit blobs kind.Whiteout entry = Ok puts.Whiteout
item_of limit blobs kind.HardLink entry = Ok (puts.Link (path_to entry))

-- whether an entry has a key
abbrev pub has_key : List ℕ → Members → Bool
has_key key entry = is_some (get_member key entry)

-- at most one of the keys that give bytes is there
abbrev pub gives_bytes_once : Members → Bool
gives_bytes_once entry =
    if has_key (codes "text") entry then not (has_key (codes "hex") entry || has_key (codes "zeros") entry || has_key (codes "blob") entry)
    else (if has_key (codes "hex") entry then not (has_key (codes "zeros") entry || has_key (codes "blob") entry)
    else not (has_key (codes "zeros") entry && has_key (codes "blob") entry))

-- what is part of a blob names the blob
abbrev pub names_blob : Members → Bool
names_blob entry = has_key (codes "blob") entry || not (has_key (codes "at") entry || has_key (codes "size") entry)

-- a symbolic link has a target, a hard link has where it leads, and a file has its bytes once, from a blob that it names
abbrev pub has_required : EntryKind → Members → Bool
has_required kind.SymbolicLink entry = is_some (text_at (codes "target") entry)
has_required kind.HardLink entry = is_some (text_at (codes "to") entry)
has_required kind.File entry = gives_bytes_once entry && names_blob entry
has_required _ entry = true

-- the keys are those of the kind at the path, and none that it needs is missing
abbrev pub checked : EntryKind → List (List ℕ) → Members → Result (Unit {0}) EntryFault
checked k path entry = if members_all (takes k path) entry && has_required k entry then Ok tt else Err fault.Key

-- WHAT AN ENTRY SAYS where a file has at most so many bytes and may be part of these blobs: its path and what stands there, or the first of
-- its faults `kind`, `path`, `key` and `value`
abbrev pub read : ℕ → List (List ℕ) → Members → Result (List (List ℕ) × Item) EntryFault
read limit blobs entry =
    and_then (kind_of entry) (λ k.
    and_then (path_of entry) (λ path.
    and_then (checked k path entry) (λ _.
    and_then (item_of limit blobs k entry) (λ i. Ok (path, i)))))

-- whether it is a file without bytes of its own
abbrev pub is_marked : Object → Bool
is_marked (object.Marked q a) = true
is_marked _ = false

-- a layer takes it: an absolute redirect of a directory has at least one name; and it is no file without bytes of its own
abbrev pub IsPlaceable : Item → Type 0
IsPlaceable (puts.Object o) = IsTrue (leads_on (Some (seen_object 0 o))) × (is_marked o ≡ false)
IsPlaceable puts.Whiteout = Unit {0}
IsPlaceable (puts.Link to) = Unit {0}
