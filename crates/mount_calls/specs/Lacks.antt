-- What a call lacks in the upper before it can be made there: a directory on the way to a path that
-- it changes, and then the bytes of a file of a lower layer (overlayfs.rst, "Non-directories": a
-- file is copied up as it is first changed, and its parents with it).
use Rattle.std.specs.Prelude.{◌≡◌, ◌↔◌, ℕ, zero, nat_lt, Bool, true, false, ◌||◌, ◌&&◌, cond}
use Rattle.std.specs.Prelude.{List, [], ◌∷◌, length, Option, None, Some, is_none, unwrap_or}
use Rattle.std.specs.Prelude.{option_map}
use Rattle.std.specs.Option.{option_or}
use Rattle.ov_base.specs.declared.bytes.Content.{Content}
use Rattle.ov_base.specs.declared.bytes.Content.TheVariants as content
use Rattle.ov_base.specs.Calls.{Call}
use Rattle.ov_base.specs.declared.call.CallOf.TheVariants as call
use Rattle.plain_model.specs.Layers.{Path, Layer, held, holds_directory, Shown, Contents, shows}
use Rattle.layer_tree.specs.Tree.{layer_of}
use Rattle.ov_base.specs.declared.place.Place.{Place}
use Rattle.merged_lookup.specs.Lower.{lower_bytes}
use Rattle.merged_lookup.specs.Merged.{layers_of, lowers_of, parent, parents_fault}
use Rattle.mount_laws.specs.Renaming.{is_one}
use Rattle.copy_up.specs.declared.needs.Need.{Need}
use Rattle.copy_up.specs.declared.needs.Need.TheVariants as need
use Rattle.copy_up.specs.Needs.{IsNeed}
use Rattle.work_dir.specs.declared.next.Lack.{Lack}
use Rattle.work_dir.specs.declared.next.Lack.TheVariants as lacks
use Rattle.mount_calls.specs.declared.mount.Mount.{Mount}
use Rattle.mount_calls.specs.Files.{place_below}

-- the first directory on the way to this path, itself the last, that the upper doesn't hold, by its
-- number of names
abbrev pub lacking_to : Layer → Path → Option ℕ
lacking_to U [] = None
lacking_to U (n ∷ p) =
    option_or (lacking_to U p)
    (cond (holds_directory (held U (n ∷ p))) None (Some (length (n ∷ p))))

-- the topmost parent of a path at which the upper holds no directory, by its number of names
abbrev pub lacking : Layer → Path → Option ℕ
lacking U p = lacking_to U (parent p)

-- a lacking parent as what has to be placed
abbrev pub need_of : Option ℕ → Need
need_of None = need.Nothing
need_of (Some count) = need.Directory count

-- what has to be placed is the lacking parent
abbrev pub LawOfNeeds : Type 0
LawOfNeeds = (U : Layer) (p : Path) (n : Need) → IsNeed U p n ↔ (n ≡ need_of (lacking U p))

-- whether a call changes what paths show, or opens what one shows, so that it may lack something
abbrev pub may_lack : Call → Bool
may_lack (call.Chmod p mode) = true
may_lack (call.Chown p uid gid) = true
may_lack (call.SetAttribute p n v) = true
may_lack (call.DeleteAttribute p n) = true
may_lack (call.Mkdir p mode) = true
may_lack (call.Symlink target p) = true
may_lack (call.Open p f mode) = true
may_lack (call.Unlink p) = true
may_lack (call.Rmdir p) = true
may_lack (call.Hardlink old new) = true
may_lack (call.Rename old new) = true
may_lack _ = false

-- the paths at which a call changes something: an open where it writes or makes the file, and a
-- rename where it moves something
abbrev pub changed_paths : Layer → List Layer → Call → List Path
changed_paths U lowers (call.Chmod p mode) = p ∷ []
changed_paths U lowers (call.Chown p uid gid) = p ∷ []
changed_paths U lowers (call.SetAttribute p n v) = p ∷ []
changed_paths U lowers (call.DeleteAttribute p n) = p ∷ []
changed_paths U lowers (call.Mkdir p mode) = p ∷ []
changed_paths U lowers (call.Symlink target p) = p ∷ []
changed_paths U lowers (call.Open p f mode) =
    cond (f.writes || is_none (shows 0 (U ∷ lowers) p)) (p ∷ []) []
changed_paths U lowers (call.Unlink p) = p ∷ []
changed_paths U lowers (call.Rmdir p) = p ∷ []
changed_paths U lowers (call.Hardlink old new) = old ∷ (new ∷ [])
changed_paths U lowers (call.Rename old new) = cond (is_one U old new) [] (old ∷ (new ∷ []))
changed_paths U lowers _ = []

-- where a file is; a symbolic link is no file
abbrev pub source_of : ℕ → ℕ → Content → Option Place
source_of layer key (content.File bytes) = Some (record { layer = layer; key = key })
source_of layer key (content.SymbolicLink target) = None

-- where a file of a lower layer is that is shown
abbrev pub low_file : Option Shown → Option Place
low_file (Some (Contents layer key (Some i))) =
    cond (nat_lt 0 layer) (source_of layer key i.content) None
low_file _ = None

-- where the bytes are of a file that is shown, if they are a lower file's: its own, or those that a
-- marked file of the upper shows
abbrev pub data_at : List Layer → Option Shown → Option Place
data_at lowers (Some (Contents zero key (Some i))) = place_below lowers i.mark
data_at lowers s = low_file s

-- where the bytes are that a change of attributes or names copies up: those of a lower file that is
-- shown, and none where files are copied up without them
abbrev pub copied_file : Bool → Option Shown → Option Place
copied_file metacopy s = cond metacopy None (low_file s)

-- where the bytes are that a call copies up: of a file that it changes, links or moves, and of one
-- that it opens for writing, marked or not
abbrev pub data_place : Layer → List Layer → Bool → Call → Option Place
data_place U lowers metacopy (call.Chmod p mode) = copied_file metacopy (shows 0 (U ∷ lowers) p)
data_place U lowers metacopy (call.Chown p uid gid) = copied_file metacopy (shows 0 (U ∷ lowers) p)
data_place U lowers metacopy (call.SetAttribute p n v) = copied_file metacopy (shows 0 (U ∷ lowers) p)
data_place U lowers metacopy (call.DeleteAttribute p n) = copied_file metacopy (shows 0 (U ∷ lowers) p)
data_place U lowers metacopy (call.Open p f mode) = cond f.writes (data_at lowers (shows 0 (U ∷ lowers) p)) None
data_place U lowers metacopy (call.Hardlink old new) = copied_file metacopy (shows 0 (U ∷ lowers) old)
data_place U lowers metacopy (call.Rename old new) =
    cond (is_one U old new) None (copied_file metacopy (shows 0 (U ∷ lowers) old))
data_place U lowers metacopy _ = None

-- a file's bytes, where some are lacking
abbrev pub file_lack : Option Place → Lack
file_lack None = lacks.Nothing
file_lack (Some d) = lacks.File d

-- a parent of the first path or of the second, where one is lacking, and else what is lacking
-- besides
abbrev pub parent_lack : Bool → Option ℕ → Lack → Lack
parent_lack second None besides = besides
parent_lack second (Some count) besides = lacks.Parent second count

-- the first of what is lacking on the way to these paths, and last a file's bytes
abbrev pub lack_among : Layer → Bool → List Path → Option Place → Lack
lack_among U second [] d = file_lack d
lack_among U second (p ∷ ps) d =
    parent_lack second (lacking U p) (lack_among U true ps d)

-- WHAT A CALL LACKS
abbrev pub lack_of : Layer → List Layer → Bool → Call → Lack
lack_of U lowers metacopy k =
    lack_among U false (changed_paths U lowers k) (data_place U lowers metacopy k)

-- the bytes of a lower file
abbrev pub bytes_at : List Layer → Place → Option (List ℕ)
bytes_at lowers d = lower_bytes lowers (record { layer = d.layer; key = d.key })

-- how many bytes the file has that is lacking
abbrev pub lack_size : List Layer → Lack → ℕ
lack_size lowers (lacks.File d) = unwrap_or (option_map length (bytes_at lowers d)) 0
lack_size lowers _ = 0

-- the path of a call, or its second one
abbrev pub path_of_call : Call → Bool → Option Path
path_of_call (call.Chmod p mode) false = Some p
path_of_call (call.Chown p uid gid) false = Some p
path_of_call (call.SetAttribute p n v) false = Some p
path_of_call (call.DeleteAttribute p n) false = Some p
path_of_call (call.Mkdir p mode) false = Some p
path_of_call (call.Symlink target p) false = Some p
path_of_call (call.Open p f mode) false = Some p
path_of_call (call.Unlink p) false = Some p
path_of_call (call.Rmdir p) false = Some p
path_of_call (call.Hardlink old new) second = Some (cond second new old)
path_of_call (call.Rename old new) second = Some (cond second new old)
path_of_call _ _ = None

-- an open for writing, or one that makes its file
abbrev pub OpensToChange : List Layer → Call → Type 0
OpensToChange Ls (call.Open p f mode) = (f.writes || (f.create && is_none (shows 0 Ls p))) ≡ true
OpensToChange Ls _ = Unit {0}

-- What is lacking can be had. A directory is on the way to a path of the call, which is shown, and
-- is the topmost that the upper lacks there. A file is one of a lower layer.
abbrev pub CanBeHad : Mount → Call → Lack → Type 0
CanBeHad m k lacks.Nothing = Unit {0}
CanBeHad m k (lacks.Parent second count) =
    (p : Path) × (path_of_call k second ≡ Some p) × (parents_fault (layers_of m.layers) p ≡ None)
    × IsNeed (layer_of m.layers.upper) p (need.Directory count)
    × OpensToChange (layers_of m.layers) k
CanBeHad m k (lacks.File d) = (b : List ℕ) × (bytes_at (lowers_of m.layers) d ≡ Some b)
