-- When layers are a mount, and what its options come to.
use Rattle.std.specs.Prelude.{◌≡◌, ◌⊎◌, ℕ, ◌+◌, ◌-◌, ◌&&◌, ◌||◌, not, Any, Bool, cond, true, false, List, Option, None, Some, is_some, nat_lt}
use Rattle.ov_base.specs.declared.options.Options.{Options}
use Rattle.plain_model.specs.Layers.{Contents, Inode, Layer, Path, Shown, is_file, shows}
use Rattle.plain_model.specs.Machine.{MountOptions}
use Rattle.layer_tree.specs.Tree.{HasMark}
use Rattle.overlay_core.specs.declared.mount_faults.MountFault.{MountFault}
use Rattle.overlay_core.specs.declared.mount_faults.MountFault.TheVariants.{NoLower, TooManyLowers, BadHistory, BadMetacopy}

-- why so many lower layers and these options are no mount's, the first of three faults: without an
-- upper there are two lower layers at least
abbrev pub mount_fault : Bool → ℕ → Options → Option MountFault
mount_fault has_upper lowers options =
    cond (nat_lt lowers (cond has_upper 1 2)) (Some NoLower)
    (cond (nat_lt 16 lowers) (Some TooManyLowers)
    (cond (nat_lt options.history 2 || nat_lt 1000000 options.history) (Some BadHistory)
    None))

-- whether a file is shown
abbrev pub shows_file : Option Shown → Bool
shows_file (Some (Contents j k (Some i))) = is_file i.content
shows_file _ = false

-- an inode of the upper bears a mark at which the layers below it show no file
abbrev pub IsAstray : Layer → List Layer → Type 0
IsAstray U lowers = (key : ℕ) × (i : Inode) × (q : Path) × (U.inodes key ≡ Some i) × (i.mark ≡ Some q) × (shows_file (shows 1 lowers q) ≡ false)

-- marks are to be made where no redirects are, or stand where none may, in a lower layer, or lead
-- astray; without an upper none is made
abbrev pub IsBadMetacopy : Options → Option Layer → List Layer → Type 0
IsBadMetacopy options (Some U) lowers =
    ((options.metacopy && not options.redirects) ≡ true) ⊎ (Any HasMark lowers ⊎ IsAstray U lowers)
IsBadMetacopy options None lowers = Any HasMark lowers

-- why an upper, if there is one, over so many layers is no mount: the first of the three faults, or
-- else the marks
abbrev pub IsFault : ℕ → Options → Option Layer → List Layer → MountFault → Type 0
IsFault n options U lowers fault =
    (mount_fault (is_some U) n options ≡ Some fault)
    ⊎ ((mount_fault (is_some U) n options ≡ None) × (fault ≡ BadMetacopy) × IsBadMetacopy options U lowers)

-- there is no such fault
abbrev pub IsMountable : ℕ → Options → Option Layer → List Layer → Type 0
IsMountable n options U lowers =
    (mount_fault (is_some U) n options ≡ None) × (IsBadMetacopy options U lowers → ⊥)

-- the options of a mount as the plain machine has them
abbrev pub machine_options : Bool → Options → MountOptions
machine_options read_only options =
    record {
      redirects = options.redirects;
      metacopy = options.metacopy;
      read_only = read_only;
      file_limit = options.file_limit;
    }

-- the places of a history that are left where so much was finished, and each attached client keeps one
abbrev pub places_left : Options → ℕ → ℕ → ℕ
places_left options finished attached = options.history - (finished + attached)
