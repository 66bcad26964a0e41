-- What a call that makes a file or a symbolic link leaves (POSIX.1-2017, symlink(); overlayfs.rst, "whiteouts and opaque directories").
use Rattle.std.specs.Prelude.{◌≡◌, ℕ, List, None, Some}
use Rattle.slab.specs.Slab.{get}
use Rattle.ov_base.specs.declared.attributes.Attributes.{Attributes}
use Rattle.ov_base.specs.declared.bytes.Content.{Content}
use Rattle.ov_base.specs.declared.call.OpenFlags.{OpenFlags}
use Rattle.plain_model.specs.Layers.{Path, Named, held, AreLayers}
use Rattle.plain_model.specs.Machine.{State}
use Rattle.mount_laws.specs.Looks.{IsMountOf}
use Rattle.mount_laws.specs.Leaves.{GainsLeaf, MakesLink, MakesFile}
use Rattle.layer_tree.specs.Tree.{layer_of}
use Rattle.layer_tree.specs.Nameless.{KeepsObjects}
use Rattle.merged_lookup.specs.declared.layers.Layers.{Layers}
use Rattle.merged_lookup.specs.Merged.{upper_of, layers_of, lowers_of}
use Rattle.copy_up.specs.Showing.{KeepsOthers}

-- The upper holds a new file or link at the path, in place of a whiteout where one stood there; it is all that is shown anew.
-- Its number was no other object's; what the upper holds elsewhere, and what stands under its keys, stays, but for missing parents that
-- it gained.
pub record MakesLeaf (old new : Layers) (p : Path) (content : Content) (a : Attributes) : Type 0 where
  pub lowers : new.lowers ≡ old.lowers
  pub number : ℕ
  pub held_there : held (layer_of new.upper) p ≡ Some (Named number)
  pub inode : (upper_of new).inodes number ≡ Some (record { content = content; attributes = a; links = 1; mark = None })
  pub gains : AreLayers (layers_of old) → GainsLeaf (upper_of old) (upper_of new) (lowers_of old) p content a
  pub vacant : get old.upper number ≡ None
  pub others : KeepsOthers old new p
  pub objects : KeepsObjects old.upper new.upper (Some number)

-- every state of the machine whose mount has the old layers goes on to one with the new layers by symlink
abbrev pub SymlinkSteps : Layers → Layers → List ℕ → Path → Type 0
SymlinkSteps old new target p =
    (s : State) → IsMountOf (upper_of old) (lowers_of old) s → (c : ℕ) → MakesLink (upper_of new) (lowers_of new) s c target p

-- every state of the machine whose mount has the old layers goes on to one with the new layers by an open that makes the file, whoever
-- opens it and by whatever flags; the handle is the opener's
abbrev pub CreateSteps : Layers → Layers → Path → ℕ → Type 0
CreateSteps old new p mode =
    (s : State) → IsMountOf (upper_of old) (lowers_of old) s → (c : ℕ) (flags : OpenFlags) → MakesFile (upper_of new) (lowers_of new) s c p flags mode
