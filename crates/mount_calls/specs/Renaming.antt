-- What renames leave of what is open (POSIX.1-2017, rename(): a directory or file that is open stays so, also where it is replaced).
use Rattle.std.specs.Prelude.{◌≡◌, ℕ, Bool, false, Option, option_map}
use Rattle.ov_base.specs.declared.attributes.Attributes.{Attributes}
use Rattle.ov_base.specs.declared.call.CallOf.TheVariants as call
use Rattle.plain_model.specs.Layers.{Path}
use Rattle.plain_model.specs.Machine.{State}
use Rattle.layer_tree.specs.Tree.{layer_of}
use Rattle.merged_lookup.specs.declared.layers.Layers.{Layers}
use Rattle.merged_lookup.specs.Merged.{upper_of, layers_of, lowers_of}
use Rattle.mount_laws.specs.Looks.{IsMountOf}
use Rattle.mount_laws.specs.Removals.{ShowsNoName}
use Rattle.mount_laws.specs.Renaming.{is_one}
use Rattle.rename_redirect.specs.Renaming.{RenameSteps}
use Rattle.object_table.specs.declared.dentry.Unlisted.TheVariants as unlisted
use Rattle.object_table.specs.Opened.{SameHandles}
use Rattle.object_table.specs.Renames.{Moves}
use Rattle.mount_calls.specs.declared.clients.Clients.{Clients}
use Rattle.mount_calls.specs.LeftMarks.{LeavesMoved}
use Rattle.mount_calls.specs.Living.{KeepsHeldFrom, KeepsNamed}

-- the same clients are attached with what they have open, and each open directory stands where it stood
pub record SamePlaces (old new : Clients) : Type 0 where
  pub attached : new.attached ≡ old.attached
  pub places : SameHandles old.directories new.directories
  pub next : new.next ≡ old.next

-- What was open at the one path or below it is open under the other now. The directory that was open at that other path is a removed one,
-- with the attributes of the one that was replaced. Nothing else changes.
pub record RenamesOpen (old new : Clients) (p q : Path) (replaced : Option Attributes) : Type 0 where
  pub attached : new.attached ≡ old.attached
  pub places : Moves old.directories new.directories p q (option_map unlisted.Removed replaced)
  pub next : new.next ≡ old.next

-- What p shows moves to q, in which no name was shown, and leaves these marks: every state with these options goes on so by rename, and of
-- the upper's files what handles hold stays live, and what has a name then.
pub record RenamesHeld (clients : Clients) (old new : Layers) (redirects metacopy : Bool) (p q : Path) : Type 0 where
  pub apart : is_one (layer_of old.upper) p q ≡ false
  pub bare : ShowsNoName (layers_of old) q
  pub marks : LeavesMoved old new p q
  pub steps : RenameSteps old new redirects metacopy p q
  pub live :
      (s : State) → IsMountOf (upper_of old) (lowers_of old) s → s.options.redirects ≡ redirects →
      s.options.metacopy ≡ metacopy → (c : ℕ) →
      KeepsHeldFrom s c clients old new (call.Rename p q)
  pub named :
      (s : State) → IsMountOf (upper_of old) (lowers_of old) s → s.options.redirects ≡ redirects →
      s.options.metacopy ≡ metacopy → (c : ℕ) →
      KeepsNamed s c old new (call.Rename p q)
