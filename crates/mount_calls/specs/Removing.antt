-- What becomes of open directories when one is removed (POSIX.1-2017, rmdir(): its space is freed when no process has it open).
use Rattle.std.specs.Prelude.{◌≡◌, ◌≢◌, ℕ, List, Some}
use Rattle.ov_base.specs.declared.attributes.Attributes.{Attributes}
use Rattle.plain_model.specs.Layers.{Path, Layer, Folder, shows}
use Rattle.object_table.specs.declared.dentry.Unlisted.TheVariants as unlisted
use Rattle.object_table.specs.Opened.{At, opened, Removes}
use Rattle.mount_calls.specs.declared.clients.Clients.{Clients}

-- no client has the directory at a path open
abbrev pub IsOpenNowhere : Clients → Path → Type 0
IsOpenNowhere clients p = (k : ℕ) → opened clients.directories k ≢ Some (At p)

-- some client has it open
abbrev pub IsOpenAt : Clients → Path → Type 0
IsOpenAt clients p = (k : ℕ) × (opened clients.directories k ≡ Some (At p))

-- the layers show a directory with these attributes at a path
abbrev pub HasAttributes : List Layer → Path → Attributes → Type 0
HasAttributes Ls p a = (i k : ℕ) × (shows 0 Ls p ≡ Some (Folder i k a))

-- the directory that is open at a path is a removed one now, and nothing else changes
pub record RemovesOpen (old new : Clients) (p : Path) (a : Attributes) : Type 0 where
  pub attached : new.attached ≡ old.attached
  pub places : Removes old.directories new.directories p (unlisted.Removed a)
  pub next : new.next ≡ old.next
