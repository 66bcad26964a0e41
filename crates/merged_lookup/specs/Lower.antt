-- What the lower layers have under their keys.
use Rattle.std.specs.Prelude.{ℕ, zero, suc, List, Option, None, Some, slice_get}
use Rattle.std.specs.Option.{option_and_then}
use Rattle.ov_base.specs.declared.bytes.Content.{Content}
use Rattle.ov_base.specs.declared.bytes.Content.TheVariants as content
use Rattle.plain_model.specs.Layers.{Inode, Layer}
use Rattle.ov_base.specs.declared.place.Place.{Place}

-- an inode of a lower layer, the nearest being 1
abbrev pub lower_inode : List Layer → ℕ → ℕ → Option Inode
lower_inode lowers zero k = None
lower_inode lowers (suc j) k = option_and_then (λ (L : Layer). L.inodes k) (slice_get lowers j)

-- the bytes of a file; a symbolic link has none
abbrev pub file_bytes : Content → Option (List ℕ)
file_bytes (content.File bytes) = Some bytes
file_bytes (content.SymbolicLink target) = None

-- the bytes of the file that a lower layer has at this place
abbrev pub lower_bytes : List Layer → Place → Option (List ℕ)
lower_bytes lowers d = option_and_then (λ (i : Inode). file_bytes i.content) (lower_inode lowers d.layer d.key)
