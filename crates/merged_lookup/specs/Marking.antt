-- What is shown of the files without bytes of their own.
use Rattle.std.specs.Prelude.{List, Option, None, Some}
use Rattle.std.specs.Option.{option_and_then}
use Rattle.ov_base.specs.declared.bytes.Content.{Content}
use Rattle.ov_base.specs.declared.bytes.Content.TheVariants.{File, SymbolicLink}
use Rattle.plain_model.specs.Layers.{Inode, Shown, Folder, Contents}
use Rattle.layer_tree.specs.Tree.{Tree, inode_of}
use Rattle.merged_lookup.specs.declared.found.Topmost.{Topmost}
use Rattle.merged_lookup.specs.declared.found.Topmost.TheVariants as shown
use Rattle.merged_lookup.specs.declared.layers.Layers.{Layers}
use Rattle.ov_base.specs.declared.place.Place.{Place}
use Rattle.merged_lookup.specs.Merged.{trees, node_in, lowers_of, fill_at}

-- the content of a file; what is none has none here
abbrev pub file_content : Option Inode → Option Content
file_content None = None
file_content (Some i) = elim i.content [ File bytes ↦ Some (File bytes) | SymbolicLink target ↦ None ]

-- a place where a file stands
abbrev pub place_if : Place → Option Content → Option Place
place_if d None = None
place_if d (Some c) = Some d

-- the place of what is shown, where that is a file
abbrev pub file_place : Option Shown → Option Place
file_place None = None
file_place (Some (Folder j k a)) = None
file_place (Some (Contents j k x)) = place_if (record { layer = j; key = k }) (file_content x)

-- the place of the topmost object at a name, where that is a file
abbrev pub topmost_file : List Tree → Option Topmost → Option Place
topmost_file ts None = None
topmost_file ts (Some (shown.Directory d)) = None
topmost_file ts (Some (shown.Inode d)) = place_if d (file_content (option_and_then inode_of (node_in ts d)))

-- what an inode holds
abbrev pub content_in : Option Inode → Option Content
content_in None = None
content_in (Some i) = Some i.content

-- the inode at a place, as it shows
abbrev pub inode_over : Layers → Place → Option Inode
inode_over l d = fill_at d.layer (lowers_of l) (option_and_then inode_of (node_in (trees l) d))
