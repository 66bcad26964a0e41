-- What stat(2) and readlink(2) answer at a path of the layers of a mount, and shows of an object of a layer.
use Rattle.std.specs.Prelude.{ℕ, min, List, length, Option, Some, None, Result, Ok, Err}
use Rattle.std.specs.declared.alloc.AllocError.{AllocError}
use Rattle.ov_base.specs.declared.attributes.Attributes.{Attributes}
use Rattle.ov_base.specs.declared.errno.Errno.{Errno}
use Rattle.ov_base.specs.declared.errno.Errno.TheVariants.{ENOENT, EINVAL}
use Rattle.ov_base.specs.declared.bytes.Content.{Content}
use Rattle.ov_base.specs.declared.bytes.Content.TheVariants as content
use Rattle.ov_base.specs.declared.reply.ObjectKind.{ObjectKind}
use Rattle.ov_base.specs.declared.reply.ObjectKind.TheVariants as kind
use Rattle.ov_base.specs.declared.reply.Reply.{Reply}
use Rattle.ov_base.specs.declared.reply.Reply.TheVariants as reply
use Rattle.ov_base.specs.declared.reply.Stat.{Stat}
use Rattle.layer_tree.specs.declared.node.Node.{Node}
use Rattle.layer_tree.specs.declared.node.Node.TheVariants as node
use Rattle.plain_model.specs.Layers.{Path, Inode, Layer, Shown, Folder, Contents, shows}
use Rattle.merged_lookup.specs.Merged.{walk_fault}

-- what stat shows of an object with these attributes
abbrev pub stat_with : ObjectKind → Attributes → ℕ → ℕ → Stat
stat_with k a size links = record { kind = k; mode = a.mode; uid = a.uid; gid = a.gid; size = size; links = links }

abbrev pub content_kind : Content → ObjectKind
content_kind (content.File bytes) = kind.File
content_kind (content.SymbolicLink target) = kind.SymbolicLink

-- the bytes of a file, or of the target of a symbolic link
abbrev pub content_bytes : Content → List ℕ
content_bytes (content.File bytes) = bytes
content_bytes (content.SymbolicLink target) = target

-- the target of a symbolic link; a file has none
abbrev pub content_target : Content → Option (List ℕ)
content_target (content.File bytes) = None
content_target (content.SymbolicLink target) = Some target

-- what stat shows of a file or symbolic link with these attributes
abbrev pub stat_of_content : Content → Attributes → ℕ → Stat
stat_of_content c a links = stat_with (content_kind c) a (length (content_bytes c)) (min links 4294967295)

-- what stat shows of an object of a layer: a directory has size 0 and one link
abbrev pub status_of : Node → Stat
status_of (node.Directory d) = stat_with kind.Directory d.attributes 0 1
status_of (node.Inode i) = stat_of_content i.content i.attributes i.links

-- what stat shows of the inode of a layer
abbrev pub stat_of_inode : Option Inode → Result Stat Errno
stat_of_inode None = Err ENOENT
stat_of_inode (Some i) = Ok (stat_of_content i.content i.attributes i.links)

-- what stat shows of what is shown
abbrev pub stat_shown : Option Shown → Result Stat Errno
stat_shown None = Err ENOENT
stat_shown (Some (Folder i k a)) = Ok (stat_with kind.Directory a 0 1)
stat_shown (Some (Contents i k inode)) = stat_of_inode inode

-- the refusal, where there is one
abbrev pub unless_refused : {A : Type 0} → Option Errno → Result A Errno → Result A Errno
unless_refused None r = r
unless_refused (Some e) r = Err e

-- the answer of stat at a path: why the walk there is refused, or what is shown
abbrev pub stat_at : List Layer → Path → Result Stat Errno
stat_at Ls p = unless_refused (walk_fault Ls p) (stat_shown (shows 0 Ls p))

-- the reply to readlink of what has this target, or none
abbrev pub target_reply : Option (List ℕ) → Reply
target_reply None = reply.Refused EINVAL
target_reply (Some target) = reply.Target target

-- how a change is answered that was judged before: it is done, whatever it tells, or memory runs
-- out
abbrev pub done_result : {A : Type 0} → Result A AllocError → Result Reply AllocError
done_result (Ok told) = Ok reply.Done
done_result (Err e) = Err e
