-- What each call that is not refused answers (the POSIX.1-2017 pages of the calls; inotify(7) for the notices).
use Rattle.std.specs.Prelude.{ℕ, ◌+◌, pos, min, List, [], Option, None, Some, length, map, take, drop, unwrap_or}
use Rattle.ov_base.specs.declared.attributes.Attributes.{Attributes}
use Rattle.ov_base.specs.declared.bytes.Content.TheVariants.{File, SymbolicLink}
use Rattle.ov_base.specs.Calls.{Call}
use Rattle.ov_base.specs.declared.call.CallOf.TheVariants.{Stat, Readlink, GetAttribute, ListAttributes, Open, Read, Write, Seek, Fstat, ListNames, Arm, TakeNotices}
use Rattle.ov_base.specs.declared.notice.Notice.{Notice}
use Rattle.ov_base.specs.declared.reply.ObjectKind.{ObjectKind}
use Rattle.ov_base.specs.declared.reply.ObjectKind.TheVariants as kind
use Rattle.ov_base.specs.declared.reply.Reply.{Reply}
use Rattle.ov_base.specs.declared.reply.Reply.TheVariants as reply
use Rattle.plain_model.specs.Layers.{Name}
use Rattle.plain_model.specs.Tree.{Node, Branch, Leaf, Tree, node_at, node_of, shown_links}
use Rattle.plain_model.specs.Watching.{Watch, Instance}
use Rattle.plain_model.specs.Machine.{View, Live, Kept, Frozen, Handle, DESCRIPTORS_MAX, State, user_of, value_of, bytes_of_node, handle_of, lowest_free, write_place, instance_of, watches_of, watch_on}
use Rattle.plain_model.specs.Changes.{fitting, listing, read_bytes, sought}

-- the link count that stat(2) has room for
abbrev pub capped : ℕ → ℕ
capped n = min n 4294967295

abbrev pub stat_by : ObjectKind → Attributes → ℕ → ℕ → Reply
stat_by k a size links = reply.Status (record { kind = k; mode = a.mode; uid = a.uid; gid = a.gid; size = size; links = links })

-- what stat shows of a node: a directory has size 0 and 1 link
abbrev pub stat_of : Option Node → Reply
stat_of None = reply.Done
stat_of (Some (Branch a b names c)) = stat_by kind.Directory a 0 1
stat_of (Some (Leaf (File bytes) a u l)) = stat_by kind.File a (length bytes) (capped (shown_links u l))
stat_of (Some (Leaf (SymbolicLink target) a u l)) = stat_by kind.SymbolicLink a (length target) (capped (shown_links u l))

-- the same of a handle that keeps a file's bytes: their number is the size, all else is the node's
abbrev pub stat_kept : List ℕ → Option Node → Reply
stat_kept bytes (Some (Leaf content a u l)) = stat_by kind.File a (length bytes) (capped (shown_links u l))
stat_kept bytes o = stat_of o

abbrev pub stat_seen : View → Option Node → Reply
stat_seen Live o = stat_of o
stat_seen (Kept bytes) o = stat_kept bytes o
stat_seen (Frozen bytes a links) o = stat_by kind.File a (length bytes) (capped links)

-- what fstat shows of a handle
abbrev pub stat_of_handle : Tree → Option Handle → Reply
stat_of_handle t None = reply.Done
stat_of_handle t (Some h) = stat_seen h.view (t h.node)

-- the next names of a handle's listing
abbrev pub page : Tree → Option Handle → ℕ → List Name
page t None n = []
page t (Some h) n = take n (drop h.place (listing t h))

abbrev pub queue_of : Option Instance → List Notice
queue_of None = []
queue_of (Some e) = e.queue

-- the number of the watch on a node, or the next one
abbrev pub number_of : Option Watch → ℕ → ℕ
number_of None next = next
number_of (Some w) next = w.number

abbrev pub next_number : Option Instance → ℕ
next_number None = 1
next_number (Some e) = e.armed + 1

-- the answer to a client's call
abbrev pub reply_of : State → ℕ → Call → Reply
reply_of s c (Stat p) = stat_of (node_of s.tree (node_at s.tree p))
reply_of s c (Readlink p) = reply.Target (bytes_of_node (node_of s.tree (node_at s.tree p)))
reply_of s c (GetAttribute p n) = reply.Value (unwrap_or (value_of (user_of (node_of s.tree (node_at s.tree p))) n) [])
reply_of s c (ListAttributes p) = reply.AttributeNames (map (λ x. x.0) (user_of (node_of s.tree (node_at s.tree p))))
reply_of s c (Open p f mode) = reply.Descriptor (unwrap_or (lowest_free s.tables c) DESCRIPTORS_MAX)
reply_of s c (Read fd n) = reply.Read (read_bytes s.tree (handle_of s.tables c fd) n)
reply_of s c (Write fd bytes) = reply.Written (length (fitting s.options.file_limit (write_place s.tree (handle_of s.tables c fd)) bytes))
reply_of s c (Seek fd offset whence) = reply.Place (sought s c fd offset whence)
reply_of s c (Fstat fd) = stat_of_handle s.tree (handle_of s.tables c fd)
reply_of s c (ListNames fd n) = reply.Names (page s.tree (handle_of s.tables c fd) n)
reply_of s c (Arm slot p mask) = reply.Watch (pos (number_of (watch_on (watches_of (instance_of s.instances c)) (node_at s.tree p)) (next_number (instance_of s.instances c))))
reply_of s c (TakeNotices n) = reply.Unread (take n (queue_of (instance_of s.instances c)))
reply_of s c _ = reply.Done
