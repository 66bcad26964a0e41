-- What handles do on nodes that no path leads to any more, as a directory that was removed (POSIX.1-2017, rmdir(), unlink() and close()).
use Rattle.std.specs.Prelude.{◌≡◌, ◌≢◌, ℕ, true, ◌||◌, List, [], None, Some, nat_eq, nat_lt, take, drop}
use Rattle.ov_base.specs.declared.call.CallOf.TheVariants as call
use Rattle.ov_base.specs.declared.errno.Errno.TheVariants as errno
use Rattle.ov_base.specs.declared.node_id.NodeId.{NodeId}
use Rattle.ov_base.specs.declared.reply.Reply.TheVariants as reply
use Rattle.plain_model.specs.Layers.{Path, Layer}
use Rattle.plain_model.specs.Tree.{node_at, is_folder}
use Rattle.plain_model.specs.Machine.{Handle, State, handle_of}
use Rattle.plain_model.specs.Refusals.{when, refusal}
use Rattle.plain_model.specs.Changes.{names_in, listing, listed_on, with_handle, after}
use Rattle.plain_model.specs.Replies.{reply_of}
use Rattle.mount_laws.specs.Looks.{IsMountOf, IsHidden}

-- A handle on a node that no path leads to closes. The mount stays one of its layers, paths lead where they led, other nodes are as they
-- were, and so is the handle's own where another handle is still open on it.
pub record ClosesHidden (U : Layer) (lowers : List Layer) (s : State) (c fd : ℕ) (h : Handle) : Type 0 where
  pub refused : refusal s c (call.Close fd) ≡ None
  pub answer : reply_of s c (call.Close fd) ≡ reply.Done
  pub tables : (after s c (call.Close fd)).tables ≡ with_handle s.tables c fd None
  pub mounts : IsMountOf U lowers (after s c (call.Close fd))
  pub paths : (q : Path) → node_at (after s c (call.Close fd)).tree q ≡ node_at s.tree q
  pub others : (d : NodeId) → d ≢ h.node → (after s c (call.Close fd)).tree d ≡ s.tree d
  pub held : (k i : ℕ) (g : Handle) → handle_of (with_handle s.tables c fd None) k i ≡ Some g → (after s c (call.Close fd)).tree g.node ≡ s.tree g.node

abbrev pub LawOfCloseRemoved : Type 0
LawOfCloseRemoved =
    (U : Layer) (lowers : List Layer) (s : State) → IsMountOf U lowers s →
    (c fd : ℕ) (h : Handle) → handle_of s.tables c fd ≡ Some h → IsHidden s.tree h.node → ClosesHidden U lowers s c fd h

-- A handle on a directory without names lists nothing, unless it keeps a listing of before. A call is refused for its count alone, gives
-- the next names of the listing, and leaves the handle after them; all else stays.
pub record ListsRemoved (s : State) (c fd : ℕ) (h : Handle) : Type 0 where
  pub empty : h.listed ≡ None → listing s.tree h ≡ []
  pub refused : (n : ℕ) → refusal s c (call.ListNames fd n) ≡ when (nat_eq n 0 || nat_lt 256 n) errno.EINVAL
  pub answer : (n : ℕ) → reply_of s c (call.ListNames fd n) ≡ reply.Names (take n (drop h.place (listing s.tree h)))
  pub nothing : h.listed ≡ None → (n : ℕ) → reply_of s c (call.ListNames fd n) ≡ reply.Names []
  pub state : (n : ℕ) → after s c (call.ListNames fd n) ≡ record s { tables = with_handle s.tables c fd (listed_on s.tree n (Some h)) }

abbrev pub LawOfListRemoved : Type 0
LawOfListRemoved =
    (s : State) (c fd : ℕ) (h : Handle) → handle_of s.tables c fd ≡ Some h →
    is_folder (s.tree h.node) ≡ true → names_in (s.tree h.node) ≡ [] → ListsRemoved s c fd h
