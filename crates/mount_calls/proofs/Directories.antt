-- Open directories where the layers show them, and what closing and listing them does.
use Rattle.std.proofs.Common.{◌≡◌, ℕ, Bool, true, ◌||◌, List, ◌∷◌, Option, Some, sym, ap, ◌∙◌, take, drop, nat_eq, nat_lt, arith}
use Rattle.mount_calls.proofs.Words.{after, Attributes, base, Dentries, face, Folder, folder_attributes, Handle, handle_of, is_directory, is_folder, IsMountOf, Layer, Location, Node, node_at, node_of, NodeId, OpenDirectory, Path, refusal, reply_of, see, Shown, shows, State, when, with_handle}
use Rattle.ov_base.specs.declared.call.CallOf.TheVariants as call
use Rattle.ov_base.specs.declared.errno.Errno.TheVariants as errno
use Rattle.ov_base.specs.declared.reply.Reply.TheVariants as reply
use Rattle.plain_model.specs.Changes.{listing, listed_on}
use Rattle.mount_calls.specs.States.{Stands, IsHandle}

-- the layers show a directory where a node is one
shown-if-folder : (o : Option Node) (b : Bool) (x : Option Shown) → face o ≡ see b x → is_folder o ≡ true → is_directory x ≡ true
shown-if-folder o b x e f = grind arith

-- a node has the attributes of the directory that the layers show
pub shown-attributes : (o : Option Node) (b : Bool) (x : Option Shown) (a : Attributes) → (i k : ℕ) × (x ≡ Some (Folder i k a)) → face o ≡ see b x → folder_attributes o ≡ Some a
shown-attributes o b x a h e = grind arith

-- the calls on a descriptor that is open, but for the names that are listed
pub record Turns (s : State) (c fd : ℕ) (h : Handle) : Type 0 where
  pub refused : (n : ℕ) → refusal s c (call.ListNames fd n) ≡ when (nat_eq n 0 || nat_lt 256 n) errno.EINVAL
  pub answer : (n : ℕ) → reply_of s c (call.ListNames fd n) ≡ reply.Names (take n (drop h.place (listing s.tree h)))
  pub state : (n : ℕ) → after s c (call.ListNames fd n) ≡ record s { tables = with_handle s.tables c fd (listed_on s.tree n (Some h)) }

module _ (U : Layer) (lowers : List Layer) (s : State) (m : IsMountOf U lowers s) where
  -- what is seen of the node at a path
  pub seen : (p : Path) (d : NodeId) → node_at s.tree p ≡ Some d → face (s.tree d) ≡ see (base U lowers p) (shows 0 (U ∷ lowers) p)
  seen p d e = sym (ap (λ z. face (node_of s.tree z)) e) ∙ m.shows.sights p

  pub shown-directory : (p : Path) (d : NodeId) → node_at s.tree p ≡ Some d → is_folder (s.tree d) ≡ true → is_directory (shows 0 (U ∷ lowers) p) ≡ true
  shown-directory p d e f = shown-if-folder (s.tree d) (base U lowers p) (shows 0 (U ∷ lowers) p) (seen p d e) f

  module _ (c fd : ℕ) (ds : Dentries) (o : OpenDirectory) (h : Handle) (on : handle_of s.tables c fd ≡ Some h) (is : IsHandle s.tree ds o h) where
    -- an open directory lists
    pub turns : Turns s c fd h
    turns = by is.location is.stands
      where
        by : (l : Location) → Stands s.tree l h.node → Turns s c fd h
        by l at = grind arith
