-- A handle on a node that no path leads to closes and lists.
use Rattle.std.proofs.Common.{◌≡◌, ◌≢◌, ℕ, zero, suc, Bool, true, false, not, cond, ◌||◌, List, [], ◌∷◌, Option, None, Some, refl, sym, ap, subst, ◌∙◌, inl, inr, is_none, take, drop}
use Rattle.std.specs.Option.{unwrap_or}
use Rattle.std.specs.Prelude.{nat_eq, nat_lt}
use Rattle.std.proofs.lemmas.Bool.{cases_Bool}
use Rattle.ov_base.specs.declared.call.CallOf.TheVariants.{Close, ListNames}
use Rattle.ov_base.specs.declared.errno.Errno.TheVariants.{EBADF, EINVAL, ENOTDIR}
use Rattle.ov_base.specs.declared.node_id.NodeId.{NodeId}
use Rattle.ov_base.specs.declared.reply.Reply.TheVariants as reply
use Rattle.plain_model.specs.Layers.{Name, Path, Layer}
use Rattle.plain_model.specs.Tree.{same_id, Node, Tree, entry, node_at, node_of, names_of, put, face, sight_at, Remounts, is_folder}
use Rattle.plain_model.specs.Machine.{Handle, Table, State, handle_of, handle_node}
use Rattle.plain_model.specs.Refusals.{◌or_else◌, when, refusal}
use Rattle.plain_model.specs.Changes.{is_named, is_held, settled, node_of_handle, names_in, listing, listed_on, with_handle, tree_after}
use Rattle.plain_model.specs.Replies.{page}
use Rattle.plain_model.proofs.Keeping.{put-here, put-there}
use Rattle.plain_model.proofs.Looking.{refusal-reading}
use Rattle.plain_model.proofs.Kept.{law_of_names}
use Rattle.plain_model.proofs.Paths.{ids_tell}
use Rattle.mount_laws.specs.Looks.{IsMountOf, IsHidden}
use Rattle.mount_laws.specs.Removed.{ClosesHidden, LawOfCloseRemoved, LawOfListRemoved}
use Rattle.mount_laws.proofs.Handles.{not-same, held-by}
use Rattle.mount_laws.proofs.Lists.{list-chain}

-- another node at d, which no path leads to, changes no path and nothing that is seen at one
module _ (t : Tree) (d : NodeId) (hid : IsHidden t d) (o : Option Node) where
  abbrev pub changed : Tree
  changed = put t d o

  away : (y : Path) (x : NodeId) → node_at t y ≡ Some x → same_id d x ≡ false
  away y x h = not-same d x (λ s. hid y (h ∙ ap Some (sym s)))

  entries : (y : Path) (k : Name) (z : Option NodeId) → node_at t y ≡ z → entry changed z k ≡ entry t z k
  entries y k None h = refl
  entries y k (Some x) h = ap (λ o. names_of o k) (put-there t d o x (away y x h))

  pub same-paths : (y : Path) → node_at changed y ≡ node_at t y
  same-paths [] = refl
  same-paths (k ∷ y) = ap (λ z. entry changed z k) (same-paths y) ∙ entries y k (node_at t y) refl

  pub same-sights : (y : Path) → sight_at changed y ≡ sight_at t y
  same-sights y = ap (λ z. face (node_of changed z)) (same-paths y) ∙ by (node_at t y) refl
    where
      by : (z : Option NodeId) → node_at t y ≡ z → face (node_of changed z) ≡ face (node_of t z)
      by None h = refl
      by (Some x) h = ap face (put-there t d o x (away y x h))

  pub same-mount : (U : Layer) (lowers : List Layer) → Remounts U lowers t → Remounts U lowers changed
  same-mount U lowers m = record {
    sights = λ y. same-sights y ∙ m.sights y;
    linked = λ y z l. same-paths y ∙ m.linked y z l ∙ sym (same-paths z);
    apart = λ y z x h k. m.apart y z x (sym (same-paths y) ∙ h) (sym (same-paths z) ∙ k);
  }

-- a handle on a node that no path leads to closes
module _ (U : Layer) (lowers : List Layer) (s : State) (m : IsMountOf U lowers s) (c fd : ℕ) (h : Handle) (on : handle_of s.tables c fd ≡ Some h) (hid : IsHidden s.tree h.node) where
  abbrev tables : List Table
  tables = with_handle s.tables c fd None

  abbrev stands : Bool
  stands = is_named (s.tree h.node) || is_held tables h.node

  abbrev left : Option Node
  left = cond stands (s.tree h.node) None

  abbrev rest : Tree
  rest = put s.tree h.node left

  is-rest : tree_after s c (Close fd) ≡ rest
  is-rest = ap (λ o. settled tables s.tree (node_of_handle o)) on

  unrefused : refusal s c (Close fd) ≡ None
  unrefused = refusal-reading s c (Close fd) refl ∙ ap (λ o. when (is_none o) EBADF) on

  others : (d : NodeId) → d ≢ h.node → rest d ≡ s.tree d
  others d apart = put-there s.tree h.node left d (not-same h.node d (λ e. apart (sym e)))

  held : (k i : ℕ) (g : Handle) → handle_of tables k i ≡ Some g → rest g.node ≡ s.tree g.node
  held k i g open_on = elim (cases_Bool (same_id h.node g.node)) [
    | inl same ↦
        let is : h.node ≡ g.node = (ids_tell h.node g.node).0 same in
        put-here s.tree h.node left g.node same
        ∙ ap (λ b. cond (is_named (s.tree h.node) || b) (s.tree h.node) None) (ap (is_held tables) is ∙ held-by tables k i g open_on)
        ∙ kept (is_named (s.tree h.node)) ∙ ap s.tree is
    | inr apart ↦ put-there s.tree h.node left g.node apart
  ]
    where
      kept : (b : Bool) → cond (b || true) (s.tree h.node) None ≡ s.tree h.node
      kept true = refl
      kept false = refl

  pub closes : ClosesHidden U lowers s c fd h
  closes = record {
    refused = unrefused;
    answer = refl;
    tables = refl;
    mounts = record {
      layers = m.layers;
      shows = subst (Remounts U lowers) (sym is-rest) (same-mount s.tree h.node hid left U lowers m.shows);
      kept = law_of_names s c (Close fd) m.kept unrefused;
      writable = m.writable;
    };
    paths = λ q. ap (λ t. node_at t q) is-rest ∙ same-paths s.tree h.node hid left q;
    others = λ d apart. ap (λ t. t d) is-rest ∙ others d apart;
    held = λ k i g open_on. ap (λ t. t g.node) is-rest ∙ held k i g open_on;
  }

-- a handle on a node that no path leads to closes
pub law_of_close_removed : LawOfCloseRemoved
law_of_close_removed U lowers s m c fd h on hid = closes U lowers s m c fd h on hid

-- a directory without names lists none
pub law_of_list_removed : LawOfListRemoved
law_of_list_removed s c fd h on folder bare = record {
  empty = empty;
  refused = λ n.
      refusal-reading s c (ListNames fd n) refl
      ∙ ap (λ x. when (is_none x) EBADF or_else when (not (is_folder (handle_node s.tree x))) ENOTDIR or_else when (nat_eq n 0 || nat_lt 256 n) EINVAL) on
      ∙ list-chain (nat_eq n 0 || nat_lt 256 n) (is_folder (s.tree h.node)) folder;
  answer = answer;
  nothing = λ new n. answer n ∙ ap (λ ns. reply.Names (take n (drop h.place ns))) (empty new) ∙ ap reply.Names (none n h.place);
  state = λ n i. record s { tables = with_handle s.tables c fd (listed_on s.tree n (on i)) };
}
  where
    empty : h.listed ≡ None → listing s.tree h ≡ []
    empty new = ap (λ kept. unwrap_or kept (names_in (s.tree h.node))) new ∙ bare

    answer : (n : ℕ) → reply.Names (page s.tree (handle_of s.tables c fd) n) ≡ reply.Names (take n (drop h.place (listing s.tree h)))
    answer n = ap (λ x. reply.Names (page s.tree x n)) on

    none : (n k : ℕ) → take {A = Name} n (drop k []) ≡ []
    none zero zero = refl
    none zero (suc k) = refl
    none (suc n) zero = refl
    none (suc n) (suc k) = refl
