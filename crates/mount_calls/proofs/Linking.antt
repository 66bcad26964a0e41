-- What readlink answers.
use Rattle.std.proofs.Common.{◌≡◌, ℕ, Bool, true, false, not, List, Option, None, Some, Result, refl, sym, ap, ◌∙◌, ◌⊎◌, inl, inr, is_some, arith}
use Rattle.std.proofs.lemmas.Bool.{false≢true}
use Rattle.mount_calls.proofs.Words.{AllocError, Content, EINVAL, Errno, IfOk, Inode, Layer, Layers, layers_of, lowers_of, option_and_then, or_else, Path, Place, refusal, Reply, Shown, shows, shows_link, ShowsInode, State, when}
use Rattle.ov_base.specs.declared.bytes.Content.TheVariants as content
use Rattle.merged_lookup.specs.Marking.{content_in, inode_over}
use Rattle.ov_base.specs.declared.call.CallOf.TheVariants as call
use Rattle.ov_base.specs.declared.reply.Reply.TheVariants as reply
use Rattle.merged_lookup.specs.Merged.{upper_of, walk_fault}
use Rattle.mount_laws.specs.Leaves.{Reads, inode_target, shown_target}
use Rattle.mount_laws.proofs.Refusing.{law_of_readlink}
use Rattle.mount_calls.specs.declared.mount.Mount.{Mount}
use Rattle.mount_calls.specs.Status.{content_target, target_reply}
use Rattle.mount_calls.specs.States.{IsStateOf, Serves}
use Rattle.mount_calls.proofs.Answering.{serve-refused, serve-done}
use Rattle.mount_calls.proofs.Marks.{over-shown}
use Rattle.mount_calls.proofs.Stating.{the_layers}

-- the reply to readlink of what has this target, or none, where the walk is refused or not
abbrev pub link_reply : Option Errno → Option (List ℕ) → Reply
link_reply None target = target_reply target
link_reply (Some e) target = reply.Refused e

-- the reply to readlink at a path: why the walk there is refused, or the target of the symbolic link that is shown
abbrev pub readlink_reply : List Layer → Path → Reply
readlink_reply Ls p = link_reply (walk_fault Ls p) (shown_target (shows 0 Ls p))

-- what an inode holds has its target
content-target : (c : Content) (i : Inode) → content_target c ≡ inode_target (Some (record i { content = c }))
content-target (content.File bytes) i = refl
content-target (content.SymbolicLink target) i = refl

held-target : (o : Option Inode) → option_and_then content_target (content_in o) ≡ inode_target o
held-target None = refl
held-target (Some i) = content-target i.content i

-- the target of a file or symbolic link that is shown
pub link-target : (l : Layers) (p : Path) (d : Place) → ShowsInode l p d →
    option_and_then content_target (content_in (inode_over l d)) ≡ shown_target
    (shows 0 (layers_of l) p)
link-target l p d i =
    ap (λ z. option_and_then content_target (content_in z)) (over-shown l p d i.inode i.shown)
    ∙ held-target i.inode
    ∙ sym (ap shown_target i.shown)

-- the reply to readlink of a file or symbolic link that is shown
pub link-inode : (l : Layers) (p : Path) (d : Place) → walk_fault (layers_of l) p ≡ None → ShowsInode l p d → target_reply (option_and_then content_target (content_in (inode_over l d))) ≡ readlink_reply (layers_of l) p
link-inode l p d none i =
    ap target_reply (link-target l p d i)
    ∙ sym (ap (λ w. link_reply w (shown_target (shows 0 (layers_of l) p))) none)

-- a call that may run out of memory answers the same reply told otherwise
pub answers-as : (result : Result Reply AllocError) (a b : Reply) → a ≡ b → IfOk result (λ r. r ≡ a) → IfOk result (λ r. r ≡ b)
answers-as result a b e h = grind arith

-- and so what holds of that reply
pub serves-as : (result : Result Reply AllocError) (a : Reply) (P : Reply → Type 0) → ((r : Reply) → r ≡ a → P r) → IfOk result (λ r. r ≡ a) → IfOk result P
serves-as result a P f h = grind arith

-- a symbolic link is shown with its target, and nothing else has one
abbrev pub Tells : Option Shown → Type 0
Tells o = ((shown_target o ≡ None) × (shows_link o ≡ false)) ⊎ ((target : List ℕ) × (shown_target o ≡ Some target) × (shows_link o ≡ true))

-- each of what is shown is one of these
tells : (o : Option Shown) → Tells o
tells o = grind arith

module _ (m : Mount) (s : State) (st : IsStateOf m s) (c : ℕ) (p : Path) where
  law : Reads (the_layers m) s c p
  law = law_of_readlink (upper_of m.layers) (lowers_of m.layers) s st.layers c p

  -- readlink is refused where the walk is, or what is shown is no symbolic link
  is-refused : (w : Option Errno) (b : Bool) → walk_fault (the_layers m) p ≡ w → shows_link (shows 0 (the_layers m) p) ≡ b → refusal s c (call.Readlink p) ≡ or_else w (when (not b) EINVAL)
  is-refused w b e f = law.refused ∙ ap (λ z. or_else z (when (not (shows_link (shows 0 (the_layers m) p))) EINVAL)) e ∙ ap (λ z. or_else w (when (not z) EINVAL)) f

  serves : (r : Reply) (w : Option Errno) → walk_fault (the_layers m) p ≡ w → r ≡ link_reply w (shown_target (shows 0 (the_layers m) p)) → Serves (refusal s c (call.Readlink p)) s c (call.Readlink p) r m
  serves r (Some e) h is = rw is (serve-refused _ s c (call.Readlink p) e m (is-refused (Some e) _ h refl) st)
  serves r None h is = by (tells (shows 0 (the_layers m) p))
    where
      by : Tells (shows 0 (the_layers m) p) → Serves (refusal s c (call.Readlink p)) s c (call.Readlink p) r m
      by (inl t) =
          let same : r ≡ reply.Refused EINVAL = is ∙ ap target_reply t.0 in
          rw same (serve-refused _ s c (call.Readlink p) EINVAL m (is-refused None false h t.1) st)
      by (inr t) =
          let same : r ≡ reply.Target t.0 = is ∙ ap target_reply t.1 in
          serve-done _ s c (call.Readlink p) r m (is-refused None true h t.2) (same ∙ sym (law.answer t.0 t.1)) st

  -- it isn't refused where a link is shown
  pub readlink-allowed : walk_fault (the_layers m) p ≡ None →
      is_some (shown_target (shows 0 (the_layers m) p)) ≡ true →
      refusal s c (call.Readlink p) ≡ None
  readlink-allowed none some = by (tells (shows 0 (the_layers m) p))
    where
      by : Tells (shows 0 (the_layers m) p) → refusal s c (call.Readlink p) ≡ None
      by (inl t) = absurd (false≢true (sym (ap is_some t.0) ∙ some))
      by (inr t) = is-refused None true none t.2

  pub readlink-serves : (r : Reply) → r ≡ readlink_reply (the_layers m) p → Serves (refusal s c (call.Readlink p)) s c (call.Readlink p) r m
  readlink-serves r is = serves r (walk_fault (the_layers m) p) refl is
