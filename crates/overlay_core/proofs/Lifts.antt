-- A call of a mount that may make a tracked file of a lower layer the upper's own, once there was
-- room for it.
use Rattle.std.proofs.Common.{◌≡◌, ℕ, Bool, Some, List, ap, map, sym, subst}
use Rattle.ov_base.specs.Calls.{Call}
use Rattle.ov_base.specs.declared.node_id.NodeId.{NodeId}
use Rattle.ov_base.specs.declared.reply.Reply.TheVariants.{Done}
use Rattle.plain_model.specs.Layers.{Layer, Path}
use Rattle.plain_model.specs.Tree.{node_at}
use Rattle.plain_model.specs.Watching.{Rule}
use Rattle.plain_model.specs.Machine.{State}
use Rattle.plain_model.specs.Changes.{after, tree_after}
use Rattle.layer_tree.specs.Tree.{layer_of}
use Rattle.merged_lookup.specs.Merged.{lowers_of}
use Rattle.mount_laws.specs.Nodes.{touched_by}
use Rattle.notice_laws.specs.declared.object.Object.{Object}
use Rattle.notice_laws.specs.declared.object.Object.TheVariants as object
use Rattle.notice_laws.specs.Notified.{Notified, Passes}
use Rattle.notice_laws.specs.Objects.{IsObject}
use Rattle.notice_laws.specs.Steps.{IsLifted}
use Rattle.notifier.specs.Notifying.{IsFree}
use Rattle.mount_calls.specs.declared.mount.Mount.{Mount}
use Rattle.mount_calls.specs.Looking.{IsKeyAt}
use Rattle.overlay_core.specs.Watching.{Agrees, HasState, Stays}
use Rattle.overlay_core.proofs.Lifted.{free-key, free-squashed, is_file, lifted-key}
use Rattle.overlay_core.proofs.Performing.{Performed, passing}
use Rattle.overlay_core.proofs.Watching.{allowed-by, mount_upper}

module _ (rule : Rule) (c : ℕ) (call : Call) (old new : Mount) (from mid : Notified)
    (room : Stays old from old mid) (done : Performed c call Done old new) (p : Path)
    (touches : (s : State) → touched_by s call ≡ node_at s.tree p)
    (files : (s : State) (d : NodeId) → is_file (tree_after s c call d) ≡ is_file (s.tree d))
    (leads : (s : State) →
    Passes (mount_upper old) (mount_upper new) (lowers_of old.layers) s c call →
    (d : NodeId) (q : Path) → node_at s.tree q ≡ Some d → node_at (after s c call).tree q ≡ Some d)
    (o : Object) (stands : IsObject (mount_upper old) (lowers_of old.layers) p o)
    (key : ℕ) (found : IsKeyAt new.layers p key) where
  abbrev U : Layer
  U = mount_upper old

  abbrev V : Layer
  V = mount_upper new

  abbrev L : List Layer
  L = lowers_of old.layers

  -- the key that is found is that of before's lower layers
  found-here : (j : ℕ) (last : Bool) → IsObject V L p (object.Upper j last) → key ≡ j
  found-here j last at =
      found j last (subst (λ (x : List Layer). IsObject V x p (object.Upper j last))
      (sym (ap (λ x. map layer_of x.items) done.lowers)) at)

  -- what was a lower layer's is there by it
  pub lifts-key : (s : State) → Agrees old mid s → Passes U V L s c call →
      IsLifted mid.objects V L p o key
  lifts-key s a passes =
      lifted-key U V L s c call passes p (touches s) (files s) (leads s passes) mid a.tracks key o
      stands (λ low. found-here)

  -- and nothing that was tracked had it
  pub lifts-free : ∥ HasState old from ∥₁ → IsFree mid.objects p o key
  lifts-free has = free-squashed mid.objects p o key has (λ (x : HasState old from).
      let s = x.0 in
      let a = room s x.1 in
      let fine = allowed-by s c call Done new (done.serves s a.stands) (λ e refused. cc) in
      let passes = passing rule c call Done old new mid done s a fine in
      free-key U V L s c call passes p (touches s) (files s) (leads s passes) mid a.tracks key o
      stands (λ low. found-here))
