use Rattle.std.proofs.Common.{ap, ◌∙◌, option_map, subst, sym}
use Rattle.plain_model.specs.Layers.{held, IsLayer}
use Rattle.layer_tree.specs.Tree.{Tree, entry, seen_at, inode_at, layer_of}
use Rattle.layer_tree.proofs.Roots.{links_of, IsTree-alike}
use Rattle.layer_tree.proofs.Keeping.{IsLayer-same}
use Rattle.layer_tree.proofs.layer.Layer.room.Goals as goal

pub invariant_of-self : goal.invariant_of-self
invariant_of-self c =
    IsTree-alike c.self.inside.nodes c.reserve.new.self (λ d n. ap (λ (s : Tree). entry s d n) c.reserve.ensures.rest_kept) (λ k. ap (λ (s : Tree). seen_at s k) c.reserve.ensures.rest_kept) (λ k. ap (λ (s : Tree). option_map links_of (inode_at s k)) c.reserve.ensures.rest_kept) c.self.invariant

pub invariant_of-self-2 : goal.invariant_of-self-2
invariant_of-self-2 c =
    IsTree-alike c.self.inside.nodes c.reserve.new.self (λ d n. ap (λ (s : Tree). entry s d n) c.reserve.ensures.rest_kept) (λ k. ap (λ (s : Tree). seen_at s k) c.reserve.ensures.rest_kept) (λ k. ap (λ (s : Tree). option_map links_of (inode_at s k)) c.reserve.ensures.rest_kept) c.self.invariant

pub returns-in_err-reserve-clause-objects_held : goal.returns-in_err-reserve-clause-objects_held
returns-in_err-reserve-clause-objects_held c path =
    ap (λ (s : Tree). held (layer_of s) path) c.reserve.ensures.rest_kept ∙ ap (λ (s : Tree). held (layer_of s) path) c.self.view_is

pub returns-clause-objects_held : goal.returns-clause-objects_held
returns-clause-objects_held c path =
    c.name_room.ensures.objects_held path ∙ ap (λ (s : Tree). held (layer_of s) path) c.reserve.ensures.rest_kept ∙ ap (λ (s : Tree). held (layer_of s) path) c.self.view_is

pub returns-in_err-reserve-clause-keeps : goal.returns-in_err-reserve-clause-keeps
returns-in_err-reserve-clause-keeps c = subst IsLayer (sym (ap layer_of c.reserve.ensures.rest_kept ∙ ap layer_of c.self.view_is))

pub returns-clause-keeps : goal.returns-clause-keeps
returns-clause-keeps c layer =
    IsLayer-same c.reserve.new.self c.name_room.new.self c.name_room.ensures.same c.name_room.ensures.objects_held (subst IsLayer (sym (ap layer_of c.reserve.ensures.rest_kept ∙ ap layer_of c.self.view_is)) layer)
