use Rattle.std.proofs.Common.{ap, ◌∙◌, option_map}
use Rattle.layer_tree.specs.Tree.{Tree, entry, seen_at}
use Rattle.layer_tree.proofs.Retabling.{same_entries, same_seen, same_inode}
use Rattle.layer_tree.proofs.Roots.{links_of, IsTree-alike, SameObjects-alike}
use Rattle.layer_tree.proofs.layer.Layer.name_room.Goals as goal

pub invariant_of-self : goal.invariant_of-self
invariant_of-self c =
    IsTree-alike c.self.inside.nodes c.reserve_names.new.nodes (same_entries _ _ c.args.dir c.reserve_names.ensures.retables) (same_seen _ _ c.args.dir (λ m. m) 0 c.reserve_names.ensures.retables) (λ k. ap (option_map links_of) (same_inode _ _ c.args.dir (λ m. m) 0 c.reserve_names.ensures.retables k)) c.self.invariant

pub returns-clause-objects_held : goal.returns-clause-objects_held
returns-clause-objects_held c =
    SameObjects-alike c.args.self.now c.reserve_names.new.nodes
    (λ d n. same_entries c.self.inside.nodes c.reserve_names.new.nodes c.args.dir c.reserve_names.ensures.retables d n ∙ ap (λ (s : Tree). entry s d n) c.self.view_is)
    (λ k. same_seen c.self.inside.nodes c.reserve_names.new.nodes c.args.dir (λ m. m) 0 c.reserve_names.ensures.retables k ∙ ap (λ (s : Tree). seen_at s k) c.self.view_is)
