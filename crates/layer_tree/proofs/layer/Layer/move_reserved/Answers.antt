use Rattle.std.proofs.Common.{◌≡◌, ◌≢◌, ◌<◌, None, IsSome, sym, ap, subst, ◌∙◌}
use Rattle.layer_tree.specs.Tree.{Tree, entry, child, names_room, IsDirectory}
use Rattle.layer_tree.proofs.Moving.{Outcome, outcome, further_kept, room_left, counted_before}
use Rattle.layer_tree.proofs.layer.Layer.move_reserved.Goals.{After-unlink}
use Rattle.layer_tree.proofs.layer.Layer.move_reserved.Goals as goal

pub bind_name-was-requires-clause-room : goal.bind_name-was-requires-clause-room
bind_name-was-requires-clause-room c =
    let apart : child c.self.inside.nodes c.args.to c.args.further ≢ child c.self.inside.nodes c.args.from c.args.name.now = subst (λ (s : Tree). child s c.args.to c.args.further ≢ child s c.args.from c.args.name.now) (sym c.self.view_is) c.requires.apart in
    let room : entry c.self.inside.nodes c.args.to c.args.further ≡ None → 0 < names_room c.self.inside.nodes c.args.to = subst (λ (s : Tree). entry s c.args.to c.args.further ≡ None → 0 < names_room s c.args.to) (sym c.self.view_is) c.requires.names in
    room_left c.self.inside.nodes c.leave_name.new.nodes c.args.from c.args.to c.args.name.now c.args.further c.args.covered c.in-Some.entry (sym c.in-Some.is ∙ c.leave_name.ensures.value) apart c.leave_name.ensures.retables room

pub unlink-requires : goal.unlink-requires
unlink-requires c =
    let apart : child c.self.inside.nodes c.args.to c.args.further ≢ child c.self.inside.nodes c.args.from c.args.name.now = subst (λ (s : Tree). child s c.args.to c.args.further ≢ child s c.args.from c.args.name.now) (sym c.self.view_is) c.requires.apart in
    counted_before c.self.inside.nodes c.leave_name.new.nodes c.args.from c.args.to c.args.name.now c.args.further c.args.covered c.in-Some.entry (sym c.in-Some.is ∙ c.leave_name.ensures.value) apart c.leave_name.ensures.retables c.bind_name-was.new.nodes c.bind_name-was.ensures.retables c.bind_name-was.result c.bind_name-was.ensures.value c.self.invariant

-- what the steps of the call come to
moved : (c : After-unlink) → Outcome c.args.self.now c.unlink.new.nodes c.args.from c.args.to c.args.name.now c.args.further c.args.covered
moved c =
    let apart : child c.self.inside.nodes c.args.to c.args.further ≢ child c.self.inside.nodes c.args.from c.args.name.now = subst (λ (s : Tree). child s c.args.to c.args.further ≢ child s c.args.from c.args.name.now) (sym c.self.view_is) c.requires.apart in
    let object : IsSome (child c.self.inside.nodes c.args.from c.args.name.now) = subst (λ (s : Tree). IsSome (child s c.args.from c.args.name.now)) (sym c.self.view_is) c.requires.object in
    let to_dir : IsDirectory c.self.inside.nodes c.args.to = subst (λ (s : Tree). IsDirectory s c.args.to) (sym c.self.view_is) c.requires.to_dir in
    subst (λ (s : Tree). Outcome s c.unlink.new.nodes c.args.from c.args.to c.args.name.now c.args.further c.args.covered) c.self.view_is
    (outcome c.self.inside.nodes c.leave_name.new.nodes c.bind_name-was.new.nodes c.unlink.new.nodes c.args.from c.args.to c.args.name.now c.args.further c.args.covered c.in-Some.entry (sym c.in-Some.is ∙ c.leave_name.ensures.value) apart c.leave_name.ensures.retables c.bind_name-was.ensures.retables c.bind_name-was.result c.bind_name-was.ensures.value c.unlink.ensures.unlinks c.self.invariant object to_dir)

pub invariant_of-self : goal.invariant_of-self
invariant_of-self c = (moved c).tree

pub returns-clause-value : goal.returns-clause-value
returns-clause-value c =
    let apart : child c.self.inside.nodes c.args.to c.args.further ≢ child c.self.inside.nodes c.args.from c.args.name.now = subst (λ (s : Tree). child s c.args.to c.args.further ≢ child s c.args.from c.args.name.now) (sym c.self.view_is) c.requires.apart in
    c.bind_name-was.ensures.value
    ∙ further_kept c.self.inside.nodes c.leave_name.new.nodes c.args.from c.args.to c.args.name.now c.args.further c.args.covered c.in-Some.entry (sym c.in-Some.is ∙ c.leave_name.ensures.value) apart c.leave_name.ensures.retables
    ∙ ap (λ (s : Tree). entry s c.args.to c.args.further) c.self.view_is

pub returns-clause-path : goal.returns-clause-path
returns-clause-path c = (moved c).path

pub returns-clause-moves : goal.returns-clause-moves
returns-clause-moves c = (moved c).moves

pub returns-clause-unnamed : goal.returns-clause-unnamed
returns-clause-unnamed c = (moved c).unnamed

pub returns-clause-nameless : goal.returns-clause-nameless
returns-clause-nameless c = (moved c).nameless

pub returns-clause-keeps_objects : goal.returns-clause-keeps_objects
returns-clause-keeps_objects c = (moved c).keeps_objects

pub returns-clause-keeps : goal.returns-clause-keeps
returns-clause-keeps c = (moved c).keeps
