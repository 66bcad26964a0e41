use Rattle.std.proofs.Common.{[], ap, ◌∙◌}
use Rattle.layer_tree.specs.Tree.{layer_of}
use Rattle.layer_tree.proofs.Changing.{directory_is_present}
use Rattle.copy_up.specs.Showing.{number_of}
use Rattle.copy_up.proofs.OtherAttributes.{StandsAt, stands-at, thin-directory, alters-placed}
use Rattle.copy_up.proofs.AlteredObjects.{object-directory}
use Rattle.copy_up.proofs.Keeping.{then-layers}
use Rattle.copy_up.proofs.Texts.{marks-same}
use Rattle.copy_up.proofs.altering.place_with.Goals as goal

pub set_attributes-requires : goal.set_attributes-requires
set_attributes-requires c =
    let at : StandsAt c.place_at.new.layers.upper c.args.path.now c.top-dir.result.key = stands-at c.place_at.new.layers c.args.path.now c.in_ok-placed.placed c.top-dir.result c.lawful.ensures.tree c.in_ok-placed.ensures.stack c.in_ok-placed.ensures.upper c.top-dir.ensures in
    directory_is_present c.place_at.new.layers.upper c.top-dir.result.key at.directory

pub returns-clause-altered : goal.returns-clause-altered
returns-clause-altered c =
    let p = c.place_at.ensures in
    let at : StandsAt c.place_at.new.layers.upper c.args.path.now c.top-dir.result.key = stands-at c.place_at.new.layers c.args.path.now c.in_ok-placed.placed c.top-dir.result c.lawful.ensures.tree c.in_ok-placed.ensures.stack c.in_ok-placed.ensures.upper c.top-dir.ensures in
    λ low. alters-placed c.place_at.new.layers c.set_attributes.new.layers c.set_attributes.ensures.lowers c.args.path.now c.top-dir.result.key c.args.attributes (c.set_attributes.ensures.directory c.args.path.now at.key at.directory)
    low c.args.layers.now p.same p.stays.names p.stays.sound.layers c.set_attributes.ensures.keeps

pub returns-clause-object : goal.returns-clause-object
returns-clause-object c =
    let gains = c.place_at.ensures.gains [] in
    let at : StandsAt c.place_at.new.layers.upper c.args.path.now c.top-dir.result.key = stands-at c.place_at.new.layers c.args.path.now c.in_ok-placed.placed c.top-dir.result c.lawful.ensures.tree c.in_ok-placed.ensures.stack c.in_ok-placed.ensures.upper c.top-dir.ensures in
    object-directory c.args.layers.now c.place_at.new.layers c.set_attributes.new.layers [] c.args.path.now c.top-dir.result.key c.args.attributes gains
    c.set_attributes.ensures.sets (c.set_attributes.ensures.directory c.args.path.now at.key at.directory)
    (λ k h. c.set_attributes.ensures.nameless k (gains.objects.nameless k h))

pub returns-clause-key : goal.returns-clause-key
returns-clause-key c =
    let at : StandsAt c.place_at.new.layers.upper c.args.path.now c.top-dir.result.key = stands-at c.place_at.new.layers c.args.path.now c.in_ok-placed.placed c.top-dir.result c.lawful.ensures.tree c.in_ok-placed.ensures.stack c.in_ok-placed.ensures.upper c.top-dir.ensures in
    ap number_of (c.set_attributes.ensures.directory c.args.path.now at.key at.directory).now

pub returns-clause-nameless : goal.returns-clause-nameless
returns-clause-nameless c = λ k h. c.set_attributes.ensures.nameless k ((c.place_at.ensures.gains []).objects.nameless k h)

pub returns-clause-sound : goal.returns-clause-sound
returns-clause-sound c =
    let sound = c.place_at.ensures.stays.sound in
    let at : StandsAt c.place_at.new.layers.upper c.args.path.now c.top-dir.result.key = stands-at c.place_at.new.layers c.args.path.now c.in_ok-placed.placed c.top-dir.result c.lawful.ensures.tree c.in_ok-placed.ensures.stack c.in_ok-placed.ensures.upper c.top-dir.ensures in
    record {
      layers = then-layers c.args.layers.now c.place_at.new.layers c.set_attributes.new.layers sound.layers c.set_attributes.ensures.lowers c.set_attributes.ensures.keeps;
      thin = λ h. thin-directory c.place_at.new.layers c.set_attributes.new.layers c.set_attributes.ensures.lowers c.args.path.now c.top-dir.result.key c.args.attributes (c.set_attributes.ensures.directory c.args.path.now at.key at.directory) (sound.thin h);
    }

pub returns-clause-texts : goal.returns-clause-texts
returns-clause-texts c =
    let old = c.args.layers.now in
    let new = c.set_attributes.new.layers in
    let at : StandsAt c.place_at.new.layers.upper c.args.path.now c.top-dir.result.key = stands-at c.place_at.new.layers c.args.path.now c.in_ok-placed.placed c.top-dir.result c.lawful.ensures.tree c.in_ok-placed.ensures.stack c.in_ok-placed.ensures.upper c.top-dir.ensures in
    marks-same (layer_of old.upper) (layer_of new.upper) _ (λ k. (c.set_attributes.ensures.directory c.args.path.now at.key at.directory).inodes k ∙ c.place_at.ensures.stays.inodes k)
