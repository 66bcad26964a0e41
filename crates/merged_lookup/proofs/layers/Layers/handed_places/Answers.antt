use Rattle.std.proofs.Common.{◌∙◌, ap, reverse}
use Rattle.merged_lookup.specs.Descent.{without_upper}
use Rattle.merged_lookup.proofs.Keeping.{handed-places, no-handed-places}
use Rattle.merged_lookup.proofs.layers.Layers.handed_places.Goals as goal

pub returns-in-Ok : goal.returns-in-Ok
returns-in-Ok c =
    c.copied_below.ensures ∙ ap without_upper c.places.ensures
    ∙ handed-places c.args.self.now (reverse c.args.names.now) c.requires.0 c.in-Ok.stack.places.items c.requires.1 c.in-Ok.ensures.found.1.places

pub returns-in-Err : goal.returns-in-Err
returns-in-Err c =
    c.new.ensures ∙ no-handed-places c.args.self.now (reverse c.args.names.now) c.requires.0 c.in-Err.field-0 c.requires.1 c.in-Err.ensures.refused
