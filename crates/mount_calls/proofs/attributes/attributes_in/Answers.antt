use Rattle.merged_lookup.specs.Merged.{lowers_of}
use Rattle.mount_calls.proofs.Altering.{open-filled}
use Rattle.mount_calls.proofs.attributes.attributes_in.Goals as goal

pub returns : goal.returns
returns c = λ p shown. open-filled (λ a. a.now) c.attributes_on.result _ c.args.place.layer c.args.place.key (lowers_of c.args.layers.now) _ (c.inode_at.ensures p shown) c.attributes_on.ensures
