use Rattle.std.proofs.Common.{◌∙◌, List, ℕ, rules}
use Rattle.std.proofs.lemmas.Iterator.{YieldsList-from_map_by}
use Rattle.std.proofs.lemmas.Iterator.Consumers.{YieldsList-from_rest, YieldsList-at, map_from_collect}
use Rattle.std.proofs.lemmas.Result.{IfOk-weaker}
use Rattle.layer_tree.specs.declared.name_table.Entry.{Entry}
use Rattle.dir_listing.specs.Bound.{bound_of}
use Rattle.dir_listing.proofs.Merging.{map-same}
use Rattle.dir_listing.proofs.bound.collected.Goals as goal

pub returns : goal.returns
returns c =
    IfOk-weaker c.collect.result _ _ (λ v is. is ∙ map-same c.args.entries)
    (map_from_collect {v = bound_of} _ c.collect.ensures.ran (YieldsList-from_map_by _ bound_of (λ (e : List ℕ × Entry). e) (YieldsList-at c.map.ensures.source (YieldsList-from_rest c.args.entries c.iter.ensures.rest)) c.map.ensures.closure (λ x r q k. search rules)))
