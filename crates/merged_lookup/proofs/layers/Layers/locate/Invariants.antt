use Rattle.std.proofs.Common.{◌≡◌}
use Rattle.plain_model.specs.Layers as model
use Rattle.merged_lookup.specs.Searching.{Covers, IsSound}
use Rattle.merged_lookup.proofs.layers.Layers.locate.Given as goal

-- all paths to the key are covered
abbrev pub invariant-loop : goal.invariant-loop
invariant-loop l =
    record {
      key : l.search.key ≡ l.key;
      sound : IsSound l.layer l.search;
      covers : (x : model.Path) → Covers l.layer l.key l.search x;
    }
