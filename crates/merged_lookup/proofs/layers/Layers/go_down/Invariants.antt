use Rattle.std.proofs.Common.{◌≡◌, ◌<◌, None, IfSome, length, reverse, take}
use Rattle.merged_lookup.specs.Merged.{layers_of, places_at, way_fault}
use Rattle.merged_lookup.specs.Trails.{IsTrail}
use Rattle.merged_lookup.proofs.layers.Layers.go_down.Given as goal

abbrev pub invariant-loop-index : goal.invariant-loop-index
invariant-loop-index l =
    record {
      way : way_fault (layers_of l.self) (reverse (take l.index l.names)) ≡ None;
      places : l.places.items ≡ places_at 0 (layers_of l.self) (reverse (take l.index l.names));
      some : 0 < length l.places.items;
      trail : IfSome l.trail (IsTrail l.self.upper (take l.index l.names));
    }
