use Rattle.std.proofs.Common.{◌≡◌, ◌<◌, ◌∷◌, length, take, reverse}
use Rattle.plain_model.specs.Layers.{Name}
use Rattle.merged_lookup.specs.Merged.{IsStackOf, top_of}
use Rattle.copy_up.specs.Showing.{ShowsSame, Stays, GainsParents}
use Rattle.copy_up.proofs.parents.place_from_root.Given as goal

abbrev pub invariant-loop-name : goal.invariant-loop-name
invariant-loop-name l =
    ShowsSame l.fn.layers l.layers
    × IsStackOf l.layers (reverse (take l.name-index l.names)) l.stack
    × ((top_of l.stack.places.items).layer ≡ 0)
    × Stays l.fn.layers l.layers
    × ((n : Name) → GainsParents l.fn.layers l.layers (n ∷ reverse l.names))
    × (l.name-index < length l.names → GainsParents l.fn.layers l.layers (reverse l.names))
