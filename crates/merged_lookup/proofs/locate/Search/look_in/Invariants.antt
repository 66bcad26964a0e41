use Rattle.std.proofs.Common.{◌≡◌, ◌∷◌, ◌++◌, true, take}
use Rattle.std.specs.List.{list_any}
use Rattle.std.specs.Str.{bytes_eq}
use Rattle.plain_model.specs.Layers as model
use Rattle.merged_lookup.specs.Searching.{Covers, GoesOn}
use Rattle.merged_lookup.proofs.locate.Search.look_in.Given as goal

-- the paths through the names so far are covered
abbrev pub invariant-loop-name : goal.invariant-loop-name
invariant-loop-name l =
    record {
      goes : GoesOn l.layer l.initial.self l.self;
      looked : (n : model.Name) → list_any (bytes_eq n) (take l.name-index l.name-items) ≡ true → (r : model.Path) → Covers l.layer l.initial.self.key l.self (r ++ n ∷ l.directory.path);
    }
