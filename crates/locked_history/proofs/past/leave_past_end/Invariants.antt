use Rattle.std.proofs.Common.{◌≡◌, map, take, All, vec_len}
use Rattle.std.proofs.lemmas.List.Filters.{FiltersInPlace}
use Rattle.locked_history.specs.Claims.{is_past_end, StandsIn}
use Rattle.locked_history.specs.Entries.{entry_in}
use Rattle.locked_history.proofs.past.leave_past_end.Given as goal

abbrev pub invariant-loop-i : goal.invariant-loop-i
invariant-loop-i g l =
    FiltersInPlace (is_past_end (map (λ n. entry_in n.known) l.initial.notes.items)) l.initial.receipts.items l.receipts.items l.left l.i
    × ((l.notes.items ≡ l.initial.notes.items) × (vec_len l.notes ≡ vec_len l.initial.notes))
    × All (StandsIn (map (λ n. entry_in n.known) l.initial.notes.items)) (take l.i l.initial.receipts.items)
