-- A row that was made longer.
use Rattle.std.proofs.Common.{◌≡◌, ℕ, zero, suc, List, [], ◌∷◌, ◌++◌, refl}
use Rattle.std.specs.List.{FoldsTo}
use Rattle.watch_table.specs.Watched.{Watched, watchers_of}

-- places past a row's end at which nobody is change nothing that is seen
pub longer-row : {F : Type 0} (R : F → List ℕ → F → Type 0) → ((p : F) (clients : List ℕ) (q : F) → R p clients q → clients ≡ []) →
    (t more : Watched) (p q : F) → FoldsTo R p more q → (n : ℕ) → watchers_of (t ++ more) n ≡ watchers_of t n
longer-row R none [] [] p q made n = refl
longer-row R none [] (clients ∷ more) p q made zero = none p clients made.0 made.1
longer-row R none [] (clients ∷ more) p q made (suc n) = longer-row R none [] more made.0 q made.2 n
longer-row R none (clients ∷ t) more p q made zero = refl
longer-row R none (clients ∷ t) more p q made (suc n) = longer-row R none t more p q made n
