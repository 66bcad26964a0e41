-- How far a search of a layer for the path of an object has come.
use Rattle.std.specs.Prelude.{◌≡◌, ℕ, false, List, [], ◌∷◌, ◌++◌, Option, None, Some, option_map, ◌⊎◌}
use Rattle.std.specs.Ordering.{is_gt}
use Rattle.plain_model.specs.Layers.{Name, Path}
use Rattle.plain_model.specs.Merging.{text_cmp, lesser}
use Rattle.layer_tree.specs.Tree.{Tree, key_at}
use Rattle.merged_lookup.specs.declared.candidate.Candidate.{Candidate}
use Rattle.merged_lookup.specs.declared.locate.Waiting.{Waiting}
use Rattle.merged_lookup.specs.declared.locate.Search.{Search}

-- a path leads on from another
abbrev pub IsBelow : Path → Path → Type 0
IsBelow p x = (r : Path) × (n : Name) × (x ≡ r ++ (n ∷ p))

-- a path leads on from one of these directories
abbrev pub IsAhead : List Waiting → Path → Type 0
IsAhead [] x = ⊥
IsAhead (d ∷ ds) x = IsBelow d.path x ⊎ IsAhead ds x

-- the best path
abbrev pub path_of : Option Candidate → Option Path
path_of o = option_map (λ c. c.path) o

-- this path, which there is, doesn't come after another
abbrev pub IsUpTo : Option Path → Path → Type 0
IsUpTo None x = ⊥
IsUpTo (Some p) x = is_gt (text_cmp p x) ≡ false

-- a path is still ahead, or the best one doesn't come after it
abbrev pub IsCovered : Search → Path → Type 0
IsCovered s x = IsAhead s.waiting.items x ⊎ IsUpTo (path_of s.best) x

-- a path that leads to the key of a search is covered
abbrev pub Covers : Tree → ℕ → Search → Path → Type 0
Covers t k s x = key_at t x ≡ Some k → IsCovered s x

-- each of these directories stands at its path
abbrev pub AllStand : Tree → List Waiting → Type 0
AllStand t [] = Unit {0}
AllStand t (d ∷ ds) = (key_at t d.path ≡ Some d.key) × AllStand t ds

-- a path, where there is one, leads to the key
abbrev pub LeadsTo : Tree → ℕ → Option Path → Type 0
LeadsTo t k None = Unit {0}
LeadsTo t k (Some p) = key_at t p ≡ Some k

-- what a search has met is so in the layer
pub record IsSound (t : Tree) (s : Search) : Type 0 where
  pub stand : AllStand t s.waiting.items
  pub leads : LeadsTo t s.key (path_of s.best)

-- a search went on, and no path that was covered is lost
pub record GoesOn (t : Tree) (old new : Search) : Type 0 where
  pub key : new.key ≡ old.key
  pub sound : IsSound t old → IsSound t new
  pub keeps : (x : Path) → IsCovered old x → IsCovered new x

-- a path was taken for the best, unless its text is greater
pub record Offers (p : Path) (old new : Search) : Type 0 where
  pub key : new.key ≡ old.key
  pub waiting : new.waiting ≡ old.waiting
  pub best : path_of new.best ≡ Some (lesser p (path_of old.best))
