-- A merged directory as the directories of the layers that are reached, top first, and how one name leads on
-- (overlayfs.rst, "Directories": the merged directory is found name by name, no path is ever translated as a whole).
use Rattle.std.specs.Prelude.{ℕ, suc, Bool, true, false, List, [], ◌∷◌, Option, None, Some}
use Rattle.plain_model.specs.Layers.{Name, Path, Object, Directory, Named, Whiteout, Layer, held, below, cuts, over, Shown}
use Rattle.ov_base.specs.declared.redirect.Redirect.TheVariants.{Absolute, Single}

-- a directory of one layer, with the layer's number and the layers under it
pub record Place : Type 0 where
  pub index : ℕ
  pub layer : Layer
  pub after : List Layer
  pub at : Path

-- no places under one that cuts
abbrev pub unless_cut : Bool → List Place → List Place
unless_cut true s = []
unless_cut false s = s

-- the places with d at their top, where the object held there is a directory
abbrev pub level : Option Object → Place → List Place → List Place
level (Some (Directory k a o r)) d s = d ∷ s
level _ d s = s

-- the places of a path in the layers, numbered from i
abbrev pub stack : ℕ → List Layer → Path → List Place
stack i [] p = []
stack i (L ∷ Ls) p = level (held L p) (record { index = i; layer = L; after = Ls; at = p }) (unless_cut (cuts L p) (stack (suc i) Ls (below L p)))

-- one name on: what the topmost place holds under it, then the places under that, by the name that they have for it
abbrev pub onward : Option Object → Place → Name → (Name → List Place) → List Place
onward None d n rest = rest n
onward (Some Whiteout) d n rest = []
onward (Some (Named k)) d n rest = []
onward (Some (Directory k a o None)) d n rest = record d { at = n ∷ d.at } ∷ unless_cut o (rest n)
onward (Some (Directory k a o (Some (Single m)))) d n rest = record d { at = n ∷ d.at } ∷ unless_cut o (rest m)
onward (Some (Directory k a o (Some (Absolute q)))) d n rest = record d { at = n ∷ d.at } ∷ unless_cut o (stack (suc d.index) d.after q)

-- the places of a name in a merged directory
abbrev pub step : List Place → Name → List Place
step [] n = []
step (d ∷ ds) n = onward (held d.layer (n ∷ d.at)) d n (step ds)

-- what a name in a merged directory shows
abbrev pub child : List Place → Name → Option Shown
child [] n = None
child (d ∷ ds) n = over d.index d.layer.inodes (held d.layer (n ∷ d.at)) (child ds n)
