-- One name on from the places of a merged directory, by keys.
use Rattle.std.specs.Prelude.{◌≡◌, ℕ, ◌+◌, Bool, true, false, cond, List, [], ◌∷◌, Option, None, Some, map, drop, slice_get, nat_eq}
use Rattle.std.specs.Option.{option_and_then}
use Rattle.ov_base.specs.declared.redirect.Redirect.{Redirect}
use Rattle.ov_base.specs.declared.redirect.Redirect.TheVariants as redirect
use Rattle.plain_model.specs.Layers.{Name, Path, Object, Directory, Named, Whiteout}
use Rattle.layer_tree.specs.Tree.{Tree, layer_of, entry, seen_entry}
use Rattle.ov_base.specs.declared.place.Place.{Place}
use Rattle.merged_lookup.specs.declared.found.Topmost.{Topmost}
use Rattle.merged_lookup.specs.declared.found.Topmost.TheVariants as shown
use Rattle.merged_lookup.specs.declared.onward.Onward.{Onward}
use Rattle.merged_lookup.specs.declared.onward.Onward.TheVariants as way
use Rattle.merged_lookup.specs.Merged.{places_at}

-- what a layer holds at a name in the directory under a key
abbrev pub holds_in : Tree → ℕ → Name → Option Object
holds_in t key n = option_and_then (seen_entry t) (entry t key n)

-- the places in the layers below that a directory of layer i leads to, where r is its redirect: those of the name, of another name,
-- or of a path from the roots
abbrev pub below_by : Option Redirect → Name → (Name → List Place) → (Path → List Place) → List Place
below_by None n rest new = rest n
below_by (Some (redirect.Single m)) n rest new = rest m
below_by (Some (redirect.Absolute q)) n rest new = new q

-- the places that a name leads to where layer i holds the first, by what the name, and what a path, leads to in the layers below
abbrev pub onward : Option Object → ℕ → Name → (Name → List Place) → (Path → List Place) → List Place
onward None i n rest new = rest n
onward (Some Whiteout) i n rest new = []
onward (Some (Named k)) i n rest new = []
onward (Some (Directory k a true r)) i n rest new = record { layer = i; key = k } ∷ []
onward (Some (Directory k a false r)) i n rest new = record { layer = i; key = k } ∷ below_by r n rest new

-- the topmost object, unless it is a whiteout, where layer i holds the first
abbrev pub topmost : Option Object → ℕ → Option Place → Option Place
topmost None i s = s
topmost (Some Whiteout) i s = None
topmost (Some (Named k)) i s = Some (record { layer = i; key = k })
topmost (Some (Directory k a o r)) i s = Some (record { layer = i; key = k })

-- what an answer about a layer's directory says of the places
abbrev pub goes : Onward → ℕ → Name → (Name → List Place) → (Path → List Place) → List Place
goes way.Through i n rest new = rest n
goes way.Whiteout i n rest new = []
goes (way.Inode k) i n rest new = []
goes (way.Last k) i n rest new = record { layer = i; key = k } ∷ []
goes (way.By k m) i n rest new = record { layer = i; key = k } ∷ rest m.now
goes (way.From k q) i n rest new = record { layer = i; key = k } ∷ new q.now

-- what an answer about a layer's directory says of the topmost object
abbrev pub tops : Onward → ℕ → Option Place → Option Place
tops way.Through i s = s
tops way.Whiteout i s = None
tops (way.Inode k) i s = Some (record { layer = i; key = k })
tops (way.Last k) i s = Some (record { layer = i; key = k })
tops (way.By k m) i s = Some (record { layer = i; key = k })
tops (way.From k q) i s = Some (record { layer = i; key = k })

-- the answer about a layer's directory is right
pub record Tells (o : Option Object) (n : Name) (w : Onward) : Type 0 where
  pub places : (i : ℕ) (rest : Name → List Place) (new : Path → List Place) → onward o i n rest new ≡ goes w i n rest new
  pub object : (i : ℕ) (s : Option Place) → topmost o i s ≡ tops w i s

-- the places of a path in the layers from layer i on
abbrev pub places_from : ℕ → List Tree → Path → List Place
places_from i ts p = places_at i (map layer_of (drop i ts)) p

-- the places of a path in the layers below layer i
abbrev pub anew : List Tree → ℕ → Path → List Place
anew ts i q = places_from (i + 1) ts q

-- the places that a name leads to at a place of this tree
abbrev pub onward_in : Option Tree → List Tree → Place → Name → (Name → List Place) → List Place
onward_in None ts d n rest = []
onward_in (Some t) ts d n rest = onward (holds_in t d.key n) d.layer n rest (anew ts d.layer)

-- the places that a name leads to from places
abbrev pub descend : List Tree → List Place → Name → List Place
descend ts [] n = []
descend ts (d ∷ ds) n = onward_in (slice_get ts d.layer) ts d n (descend ts ds)

-- the topmost object at a name in this tree, where s is that in the layers below
abbrev pub topmost_in : Option Tree → Place → Name → Option Place → Option Place
topmost_in None d n s = None
topmost_in (Some t) d n s = topmost (holds_in t d.key n) d.layer s

-- the topmost object that a name leads to from places, unless it is a whiteout
abbrev pub first : List Tree → List Place → Name → Option Place
first ts [] n = None
first ts (d ∷ ds) n = topmost_in (slice_get ts d.layer) d n (first ts ds n)

-- the place of the topmost object
abbrev pub place_shown : Topmost → Place
place_shown (shown.Directory d) = d
place_shown (shown.Inode d) = d

-- whether that is a directory
abbrev pub leads : Option Topmost → Bool
leads (Some (shown.Directory d)) = true
leads (Some (shown.Inode d)) = false
leads None = false

-- the places without that of the upper
abbrev pub without_upper : List Place → List Place
without_upper [] = []
without_upper (d ∷ ds) = cond (nat_eq d.layer 0) ds (d ∷ ds)
