-- What stands at a path of the layers, as far as watches need it.
use Rattle.std.proofs.Common.{◌≡◌, false, [], ◌∷◌, Option, None, Some, Result, Ok, Err, refl, ap}
use Rattle.std.specs.Prelude.{IfErr, IfOk}
use Rattle.ov_base.specs.declared.errno.Errno.{Errno}
use Rattle.plain_model.specs.Layers.{Path, Shown, Folder, Contents, shows, is_directory}
use Rattle.mount_laws.specs.Looks.{absent, fault, or_else, parents_fault, way_fault, walk_fault}
use Rattle.merged_lookup.specs.declared.found.Topmost.{Topmost}
use Rattle.merged_lookup.specs.declared.layers.Layers.{Layers}
use Rattle.merged_lookup.specs.declared.stack.Stack.{Stack}
use Rattle.merged_lookup.specs.Merged.{layers_of, IsTopmost}
use Rattle.mount_calls.specs.declared.look.Look.{Look}
use Rattle.mount_calls.specs.Looking.{IsLook, topmost_of}
use Rattle.make_remove.proofs.Removing.{unshown-in}

-- what a way can't go on from is no directory
fault-shown : (s : Option Shown) (e : Errno) → fault s ≡ Some e → is_directory s ≡ false
fault-shown None e h = refl
fault-shown (Some (Folder i k a)) e h = absurd (let no : None ≡ Some e = h in cc)
fault-shown (Some (Contents i k x)) e h = refl

-- nothing is shown where it is absent
absent-shown : (s : Option Shown) (e : Errno) → absent s ≡ Some e → s ≡ None
absent-shown None e h = refl
absent-shown (Some s) e h = absurd (let no : None ≡ Some e = h in cc)

-- a way that leads to no directory shows none
way-blocked : (l : Layers) (p : Path) (e : Errno) → way_fault (layers_of l) p ≡ Some e → is_directory (shows 0 (layers_of l) p) ≡ false
way-blocked l [] e h = absurd (let no : None ≡ Some e = h in cc)
way-blocked l (n ∷ p) e h = by (λ d is. way-blocked l p d is) (way_fault (layers_of l) p) refl h
  where
    by : ((d : Errno) → way_fault (layers_of l) p ≡ Some d → is_directory (shows 0 (layers_of l) p) ≡ false) → (o : Option Errno) → way_fault (layers_of l) p ≡ o → or_else o (fault (shows 0 (layers_of l) (n ∷ p))) ≡ Some e → is_directory (shows 0 (layers_of l) (n ∷ p)) ≡ false
    by before (Some d) is g = ap is_directory (unshown-in l p (before d is) n)
    by before None is g = fault-shown (shows 0 (layers_of l) (n ∷ p)) e g

-- nothing is shown where a walk is refused
walk-blocked : (l : Layers) (p : Path) (e : Errno) → walk_fault (layers_of l) p ≡ Some e → shows 0 (layers_of l) p ≡ None
walk-blocked l [] e h = absent-shown (shows 0 (layers_of l) []) e h
walk-blocked l (n ∷ p) e h = by (way_fault (layers_of l) p) refl h
  where
    by : (o : Option Errno) → way_fault (layers_of l) p ≡ o → or_else o (absent (shows 0 (layers_of l) (n ∷ p))) ≡ Some e → shows 0 (layers_of l) (n ∷ p) ≡ None
    by (Some d) is g = unshown-in l p (way-blocked l p d is) n
    by None is g = absent-shown (shows 0 (layers_of l) (n ∷ p)) e g

-- or its parents are
pub parents-blocked : (l : Layers) (p : Path) (e : Errno) → parents_fault (layers_of l) p ≡ Some e → shows 0 (layers_of l) p ≡ None
parents-blocked l p e h = walk-blocked l p e (ap (λ o. or_else o (absent (shows 0 (layers_of l) p))) h)

-- what a look saw is at the top of what the path shows
pub seen-top : (l : Layers) (p : Path) (look : Look) → IsLook l p look → IsTopmost l p (topmost_of look.shown)
seen-top l p look is = by look.shown is.refused is.top
  where
    by : (o : Result (Stack × Option Topmost) Errno) → IfErr o (λ e. parents_fault (layers_of l) p ≡ Some e) → IfOk o (λ seen. IsTopmost l p seen.1) → IsTopmost l p (topmost_of o)
    by (Ok seen) refused top = top
    by (Err e) refused top = record { shown = parents-blocked l p e refused }
