-- What was seen at a path, and what that says of a walk there.
use Rattle.std.proofs.Common.{◌≡◌, ◌≢◌, true, [], ◌∷◌, Option, None, Some, is_some, sym, ap, ◌∙◌, subst, Result, Ok, Err, IfErr, IfOk, OnOk}
use Rattle.std.proofs.lemmas.Bool.{false≢true}
use Rattle.ov_base.specs.declared.errno.Errno.{Errno}
use Rattle.ov_base.specs.declared.errno.Errno.TheVariants as errno
use Rattle.plain_model.specs.Layers.{Name, Path, shows, is_directory}
use Rattle.plain_model.specs.Refusals.{when}
use Rattle.mount_laws.specs.Looks.{absent, or_else, parents_fault, walk_fault}
use Rattle.copy_up.proofs.Keeping.{or-first}
use Rattle.merged_lookup.specs.declared.layers.Layers.{Layers}
use Rattle.merged_lookup.specs.declared.found.Found.{Found}
use Rattle.merged_lookup.specs.declared.found.Topmost.{Topmost}
use Rattle.merged_lookup.specs.declared.found.Topmost.TheVariants as topmost
use Rattle.ov_base.specs.declared.place.Place.{Place}
use Rattle.merged_lookup.specs.declared.stack.Stack.{Stack}
use Rattle.merged_lookup.specs.Merged.{layers_of, parent, IsAnswer, IsFound, IsStackOf, IsTopmost, ShowsInode}
use Rattle.make_remove.specs.Making.{vacancy_fault}
use Rattle.make_remove.specs.Sights.{IsSeen}

-- what is seen is shown
top-absent : (l : Layers) (p : Path) (t : Topmost) → IsTopmost l p (Some t) → absent (shows 0 (layers_of l) p) ≡ None
top-absent l p (topmost.Directory d) h = ap absent h.1
top-absent l p (topmost.Inode d) h = ap absent h.shown

pub top-some : (l : Layers) (p : Path) (t : Topmost) → IsTopmost l p (Some t) → is_some (shows 0 (layers_of l) p) ≡ true
top-some l p (topmost.Directory d) h = ap is_some h.1
top-some l p (topmost.Inode d) h = ap is_some h.shown

-- a directory, or none
pub top-directory : (l : Layers) (p : Path) (t : Topmost) (d : Place) → t ≡ topmost.Directory d → IsTopmost l p (Some t) → is_directory (shows 0 (layers_of l) p) ≡ true
top-directory l p t d e h = let f = subst (λ x. IsTopmost l p (Some x)) e h in ap is_directory f.1

pub top-inode : (l : Layers) (p : Path) (t : Topmost) (d : Place) → t ≡ topmost.Inode d → IsTopmost l p (Some t) → ShowsInode l p d
top-inode l p t d e h = subst (λ x. IsTopmost l p (Some x)) e h

module _ (l : Layers) (p : Path) where
  -- the way is refused
  pub seen-refused : (s : Result (Stack × Option Topmost) Errno) (e : Errno) → s ≡ Err e → IsSeen l p s → parents_fault (layers_of l) p ≡ Some e
  seen-refused s e is h = subst (λ x. IfErr x (λ d. parents_fault (layers_of l) p ≡ Some d)) is h.refused

  pub walk-refused : (e : Errno) → parents_fault (layers_of l) p ≡ Some e → walk_fault (layers_of l) p ≡ Some e
  walk-refused e h = ap (λ x. or_else x (absent (shows 0 (layers_of l) p))) h

  pub vacancy-refused : (e : Errno) → parents_fault (layers_of l) p ≡ Some e → vacancy_fault (layers_of l) p ≡ Some e
  vacancy-refused e h = ap (λ x. or_else x (when (is_some (shows 0 (layers_of l) p)) errno.EEXIST)) h

  module _ (s : Result (Stack × Option Topmost) Errno) (w : Stack × Option Topmost) (is : s ≡ Ok w) where
    pub seen-way : IsSeen l p s → parents_fault (layers_of l) p ≡ None
    seen-way h = subst (λ x. OnOk x (parents_fault (layers_of l) p ≡ None)) is h.way

    pub seen-directory : IsSeen l p s → IsStackOf l (parent p) w.0
    seen-directory h = subst (λ x. IfOk x (λ shown. IsStackOf l (parent p) shown.0)) is h.directory

    pub seen-top : IsSeen l p s → IsTopmost l p w.1
    seen-top h = subst (λ x. IfOk x (λ shown. IsTopmost l p shown.1)) is h.top

    -- nothing is shown
    pub seen-nothing : w.1 ≡ None → IsSeen l p s → shows 0 (layers_of l) p ≡ None
    seen-nothing none h = (subst (IsTopmost l p) none (seen-top h)).shown

    pub walk-nothing : w.1 ≡ None → IsSeen l p s → walk_fault (layers_of l) p ≡ Some errno.ENOENT
    walk-nothing none h = λ i. or_else (seen-way h i) (absent (seen-nothing none h i))

    pub vacancy-nothing : w.1 ≡ None → IsSeen l p s → vacancy_fault (layers_of l) p ≡ None
    vacancy-nothing none h = λ i. or_else (seen-way h i) (when (is_some (seen-nothing none h i)) errno.EEXIST)

    -- something is
    pub seen-some : (t : Topmost) → w.1 ≡ Some t → IsSeen l p s → IsTopmost l p (Some t)
    seen-some t some h = subst (IsTopmost l p) some (seen-top h)

    pub walk-some : (t : Topmost) → w.1 ≡ Some t → IsSeen l p s → walk_fault (layers_of l) p ≡ None
    walk-some t some h = λ i. or_else (seen-way h i) (top-absent l p t (seen-some t some h) i)

    pub vacancy-some : (t : Topmost) → w.1 ≡ Some t → IsSeen l p s → vacancy_fault (layers_of l) p ≡ Some errno.EEXIST
    vacancy-some t some h = λ i. or_else (seen-way h i) (when (top-some l p t (seen-some t some h) i) errno.EEXIST)

-- a walk without fault has a way
pub walk-way : (l : Layers) (p : Path) → walk_fault (layers_of l) p ≡ None → parents_fault (layers_of l) p ≡ None
walk-way l p h = or-first (parents_fault (layers_of l) p) (absent (shows 0 (layers_of l) p)) h

-- a path with a name is not the root
pub has-name : (p q : Path) (n : Name) → p ≡ n ∷ q → p ≢ []
has-name p q n e root = let no : n ∷ q ≡ [] = sym e ∙ root in cc

-- an answer of something
pub answer-some : (l : Layers) (p : Path) (o : Option Found) (f : Found) → o ≡ Some f → IsAnswer l p o → IsFound l p f
answer-some l p o f e h = subst (IsAnswer l p) e h

-- nothing isn't something
pub answer-none : (l : Layers) (p : Path) (o : Option Found) → o ≡ None → IsAnswer l p o → is_some (shows 0 (layers_of l) p) ≡ true → ⊥
answer-none l p o e h some = let n = subst (IsAnswer l p) e h in false≢true (sym (ap is_some n.shown) ∙ some)
