-- What may move where: the faults of rename by what both paths show.
use Rattle.std.proofs.Common.{◌≡◌, Bool, true, false, not, ◌&&◌, ◌||◌, List, [], ◌∷◌, ◌++◌, length, reverse, nat_eq, inl, Option, None, Some, is_some, refl, sym, ap, ap₂, ◌∙◌, subst, arith}
use Rattle.std.proofs.lemmas.Bool.{false≢true}
use Rattle.ov_base.specs.declared.errno.Errno.{Errno}
use Rattle.ov_base.specs.declared.errno.Errno.TheVariants as errno
use Rattle.plain_model.specs.Machine.{is_root, is_below}
use Rattle.plain_model.specs.Layers.{Name, Path, same_path, held, Shown, over, shows, through, base, is_directory}
use Rattle.plain_model.specs.Refusals.{when, unless_same}
use Rattle.mount_laws.specs.Looks.{or_else, absent}
use Rattle.mount_laws.specs.Moving.{NamesNoInode}
use Rattle.mount_laws.specs.Removals.{ShowsNoName}
use Rattle.mount_laws.specs.Renaming.{move_fault, rename_fault, is_one, same_inode}
use Rattle.mount_laws.proofs.Renaming.{base-shown, object-one}
use Rattle.mount_laws.proofs.CanMove.{below-told}
use Rattle.mount_laws.proofs.Looks.{shown-there}
use Rattle.layer_tree.specs.Tree.{layer_of}
use Rattle.merged_lookup.specs.declared.layers.Layers.{Layers}
use Rattle.merged_lookup.specs.declared.found.Found.{Found}
use Rattle.merged_lookup.specs.Merged.{upper_of, layers_of, lowers_of, parents_fault, walk_fault, parent, IsStackOf, IsTopmost, IsAnswer, ShowsNothing}
use Rattle.copy_up.proofs.Keeping.{or-first}
use Rattle.copy_up.proofs.Placing.{mount-parents}
use Rattle.make_remove.proofs.Removing.{unshown-in}
use Rattle.rename_redirect.specs.declared.renames.JudgedRename.{JudgedRename}
use Rattle.rename_redirect.specs.Judging.{fit_fault, Fits, MayMove}

-- the chain of faults of a directory, and of anything else
folder-chain : (d s e r : Bool) → d ≡ true → (s && not e) ≡ false → r ≡ false → or_else (when (d && s && not e) errno.ENOTDIR) (or_else (when (not d && e) errno.EISDIR) (or_else (when r errno.EXDEV) (when (d && false) errno.ENOTEMPTY))) ≡ None
folder-chain d s e r dir fits fine = grind arith

inode-chain : (d s e r : Bool) → d ≡ false → e ≡ false → r ≡ false → or_else (when (d && s && not e) errno.ENOTDIR) (or_else (when (not d && e) errno.EISDIR) (or_else (when r errno.EXDEV) (when (d && false) errno.ENOTEMPTY))) ≡ None
inode-chain d s e r dir fits fine = grind arith

-- where a directory is shown, or nothing, the upper names no inode
unnamed-of : (l : Layers) (q : Path) → (is_some (shows 0 (layers_of l) q) && not (is_directory (shows 0 (layers_of l) q))) ≡ false → NamesNoInode (layer_of l.upper) q
unnamed-of l q h k e =
    false≢true (sym h ∙ ap (λ o. is_some (over 0 (upper_of l).inodes o (through (layer_of l.upper) (lowers_of l) q)) && not (is_directory (over 0 (upper_of l).inodes o (through (layer_of l.upper) (lowers_of l) q)))) e)

-- a directory over one that shows no name, or over nothing
pub fits-folder : (l : Layers) (redirects : Bool) (p q : Path) → is_directory (shows 0 (layers_of l) p) ≡ true → (is_some (shows 0 (layers_of l) q) && not (is_directory (shows 0 (layers_of l) q))) ≡ false → (base (layer_of l.upper) (lowers_of l) p && not redirects) ≡ false → ShowsNoName (layers_of l) q → Fits l redirects p q
fits-folder l redirects p q dir kind fine empty = record {
  fine = folder-chain (is_directory (shows 0 (layers_of l) p)) (is_some (shows 0 (layers_of l) q)) (is_directory (shows 0 (layers_of l) q)) (base (layer_of l.upper) (lowers_of l) p && not redirects) dir kind fine;
  empty = empty;
  kind = λ h. unnamed-of l q kind;
}

-- what is no directory is not base
not-base : (l : Layers) (p : Path) → is_directory (shows 0 (layers_of l) p) ≡ false → base (layer_of l.upper) (lowers_of l) p ≡ false
not-base l p h = sym (base-shown (upper_of l) (lowers_of l) p) ∙ ap (λ b. b && base (layer_of l.upper) (lowers_of l) p) h

-- anything else over what is no directory
pub fits-inode : (l : Layers) (redirects : Bool) (p q : Path) → is_directory (shows 0 (layers_of l) p) ≡ false → is_directory (shows 0 (layers_of l) q) ≡ false → Fits l redirects p q
fits-inode l redirects p q file other = record {
  fine = inode-chain (is_directory (shows 0 (layers_of l) p)) (is_some (shows 0 (layers_of l) q)) (is_directory (shows 0 (layers_of l) q)) (base (layer_of l.upper) (lowers_of l) p && not redirects) file other (ap (λ b. b && not redirects) (not-base l p file));
  empty = unshown-in l q other;
  kind = λ h. absurd (false≢true (sym file ∙ h));
}

-- an answer of nothing
pub nothing-shown : (l : Layers) (q : Path) (t : Option Found) → t ≡ None → IsAnswer l q t → shows 0 (layers_of l) q ≡ None
nothing-shown l q t e h = let P : Option Found → Type 0 = λ t. IsAnswer l q t in let n : ShowsNothing l q = subst P e h in n.shown

-- nothing is shown below a path in which no name is shown
nothing-beneath : (l : Layers) (q : Path) → ShowsNoName (layers_of l) q → (k : Name) (r : Path) → is_some (shows 0 (layers_of l) (k ∷ r ++ q)) ≡ true → ⊥
nothing-beneath l q empty k [] some = false≢true (sym (ap is_some (empty k)) ∙ some)
nothing-beneath l q empty k (m ∷ r) some = nothing-beneath l q empty m r (folder-some (shows 0 (layers_of l) (m ∷ r ++ q)) (mount-parents l k (m ∷ r ++ q) some))
  where
    folder-some : (s : Option Shown) → is_directory s ≡ true → is_some s ≡ true
    folder-some s h = grind arith

-- the walk of the first path is refused, and then the way to the second
module _ (l : Layers) (redirects : Bool) (p q : Path) (first : is_root p ≡ false) (second : is_root q ≡ false) (full : Bool) (e : Errno) where
  pub fault-walk : walk_fault (layers_of l) p ≡ Some e → rename_fault (upper_of l) (lowers_of l) redirects p q full ≡ Some e
  fault-walk walk = λ i.
      or_else (when (first i || second i) errno.EBUSY)
      (or_else (walk i)
      (or_else (parents_fault (layers_of l) q)
      (unless_same (is_one (layer_of l.upper) p q)
      (move_fault (is_below p q) (shows 0 (layers_of l) p) (shows 0 (layers_of l) q) (base (layer_of l.upper) (lowers_of l) p && not redirects) full))))

  pub fault-way : walk_fault (layers_of l) p ≡ None → parents_fault (layers_of l) q ≡ Some e → rename_fault (upper_of l) (lowers_of l) redirects p q full ≡ Some e
  fault-way walk way = λ i.
      or_else (when (first i || second i) errno.EBUSY)
      (or_else (walk i)
      (or_else (way i)
      (unless_same (is_one (layer_of l.upper) p q)
      (move_fault (is_below p q) (shows 0 (layers_of l) p) (shows 0 (layers_of l) q) (base (layer_of l.upper) (lowers_of l) p && not redirects) full))))

-- what isn't refused on the way, of two objects, is refused as what is found there
module _ (l : Layers) (redirects : Bool) (p q : Path) (first : is_root p ≡ false) (second : is_root q ≡ false) (walk : walk_fault (layers_of l) p ≡ None) (way : parents_fault (layers_of l) q ≡ None) (two : is_one (layer_of l.upper) p q ≡ false) (beside : is_below p q ≡ false) where
  pub fault-fit : (full : Bool) → rename_fault (upper_of l) (lowers_of l) redirects p q full ≡ fit_fault l redirects p q full
  fault-fit full = λ i.
      or_else (when (first i || second i) errno.EBUSY)
      (or_else (walk i)
      (or_else (way i)
      (unless_same (two i)
      (move_fault (beside i) (shows 0 (layers_of l) p) (shows 0 (layers_of l) q) (base (layer_of l.upper) (lowers_of l) p && not redirects) full))))

  shown : is_some (shows 0 (layers_of l) p) ≡ true
  shown = shown-there (parents_fault (layers_of l) p) (shows 0 (layers_of l) p) walk

  apart : (r : Path) → q ≡ r ++ p → ⊥
  apart [] e = false≢true (sym two ∙ object-one (layer_of l.upper) p q (inl (sym e)))
  apart (k ∷ r) e = false≢true (sym beside ∙ ap (is_below p) e ∙ below-told p k r)

  -- may move
  pub may-move : (m : JudgedRename) → IsStackOf l (parent p) m.directory.now →
      IsTopmost l p (Some m.top) → IsStackOf l (parent q) m.onto.now → Fits l redirects p q →
      MayMove l redirects p q m
  may-move m at is onto fits = record {
    fine = fault-fit false ∙ fits.fine;
    directory = at;
    way = or-first (parents_fault (layers_of l) p) (absent (shows 0 (layers_of l) p)) walk;
    shown = is;
    onto = onto;
    parents = way;
    empty = fits.empty;
    apart = two;
    kind = fits.kind;
    out = apart;
    within = beneath;
  }
    where
      beneath : (r : Path) → p ≡ r ++ q → ⊥
      beneath [] e = apart [] (sym e)
      beneath (k ∷ r) e = nothing-beneath l q fits.empty k r (sym (ap (λ x. is_some (shows 0 (layers_of l) x)) e) ∙ shown)

-- one that is no root has names
pub rooted : (p : Path) (names : List Name) → names ≡ reverse p → false ≡ nat_eq (length names) 0 → is_root p ≡ false
rooted [] names e h = let z : length names ≡ 0 = ap length e in absurd (grind arith)
rooted (n ∷ p) names e h = refl

-- two paths are two objects
pub two-objects : (l : Layers) (p q : Path) → false ≡ same_path p q → false ≡ same_inode (held (layer_of l.upper) p) (held (layer_of l.upper) q) → is_one (layer_of l.upper) p q ≡ false
two-objects l p q a b = sym (ap₂ (λ x y. x || y) a b)
