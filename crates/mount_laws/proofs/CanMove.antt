-- What a rename that is not refused says of its two places.
use Rattle.std.proofs.Common.{◌≡◌, Bool, true, false, not, ◌&&◌, ◌||◌, List, [], ◌∷◌, ◌++◌, Option, None, refl, sym, ap, ◌∙◌, inl, inr, is_some}
use Rattle.std.proofs.Math.Bool.{or-true}
use Rattle.std.proofs.lemmas.Bool.{false≢true, both_ways}
use Rattle.ov_base.specs.declared.errno.Errno.{Errno}
use Rattle.ov_base.specs.declared.errno.Errno.TheVariants.{EBUSY, ENOTDIR, EINVAL}
use Rattle.plain_model.specs.Layers.{Name, Path, Layer, Shown, over, through, shows, is_directory, base, same_path, AreLayers}
use Rattle.plain_model.specs.Laws.{IsOutside}
use Rattle.plain_model.specs.Machine.{is_root, is_below}
use Rattle.plain_model.specs.Refusals.{when, unless_same}
use Rattle.plain_model.proofs.Looking.{when-not}
use Rattle.plain_model.proofs.Paths.{paths_tell}
use Rattle.mount_laws.specs.Looks.{or_else as first, parents_fault, walk_fault}
use Rattle.mount_laws.specs.Removals.{ShowsNoName}
use Rattle.mount_laws.specs.Moving.{NamesNoInode}
use Rattle.mount_laws.specs.Renaming.{is_one, move_fault, rename_fault, LawOfCanMove, CanMove}
use Rattle.mount_laws.proofs.Links.{first-none, second-none}
use Rattle.mount_laws.proofs.Looks.{shown-there}
use Rattle.mount_laws.proofs.Places.{bare-below}
use Rattle.mount_laws.proofs.Renaming.{object-one}

-- a path below another is told to be
pub below-told : (p : Path) (k : Name) (r : Path) → is_below p (k ∷ r ++ p) ≡ true
below-told p k [] = ap (λ b. b || is_below p p) ((paths_tell p p).1 refl)
below-told p k (j ∷ r) = ap (λ b. same_path p (j ∷ r ++ p) || b) (below-told p j r) ∙ or-true (same_path p (j ∷ r ++ p))

-- a rename that is not refused, of one object to another place
module _
    (U : Layer) (lowers : List Layer) (layers : AreLayers (U ∷ lowers)) (redirects : Bool) (old new : Path)
    (bare : ShowsNoName (U ∷ lowers) new)
    (fine : rename_fault U lowers redirects old new false ≡ None) (two : is_one U old new ≡ false) where
  abbrev source : Option Shown
  source = shows 0 (U ∷ lowers) old

  abbrev target : Option Shown
  target = shows 0 (U ∷ lowers) new

  abbrev move : Option Errno
  move = move_fault (is_below old new) source target (base U lowers old && not redirects) false

  abbrev later : Option Errno
  later = first (parents_fault (U ∷ lowers) new) (unless_same (is_one U old new) move)

  walks : first (walk_fault (U ∷ lowers) old) later ≡ None
  walks = second-none (when (is_root old || is_root new) EBUSY) _ fine

  walk_none : walk_fault (U ∷ lowers) old ≡ None
  walk_none = first-none (walk_fault (U ∷ lowers) old) later walks

  later_none : later ≡ None
  later_none = second-none (walk_fault (U ∷ lowers) old) later walks

  move_none : move ≡ None
  move_none = ap (λ b. unless_same b move) (sym two) ∙ second-none (parents_fault (U ∷ lowers) new) _ later_none

  outside : is_below old new ≡ false
  outside = when-not (is_below old new) EINVAL (first-none (when (is_below old new) EINVAL) _ move_none)

  -- what is shown at the new place is of the same kind
  abbrev other_kind : Bool
  other_kind = is_directory source && is_some target && not (is_directory target)

  kind : other_kind ≡ false
  kind = when-not other_kind ENOTDIR (first-none (when other_kind ENOTDIR) _ (second-none (when (is_below old new) EINVAL) _ move_none))

  -- so a directory doesn't take the place of a name of the upper
  unnamed : is_directory source ≡ true → NamesNoInode U new
  unnamed folder k h =
      both_ways other_kind kind
      (
      ap (λ b. b && is_some target && not (is_directory target)) folder
      ∙ ap (λ o. is_some (over 0 U.inodes o (through U lowers new)) && not (is_directory (over 0 U.inodes o (through U lowers new)))) h
      )

  other-paths : old ≡ new → ⊥
  other-paths e = both_ways (is_one U old new) two (object-one U old new (inl e))

  apart : IsOutside old new
  apart [] e = other-paths (sym e)
  apart (k ∷ r) e = both_ways (is_below old new) outside (ap (is_below old) e ∙ below-told old k r)

  -- below the new place nothing is shown
  back : IsOutside new old
  back [] e = other-paths e
  back (k ∷ r) e =
      let shown = shown-there (parents_fault (U ∷ lowers) old) source walk_none in
      false≢true (ap is_some (sym (bare-below (U ∷ lowers) layers new bare k r) ∙ ap (shows 0 (U ∷ lowers)) (sym e)) ∙ shown)

  can-move : CanMove U lowers old new
  can-move = record {
    walk = walk_none;
    parents = first-none (parents_fault (U ∷ lowers) new) _ later_none;
    apart = apart;
    back = back;
    unlinked = λ l. both_ways (is_one U old new) two (object-one U old new (inr l));
    unnamed = unnamed;
  }

-- where rename is not refused, the object can move
pub law_of_can_move : LawOfCanMove
law_of_can_move = can-move
