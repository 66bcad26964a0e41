-- Which directories come up with a call, by what it leaves of the layers.
use Rattle.std.proofs.Common.{◌≡◌, ◌≢◌, ◌⊎◌, Bool, true, false, cond, ◌||◌, ◌&&◌, is_none, is_some, [], ◌∷◌, ◌++◌, Option, None, Some, refl, sym, ap, ◌∙◌, subst, inl, inr, arith, length, length-append}
use Rattle.std.proofs.lemmas.Bool.{false≢true}
use mathlib.Core.Logic.{∥∥₁_elim}
use mathlib.Core.HLevel.{⊥_prop}
use Rattle.ov_base.specs.Calls.{Call}
use Rattle.ov_base.specs.declared.call.CallOf.TheVariants as call
use Rattle.plain_model.specs.Layers.{Name, Path, Object, Layer, held, holds_directory, shows, AreLayers, IsLayer}
use Rattle.plain_model.proofs.Paths.{one_or_not, paths_tell, place}
use Rattle.mount_laws.specs.Moving.{Goes, Stays}
use Rattle.layer_tree.specs.Tree.{SameObjects}
use Rattle.merged_lookup.specs.declared.layers.Layers.{Layers}
use Rattle.merged_lookup.specs.Merged.{upper_of, layers_of}
use Rattle.copy_up.specs.Showing.{KeepsPath, PlacedParent}
use Rattle.rename_redirect.specs.Renaming.{KeepsMoved}
use Rattle.mount_calls.specs.ComingUp.{own_directory, BringsUp, ComesUp, IsParentOf}
use Rattle.mount_calls.specs.Keeping.{BringsNone, HoldsNoDirectory, KeepsAround, KeepsBut, KeepsEither, KeepsLayers, KeepsRenamed, LosesNoObject, MovesAlong, LeavesPaths}
use Rattle.mount_calls.specs.Lacks.{path_of_call}
use Rattle.mount_calls.proofs.Frames.{no-parent}

directory-some : (o : Option Object) → holds_directory o ≡ true → is_some o ≡ true
directory-some None h = cc
directory-some (Some x) h = refl

-- a layer that holds a directory below a path holds one at the path
pub directory-up : (L : Layer) → IsLayer L → (p r : Path) → holds_directory (held L (r ++ p)) ≡ true → holds_directory (held L p) ≡ true
directory-up L is p [] h = h
directory-up L is p (n ∷ r) h = directory-up L is p r (is.parents n (r ++ p) (directory-some (held L (n ∷ r ++ p)) h))

-- a name and more before a path make it another
longer : (n : Name) (r p : Path) → n ∷ r ++ p ≢ p
longer n r p e =
    let a = ap length e in
    let b = length-append r p in
    absurd (omega (arith, a, b))

module _ (old new : Layers) (x : Path) (up : ComesUp old new x) where
  -- what was held somewhere doesn't come up
  not-held : (y : Path) → held (upper_of new) x ≡ held (upper_of old) y → ⊥
  not-held y e = up.before y e

  -- where no directory is, none comes up
  not-bare : HoldsNoDirectory new x → ⊥
  not-bare none = false≢true (sym none ∙ up.now)

  -- it is a parent that was placed, or nothing came up
  placed : (p : Path) → KeepsPath old new p x → PlacedParent old new p x
  placed p (inl e) = absurd (not-held x e)
  placed p (inr g) = g

  module _ (k : Call) where
    abbrev Own : Type 0
    Own = own_directory k ≡ Some x

    by-path : (second : Bool) (p : Path) → path_of_call k second ≡ Some p → KeepsPath old new p x → IsParentOf k old new x
    by-path second p is kept = (second, p, is, placed p kept)

    -- around a path only its parents come up
    around-up : (p : Path) → path_of_call k false ≡ Some p → KeepsAround old new p → (x ≡ p → Own ⊎ IsParentOf k old new x) → Own ⊎ IsParentOf k old new x
    around-up p is around here = elim (place p x) [
      | inl b ↦ at b.0 b.1
      | inr out ↦ inr (by-path false p is (around.outside x out))
    ]
      where
        low : (y : Path) → x ≡ y → LosesNoObject old new y → ⊥
        low y e (inl same) = not-held y (ap (held (upper_of new)) e ∙ same)
        low y e (inr gone) = not-bare (ap (λ z. holds_directory (held (upper_of new) z)) e ∙ ap holds_directory gone.1)

        at : (r : Path) → x ≡ r ++ p → Own ⊎ IsParentOf k old new x
        at [] e = here e
        at (n ∷ r) e = absurd (low (n ∷ r ++ p) e (around.below n r))

    -- or the call's own object, which stands there
    own-up : (p : Path) → path_of_call k false ≡ Some p → own_directory k ≡ Some p → KeepsAround old new p → Own ⊎ IsParentOf k old new x
    own-up p is own around = around-up p is around (λ e. inl (own ∙ ap Some (sym e)))

    none-up : (p : Path) → path_of_call k false ≡ Some p → BringsNone old new p → Own ⊎ IsParentOf k old new x
    none-up p is kept = around-up p is kept.around (λ e. absurd (there e kept.here))
      where
        there : x ≡ p → (held (upper_of new) p ≡ held (upper_of old) p) ⊎ HoldsNoDirectory new p → ⊥
        there e (inl same) = not-held p (ap (held (upper_of new)) e ∙ same)
        there e (inr none) = not-bare (ap (λ z. holds_directory (held (upper_of new) z)) e ∙ none)

    -- of two paths the parents of both
    either-up : (p q : Path) → path_of_call k false ≡ Some p → path_of_call k true ≡ Some q → KeepsEither old new p q x → IsParentOf k old new x
    either-up p q first second (inl kept) = by-path false p first kept
    either-up p q first second (inr kept) = by-path true q second kept

    but-up : (p q : Path) → path_of_call k false ≡ Some p → path_of_call k true ≡ Some q → ∥ AreLayers (layers_of old) ∥₁ → KeepsBut old new p q → Own ⊎ IsParentOf k old new x
    but-up p q first second are kept = elim kept.ends [
      | inl all ↦ inr (either-up p q first second (all x))
      | inr none ↦ elim (one_or_not paths_tell x p) [
        | inl e ↦ absurd (∥∥₁_elim are ⊥_prop (λ a. not-bare (ap (λ z. holds_directory (held (upper_of new) z)) e ∙ (none a).0)))
        | inr off ↦ elim (one_or_not paths_tell x q) [
          | inl e ↦ absurd (∥∥₁_elim are ⊥_prop (λ a. not-bare (ap (λ z. holds_directory (held (upper_of new) z)) e ∙ (none a).1)))
          | inr away ↦ inr (either-up p q first second (kept.others x off away))
        ]
      ]
    ]

    -- of a rename the parents of both, and what it moved
    moved-up : (p q y : Path) → path_of_call k false ≡ Some p → path_of_call k true ≡ Some q → y ≡ x → KeepsMoved old new p q y x → IsParentOf k old new x
    moved-up p q y first second same (inl e) = absurd (not-held y e)
    moved-up p q y first second same (inr (inl g)) = (false, p, first, subst (PlacedParent old new p) same g)
    moved-up p q y first second same (inr (inr g)) = (true, q, second, subst (PlacedParent old new q) same g)

    module _ (are : ∥ AreLayers (layers_of new) ∥₁) (p q : Path) (moves : MovesAlong old new p q) where
      -- nothing of a directory is left at the old path or below it
      none-below : (r : Path) → holds_directory (held (upper_of new) (r ++ p)) ≡ true → ⊥
      none-below r h = ∥∥₁_elim are ⊥_prop (λ a. false≢true (sym moves.left ∙ directory-up (upper_of new) a.0 p r h))

      below-new : (n : Name) (r : Path) → x ≡ n ∷ r ++ q → KeepsMoved old new p q (n ∷ r ++ p) x → ⊥
      below-new n r e (inl same) = not-held (n ∷ r ++ p) same
      below-new n r e (inr (inl g)) = no-parent p (n ∷ r) g.parent
      below-new n r e (inr (inr g)) = none-below (n ∷ r) (ap holds_directory g.gained)

      along-up : path_of_call k false ≡ Some p → path_of_call k true ≡ Some q → own_directory k ≡ Some q → Own ⊎ IsParentOf k old new x
      along-up first second own = elim (place p x) [
        | inl b ↦ absurd (none-below b.0 (ap (λ z. holds_directory (held (upper_of new) z)) (sym b.1) ∙ up.now))
        | inr out ↦ elim (place q x) [
          | inl b ↦ at b.0 b.1
          | inr away ↦ inr (moved-up p q x first second refl (moves.along x x (Stays out away refl) (λ e. out [] e)))
        ]
      ]
        where
          at : (r : Path) → x ≡ r ++ q → Own ⊎ IsParentOf k old new x
          at [] e = inl (own ∙ ap Some (sym e))
          at (n ∷ r) e = absurd (below-new n r e (moves.along (n ∷ r ++ p) x (Goes (n ∷ r) refl e) (longer n r p)))

    rename-up : (p q : Path) → ∥ AreLayers (layers_of new) ∥₁ → path_of_call k false ≡ Some p → path_of_call k true ≡ Some q → own_directory k ≡ Some q → KeepsRenamed old new p q → Own ⊎ IsParentOf k old new x
    rename-up p q are first second own kept = elim kept.paths [
      | inl moves ↦ along-up are p q moves first second own
      | inr all ↦ inr (moved-up p q x first second refl (all x))
    ]

    -- where nothing changes none comes up
    same-up : new ≡ old → Own ⊎ IsParentOf k old new x
    same-up e = absurd (not-held x (ap (λ (l : Layers). held (upper_of l) x) e))

    objects-up : SameObjects (upper_of old) (upper_of new) → Own ⊎ IsParentOf k old new x
    objects-up same = absurd (not-held x (same x))

    open-up : (b : Bool) (p : Path) → path_of_call k false ≡ Some p → cond b (BringsNone old new p) (new ≡ old) → Own ⊎ IsParentOf k old new x
    open-up true p is kept = none-up p is kept
    open-up false p is e = same-up e

-- WHICH DIRECTORIES COME UP WITH A CALL, where the layers are layers before and after it
brings-by : (k : Call) (old new : Layers) → ∥ AreLayers (layers_of old) ∥₁ → ∥ AreLayers (layers_of new) ∥₁ → LeavesPaths k old new → BringsUp k old new
brings-by (call.Stat p) old new before after e x up = same-up old new x up (call.Stat p) e
brings-by (call.Readlink p) old new before after e x up = same-up old new x up (call.Readlink p) e
brings-by (call.Chmod p mode) old new before after kept x up = own-up old new x up (call.Chmod p mode) p refl refl kept
brings-by (call.Chown p uid gid) old new before after kept x up = own-up old new x up (call.Chown p uid gid) p refl refl kept
brings-by (call.SetAttribute p n v) old new before after kept x up = own-up old new x up (call.SetAttribute p n v) p refl refl kept
brings-by (call.GetAttribute p n) old new before after e x up = same-up old new x up (call.GetAttribute p n) e
brings-by (call.DeleteAttribute p n) old new before after kept x up = own-up old new x up (call.DeleteAttribute p n) p refl refl kept
brings-by (call.ListAttributes p) old new before after e x up = same-up old new x up (call.ListAttributes p) e
brings-by (call.Mkdir p mode) old new before after kept x up = own-up old new x up (call.Mkdir p mode) p refl refl kept
brings-by (call.Symlink target p) old new before after kept x up = none-up old new x up (call.Symlink target p) p refl kept
brings-by (call.Unlink p) old new before after kept x up = none-up old new x up (call.Unlink p) p refl kept
brings-by (call.Rmdir p) old new before after kept x up = none-up old new x up (call.Rmdir p) p refl kept
brings-by (call.Hardlink p q) old new before after kept x up = but-up old new x up (call.Hardlink p q) p q refl refl before kept
brings-by (call.Rename p q) old new before after kept x up = rename-up old new x up (call.Rename p q) p q after refl refl refl kept
brings-by (call.Open p f mode) old new before after kept x up = open-up old new x up (call.Open p f mode) (f.writes || (f.create && is_none (shows 0 (layers_of old) p))) p refl kept
brings-by (call.Read d n) old new before after e x up = same-up old new x up (call.Read d n) e
brings-by (call.Write d bytes) old new before after same x up = objects-up old new x up (call.Write d bytes) same
brings-by (call.Seek d offset whence) old new before after e x up = same-up old new x up (call.Seek d offset whence) e
brings-by (call.Truncate d size) old new before after same x up = objects-up old new x up (call.Truncate d size) same
brings-by (call.Fstat d) old new before after e x up = same-up old new x up (call.Fstat d) e
brings-by (call.ListNames d n) old new before after e x up = same-up old new x up (call.ListNames d n) e
brings-by (call.Close d) old new before after kept x up = objects-up old new x up (call.Close d) kept.objects
brings-by (call.Arm slot p mask) old new before after e x up = same-up old new x up (call.Arm slot p mask) e
brings-by (call.Disarm watch) old new before after e x up = same-up old new x up (call.Disarm watch) e
brings-by (call.TakeNotices n) old new before after e x up = same-up old new x up (call.TakeNotices n) e

-- by what it leaves of the layers
pub brings-up : (k : Call) (old new : Layers) → ∥ AreLayers (layers_of old) ∥₁ → ∥ AreLayers (layers_of new) ∥₁ → KeepsLayers k old new → BringsUp k old new
brings-up k old new before after kept = brings-by k old new before after kept.paths
