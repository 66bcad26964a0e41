-- What placing a lacking parent leaves alone.
use Rattle.std.proofs.Common.{◌≡◌, ◌⊎◌, inl, inr, ℕ, Bool, true, false, cond, is_some, [], ◌∷◌, length, Option, None, Some, refl, sym, ap₂, ◌∙◌, subst}
use Rattle.std.specs.Option.{option_or}
use Rattle.std.proofs.lemmas.Bool.{false≢true}
use Rattle.ov_base.specs.Calls.{Call}
use Rattle.ov_base.specs.declared.call.CallOf.TheVariants as call
use Rattle.plain_model.specs.Layers.{Path, Object, Layer, held, holds_directory, shows}
use Rattle.layer_tree.specs.Tree.{IsHeldTogether}
use Rattle.merged_lookup.specs.declared.layers.Layers.{Layers}
use Rattle.merged_lookup.specs.Merged.{upper_of, layers_of, lowers_of}
use Rattle.mount_laws.specs.Renaming.{is_one}
use Rattle.copy_up.specs.Showing.{GainsParents, KeepsPath}
use Rattle.copy_up.proofs.Texts.{texts-gained}
use Rattle.rename_redirect.specs.Renaming.{KeepsMoved}
use Rattle.work_dir.specs.declared.next.Lack.TheVariants as lack
use Rattle.ov_base.specs.declared.place.Place.{Place}
use Rattle.mount_calls.specs.Keeping.{BringsNone, KeepsAround, KeepsLayers, KeepsRenamed, LeavesPaths, marked_path}
use Rattle.mount_calls.specs.Lacks.{lack_of, lacking_to, copied_file, path_of_call, CanBeHad, OpensToChange}
use Rattle.mount_calls.specs.declared.mount.Mount.{Mount}
use Rattle.mount_calls.proofs.Stating.{the_layers}
use Rattle.mount_calls.proofs.Frames.{around-parents, none-parents}
use Rattle.mount_calls.proofs.Lacking.{rename_lack}

-- a rename that lacks a parent is not of one object
apart-lacking : (U : Layer) (p q : Path) (one : Bool) (file : Option Place) (second : Bool) (count : ℕ) → rename_lack U p q one file ≡ lack.Parent second count → one ≡ false
apart-lacking U p q true file second count h = cc
apart-lacking U p q false file second count h = refl

-- what is kept where parents of a call's path are gained
module _ (old new : Layers) where
  around-path : (a p : Path) → Some a ≡ Some p → GainsParents old new p → KeepsAround old new a
  around-path a p at g = let e : a ≡ p = cc in subst (λ z. KeepsAround old new z) (sym e) (around-parents old new p g)

  none-path : (a p : Path) → Some a ≡ Some p → GainsParents old new p → BringsNone old new a
  none-path a p at g = let e : a ≡ p = cc in subst (λ z. BringsNone old new z) (sym e) (none-parents old new p g)

  either-path : (a b p : Path) (second : Bool) → Some (cond second b a) ≡ Some p → GainsParents old new p → (x : Path) → KeepsPath old new a x ⊎ KeepsPath old new b x
  either-path a b p true at g x = let e : b ≡ p = cc in inr (subst (λ z. KeepsPath old new z x) (sym e) (g.paths x))
  either-path a b p false at g x = let e : a ≡ p = cc in inl (subst (λ z. KeepsPath old new z x) (sym e) (g.paths x))

  moved-path : (a b x : Path) → KeepsPath old new a x ⊎ KeepsPath old new b x → KeepsMoved old new a b x x
  moved-path a b x (inl (inl e)) = inl e
  moved-path a b x (inl (inr h)) = inr (inl h)
  moved-path a b x (inr (inl e)) = inl e
  moved-path a b x (inr (inr h)) = inr (inr h)

  renames-path : (a b p : Path) (second : Bool) → is_one (upper_of old) a b ≡ false → Some (cond second b a) ≡ Some p → GainsParents old new p → KeepsRenamed old new a b
  renames-path a b p second apart at g = record {
    one = λ h. absurd (false≢true (sym apart ∙ h));
    paths = inr (λ x. moved-path a b x (either-path a b p second at g x));
  }

  -- placing a lacking parent of a call leaves what the call leaves of what is held
  place-paths : (metacopy : Bool) (k : Call) (second : Bool) (count : ℕ) (p : Path) → lack_of (upper_of old) (lowers_of old) metacopy k ≡ lack.Parent second count →
      path_of_call k second ≡ Some p → OpensToChange (layers_of old) k → GainsParents old new p → LeavesPaths k old new
  place-paths metacopy (call.Stat a) second count p is at opens g = cc
  place-paths metacopy (call.Readlink a) second count p is at opens g = cc
  place-paths metacopy (call.Chmod a mode) true count p is at opens g = cc
  place-paths metacopy (call.Chmod a mode) false count p is at opens g = around-path a p at g
  place-paths metacopy (call.Chown a uid gid) true count p is at opens g = cc
  place-paths metacopy (call.Chown a uid gid) false count p is at opens g = around-path a p at g
  place-paths metacopy (call.SetAttribute a n v) true count p is at opens g = cc
  place-paths metacopy (call.SetAttribute a n v) false count p is at opens g = around-path a p at g
  place-paths metacopy (call.GetAttribute a n) second count p is at opens g = cc
  place-paths metacopy (call.DeleteAttribute a n) true count p is at opens g = cc
  place-paths metacopy (call.DeleteAttribute a n) false count p is at opens g = around-path a p at g
  place-paths metacopy (call.ListAttributes a) second count p is at opens g = cc
  place-paths metacopy (call.Mkdir a mode) true count p is at opens g = cc
  place-paths metacopy (call.Mkdir a mode) false count p is at opens g = around-path a p at g
  place-paths metacopy (call.Symlink target a) true count p is at opens g = cc
  place-paths metacopy (call.Symlink target a) false count p is at opens g = none-path a p at g
  place-paths metacopy (call.Unlink a) true count p is at opens g = cc
  place-paths metacopy (call.Unlink a) false count p is at opens g = none-path a p at g
  place-paths metacopy (call.Rmdir a) true count p is at opens g = cc
  place-paths metacopy (call.Rmdir a) false count p is at opens g = none-path a p at g
  place-paths metacopy (call.Hardlink a b) second count p is at opens g =
      record { others = λ x off away. either-path a b p second at g x; ends = inl (either-path a b p second at g) }
  place-paths metacopy (call.Rename a b) second count p is at opens g =
      renames-path a b p second
      (apart-lacking (upper_of old) a b (is_one (upper_of old) a b) (copied_file metacopy (shows 0 (layers_of old) a)) second count is) at g
  place-paths metacopy (call.Open a f mode) true count p is at opens g = cc
  place-paths metacopy (call.Open a f mode) false count p is at opens g =
      subst (λ b. cond b (BringsNone old new a) (new ≡ old)) (sym opens) (none-path a p at g)
  place-paths metacopy (call.Read d n) second count p is at opens g = cc
  place-paths metacopy (call.Write d bytes) second count p is at opens g = cc
  place-paths metacopy (call.Seek d offset whence) second count p is at opens g = cc
  place-paths metacopy (call.Truncate d size) second count p is at opens g = cc
  place-paths metacopy (call.Fstat d) second count p is at opens g = cc
  place-paths metacopy (call.ListNames d n) second count p is at opens g = cc
  place-paths metacopy (call.Close d) second count p is at opens g = cc
  place-paths metacopy (call.Arm slot a mask) second count p is at opens g = cc
  place-paths metacopy (call.Disarm watch) second count p is at opens g = cc
  place-paths metacopy (call.TakeNotices n) second count p is at opens g = cc

  -- PLACING A LACKING PARENT OF A CALL KEEPS THE LAYERS AS THE CALL DOES
  pub place-keeps : (metacopy : Bool) (k : Call) (second : Bool) (count : ℕ) (p : Path) → lack_of (upper_of old) (lowers_of old) metacopy k ≡ lack.Parent second count →
      path_of_call k second ≡ Some p → OpensToChange (layers_of old) k → GainsParents old new p → KeepsLayers k old new
  place-keeps metacopy k second count p is at opens g =
      record { paths = place-paths metacopy k second count p is at opens g; texts = texts-gained old new p (marked_path k) g }

directory-some : (o : Option Object) → holds_directory o ≡ true → is_some o ≡ true
directory-some None h = cc
directory-some (Some x) h = refl

-- a directory that is held stands in directories that are
pub held-to : (U : Layer) → IsHeldTogether U → (p : Path) → holds_directory (held U p) ≡ true → lacking_to U p ≡ None
held-to U t [] h = refl
held-to U t (n ∷ p) h =
    ap₂ (λ o b. option_or o (cond b None (Some (length (n ∷ p))))) (held-to U t p (t.parents n p (directory-some (held U (n ∷ p)) h))) h

-- what a lack of a parent tells of the path that it is of
pub can-here : (m : Mount) (k : Call) (second : Bool) (count : ℕ) (q : Path) → Some q ≡ path_of_call k second → CanBeHad m k (lack.Parent second count) →
    (path_of_call k second ≡ Some q) × OpensToChange (the_layers m) k
can-here m k second count q is can = (sym is, can.4)
