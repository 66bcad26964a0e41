-- What calls leave of what the upper holds at each path.
use Rattle.std.proofs.Common.{◌≡◌, ◌≢◌, ◌⊎◌, ℕ, Bool, true, false, cond, ◌||◌, ◌&&◌, is_none, is_some, [], ◌∷◌, ◌++◌, List, Option, None, Some, refl, sym, ap, ◌∙◌, inl, inr, arith, length, length-append}
use Rattle.std.proofs.lemmas.Bool.{false≢true}
use Rattle.ov_base.specs.Calls.{Call}
use Rattle.ov_base.specs.declared.call.CallOf.TheVariants as call
use Rattle.ov_base.specs.declared.call.OpenFlags.{OpenFlags}
use Rattle.plain_model.specs.Layers.{Name, Path, Layer, Object, Named, Whiteout, held, holds_directory, shows, under}
use Rattle.plain_model.specs.Laws.{left_at}
use Rattle.plain_model.specs.Refusals.{bad_flags}
use Rattle.layer_tree.specs.Tree.{SameObjects}
use Rattle.merged_lookup.specs.declared.layers.Layers.{Layers}
use Rattle.merged_lookup.specs.Merged.{upper_of, layers_of, lowers_of}
use Rattle.copy_up.specs.Showing.{GainsParents, IsParent, KeepsOthers, KeepsPath}
use Rattle.copy_up.proofs.Frames.{parent-then, path-then}
use Rattle.make_remove.specs.Removing as removing
use Rattle.make_remove.specs.Removing.{TakesName}
use Rattle.rename_redirect.specs.Linking.{GainsBoth, GivesName}
use Rattle.rename_redirect.specs.Renaming.{is_one, KeepsMoved, Moves}
use Rattle.rename_redirect.proofs.Gained.{gains-paths}
use Rattle.mount_calls.specs.Keeping.{BringsNone, HoldsNoDirectory, KeepsAround, KeepsBut, KeepsLayers, KeepsRenamed, LeavesPaths}

-- a path at p or below it is no parent of p
pub no-parent : (p r : Path) → IsParent (r ++ p) p → ⊥
no-parent p r g =
    let a = ap length g.2 in
    let b = length-append g.1 (r ++ p) in
    let c = length-append r p in
    absurd (omega (arith, a, b, c))

-- so there what the upper holds is kept
at-or-below : (old new : Layers) (p r : Path) → KeepsPath old new p (r ++ p) → held (upper_of new) (r ++ p) ≡ held (upper_of old) (r ++ p)
at-or-below old new p r (inl e) = e
at-or-below old new p r (inr g) = absurd (no-parent p r g.parent)

below-parent : (old new : Layers) (p : Path) (n : Name) (r : Path) → KeepsPath old new p (n ∷ r ++ p) → held (upper_of new) (n ∷ r ++ p) ≡ held (upper_of old) (n ∷ r ++ p)
below-parent old new p n r = at-or-below old new p (n ∷ r)

-- what only p changes is kept around it
pub around-paths : (old new : Layers) (p : Path) → ((x : Path) → x ≢ p → KeepsPath old new p x) → KeepsAround old new p
around-paths old new p paths = record {
  outside = λ x out. paths x (λ e. out [] e);
  below = λ n r. inl (below-parent old new p n r (paths (n ∷ r ++ p) (longer n r)));
}
  where
    longer : (n : Name) (r : Path) → n ∷ r ++ p ≢ p
    longer n r e =
        let a = ap length e in
        let b = length-append r p in
        absurd (omega (arith, a, b))

-- so are parents of it that are gained
pub around-parents : (old new : Layers) (p : Path) → GainsParents old new p → KeepsAround old new p
around-parents old new p g = around-paths old new p (λ x off. g.paths x)

-- and what does not change
pub around-same : (old new : Layers) (p : Path) → new ≡ old → KeepsAround old new p
around-same old new p e = around-paths old new p (λ x off. inl (ap (λ (l : Layers). held (upper_of l) x) e))

-- what is made or removed at p changes nothing around it
pub around-others : (old new : Layers) (p : Path) → KeepsOthers old new p → KeepsAround old new p
around-others old new p k = record { outside = k.paths; below = λ n r. inr (k.bare n r, k.below n r) }

-- nor does what leaves every path as it is
pub around-then : (a b c : Layers) (p : Path) → SameObjects (upper_of b) (upper_of c) → KeepsAround a b p → KeepsAround a c p
around-then a b c p same k = record {
  outside = λ x out. path-then a b c p x (same x) (k.outside x out);
  below = λ n r. elim (k.below n r) [ inl e ↦ inl (same (n ∷ r ++ p) ∙ e) | inr z ↦ inr (z.0, same (n ∷ r ++ p) ∙ z.1) ];
}

-- where parents of p are gained alone, none comes at p
pub none-parents : (old new : Layers) (p : Path) → GainsParents old new p → BringsNone old new p
none-parents old new p g = record { around = around-parents old new p g; here = inl (at-or-below old new p [] (g.paths p)) }

-- nor where nothing changes
pub none-same : (old new : Layers) (p : Path) → new ≡ old → BringsNone old new p
none-same old new p e = record { around = around-same old new p e; here = inl (ap (λ (l : Layers). held (upper_of l) p) e) }

-- nor where a name of an inode stands then
pub no-directory : (l : Layers) (p : Path) (o : Option Object) → held (upper_of l) p ≡ o → holds_directory o ≡ false → HoldsNoDirectory l p
no-directory l p o is off = ap holds_directory is ∙ off

pub none-named : (old new : Layers) (p : Path) (k : ℕ) → held (upper_of new) p ≡ Some (Named k) → KeepsOthers old new p → BringsNone old new p
none-named old new p k is others = record { around = around-others old new p others; here = inr (no-directory new p (Some (Named k)) is refl) }

-- nor where a name went
whiteout-or-nothing : (b : Bool) → holds_directory (cond b (Some Whiteout) None) ≡ false
whiteout-or-nothing true = refl
whiteout-or-nothing false = refl

pub none-left : (U : Layer) (lowers : List Layer) (p : Path) → holds_directory (left_at U lowers p) ≡ false
none-left U lowers [] = refl
none-left U lowers (n ∷ p) = whiteout-or-nothing (is_some (under U lowers n p))

none-behind : (l : Layers) (p : Path) → holds_directory (removing.left_at l p) ≡ false
none-behind l [] = refl
none-behind l (n ∷ p) = whiteout-or-nothing (is_some (under (upper_of l) (lowers_of l) n p))

pub none-taken : (old new : Layers) (p : Path) → TakesName old new p → BringsNone old new p
none-taken old new p takes = record {
  around = around-others old new p takes.others;
  here = inr (no-directory new p (removing.left_at old p) takes.left (none-behind old p));
}

-- nor by what leaves every path as it is
pub none-then : (a b c : Layers) (p : Path) → SameObjects (upper_of b) (upper_of c) → BringsNone a b p → BringsNone a c p
none-then a b c p same k = record {
  around = around-then a b c p same k.around;
  here = elim k.here [ inl e ↦ inl (same p ∙ e) | inr none ↦ inr (ap holds_directory (same p) ∙ none) ];
}

-- parents of two paths that are gained are all that a link gains that wants memory
pub but-parents : (old new : Layers) (p q : Path) → GainsBoth old new p q → KeepsBut old new p q
but-parents old new p q g = record { others = λ x a b. gains-paths old new p q g x; ends = inl (gains-paths old new p q g) }

-- a link that is refused gains nothing
pub but-same : (old new : Layers) (p q : Path) → new ≡ old → KeepsBut old new p q
but-same old new p q e = record { others = λ x a b. stays x; ends = inl stays }
  where
    stays : (x : Path) → KeepsPath old new p x ⊎ KeepsPath old new q x
    stays x = inl (inl (ap (λ (l : Layers). held (upper_of l) x) e))

-- one that is made names an inode at both
pub but-given : (old new : Layers) (metacopy : Bool) (p q : Path) → GivesName old new metacopy p q → KeepsBut old new p q
but-given old new metacopy p q gives = record {
  others = gives.paths;
  ends = inr (λ are.
      let both = (gives.gains are).together in
      (no-directory new p (Some (Named both.number)) both.first refl, no-directory new q (Some (Named both.number)) both.second refl));
}

-- one or the other holds where both do
pub either : (b : Bool) (A B : Type 0) → A → B → cond b A B
either true A B a c = a
either false A B a c = c

-- where the first of two tests decides for what holds, or both hold
pub unless-first : (b c : Bool) (A B : Type 0) → A → (b ≡ false → B) → cond (b || c) A B
unless-first true c A B a d = a
unless-first false c A B a d = either c A B a (d refl)

-- an open that doesn't write cuts no file
pub reads-whole : (f : OpenFlags) → bad_flags f ≡ false → f.writes ≡ false → f.truncate ≡ false
reads-whole f good off = grind arith

-- a rename of one object
pub renames-same : (old new : Layers) (p q : Path) → new ≡ old → KeepsRenamed old new p q
renames-same old new p q e = record { one = λ h. e; paths = inr (λ x. inl (ap (λ (l : Layers). held (upper_of l) x) e)) }

-- a rename that wants memory gains parents at most
pub renames-parents : (old new : Layers) (p q : Path) → is_one (upper_of old) p q ≡ false → GainsBoth old new p q → KeepsRenamed old new p q
renames-parents old new p q apart g = record { one = λ h. absurd (false≢true (sym apart ∙ h)); paths = inr (λ x. by x (gains-paths old new p q g x)) }
  where
    by : (x : Path) → KeepsPath old new p x ⊎ KeepsPath old new q x → KeepsMoved old new p q x x
    by x (inl (inl e)) = inl e
    by x (inl (inr h)) = inr (inl h)
    by x (inr (inl e)) = inl e
    by x (inr (inr h)) = inr (inr h)

-- what moved took what the upper held along, also once what lost its last name is freed
pub renames-moved : (a b c : Layers) (metacopy : Bool) (p q : Path) (directory : Bool) (released : Option ℕ) → Moves a b metacopy p q directory released → SameObjects (upper_of b) (upper_of c) → KeepsRenamed a c p q
renames-moved a b c metacopy p q directory released moves same = record {
  one = λ h. absurd (false≢true (sym moves.apart ∙ h));
  paths = inl (record {
    along = λ x y f off. by x y (moves.over.paths x y f off);
    left = no-directory c p (left_at (upper_of a) (lowers_of a) p) (same p ∙ moves.over.left) (none-left (upper_of a) (lowers_of a) p);
  });
}
  where
    by : (x y : Path) → KeepsMoved a b p q x y → KeepsMoved a c p q x y
    by x y (inl e) = inl (same y ∙ e)
    by x y (inr (inl g)) = inr (inl (parent-then a b c p x x refl (same x) g))
    by x y (inr (inr g)) = inr (inr (parent-then a b c q x x refl (same x) g))

-- layers that stay the very same hold what each call leaves
same-paths : (k : Call) (l : Layers) → LeavesPaths k l l
same-paths (call.Stat p) l = refl
same-paths (call.Readlink p) l = refl
same-paths (call.Chmod p mode) l = around-same l l p refl
same-paths (call.Chown p uid gid) l = around-same l l p refl
same-paths (call.SetAttribute p n v) l = around-same l l p refl
same-paths (call.GetAttribute p n) l = refl
same-paths (call.DeleteAttribute p n) l = around-same l l p refl
same-paths (call.ListAttributes p) l = refl
same-paths (call.Mkdir p mode) l = around-same l l p refl
same-paths (call.Symlink target p) l = none-same l l p refl
same-paths (call.Unlink p) l = none-same l l p refl
same-paths (call.Rmdir p) l = none-same l l p refl
same-paths (call.Hardlink p q) l = but-same l l p q refl
same-paths (call.Rename p q) l = renames-same l l p q refl
same-paths (call.Open p f mode) l = either (f.writes || (f.create && is_none (shows 0 (layers_of l) p))) (BringsNone l l p) (l ≡ l) (none-same l l p refl) refl
same-paths (call.Read d n) l = refl
same-paths (call.Write d bytes) l = λ x. refl
same-paths (call.Seek d offset whence) l = refl
same-paths (call.Truncate d size) l = λ x. refl
same-paths (call.Fstat d) l = refl
same-paths (call.ListNames d n) l = refl
same-paths (call.Close d) l = record { lowers = refl; objects = λ x. refl; inodes = λ x k h. refl }
same-paths (call.Arm slot p mask) l = refl
same-paths (call.Disarm watch) l = refl
same-paths (call.TakeNotices n) l = refl

-- and are kept so by it
pub same-layers : (k : Call) (l : Layers) → KeepsLayers k l l
same-layers k l = record { paths = same-paths k l; texts = λ n q is. inl is }
