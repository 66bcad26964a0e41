-- The law of moves.
use Rattle.std.proofs.Common.{◌≡◌, ℕ, Bool, true, false, cond, List, [], ◌∷◌, ◌++◌, Option, None, Some, sym, ap, ◌∙◌, append-nil, is_some, arith, ◌⊎◌}
use Rattle.ov_base.specs.declared.attributes.Attributes.{Attributes}
use Rattle.ov_base.specs.declared.redirect.Redirect.{Redirect}
use Rattle.ov_base.specs.declared.redirect.Redirect.TheVariants.{Absolute}
use Rattle.plain_model.specs.Layers.{Name, Path, Object, Directory, Whiteout, Layer, Inode, held, spell, below, cut, cuts, Shown, unless, over, shows, through, under, is_directory, AreLayers}
use Rattle.plain_model.proofs.Paths.{outside-parent, parent-outside}
use Rattle.plain_model.specs.Laws.{IsOutside, left_at, Moved, LawOfMoves}
use Rattle.plain_model.proofs.Uppers.{AgreeTo, agree-where, through-agree, under-agree, nothing-beneath}
use Rattle.plain_model.proofs.LookUp.{parent-shown, base-through}

-- Two places that lead to the same spelling, both cut or both not; or both lead to no directory.
abbrev pub Alike : (Path → Option Shown) → Bool → Path → Bool → Path → Type 0
Alike low c s d t = ((c ≡ d) × (s ≡ t)) ⊎ ((is_directory (unless c (low s)) ≡ false) × (is_directory (unless d (low t)) ≡ false))

-- what is shown stands in directories
abbrev pub IsTree : (Path → Option Shown) → Type 0
IsTree low = (n : Name) (s : Path) → is_some (low (n ∷ s)) ≡ true → is_directory (low s) ≡ true

alike-under : (low : Path → Option Shown) → IsTree low → (c d : Bool) (s t : Path) → Alike low c s d t → (k : Name) → unless c (low (k ∷ s)) ≡ unless d (low (k ∷ t))
alike-under low tree c d s t h k = grind arith

alike-step : (low : Path → Option Shown) → IsTree low → (o : Option Object) (k : Name) (c d : Bool) (s t : Path) → Alike low c s d t → Alike low (cut o c) (spell o k s) (cut o d) (spell o k t)
alike-step low tree o k c d s t h = grind arith

alike-through : (low : Path → Option Shown) → IsTree low → (o : Option Object) (k : Name) (c d : Bool) (s t : Path) → Alike low c s d t → unless (cut o c) (low (spell o k s)) ≡ unless (cut o d) (low (spell o k t))
alike-through low tree o k c d s t h = grind arith

alike-base : (low : Path → Option Shown) (c d : Bool) (s t : Path) → Alike low c s d t → is_directory (unless c (low s)) ≡ is_directory (unless d (low t))
alike-base low c d s t h = grind arith

alike-top_step : (low : Path → Option Shown) (o : Option Object) (number : ℕ) (a : Attributes) (b : Bool) (red : Option Redirect) (n : Name) (c d : Bool) (s t : Path) → o ≡ Some (Directory number a b red) → (is_directory (unless d (low t)) ≡ true → (b ≡ false) × (red ≡ Some (Absolute t))) → (is_directory (unless d (low t)) ≡ false → (b ≡ is_directory (unless c (low (n ∷ s)))) × (red ≡ None)) → Alike low (cut o c) (spell o n s) d t
alike-top_step low o number a b red n c d s t e yes_base no_base = grind arith

module _ (U V : Layer) (lowers : List Layer) (trees : AreLayers lowers) (old : Path) (n : Name) (q : Path) (m : Moved U V lowers old n q) where
  pub agree-outside : (x : Path) → IsOutside old x → IsOutside (n ∷ q) x → AgreeTo U V x
  agree-outside x h g = agree-where U V (λ x. IsOutside old x × IsOutside (n ∷ q) x) (λ k x w. (outside-parent old k x w.0, outside-parent (n ∷ q) k x w.1)) (λ x w. m.elsewhere x w.0 w.1) x (h, g)

  low_tree : IsTree (shows 1 lowers)
  low_tree n s h = parent-shown 1 lowers trees n s h

  alike-top : AgreeTo U V q → Alike (shows 1 lowers) (cuts V (n ∷ q)) (below V (n ∷ q)) (cuts U old) (below U old)
  alike-top a =
      alike-top_step (shows 1 lowers) (held V (n ∷ q)) m.number m.attributes m.opaque m.redirect n (cuts V q) (cuts U old) (below V q) (below U old) m.placed
      (λ h. m.when_base (base-through U lowers old ∙ h))
      (λ h. rw (a.cut_alike, a.spelled) (m.when_not (base-through U lowers old ∙ h)))

  alike-at : AgreeTo U V q → (r : Path) → Alike (shows 1 lowers) (cuts V (r ++ (n ∷ q))) (below V (r ++ (n ∷ q))) (cuts U (r ++ old)) (below U (r ++ old))
  alike-at a [] = alike-top a
  alike-at a (k ∷ r) = rw (m.inside k r) (alike-step (shows 1 lowers) low_tree (held U (k ∷ r ++ old)) k _ _ _ _ (alike-at a r))

  -- what comes through the upper below the new place is what came through below the old one
  pub moved-through : AgreeTo U V q → (k : Name) (r : Path) → through V lowers (k ∷ r ++ (n ∷ q)) ≡ through U lowers (k ∷ r ++ old)
  moved-through a k r = rw (m.inside k r) (alike-through (shows 1 lowers) low_tree (held U (k ∷ r ++ old)) k _ _ _ _ (alike-at a r))

  -- also for the names in a directory, the moved one among them, whatever the upper holds there
  pub moved-under : AgreeTo U V q → (k : Name) (r : Path) → under V lowers k (r ++ (n ∷ q)) ≡ under U lowers k (r ++ old)
  moved-under a k r = alike-under (shows 1 lowers) low_tree _ _ _ _ (alike-at a r) k

  -- a directory comes through to the new place where one came through to the old
  pub moved-base : AgreeTo U V q → is_directory (through V lowers (n ∷ q)) ≡ is_directory (through U lowers old)
  moved-base a = alike-base (shows 1 lowers) _ _ _ _ (alike-at a [])

-- where a directory went, nothing is shown, and no directory comes through
gone-step : (low : Path → Option Shown) (inodes : ℕ → Option Inode) (o : Option Object) (k : Name) (c : Bool) (s : Path) → o ≡ cond (is_some (unless c (low (k ∷ s)))) (Some Whiteout) None → over 0 inodes o (unless (cut o c) (low (spell o k s))) ≡ None
gone-step low inodes o k c s h = grind arith

gone-dead : (low : Path → Option Shown) (o : Option Object) (k : Name) (c : Bool) (s : Path) → o ≡ cond (is_some (unless c (low (k ∷ s)))) (Some Whiteout) None → is_directory (unless (cut o c) (low (spell o k s))) ≡ false
gone-dead low o k c s h = grind arith

-- where the upper V keeps what U leaves at k in p, and nothing below, and both agree on the way there, nothing is shown there or below
module _ (U V : Layer) (lowers : List Layer) (trees : AreLayers lowers) (k : Name) (p : Path) (agree : AgreeTo U V p) (left : held V (k ∷ p) ≡ left_at U lowers (k ∷ p)) (emptied : (j : Name) (r : Path) → held V (j ∷ r ++ (k ∷ p)) ≡ None) where
  left_now : held V (k ∷ p) ≡ cond (is_some (unless (cuts V p) (shows 1 lowers (k ∷ below V p)))) (Some Whiteout) None
  left_now = left ∙ ap (λ s. cond (is_some s) (Some Whiteout) None) (sym (under-agree U V lowers k p agree))

  dead : is_directory (through V lowers (k ∷ p)) ≡ false
  dead = gone-dead (shows 1 lowers) (held V (k ∷ p)) k (cuts V p) (below V p) left_now

  pub left-gone : (r : Path) → shows 0 (V ∷ lowers) (r ++ (k ∷ p)) ≡ None
  left-gone [] = gone-step (shows 1 lowers) V.inodes (held V (k ∷ p)) k (cuts V p) (below V p) left_now
  left-gone (j ∷ r) = ap (λ o. over 0 V.inodes o (through V lowers (j ∷ r ++ (k ∷ p)))) (emptied j r) ∙ nothing-beneath V lowers trees (k ∷ p) dead emptied j r

module _ (U V : Layer) (lowers : List Layer) (trees : AreLayers lowers) where
  pub moved-gone : (old : Path) (n : Name) (q : Path) → Moved U V lowers old n q → IsOutside old (n ∷ q) → IsOutside (n ∷ q) old → (r : Path) → shows 0 (V ∷ lowers) (r ++ old) ≡ None
  moved-gone [] n q m apart back = absurd (apart (n ∷ q) (sym (append-nil (n ∷ q))))
  moved-gone (k ∷ p) n q m apart back =
      left-gone U V lowers trees k p
      (agree-outside U V lowers trees (k ∷ p) n q m p (parent-outside k p) (outside-parent (n ∷ q) k p back))
      m.left m.emptied

-- the law of moves
pub law_of_moves : LawOfMoves
law_of_moves U V lowers old n q trees apart back m =
    let a = agree-outside U V lowers trees old n q m q (outside-parent old n q apart) (parent-outside n q) in
    record {
      base_new = base-through V lowers (n ∷ q) ∙ moved-base U V lowers trees old n q m a ∙ sym (base-through U lowers old);
      below_new = moved-through U V lowers trees old n q m a;
      under_new = moved-under U V lowers trees old n q m a;
      gone = moved-gone U V lowers trees old n q m apart back;
      elsewhere = λ x o p. through-agree U V lowers x (agree-outside U V lowers trees old n q m x o p);
      under_elsewhere = λ k x o p. under-agree U V lowers k x (agree-outside U V lowers trees old n q m x o p);
    }
