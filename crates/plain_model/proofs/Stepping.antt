-- The stack of a path, name by name.
use Rattle.std.proofs.Common.{◌≡◌, ℕ, suc, Bool, true, false, List, [], ◌∷◌, Option, None, Some, refl, sym, ap, ◌∙◌, is_some}
use Rattle.std.proofs.lemmas.Bool.{false≢true}
use Rattle.ov_base.specs.declared.redirect.Redirect.TheVariants.{Absolute, Single}
use Rattle.plain_model.specs.Layers.{Name, Path, Object, Directory, Named, Whiteout, Layer, Inode, held, holds_directory, AreLayers, spell, below, cut, cuts, Shown, unless, over, shows}
use Rattle.plain_model.specs.Stacks.{Place, unless_cut, level, stack, onward, step, child}
use Rattle.plain_model.specs.Laws.{LawOfSteps}
use Rattle.plain_model.proofs.LookUp.{hides, hides-cuts}

step-unless : (c : Bool) (s : List Place) (n : Name) → step (unless_cut c s) n ≡ unless_cut c (step s n)
step-unless true s n = refl
step-unless false s n = refl

child-unless : (c : Bool) (s : List Place) (n : Name) → child (unless_cut c s) n ≡ unless c (child s n)
child-unless true s n = refl
child-unless false s n = refl

module _ (i : ℕ) (L : Layer) (Ls : List Layer) (p q : Path) (n : Name) (c : Bool) where
  here : Place
  here = record { index = i; layer = L; after = Ls; at = p }

  -- o is held at n in p, u at p
  onward-level : (o : Option Object) → ((m : Name) → step (stack (suc i) Ls q) m ≡ stack (suc i) Ls (m ∷ q)) → onward o (record { index = i; layer = L; after = Ls; at = p }) n (step (unless_cut c (stack (suc i) Ls q))) ≡ level o (record { index = i; layer = L; after = Ls; at = n ∷ p }) (unless_cut (cut o c) (stack (suc i) Ls (spell o n q)))
  onward-level None rest = step-unless c _ n ∙ ap (unless_cut c) (rest n)
  onward-level (Some Whiteout) rest = refl
  onward-level (Some (Named k)) rest = refl
  onward-level (Some (Directory k a true None)) rest = refl
  onward-level (Some (Directory k a false None)) rest = ap (λ z. record { index = i; layer = L; after = Ls; at = n ∷ p } ∷ z) (step-unless c _ n ∙ ap (unless_cut c) (rest n))
  onward-level (Some (Directory k a true (Some (Single m)))) rest = refl
  onward-level (Some (Directory k a false (Some (Single m)))) rest = ap (λ z. record { index = i; layer = L; after = Ls; at = n ∷ p } ∷ z) (step-unless c _ m ∙ ap (unless_cut c) (rest m))
  onward-level (Some (Directory k a o (Some (Absolute r)))) rest = refl

-- at a layer that holds no directory at p
level-none : (i : ℕ) (L : Layer) (Ls : List Layer) (p q : Path) (n : Name) (c : Bool) (u o : Option Object) → (is_some o ≡ true → holds_directory u ≡ true) → (hides u ≡ true → c ≡ true) → ((m : Name) → step (stack (suc i) Ls q) m ≡ stack (suc i) Ls (m ∷ q)) → (held L (n ∷ p) ≡ o) → step (level u (record { index = i; layer = L; after = Ls; at = p }) (unless_cut c (stack (suc i) Ls q))) n ≡ level o (record { index = i; layer = L; after = Ls; at = n ∷ p }) (unless_cut (cut o c) (stack (suc i) Ls (spell o n q)))
level-none i L Ls p q n c (Some (Directory k a b r)) o up hidden rest e = ap (λ o. onward o (record { index = i; layer = L; after = Ls; at = p }) n (step (unless_cut c (stack (suc i) Ls q)))) e ∙ onward-level i L Ls p q n c o rest
level-none i L Ls p q n c None None up hidden rest e = step-unless c _ n ∙ ap (unless_cut c) (rest n)
level-none i L Ls p q n c None (Some x) up hidden rest e = absurd (false≢true (up refl))
level-none i L Ls p q n c (Some (Named k)) (Some x) up hidden rest e = absurd (false≢true (up refl))
level-none i L Ls p q n c (Some Whiteout) (Some x) up hidden rest e = absurd (false≢true (up refl))
level-none i L Ls p q n c (Some (Named k)) None up hidden rest e = step-unless c _ n ∙ ap (unless_cut c) (rest n)
level-none i L Ls p q n c (Some Whiteout) None up hidden rest e = step-unless c _ n ∙ ap (unless_cut c) (rest n)

-- a name leads from the stack of a directory to that of the name in it
pub step-stack : (i : ℕ) (Ls : List Layer) → AreLayers Ls → (p : Path) (n : Name) → step (stack i Ls p) n ≡ stack i Ls (n ∷ p)
step-stack i [] a p n = refl
step-stack i (L ∷ Ls) a p n = level-none i L Ls p (below L p) n (cuts L p) (held L p) (held L (n ∷ p)) (a.0.parents n p) (hides-cuts L p) (λ m. step-stack (suc i) Ls a.1 (below L p) m) refl

over-same : (i : ℕ) (inodes : ℕ → Option Inode) (o : Option Object) (x y : Option Shown) → (o ≡ None → x ≡ y) → over i inodes o x ≡ over i inodes o y
over-same i inodes None x y h = h refl
over-same i inodes (Some Whiteout) x y h = refl
over-same i inodes (Some (Named k)) x y h = refl
over-same i inodes (Some (Directory k a o r)) x y h = refl

child-level : (i : ℕ) (L : Layer) (Ls : List Layer) (p : Path) (n : Name) (u o : Option Object) (s : List Place) (t : Option Shown) → (is_some o ≡ true → holds_directory u ≡ true) → held L (n ∷ p) ≡ o → (o ≡ None → child s n ≡ t) → child (level u (record { index = i; layer = L; after = Ls; at = p }) s) n ≡ over i L.inodes o t
child-level i L Ls p n (Some (Directory k a b r)) o s t up e rest = ap (λ o. over i L.inodes o (child s n)) e ∙ over-same i L.inodes o (child s n) t rest
child-level i L Ls p n None None s t up e rest = rest refl
child-level i L Ls p n (Some (Named k)) None s t up e rest = rest refl
child-level i L Ls p n (Some Whiteout) None s t up e rest = rest refl
child-level i L Ls p n None (Some x) s t up e rest = absurd (false≢true (up refl))
child-level i L Ls p n (Some (Named k)) (Some x) s t up e rest = absurd (false≢true (up refl))
child-level i L Ls p n (Some Whiteout) (Some x) s t up e rest = absurd (false≢true (up refl))

-- what a name in a directory shows, from the directory's stack
pub child-shows : (i : ℕ) (Ls : List Layer) → AreLayers Ls → (p : Path) (n : Name) → child (stack i Ls p) n ≡ shows i Ls (n ∷ p)
child-shows i [] a p n = refl
child-shows i (L ∷ Ls) a p n =
    child-level i L Ls p n (held L p) (held L (n ∷ p)) (unless_cut (cuts L p) (stack (suc i) Ls (below L p))) (unless (cut (held L (n ∷ p)) (cuts L p)) (shows (suc i) Ls (spell (held L (n ∷ p)) n (below L p)))) (a.0.parents n p) refl
    (λ e. child-unless (cuts L p) (stack (suc i) Ls (below L p)) n ∙ ap (unless (cuts L p)) (child-shows (suc i) Ls a.1 (below L p) n) ∙ sym (ap (λ o. unless (cut o (cuts L p)) (shows (suc i) Ls (spell o n (below L p)))) e))

-- a walk name by name is look-up
pub law_of_steps : LawOfSteps
law_of_steps i Ls a p n = record { places = step-stack i Ls a p n; shown = child-shows i Ls a p n }
