-- Walks by names from a root, over any step from a key by a name.
use Rattle.std.proofs.Common.{◌≡◌, ◌≢◌, ℕ, List, [], ◌∷◌, ◌++◌, length, length-append, Option, Some, None, refl, sym, ap, ◌∙◌, arith}
use Rattle.std.specs.Option.{option_and_then}
use Rattle.layer_tree.specs.Walk.{walk, Rebinds}

-- a value that a chain of two gave came through both
pub bound : {A B : Type 0} (f : A → Option B) (o : Option A) (y : B) → option_and_then f o ≡ Some y → (x : A) × (o ≡ Some x) × (f x ≡ Some y)
bound f None y e = absurd (cc)
bound f (Some x) y e = (x, refl, e)

pub unwrapped : {A : Type 0} (x y : A) → Some x ≡ Some y → x ≡ y
unwrapped x y e = cc

-- a key that may have children has at most one name, and the root has none
pub record IsPlaced (step : ℕ → List ℕ → Option ℕ) (root : ℕ) (IsDir : ℕ → Type 0) : Type 0 where
  pub parent_is_dir : (d : ℕ) (n : List ℕ) (k : ℕ) → step d n ≡ Some k → IsDir d
  pub one_name : (d e : ℕ) (n m : List ℕ) (k : ℕ) → step d n ≡ Some k → step e m ≡ Some k → IsDir k → (d ≡ e) × (n ≡ m)
  pub top : (d : ℕ) (n : List ℕ) → step d n ≢ Some root

module _ (step : ℕ → List ℕ → Option ℕ) (root : ℕ) (IsDir : ℕ → Type 0) (tree : IsPlaced step root IsDir) where
  -- two paths to one directory are one path
  pub one_path : (p q : List (List ℕ)) (k : ℕ) → walk step root p ≡ Some k → walk step root q ≡ Some k → IsDir k → p ≡ q
  one_path [] [] k e f dir = refl
  one_path [] (n ∷ q) k e f dir =
      let last = bound (λ j. step j n) (walk step root q) k f in
      absurd (tree.top last.0 n (last.2 ∙ sym e))
  one_path (m ∷ p) [] k e f dir =
      let last = bound (λ j. step j m) (walk step root p) k e in
      absurd (tree.top last.0 m (last.2 ∙ sym f))
  one_path (m ∷ p) (n ∷ q) k e f dir =
      let first = bound (λ j. step j m) (walk step root p) k e in
      let second = bound (λ j. step j n) (walk step root q) k f in
      let both = tree.one_name first.0 second.0 m n k first.2 second.2 dir in
      let rest = one_path p q first.0 first.1 (second.1 ∙ ap Some (sym both.0)) (tree.parent_is_dir first.0 m k first.2) in
      λ i. both.1 i ∷ rest i

module _ (old new : ℕ → List ℕ → Option ℕ) (root : ℕ) (IsDir : ℕ → Type 0) (tree : IsPlaced old root IsDir) (dir : ℕ) (name : List ℕ) (p : List (List ℕ)) (here : walk old root p ≡ Some dir) (is_dir : IsDir dir) (to : Option ℕ) (binds : Rebinds old new dir name to) where
  -- the name that changed isn't the last one of a path that doesn't go through it
  pub other_name : (n : List ℕ) (q : List (List ℕ)) → n ∷ q ≢ name ∷ p → (k : ℕ) → walk old root q ≡ Some k → (k ≡ dir) → (n ≡ name) → ⊥
  other_name n q off k at same_dir same_last =
      let path : q ≡ p = one_path old root IsDir tree q p dir (at ∙ ap Some same_dir) here is_dir in
      off (λ i. same_last i ∷ path i)

  -- a path that doesn't go through the changed name leads where it led
  pub walk_beside : (q : List (List ℕ)) → ((s : List (List ℕ)) → q ≢ s ++ name ∷ p) → walk new root q ≡ walk old root q
  walk_beside [] off = refl
  walk_beside (n ∷ q) off =
      let rest : walk new root q ≡ walk old root q = walk_beside q (λ s e. off (n ∷ s) (ap (λ x. n ∷ x) e)) in
      ap (option_and_then (λ k. new k n)) rest ∙ last (walk old root q) refl
    where
      last : (o : Option ℕ) → walk old root q ≡ o → option_and_then (λ k. new k n) o ≡ option_and_then (λ k. old k n) o
      last None e = refl
      last (Some k) e = binds.others k n (other_name n q (off []) k e)

  -- the path to the directory is one of these
  pub walk_to_dir : walk new root p ≡ Some dir
  walk_to_dir = walk_beside p (λ s e. longer s e) ∙ here
    where
      longer : (s : List (List ℕ)) → p ≡ s ++ name ∷ p → ⊥
      longer s e = omega (arith, ap length e, length-append s (name ∷ p))

  pub walk_at : walk new root (name ∷ p) ≡ to
  walk_at = ap (option_and_then (λ k. new k name)) walk_to_dir ∙ binds.at

-- below a path that leads to nothing there is nothing
pub walk_under_none : (step : ℕ → List ℕ → Option ℕ) (root : ℕ) (s t : List (List ℕ)) → walk step root t ≡ None → walk step root (s ++ t) ≡ None
walk_under_none step root [] t e = e
walk_under_none step root (n ∷ s) t e = ap (option_and_then (λ k. step k n)) (walk_under_none step root s t e)
