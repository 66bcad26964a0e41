-- Directories placed in the upper: a missing parent changes nothing of what is shown, and a new directory is all that is gained.
use Rattle.std.proofs.Common.{◌≡◌, ◌↔◌, ℕ, Bool, true, false, cond, ◌||◌, List, [], ◌∷◌, ◌++◌, Option, None, Some, refl, sym, ap, ap₂, ◌∙◌, ◌⊎◌, inl, inr, is_some, arith, length, length-append}
use Rattle.std.proofs.lemmas.Bool.{false≢true, cases_Bool}
use Rattle.ov_base.specs.declared.attributes.Attributes.{Attributes}
use Rattle.plain_model.specs.Layers.{Name, Path, Object, Directory, Named, Layer, held, spell, below, cut, cuts, Shown, Folder, Contents, unless, over, shows, through, under, is_directory, holds_directory, same_path, AreLayers}
use Rattle.plain_model.specs.Laws.{Placed}
use Rattle.plain_model.specs.Tree.{SeenBranch, see, merged, AreLinked}
use Rattle.plain_model.proofs.LookUp.{parent-shown}
use Rattle.plain_model.proofs.Paths.{place, paths_tell, parent-outside}
use Rattle.plain_model.proofs.Uppers.{meld, merged-meld, AgreeTo, agree-step, agree-placed, merged-outside, merged-here, merged-beneath, merged-agree, through-agree}
use Rattle.mount_laws.specs.Looks.{LawOfPlacedParent, LawOfPlacedDirectory}

-- what shows no directory shows nothing in it
pub nothing-in : (Ls : List Layer) → AreLayers Ls → (m : Name) (q : Path) → is_directory (shows 0 Ls q) ≡ false → shows 0 Ls (m ∷ q) ≡ None
nothing-in Ls a m q h = by (shows 0 Ls (m ∷ q)) refl
  where
    by : (s : Option Shown) → shows 0 Ls (m ∷ q) ≡ s → shows 0 Ls (m ∷ q) ≡ None
    by None e = e
    by (Some s) e = absurd (false≢true (sym h ∙ parent-shown 0 Ls a m q (ap is_some e)))

-- nor below
pub nothing-below : (Ls : List Layer) → AreLayers Ls → (p : Path) → is_directory (shows 0 Ls p) ≡ false → (m : Name) (r : Path) → shows 0 Ls (m ∷ r ++ p) ≡ None
nothing-below Ls a p h m [] = nothing-in Ls a m p h
nothing-below Ls a p h m (k ∷ r) = nothing-in Ls a m (k ∷ r ++ p) (ap is_directory (nothing-below Ls a p h k r))

-- and below a directory in which no name is shown nothing is
pub bare-below : (Ls : List Layer) → AreLayers Ls → (p : Path) → ((m : Name) → shows 0 Ls (m ∷ p) ≡ None) → (m : Name) (r : Path) → shows 0 Ls (m ∷ r ++ p) ≡ None
bare-below Ls a p h m [] = h m
bare-below Ls a p h m (k ∷ r) = nothing-in Ls a m (k ∷ r ++ p) (ap is_directory (bare-below Ls a p h k r))

-- a name of an inode is shown
pub named-shown : (U : Layer) (lowers : List Layer) (p : Path) (k : ℕ) → held U p ≡ Some (Named k) → shows 0 (U ∷ lowers) p ≡ None → ⊥
named-shown U lowers p k h e = let z : Some (Contents 0 k (U.inodes k)) ≡ None = sym (ap (λ o. over 0 U.inodes o (through U lowers p)) h) ∙ e in cc

-- below a path that is not held nothing is held
unheld-in : (U : Layer) (lowers : List Layer) → AreLayers (U ∷ lowers) → (m : Name) (q : Path) → holds_directory (held U q) ≡ false → held U (m ∷ q) ≡ None
unheld-in U lowers a m q h = by (held U (m ∷ q)) refl
  where
    by : (o : Option Object) → held U (m ∷ q) ≡ o → held U (m ∷ q) ≡ None
    by None e = e
    by (Some o) e = absurd (false≢true (sym h ∙ a.0.parents m q (ap is_some e)))

unheld : (U : Layer) (lowers : List Layer) → AreLayers (U ∷ lowers) → (p : Path) → held U p ≡ None → (m : Name) (r : Path) → held U (m ∷ r ++ p) ≡ None
unheld U lowers a p h m [] = unheld-in U lowers a m p (ap holds_directory h)
unheld U lowers a p h m (k ∷ r) = unheld-in U lowers a m (k ∷ r ++ p) (ap holds_directory (unheld U lowers a p h k r))

pub other-path : (p x : Path) → (p ≡ x → ⊥) → same_path p x ≡ false
other-path p x h = elim (cases_Bool (same_path p x)) [
  | inl s ↦ absurd (h ((paths_tell p x).0 s))
  | inr s ↦ s
]

pub longer : (p : Path) (m : Name) (r : Path) → p ≡ m ∷ r ++ p → ⊥
longer p m r e = absurd (omega (arith, simp length-append at (ap length e)))

-- a new directory at n in p
module _ (U V : Layer) (lowers : List Layer) (a : AreLayers (U ∷ lowers)) (b : AreLayers (V ∷ lowers)) (n : Name) (p : Path) (k : ℕ) (x : Attributes) (free : shows 0 (U ∷ lowers) (n ∷ p) ≡ None) (m : Placed U V (n ∷ p) (Some (Directory k x (is_directory (under U lowers n p)) None))) where
  -- no directory comes through
  hidden : is_directory (through V lowers (n ∷ p)) ≡ false
  hidden =
      ap₂ (λ o q. is_directory (unless (cut o (cuts V p)) (shows 1 lowers (spell o n q)))) m.here agree.spelled
      ∙ ap (λ c. is_directory (unless (is_directory (under U lowers n p) || c) (shows 1 lowers (n ∷ below U p)))) agree.cut_alike
      ∙ by (cuts U p) (shows 1 lowers (n ∷ below U p))
    where
      agree : AgreeTo U V p
      agree = agree-placed U V lowers a.1 (n ∷ p) _ m p (parent-outside n p)

      by : (c : Bool) (s : Option Shown) → is_directory (unless (is_directory (unless c s) || c) s) ≡ false
      by true s = refl
      by false None = refl
      by false (Some (Folder i j y)) = refl
      by false (Some (Contents i j inode)) = refl

  gained : (q : Path) → merged V lowers q ≡ cond (same_path (n ∷ p) q) (Some (SeenBranch x false)) (merged U lowers q)
  gained q = elim (place (n ∷ p) q) [
    | inl y ↦ below-it y.0 y.1
    | inr out ↦ merged-outside U V lowers a.1 (n ∷ p) _ m q out ∙ sym (ap (λ c. cond c (Some (SeenBranch x false)) (merged U lowers q)) (other-path (n ∷ p) q (λ e. out [] (sym e))))
  ]
    where
      below-it : (r : Path) → q ≡ r ++ (n ∷ p) → merged V lowers q ≡ cond (same_path (n ∷ p) q) (Some (SeenBranch x false)) (merged U lowers q)
      below-it [] e =
          ap (merged V lowers) e
          ∙ merged-here U V lowers a.1 (n ∷ p) _ m
          ∙ ap (λ c. Some (SeenBranch x c)) hidden
          ∙ sym (ap (λ c. cond c (Some (SeenBranch x false)) (merged U lowers q)) ((paths_tell (n ∷ p) q).1 (sym e)))
      below-it (k ∷ r) e =
          ap (merged V lowers) e
          ∙ merged-beneath U V lowers a.1 (n ∷ p) _ m hidden k r
          ∙ sym (ap (merged U lowers) e ∙ ap (see _) (nothing-below (U ∷ lowers) a (n ∷ p) (ap is_directory free) k r))
          ∙ sym (ap (λ c. cond c (Some (SeenBranch x false)) (merged U lowers q)) (other-path (n ∷ p) q (λ g. longer (n ∷ p) k r (g ∙ e))))

  named : (q : Path) (j : ℕ) → (held V q ≡ Some (Named j)) ↔ (held U q ≡ Some (Named j))
  named q j = elim (place (n ∷ p) q) [
    | inl y ↦ below-it y.0 y.1
    | inr out ↦ (λ h. sym (m.elsewhere q out) ∙ h, λ h. m.elsewhere q out ∙ h)
  ]
    where
      below-it : (r : Path) → q ≡ r ++ (n ∷ p) → (held V q ≡ Some (Named j)) ↔ (held U q ≡ Some (Named j))
      below-it [] e = (
        λ h. (let z : Some (Directory k x (is_directory (under U lowers n p)) None) ≡ Some (Named j) = sym m.here ∙ ap (held V) (sym e) ∙ h in cc),
        λ h. absurd (named-shown U lowers (n ∷ p) j (ap (held U) (sym e) ∙ h) free),
      )
      below-it (i ∷ r) e = (
        λ h. (let z : None ≡ Some (Named j) = sym (m.beneath i r) ∙ ap (held V) (sym e) ∙ h in cc),
        λ h. absurd (named-shown U lowers (i ∷ r ++ (n ∷ p)) j (ap (held U) (sym e) ∙ h) (nothing-below (U ∷ lowers) a (n ∷ p) (ap is_directory free) i r)),
      )

-- a new directory is all that is gained
pub law_of_placed_directory : LawOfPlacedDirectory
law_of_placed_directory U V lowers a b n p k x free m = record {
  layers = b;
  sights = gained U V lowers a b n p k x free m;
  names = named U V lowers a b n p k x free m;
}

-- a missing parent at n in p
module _ (U V : Layer) (lowers : List Layer) (a : AreLayers (U ∷ lowers)) (n : Name) (p : Path) (i j k : ℕ) (x : Attributes) (missing : held U (n ∷ p) ≡ None) (dir : shows 0 (U ∷ lowers) (n ∷ p) ≡ Some (Folder i j x)) (m : Placed U V (n ∷ p) (Some (Directory k x false None))) where
  agree-here : AgreeTo U V (n ∷ p)
  agree-here = record {
    cut_alike = ap₂ cut m.here e.cut_alike ∙ sym (ap (λ o. cut o (cuts U p)) missing);
    spelled = ap₂ (λ o q. spell o n q) m.here e.spelled ∙ sym (ap (λ o. spell o n (below U p)) missing);
  }
    where
      e : AgreeTo U V p
      e = agree-placed U V lowers a.1 (n ∷ p) _ m p (parent-outside n p)

  beneath-alike : (y : Name) (r : Path) → held V (y ∷ r ++ (n ∷ p)) ≡ held U (y ∷ r ++ (n ∷ p))
  beneath-alike y r = m.beneath y r ∙ sym (unheld U lowers a (n ∷ p) missing y r)

  agree-beneath : (r : Path) → AgreeTo U V (r ++ (n ∷ p))
  agree-beneath [] = agree-here
  agree-beneath (y ∷ r) = agree-step U V y (r ++ (n ∷ p)) (beneath-alike y r) (agree-beneath r)

  -- what comes through at the parent is the directory shown there
  comes : through U lowers (n ∷ p) ≡ Some (Folder i j x)
  comes = sym (ap (λ o. over 0 U.inodes o (through U lowers (n ∷ p))) missing) ∙ dir

  pub same-sights : (q : Path) → merged V lowers q ≡ merged U lowers q
  same-sights q = elim (place (n ∷ p) q) [
    | inl y ↦ below-it y.0 y.1
    | inr out ↦ merged-outside U V lowers a.1 (n ∷ p) _ m q out
  ]
    where
      below-it : (r : Path) → q ≡ r ++ (n ∷ p) → merged V lowers q ≡ merged U lowers q
      below-it [] e =
          ap (merged V lowers) e
          ∙ merged-here U V lowers a.1 (n ∷ p) _ m
          ∙ ap (λ s. Some (SeenBranch x (is_directory s))) (through-agree U V lowers (n ∷ p) agree-here ∙ comes)
          ∙ sym (ap (merged U lowers) e ∙ merged-meld U lowers (n ∷ p) ∙ ap₂ (meld U.inodes) missing comes)
      below-it (y ∷ r) e =
          ap (merged V lowers) e
          ∙ merged-agree U V lowers (y ∷ r ++ (n ∷ p)) m.inodes (beneath-alike y r) (agree-beneath (y ∷ r))
          ∙ sym (ap (merged U lowers) e)

  pub same-names : (q : Path) (l : ℕ) → held V q ≡ Some (Named l) → held U q ≡ Some (Named l)
  same-names q l h = elim (place (n ∷ p) q) [
    | inl y ↦ below-it y.0 y.1
    | inr out ↦ sym (m.elsewhere q out) ∙ h
  ]
    where
      below-it : (r : Path) → q ≡ r ++ (n ∷ p) → held U q ≡ Some (Named l)
      below-it [] e = let z : Some (Directory k x false None) ≡ Some (Named l) = sym m.here ∙ ap (held V) (sym e) ∙ h in cc
      below-it (y ∷ r) e = let z : None ≡ Some (Named l) = sym (m.beneath y r) ∙ ap (held V) (sym e) ∙ h in cc

  pub more-names : (q : Path) (l : ℕ) → held U q ≡ Some (Named l) → held V q ≡ Some (Named l)
  more-names q l h = elim (place (n ∷ p) q) [
    | inl y ↦ below-it y.0 y.1
    | inr out ↦ m.elsewhere q out ∙ h
  ]
    where
      below-it : (r : Path) → q ≡ r ++ (n ∷ p) → held V q ≡ Some (Named l)
      below-it [] e = let z : None ≡ Some (Named l) = sym missing ∙ ap (held U) (sym e) ∙ h in cc
      below-it (y ∷ r) e = let z : None ≡ Some (Named l) = sym (unheld U lowers a (n ∷ p) missing y r) ∙ ap (held U) (sym e) ∙ h in cc

-- a missing parent leaves the mount as it was
pub law_of_placed_parent : LawOfPlacedParent
law_of_placed_parent U V lowers s h b n p i j k x missing dir m = record {
  layers = b;
  writable = h.writable;
  shows = record {
    sights = λ q. h.shows.sights q ∙ sym (same-sights U V lowers h.layers n p i j k x missing dir m q);
    linked = λ q r l. h.shows.linked q r (record { number = l.number; first = same q l.number l.first; second = same r l.number l.second });
    apart = λ q r d e g. lift q r (h.shows.apart q r d e g);
  };
  kept = h.kept;
}
  where
    same : (q : Path) (l : ℕ) → held V q ≡ Some (Named l) → held U q ≡ Some (Named l)
    same = same-names U V lowers h.layers n p i j k x missing dir m

    more : (q : Path) (l : ℕ) → held U q ≡ Some (Named l) → held V q ≡ Some (Named l)
    more = more-names U V lowers h.layers n p i j k x missing dir m

    lift : (q r : Path) → (q ≡ r) ⊎ AreLinked U q r → (q ≡ r) ⊎ AreLinked V q r
    lift q r (inl e) = inl e
    lift q r (inr l) = inr (record { number = l.number; first = more q l.number l.first; second = more r l.number l.second })
