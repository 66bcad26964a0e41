-- Uppers in which a name or a directory moved show it in its new place, and all else as before.
use Rattle.std.proofs.Common.{◌≡◌, ◌↔◌, ℕ, true, false, List, [], ◌∷◌, ◌++◌, Option, None, Some, option_map, refl, sym, ap, ap₂, ◌∙◌, inr, is_some, Bool}
use Rattle.std.proofs.lemmas.Bool.{false≢true}
use Rattle.plain_model.specs.Layers.{Name, Path, Directory, Named, Inode, Layer, held, spell, below, cut, cuts, unless, over, shows, through, is_directory, AreLayers}
use Rattle.plain_model.specs.Laws.{IsOutside, left_at, KeepsMoves}
use Rattle.plain_model.specs.Tree.{SeenBranch, see, see_inode, merged, AreLinked}
use Rattle.plain_model.proofs.LookUp.{base-through}
use Rattle.plain_model.proofs.Merged.{named-seen}
use Rattle.plain_model.proofs.Moves.{left-gone, law_of_moves}
use Rattle.plain_model.proofs.Paths.{outside-parent, parent-outside}
use Rattle.plain_model.proofs.Uppers.{meld, merged-meld, AgreeTo, agree-where, through-agree, nothing-beneath}
use Rattle.mount_laws.specs.Removals.{fewer}
use Rattle.mount_laws.specs.Moving.{Follows, Goes, Stays, moved_sight, MovesTo, MovesName, LawOfMovedName, MovesDirectory, NamesNoInode, LawOfMovedDirectory}
use Rattle.mount_laws.proofs.Alters.{meld-alike, two-names}
use Rattle.mount_laws.proofs.Places.{nothing-below, named-shown}
use Rattle.ov_base.specs.declared.attributes.Attributes.{Attributes}
use Rattle.ov_base.specs.declared.redirect.Redirect.{Redirect}

-- an inode has in V the names that follow those that it has in U
abbrev pub NamesFollow : Layer → Layer → Path → Path → Type 0
NamesFollow U V old new = (x y : Path) (k : ℕ) → Follows old new x y → (held V y ≡ Some (Named k)) ↔ (held U x ≡ Some (Named k))

-- then two paths name one inode of V exactly where those that they follow name one of U
follow-earlier :
    (U V : Layer) (old new : Path) → NamesFollow U V old new → (x y p q : Path) → Follows old new x p → Follows old new y q →
    AreLinked V p q → AreLinked U x y
follow-earlier U V old new names x y p q f g l =
    record { number = l.number; first = (names x p l.number f).0 l.first; second = (names y q l.number g).0 l.second }

follow-later :
    (U V : Layer) (old new : Path) → NamesFollow U V old new → (x y p q : Path) → Follows old new x p → Follows old new y q →
    AreLinked U x y → AreLinked V p q
follow-later U V old new names x y p q f g l =
    record { number = l.number; first = (names x p l.number f).1 l.first; second = (names y q l.number g).1 l.second }

-- what is seen of an inode of the upper stays where a name of it moves
pub own-moved : (low : Bool) (o : Option Inode) → option_map (moved_sight low) (see_inode 0 o) ≡ see_inode 0 o
own-moved low None = refl
own-moved low (Some i) = refl

-- where a name moved, both uppers agree outside the two places
pub name-agree :
    (U V : Layer) (lowers : List Layer) (old new : Path) → MovesName U V lowers old new → (x : Path) → IsOutside old x → IsOutside new x →
    AgreeTo U V x
name-agree U V lowers old new m x o p =
    agree-where U V (λ x. IsOutside old x × IsOutside new x)
    (λ k x w. (outside-parent old k x w.0, outside-parent new k x w.1))
    (λ x w. m.elsewhere x w.0 w.1) x (o, p)

-- a name that moved
module _ (U V : Layer) (lowers : List Layer) (a : AreLayers (U ∷ lowers)) (old new : Path) (m : MovesName U V lowers old new) where
  file : is_directory (shows 0 (U ∷ lowers) old) ≡ false
  file = ap (λ o. is_directory (over 0 U.inodes o (through U lowers old))) m.source

  -- no inode was named below the old place
  unnamed-below : (k : Name) (r : Path) (j : ℕ) → held U (k ∷ r ++ old) ≡ Some (Named j) → ⊥
  unnamed-below k r j h = named-shown U lowers (k ∷ r ++ old) j h (nothing-below (U ∷ lowers) a old file k r)

  pub name-follows : NamesFollow U V old new
  name-follows x y j (Goes [] e f) = (
    λ h. ap (held U) e ∙ m.source ∙ sym m.here ∙ ap (held V) (sym f) ∙ h,
    λ h. ap (held V) f ∙ m.here ∙ sym m.source ∙ ap (held U) (sym e) ∙ h,
  )
  name-follows x y j (Goes (k ∷ r) e f) = (
    λ h. (let z : None ≡ Some (Named j) = sym (m.beneath k r) ∙ ap (held V) (sym f) ∙ h in cc),
    λ h. absurd (unnamed-below k r j (ap (held U) (sym e) ∙ h)),
  )
  name-follows x y j (Stays o p f) = (
    λ h. sym (m.elsewhere x o p) ∙ ap (held V) (sym f) ∙ h,
    λ h. ap (held V) f ∙ m.elsewhere x o p ∙ h,
  )

  module _ (b : AreLayers (V ∷ lowers)) (low : Bool) (apart : IsOutside old new) (back : IsOutside new old) (unlinked : AreLinked U old new → ⊥) where
    gone-shown : (o : Path) → old ≡ o → (r : Path) → shows 0 (V ∷ lowers) (r ++ old) ≡ None
    gone-shown [] e r = let z : Some (Directory 0 U.root false None) ≡ Some (Named m.number) = ap (held U) (sym e) ∙ m.source in cc
    gone-shown (k ∷ p) e r =
        ap (λ p. shows 0 (V ∷ lowers) (r ++ p)) e
        ∙ left-gone U V lowers a.1 k p
        (name-agree U V lowers old new m p (λ s h. parent-outside k p s (h ∙ ap (λ p. s ++ p) e))
        (outside-parent new k p (λ s h. back s (e ∙ h))))
        (ap (held V) (sym e) ∙ m.left ∙ ap (left_at U lowers) e)
        (λ j s. ap (λ p. held V (j ∷ s ++ p)) (sym e) ∙ m.emptied j s) r

    here : merged V lowers new ≡ option_map (moved_sight low) (merged U lowers old)
    here =
        named-seen V lowers new m.number m.here
        ∙ ap (see_inode 0) (m.inodes m.number (λ h. unlinked (record { number = m.number; first = m.source; second = h })))
        ∙ sym (ap (option_map (moved_sight low)) (named-seen U lowers old m.number m.source) ∙ own-moved low (U.inodes m.number))

    dead : (p : Path) → held V p ≡ Some (Named m.number) → is_directory (through V lowers p) ≡ false
    dead [] h = let z : Some (Directory 0 V.root false None) ≡ Some (Named m.number) = h in cc
    dead (k ∷ p) h = ap (λ o. is_directory (unless (cut o (cuts V p)) (shows 1 lowers (spell o k (below V p))))) h

    beneath : (k : Name) (r : Path) → merged V lowers (k ∷ r ++ new) ≡ merged U lowers (k ∷ r ++ old)
    beneath k r =
        merged-meld V lowers (k ∷ r ++ new)
        ∙ ap₂ (meld V.inodes) (m.beneath k r) (nothing-beneath V lowers a.1 new (dead new m.here) m.beneath k r)
        ∙ sym (ap (see _) (nothing-below (U ∷ lowers) a old file k r))

    others : (x : Path) → IsOutside old x → IsOutside new x → (AreLinked U new x → ⊥) → merged V lowers x ≡ merged U lowers x
    others x o p apart =
        merged-meld V lowers x
        ∙ ap₂ (meld V.inodes) (m.elsewhere x o p) (through-agree U V lowers x (name-agree U V lowers old new m x o p))
        ∙ meld-alike V.inodes U.inodes (held U x) (through U lowers x)
        (λ k h. m.inodes k (λ g. apart (record { number = k; first = g; second = h })))
        ∙ sym (merged-meld U lowers x)

    linked : (x : Path) → IsOutside old x → IsOutside new x → AreLinked U new x → merged V lowers x ≡ fewer (merged U lowers x)
    linked x o p l = by (U.inodes l.number) refl (a.0.present new l.number l.first)
      where
        by : (i : Option Inode) → U.inodes l.number ≡ i → is_some i ≡ true → merged V lowers x ≡ fewer (merged U lowers x)
        by None is some = absurd (false≢true some)
        by (Some i) is some =
            named-seen V lowers x l.number (m.elsewhere x o p ∙ l.second)
            ∙ ap (see_inode 0) (m.fewer l.number i l.first is (two-names U a.0 l.number i is new x l.first l.second (p [])))
            ∙ sym (ap fewer (named-seen U lowers x l.number l.second ∙ ap (see_inode 0) is))

    name-moves : MovesTo U V lowers low old new
    name-moves = record {
      layers = b;
      gone = λ r. ap (see _) (gone-shown old refl r);
      here = here;
      beneath = beneath;
      linked = linked;
      others = others;
      earlier = λ x y p q f g l. inr (follow-earlier U V old new name-follows x y p q f g l);
      later = follow-later U V old new name-follows;
    }

-- a name of the upper's moves and no more
pub law_of_moved_name : LawOfMovedName
law_of_moved_name U V lowers a b low old new apart back unlinked m = name-moves U V lowers a old new m b low apart back unlinked

-- a directory is no name of an inode
no-name : {X : Type 0} (k : ℕ) (a : Attributes) (o : Bool) (r : Option Redirect) (j : ℕ) → Some (Directory k a o r) ≡ Some (Named j) → X
no-name k a o r j h = cc

-- a directory that moved to where no inode was named
module _ (U V : Layer) (lowers : List Layer) (old : Path) (n : Name) (q : Path) (m : MovesDirectory U V lowers old n q) where
  abbrev path : Path
  path = n ∷ q

  pub directory-follows : NamesFollow U V old path
  directory-follows x y j (Goes [] e f) = (
    λ h. no-name m.moved.number m.moved.attributes m.moved.opaque m.moved.redirect j (sym m.moved.placed ∙ ap (held V) (sym f) ∙ h),
    λ h. no-name m.moved.number m.moved.attributes m.opaque m.redirect j (sym m.source ∙ ap (held U) (sym e) ∙ h),
  )
  directory-follows x y j (Goes (k ∷ r) e f) = (
    λ h. ap (held U) e ∙ sym (m.moved.inside k r) ∙ ap (held V) (sym f) ∙ h,
    λ h. ap (held V) f ∙ m.moved.inside k r ∙ ap (held U) (sym e) ∙ h,
  )
  directory-follows x y j (Stays o p f) = (
    λ h. sym (m.moved.elsewhere x o p) ∙ ap (held V) (sym f) ∙ h,
    λ h. ap (held V) f ∙ m.moved.elsewhere x o p ∙ h,
  )

  module _
      (a : AreLayers (U ∷ lowers)) (b : AreLayers (V ∷ lowers)) (low : Bool) (apart : IsOutside old path) (back : IsOutside path old)
      (unnamed : NamesNoInode U path) where
    keeps : KeepsMoves U V lowers old n q
    keeps = law_of_moves U V lowers old n q a.1 apart back m.moved

    based : is_directory (through V lowers path) ≡ is_directory (through U lowers old)
    based = sym (base-through V lowers path) ∙ keeps.base_new ∙ base-through U lowers old

    directory-here : merged V lowers path ≡ option_map (moved_sight low) (merged U lowers old)
    directory-here =
        merged-meld V lowers path
        ∙ ap (λ o. meld V.inodes o (through V lowers path)) m.moved.placed
        ∙ ap (λ b. Some (SeenBranch m.moved.attributes b)) based
        ∙ sym (ap (option_map (moved_sight low)) (merged-meld U lowers old ∙ ap (λ o. meld U.inodes o (through U lowers old)) m.source))

    directory-moves : MovesTo U V lowers low old path
    directory-moves = record {
      layers = b;
      gone = λ r. ap (see _) (keeps.gone r);
      here = directory-here;
      beneath = λ k r.
          merged-meld V lowers (k ∷ r ++ path)
          ∙ (λ i. meld (m.inodes i) (m.moved.inside k r i) (keeps.below_new k r i))
          ∙ sym (merged-meld U lowers (k ∷ r ++ old));
      linked = λ x o p l. absurd (unnamed l.number l.first);
      others = λ x o p away.
          merged-meld V lowers x
          ∙ (λ i. meld (m.inodes i) (m.moved.elsewhere x o p i) (keeps.elsewhere x o p i))
          ∙ sym (merged-meld U lowers x);
      earlier = λ x y p q f g l. inr (follow-earlier U V old path directory-follows x y p q f g l);
      later = follow-later U V old path directory-follows;
    }

-- a directory of the upper's moves and no more
pub law_of_moved_directory : LawOfMovedDirectory
law_of_moved_directory U V lowers a b low old n q apart back unnamed m = directory-moves U V lowers old n q m a b low apart back unnamed
