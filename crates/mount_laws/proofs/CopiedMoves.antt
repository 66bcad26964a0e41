-- What moves may be copied up or placed in the upper first, and moves leave no needless whiteout.
use Rattle.std.proofs.Common.{◌≡◌, ◌≢◌, ◌↔◌, ℕ, suc, true, false, cond, List, [], ◌∷◌, ◌++◌, None, Some, option_map, refl, sym, ap, ◌∙◌, ◌⊎◌, inl, inr, is_some, Bool, subst}
use Rattle.plain_model.specs.Layers.{Name, Path, Directory, Named, Whiteout, Inode, Layer, held, Contents, over, shows, through, under, base, AreLayers}
use Rattle.plain_model.specs.Laws.{IsOutside, KeepsMoves, left_at}
use Rattle.plain_model.specs.Tree.{see, merged, AreLinked, IsThin}
use Rattle.plain_model.proofs.Moves.{law_of_moves}
use Rattle.plain_model.proofs.Paths.{place, outside-parent, parent-outside}
use Rattle.plain_model.proofs.Uppers.{under-agree}
use Rattle.mount_laws.specs.Altered.{altered, Alters}
use Rattle.mount_laws.specs.Moving.{moved_sight, MovesTo, MovesName, MovesDirectory, LawOfCopiedMove, LawOfPlacedMove, LawOfThinMoves, LawOfSameMove}
use Rattle.mount_laws.proofs.Moving.{name-agree}
use Rattle.mount_laws.proofs.Places.{same-sights, same-names, more-names, longer}
use Rattle.mount_laws.specs.Removals.{fewer}

-- a file or link of a lower layer that was copied up to W, which then moves
module _
    (U W V : Layer) (lowers : List Layer) (low : Bool) (old new : Path) (j l : ℕ) (i : Inode)
    (lower : shows 0 (U ∷ lowers) old ≡ Some (Contents (suc j) l (Some i))) (c : Alters U W lowers low old i.attributes)
    (g : MovesTo W V lowers low old new) where
  -- the upper named no inode there
  unlinked : (x : Path) → AreLinked U old x → ⊥
  unlinked x w =
      let z : Some (Contents 0 w.number (U.inodes w.number)) ≡ Some (Contents (suc j) l (Some i)) =
      sym (ap (λ o. over 0 U.inodes o (through U lowers old)) w.first) ∙ lower in
      cc

  -- it is copied up with one name
  copied-here : merged V lowers new ≡ option_map (moved_sight low) (merged U lowers old)
  copied-here =
      g.here
      ∙ ap (option_map (moved_sight low)) (c.here ∙ ap (λ s. option_map (altered low i.attributes) (see (base U lowers old) s)) lower)
      ∙ sym (ap (λ s. option_map (moved_sight low) (see (base U lowers old) s)) lower)

  same-at : (x : Path) → x ≢ old → merged W lowers x ≡ merged U lowers x
  same-at x apart = c.others x apart (unlinked x)

  before-copy : (x y : Path) → (x ≡ y) ⊎ AreLinked W x y → (x ≡ y) ⊎ AreLinked U x y
  before-copy x y (inl e) = inl e
  before-copy x y (inr w) = c.earlier x y w

  not-linked : (x : Path) → IsOutside new x → (AreLinked U new x → ⊥) → AreLinked W new x → ⊥
  not-linked x p away w = elim (c.earlier new x w) [ inl e ↦ p [] (sym e) | inr u ↦ away u ]

  copied-moves : MovesTo U V lowers low old new
  copied-moves = record {
    layers = g.layers;
    gone = g.gone;
    here = copied-here;
    beneath = λ k r. g.beneath k r ∙ same-at (k ∷ r ++ old) (λ e. longer old k r (sym e));
    linked = λ x o p w. g.linked x o p (c.later new x w) ∙ ap fewer (same-at x (o []));
    others = λ x o p away. g.others x o p (not-linked x p away) ∙ same-at x (o []);
    earlier = λ x y p q f h w. before-copy x y (g.earlier x y p q f h w);
    later = λ x y p q f h w. g.later x y p q f h (c.later x y w);
  }

-- so it is where a file or link is copied up first
pub law_of_copied_move : LawOfCopiedMove
law_of_copied_move = copied-moves

-- another upper moves it, which shows the same and names inodes by the same paths
module _
    (U W V : Layer) (lowers : List Layer) (same : (x : Path) → merged W lowers x ≡ merged U lowers x)
    (links : (x y : Path) → AreLinked W x y ↔ AreLinked U x y) (low : Bool) (old new : Path) (g : MovesTo W V lowers low old new) where
  before : (x y : Path) → (x ≡ y) ⊎ AreLinked W x y → (x ≡ y) ⊎ AreLinked U x y
  before x y (inl e) = inl e
  before x y (inr l) = inr ((links x y).0 l)

  same-moves : MovesTo U V lowers low old new
  same-moves = record {
    layers = g.layers;
    gone = g.gone;
    here = g.here ∙ ap (option_map (moved_sight low)) (same old);
    beneath = λ k r. g.beneath k r ∙ same (k ∷ r ++ old);
    linked = λ x o p l. g.linked x o p ((links new x).1 l) ∙ ap fewer (same x);
    others = λ x o p away. g.others x o p (λ l. away ((links new x).0 l)) ∙ same x;
    earlier = λ x y p q f h l. before x y (g.earlier x y p q f h l);
    later = λ x y p q f h l. g.later x y p q f h ((links x y).1 l);
  }

-- and where an upper moves it that shows the same
pub law_of_same_move : LawOfSameMove
law_of_same_move = same-moves

-- as one that gets a directory first that a lower layer has
pub law_of_placed_move : LawOfPlacedMove
law_of_placed_move U W V lowers a n p i j k x missing dir m =
    same-moves U W V lowers (same-sights U W lowers a n p i j k x missing dir m) (λ y z. (before y z, after y z))
  where
    before : (y z : Path) → AreLinked W y z → AreLinked U y z
    before y z l = record {
      number = l.number;
      first = same-names U W lowers a n p i j k x missing dir m y l.number l.first;
      second = same-names U W lowers a n p i j k x missing dir m z l.number l.second;
    }

    after : (y z : Path) → AreLinked U y z → AreLinked W y z
    after y z l = record {
      number = l.number;
      first = more-names U W lowers a n p i j k x missing dir m y l.number l.first;
      second = more-names U W lowers a n p i j k x missing dir m z l.number l.second;
    }

-- An upper V that keeps of U's whiteouts what moves keep is thin: at old it holds what U leaves there, and below nothing, at the new place
-- no whiteout, below what stood below old or nothing, and elsewhere what U does.
module _
    (U V : Layer) (lowers : List Layer) (thin : IsThin U lowers) (old : Path) (n : Name) (q : Path) (apart : IsOutside old (n ∷ q))
    (back : IsOutside (n ∷ q) old) where
  abbrev new : Path
  new = n ∷ q

  -- a whiteout is needed at a path
  abbrev Needed : Path → Type 0
  Needed [] = Unit {0}
  Needed (x ∷ p) = held V (x ∷ p) ≡ Some Whiteout → is_some (under V lowers x p) ≡ true

  -- by where the path stands
  needed-all :
      ((r : Path) → Needed (r ++ old)) → ((r : Path) → Needed (r ++ new)) → ((x : Path) → IsOutside old x → IsOutside new x → Needed x) →
      IsThin V lowers
  needed-all at_old at_new elsewhere x p = elim (place old (x ∷ p)) [
    | inl y ↦ subst Needed (sym y.1) (at_old y.0)
    | inr o ↦ elim (place new (x ∷ p)) [
      | inl y ↦ subst Needed (sym y.1) (at_new y.0)
      | inr away ↦ elsewhere (x ∷ p) o away
    ]
  ]

  left-needed : (c : Bool) → cond c (Some Whiteout) None ≡ Some Whiteout → c ≡ true
  left-needed true h = refl
  left-needed false h = cc

  -- what is left at old is needed, if what the layers below show there stays
  old-needed :
      ((k : Name) (x : Path) → IsOutside old x → IsOutside new x → under V lowers k x ≡ under U lowers k x) →
      held V old ≡ left_at U lowers old → ((k : Name) (r : Path) → held V (k ∷ r ++ old) ≡ None) → (r : Path) → Needed (r ++ old)
  old-needed alike left emptied (k ∷ r) = λ h. (let z : None ≡ Some Whiteout = sym (emptied k r) ∙ h in cc)
  old-needed alike left emptied [] = by old refl
    where
      by : (o : Path) → old ≡ o → Needed o
      by [] e = tt
      by (k ∷ p) e = λ h.
          ap is_some (alike k p (λ r f. parent-outside k p r (f ∙ ap (λ p. r ++ p) e)) (outside-parent new k p (λ r f. back r (e ∙ f))))
          ∙ left-needed (is_some (under U lowers k p)) (sym (sym (ap (held V) e) ∙ left ∙ ap (left_at U lowers) e) ∙ h)

  elsewhere-needed :
      ((k : Name) (x : Path) → IsOutside old x → IsOutside new x → under V lowers k x ≡ under U lowers k x) →
      ((x : Path) → IsOutside old x → IsOutside new x → held V x ≡ held U x) → (x : Path) → IsOutside old x → IsOutside new x → Needed x
  elsewhere-needed alike elsewhere [] o p = tt
  elsewhere-needed alike elsewhere (x ∷ y) o p =
      λ h. ap is_some (alike x y (outside-parent old x y o) (outside-parent new x y p)) ∙ thin x y (sym (elsewhere (x ∷ y) o p) ∙ h)

  thin-name : AreLayers lowers → MovesName U V lowers old new → IsThin V lowers
  thin-name a m = needed-all (old-needed alike m.left m.emptied) at-new (elsewhere-needed alike m.elsewhere)
    where
      alike : (k : Name) (x : Path) → IsOutside old x → IsOutside new x → under V lowers k x ≡ under U lowers k x
      alike k x o p = under-agree U V lowers k x (name-agree U V lowers old new m x o p)

      at-new : (r : Path) → Needed (r ++ new)
      at-new [] = λ h. (let z : Some (Named m.number) ≡ Some Whiteout = sym m.here ∙ h in cc)
      at-new (k ∷ r) = λ h. (let z : None ≡ Some Whiteout = sym (m.beneath k r) ∙ h in cc)

  thin-directory : AreLayers lowers → MovesDirectory U V lowers old n q → IsThin V lowers
  thin-directory a m =
      needed-all (old-needed keeps.under_elsewhere m.moved.left m.moved.emptied) at-new
      (elsewhere-needed keeps.under_elsewhere m.moved.elsewhere)
    where
      keeps : KeepsMoves U V lowers old n q
      keeps = law_of_moves U V lowers old n q a apart back m.moved

      at-new : (r : Path) → Needed (r ++ new)
      at-new [] =
          λ h.
          (
          let z : Some (Directory m.moved.number m.moved.attributes m.moved.opaque m.moved.redirect) ≡ Some Whiteout =
          sym m.moved.placed ∙ h in
          cc
          )
      at-new (k ∷ r) = λ h. ap is_some (keeps.under_new k r) ∙ thin k (r ++ old) (sym (m.moved.inside k r) ∙ h)

-- moves leave no needless whiteout
pub law_of_thin_moves : LawOfThinMoves
law_of_thin_moves U V lowers a thin old n q apart back = record {
  name = thin-name U V lowers thin old n q apart back a;
  directory = thin-directory U V lowers thin old n q apart back a;
}
