-- Uppers that differ at one path: an object taken away, and a file or link placed; and that neither leaves a needless whiteout.
use Rattle.std.proofs.Common.{◌≡◌, ◌≢◌, ◌↔◌, ℕ, ◌-◌, ◌<◌, Bool, true, false, cond, List, [], ◌∷◌, ◌++◌, Option, None, Some, refl, sym, ap, ap₂, ◌∙◌, inl, inr, is_some, arith, subst}
use Rattle.std.proofs.lemmas.Bool.{false≢true}
use Rattle.plain_model.specs.Layers.{Name, Path, Object, Directory, Named, Whiteout, Inode, Layer, IsLayer, held, spell, below, cut, cuts, Shown, unless, shows, through, under, is_directory, same_path, AreLayers}
use Rattle.plain_model.specs.Laws.{IsOutside}
use Rattle.plain_model.specs.Tree.{Own, Sight, SeenLeaf, see, see_inode, merged, AreLinked, IsThin}
use Rattle.plain_model.proofs.Counting.{Counted, count-less, count-some}
use Rattle.plain_model.proofs.Merged.{named-seen}
use Rattle.plain_model.proofs.Paths.{place, paths_tell, outside-parent, parent-outside}
use Rattle.plain_model.proofs.Uppers.{meld, merged-meld, AgreeTo, agree-where, through-agree, under-agree, nothing-beneath}
use Rattle.mount_laws.specs.Leaves.{PlacesLeaf, GainsLeafAs, LawOfPlacedLeaf}
use Rattle.mount_laws.specs.Removals.{ShowsNoName, TakesAway, fewer, left_behind, LawOfTakenAway}
use Rattle.mount_laws.specs.Thin.{LawOfThin}
use Rattle.mount_laws.proofs.Places.{bare-below, nothing-below, named-shown, other-path, longer}

-- what is seen is told by the inode that is named, and by no other
pub meld-alike : (f g : ℕ → Option Inode) (o : Option Object) (s : Option Shown) → ((k : ℕ) → o ≡ Some (Named k) → f k ≡ g k) → meld f o s ≡ meld g o s
meld-alike f g None s h = refl
meld-alike f g (Some Whiteout) s h = refl
meld-alike f g (Some (Directory k a o r)) s h = refl
meld-alike f g (Some (Named k)) s h = ap (see_inode 0) (h k refl)

-- an inode with two names has more than one link
module _ (L : Layer) (a : IsLayer L) (k : ℕ) (i : Inode) (is : L.inodes k ≡ Some i) (p q : Path) (at_p : held L p ≡ Some (Named k)) (at_q : held L q ≡ Some (Named k)) (apart : q ≢ p) where
  abbrev Names : Path → Type 0
  Names x = held L x ≡ Some (Named k)

  abbrev Others : Path → Type 0
  Others x = (held L x ≡ Some (Named k)) × (x ≡ p → ⊥)

  counted : Counted Path same_path paths_tell Names i.links
  counted = let l = a.links k i is in record { items = l.paths; once = l.once; exact = l.exact; counted = l.counted }

  rest : i.links - 1 ≡ 0 → ⊥
  rest = count-some Path same_path paths_tell Others (i.links - 1) q (at_q, apart) (count-less Path same_path paths_tell Names Others i.links p at_p (λ w. ((λ x. x), (λ x. x))) counted)

  two : (n : ℕ) → (n - 1 ≡ 0 → ⊥) → 1 < n
  two n h = omega arith

  pub two-names : 1 < i.links
  two-names = two i.links rest

-- V is U but at p, below which it holds nothing
module _ (U V : Layer) (lowers : List Layer) (p : Path) (beneath : (k : Name) (r : Path) → held V (k ∷ r ++ p) ≡ None) (elsewhere : (x : Path) → IsOutside p x → held V x ≡ held U x) where
  pub agree-outside : (x : Path) → IsOutside p x → AgreeTo U V x
  agree-outside = agree-where U V (IsOutside p) (outside-parent p) elsewhere

  pub alike-outside : (x : Path) → IsOutside p x → ((k : ℕ) → held U x ≡ Some (Named k) → V.inodes k ≡ U.inodes k) → merged V lowers x ≡ merged U lowers x
  alike-outside x out h =
      merged-meld V lowers x
      ∙ ap₂ (meld V.inodes) (elsewhere x out) (through-agree U V lowers x (agree-outside x out))
      ∙ meld-alike V.inodes U.inodes (held U x) (through U lowers x) h
      ∙ sym (merged-meld U lowers x)

  pub none-beneath : AreLayers lowers → is_directory (through V lowers p) ≡ false → (k : Name) (r : Path) → merged V lowers (k ∷ r ++ p) ≡ None
  none-beneath trees h k r = merged-meld V lowers (k ∷ r ++ p) ∙ ap₂ (meld V.inodes) (beneath k r) (nothing-beneath V lowers trees p h beneath k r)

-- an object that is taken away
module _ (U V : Layer) (lowers : List Layer) (a : AreLayers (U ∷ lowers)) (b : AreLayers (V ∷ lowers)) (n : Name) (p : Path) (bare : ShowsNoName (U ∷ lowers) (n ∷ p)) (m : TakesAway U V (n ∷ p) (left_behind U lowers n p)) where
  abbrev path : Path
  path = n ∷ p

  agree-parent : AgreeTo U V p
  agree-parent = agree-outside U V lowers path m.beneath m.elsewhere p (parent-outside n p)

  -- the object left behind is no name, and spells as none does
  spell-left : (c : Bool) (q : Path) → spell (cond c (Some Whiteout) None) n q ≡ n ∷ q
  spell-left true q = refl
  spell-left false q = refl

  unnamed-left : (c : Bool) (k : ℕ) → cond c (Some Whiteout) None ≡ Some (Named k) → ⊥
  unnamed-left true k h = cc
  unnamed-left false k h = cc

  comes : through V lowers path ≡ unless (cut (left_behind U lowers n p) (cuts U p)) (shows 1 lowers (n ∷ below U p))
  comes =
      (λ i. unless (cut (m.here i) (agree-parent.cut_alike i)) (shows 1 lowers (spell (m.here i) n (agree-parent.spelled i))))
      ∙ ap (λ q. unless (cut (left_behind U lowers n p) (cuts U p)) (shows 1 lowers q)) (spell-left (is_some (under U lowers n p)) (below U p))

  -- nothing comes through, and nothing is seen
  none-comes : (c : Bool) (s : Option Shown) → unless (cut (cond (is_some (unless c s)) (Some Whiteout) None) c) s ≡ None
  none-comes true s = refl
  none-comes false None = refl
  none-comes false (Some x) = refl

  none-through : through V lowers path ≡ None
  none-through = comes ∙ none-comes (cuts U p) (shows 1 lowers (n ∷ below U p))

  none-left : (c : Bool) → meld V.inodes (cond c (Some Whiteout) None) None ≡ None
  none-left true = refl
  none-left false = refl

  -- nothing is seen in its place
  gone : merged V lowers path ≡ None
  gone = merged-meld V lowers path ∙ ap₂ (meld V.inodes) m.here none-through ∙ none-left (is_some (under U lowers n p))

  -- nothing was shown below
  unshown : (k : Name) (r : Path) → shows 0 (U ∷ lowers) (k ∷ r ++ path) ≡ None
  unshown = bare-below (U ∷ lowers) a path bare

  unnamed-below : (q : Path) (k : Name) (r : Path) (j : ℕ) → q ≡ k ∷ r ++ path → held U q ≡ Some (Named j) → ⊥
  unnamed-below q k r j e h = named-shown U lowers (k ∷ r ++ path) j (ap (held U) (sym e) ∙ h) (unshown k r)

  others : (q : Path) → q ≢ path → (AreLinked U path q → ⊥) → merged V lowers q ≡ merged U lowers q
  others q apart unlinked = elim (place path q) [
    | inl y ↦ below-it y.0 y.1
    | inr out ↦ alike-outside U V lowers path m.beneath m.elsewhere q out (λ k h. m.inodes k (λ g. unlinked (record { number = k; first = g; second = h })))
  ]
    where
      below-it : (r : Path) → q ≡ r ++ path → merged V lowers q ≡ merged U lowers q
      below-it [] e = absurd (apart e)
      below-it (k ∷ r) e =
          ap (merged V lowers) e
          ∙ none-beneath U V lowers path m.beneath m.elsewhere a.1 (ap is_directory none-through) k r
          ∙ sym (ap (merged U lowers) e ∙ ap (see _) (unshown k r))

  linked : (q : Path) → q ≢ path → AreLinked U path q → merged V lowers q ≡ fewer (merged U lowers q)
  linked q apart l = elim (place path q) [
    | inl y ↦ below-it y.0 y.1
    | inr out ↦ by out (U.inodes l.number) refl (a.0.present path l.number l.first)
  ]
    where
      below-it : (r : Path) → q ≡ r ++ path → merged V lowers q ≡ fewer (merged U lowers q)
      below-it [] e = absurd (apart e)
      below-it (k ∷ r) e = absurd (unnamed-below q k r l.number e l.second)

      by : IsOutside path q → (o : Option Inode) → U.inodes l.number ≡ o → is_some o ≡ true → merged V lowers q ≡ fewer (merged U lowers q)
      by out None is some = absurd (false≢true some)
      by out (Some i) is some =
          named-seen V lowers q l.number (m.elsewhere q out ∙ l.second)
          ∙ ap (see_inode 0) (m.fewer l.number i l.first is (two-names U a.0 l.number i is path q l.first l.second apart))
          ∙ sym (ap fewer (named-seen U lowers q l.number l.second ∙ ap (see_inode 0) is))

  named : (q : Path) (k : ℕ) → (held V q ≡ Some (Named k)) ↔ ((q ≢ path) × (held U q ≡ Some (Named k)))
  named q k = elim (place path q) [
    | inl y ↦ below-it y.0 y.1
    | inr out ↦ (λ h. (out [], sym (m.elsewhere q out) ∙ h), λ h. m.elsewhere q out ∙ h.1)
  ]
    where
      below-it : (r : Path) → q ≡ r ++ path → (held V q ≡ Some (Named k)) ↔ ((q ≢ path) × (held U q ≡ Some (Named k)))
      below-it [] e = (λ h. absurd (unnamed-left (is_some (under U lowers n p)) k (sym m.here ∙ ap (held V) (sym e) ∙ h)), λ h. absurd (h.0 e))
      below-it (j ∷ r) e = (λ h. (let z : None ≡ Some (Named k) = sym (m.beneath j r) ∙ ap (held V) (sym e) ∙ h in cc), λ h. absurd (unnamed-below q j r k e h.1))

-- the upper that has an object taken away loses it and no more
pub law_of_taken_away : LawOfTakenAway
law_of_taken_away U V lowers a b n p bare m = record {
  layers = b;
  gone = gone U V lowers a b n p bare m;
  linked = linked U V lowers a b n p bare m;
  others = others U V lowers a b n p bare m;
  names = named U V lowers a b n p bare m;
}

-- a file or link that is placed where no directory was shown
module _ (U V : Layer) (lowers : List Layer) (a : AreLayers (U ∷ lowers)) (b : AreLayers (V ∷ lowers)) (n : Name) (p : Path) (k : ℕ) (i : Inode) (hides : is_directory (shows 0 (U ∷ lowers) (n ∷ p)) ≡ false) (m : PlacesLeaf U V (n ∷ p) k i) where
  abbrev leaf_path : Path
  leaf_path = n ∷ p

  -- its number is no other name's
  new-number : (q : Path) (j : ℕ) → held U q ≡ Some (Named j) → j ≢ k
  new-number q j h e = false≢true (sym (ap is_some (ap U.inodes e ∙ m.free)) ∙ a.0.present q j h)

  cut-through : is_directory (through V lowers leaf_path) ≡ false
  cut-through = ap (λ o. is_directory (unless (cut o (cuts V p)) (shows 1 lowers (spell o n (below V p))))) m.here

  unnamed-under : (q : Path) (x : Name) (r : Path) (j : ℕ) → q ≡ x ∷ r ++ leaf_path → held U q ≡ Some (Named j) → ⊥
  unnamed-under q x r j e h = named-shown U lowers (x ∷ r ++ leaf_path) j (ap (held U) (sym e) ∙ h) (nothing-below (U ∷ lowers) a leaf_path hides x r)

  abbrev sight : Option Sight
  sight = Some (SeenLeaf i.content i.attributes (Own (is_some i.mark)) 1)

  leaf-sights : (q : Path) → merged V lowers q ≡ cond (same_path leaf_path q) sight (merged U lowers q)
  leaf-sights q = elim (place leaf_path q) [
    | inl y ↦ below-it y.0 y.1
    | inr out ↦
        alike-outside U V lowers leaf_path m.beneath m.elsewhere q out (λ j h. m.inodes j (new-number q j h))
        ∙ sym (ap (λ c. cond c sight (merged U lowers q)) (other-path leaf_path q (λ e. out [] (sym e))))
  ]
    where
      below-it : (r : Path) → q ≡ r ++ leaf_path → merged V lowers q ≡ cond (same_path leaf_path q) sight (merged U lowers q)
      below-it [] e =
          ap (merged V lowers) e
          ∙ named-seen V lowers leaf_path k m.here
          ∙ ap (see_inode 0) m.inode
          ∙ ap (λ l. Some (SeenLeaf i.content i.attributes (Own (is_some i.mark)) l)) m.one
          ∙ sym (ap (λ c. cond c sight (merged U lowers q)) ((paths_tell leaf_path q).1 (sym e)))
      below-it (x ∷ r) e =
          ap (merged V lowers) e
          ∙ none-beneath U V lowers leaf_path m.beneath m.elsewhere a.1 cut-through x r
          ∙ sym (ap (merged U lowers) e ∙ ap (see _) (nothing-below (U ∷ lowers) a leaf_path hides x r))
          ∙ sym (ap (λ c. cond c sight (merged U lowers q)) (other-path leaf_path q (λ g. longer leaf_path x r (g ∙ e))))

  alone : (q : Path) → held V q ≡ Some (Named k) → q ≡ leaf_path
  alone q h = elim (place leaf_path q) [
    | inl y ↦ below-it y.0 y.1
    | inr out ↦ absurd (new-number q k (sym (m.elsewhere q out) ∙ h) refl)
  ]
    where
      below-it : (r : Path) → q ≡ r ++ leaf_path → q ≡ leaf_path
      below-it [] e = e
      below-it (x ∷ r) e = let z : None ≡ Some (Named k) = sym (m.beneath x r) ∙ ap (held V) (sym e) ∙ h in cc

  leaf-names : (q : Path) (j : ℕ) → q ≢ leaf_path → (held V q ≡ Some (Named j)) ↔ (held U q ≡ Some (Named j))
  leaf-names q j apart = elim (place leaf_path q) [
    | inl y ↦ below-it y.0 y.1
    | inr out ↦ (λ h. sym (m.elsewhere q out) ∙ h, λ h. m.elsewhere q out ∙ h)
  ]
    where
      below-it : (r : Path) → q ≡ r ++ leaf_path → (held V q ≡ Some (Named j)) ↔ (held U q ≡ Some (Named j))
      below-it [] e = absurd (apart e)
      below-it (x ∷ r) e = (λ h. (let z : None ≡ Some (Named j) = sym (m.beneath x r) ∙ ap (held V) (sym e) ∙ h in cc), λ h. absurd (unnamed-under q x r j e h))

  -- it is all that is gained
  pub gains-leaf : GainsLeafAs U V lowers (is_some i.mark) leaf_path i.content i.attributes
  gains-leaf = record { layers = b; number = k; here = m.here; alone = alone; sights = leaf-sights; names = leaf-names }

-- a file or link that is placed where nothing was shown is all that is gained
pub law_of_placed_leaf : LawOfPlacedLeaf
law_of_placed_leaf U V lowers a b n p k i free unmarked m =
    subst (λ x. GainsLeafAs U V lowers (is_some x) (n ∷ p) i.content i.attributes) unmarked (gains-leaf U V lowers a b n p k i (ap is_directory free) m)

-- V is U but at n in p, below which it holds nothing: it has no needless whiteout where U has none, and at n in p there is none
module _ (U V : Layer) (lowers : List Layer) (thin : IsThin U lowers) (n : Name) (p : Path) (beneath : (k : Name) (r : Path) → held V (k ∷ r ++ (n ∷ p)) ≡ None) (elsewhere : (x : Path) → IsOutside (n ∷ p) x → held V x ≡ held U x) (needed : held V (n ∷ p) ≡ Some Whiteout → is_some (under U lowers n p) ≡ true) where
  still-thin : IsThin V lowers
  still-thin x q h = elim (place (n ∷ p) (x ∷ q)) [
    | inl y ↦ below-it y.0 y.1
    | inr out ↦ ap is_some (under-agree U V lowers x q (agree q (outside-parent (n ∷ p) x q out))) ∙ thin x q (sym (elsewhere (x ∷ q) out) ∙ h)
  ]
    where
      agree : (y : Path) → IsOutside (n ∷ p) y → AgreeTo U V y
      agree = agree-outside U V lowers (n ∷ p) beneath elsewhere

      below-it : (r : Path) → x ∷ q ≡ r ++ (n ∷ p) → is_some (under V lowers x q) ≡ true
      below-it [] e =
          let name : x ≡ n = cc in
          let parent : q ≡ p = cc in
          ap₂ (λ x q. is_some (under V lowers x q)) name parent
          ∙ ap is_some (under-agree U V lowers n p (agree p (parent-outside n p)))
          ∙ needed (ap (held V) (sym e) ∙ h)
      below-it (k ∷ r) e = let z : None ≡ Some Whiteout = sym (beneath k r) ∙ ap (held V) (sym e) ∙ h in cc

-- each change of the upper keeps it without needless whiteouts
pub law_of_thin : LawOfThin
law_of_thin U V lowers thin n p = record {
  directory = λ k a opaque r m. still-thin U V lowers thin n p m.beneath m.elsewhere (λ h. let z : Some (Directory k a opaque r) ≡ Some Whiteout = sym m.here ∙ h in cc);
  leaf = λ k i m. still-thin U V lowers thin n p m.beneath m.elsewhere (λ h. let z : Some (Named k) ≡ Some Whiteout = sym m.here ∙ h in cc);
  taken = λ m. still-thin U V lowers thin n p m.beneath m.elsewhere (λ h. left (is_some (under U lowers n p)) (sym m.here ∙ h));
}
  where
    left : (c : Bool) → cond c (Some Whiteout) None ≡ Some Whiteout → c ≡ true
    left true h = refl
    left false h = cc
