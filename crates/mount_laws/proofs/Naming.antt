-- Uppers that gain a further name of an inode: of their own, and of one that was copied up first.
use Rattle.std.proofs.Common.{◌≡◌, ◌≢◌, ℕ, suc, false, List, [], ◌∷◌, ◌++◌, None, Some, option_map, sym, ap, ◌∙◌, ◌⊎◌, inl, inr, Bool}
use Rattle.plain_model.specs.Layers.{Name, Path, Named, Inode, Layer, held, spell, below, cut, cuts, Contents, unless, over, shows, through, is_directory, base, AreLayers}
use Rattle.plain_model.specs.Tree.{see, see_inode, merged, AreLinked}
use Rattle.plain_model.proofs.Merged.{named-seen}
use Rattle.plain_model.proofs.Paths.{place}
use Rattle.mount_laws.specs.Altered.{altered, Alters}
use Rattle.mount_laws.specs.Linking.{AddsName, linked_sight, GainsName, LawOfAddedName, LawOfCopiedName}
use Rattle.mount_laws.proofs.Alters.{alike-outside, none-beneath}
use Rattle.mount_laws.proofs.Places.{nothing-below, named-shown}

-- a further name at n in q of the inode that p names
module _ (U V : Layer) (lowers : List Layer) (a : AreLayers (U ∷ lowers)) (b : AreLayers (V ∷ lowers)) (low : Bool) (p : Path) (n : Name) (q : Path) (free : shows 0 (U ∷ lowers) (n ∷ q) ≡ None) (m : AddsName U V p (n ∷ q)) where
  abbrev path : Path
  path = n ∷ q

  unshown : (y : Name) (r : Path) → shows 0 (U ∷ lowers) (y ∷ r ++ path) ≡ None
  unshown = nothing-below (U ∷ lowers) a path (ap is_directory free)

  -- what U names is neither there nor below
  away : (x : Path) (k : ℕ) → held U x ≡ Some (Named k) → (r : Path) → x ≡ r ++ path → ⊥
  away x k h [] e = named-shown U lowers path k (ap (held U) (sym e) ∙ h) free
  away x k h (y ∷ r) e = named-shown U lowers (y ∷ r ++ path) k (ap (held U) (sym e) ∙ h) (unshown y r)

  -- other paths name what they named
  named-now : (x : Path) (k : ℕ) → held U x ≡ Some (Named k) → held V x ≡ Some (Named k)
  named-now x k h = m.elsewhere x (away x k h) ∙ h

  named-before : (x : Path) (k : ℕ) → x ≢ path → held V x ≡ Some (Named k) → held U x ≡ Some (Named k)
  named-before x k apart h = elim (place path x) [
    | inl y ↦ below-it y.0 y.1
    | inr out ↦ sym (m.elsewhere x out) ∙ h
  ]
    where
      below-it : (r : Path) → x ≡ r ++ path → held U x ≡ Some (Named k)
      below-it [] e = absurd (apart e)
      below-it (y ∷ r) e = let z : None ≡ Some (Named k) = sym (m.beneath y r) ∙ ap (held V) (sym e) ∙ h in cc

  -- a name of the inode shows one name more
  shows-more : (x z : Path) → held V x ≡ Some (Named m.number) → held U z ≡ Some (Named m.number) → merged V lowers x ≡ option_map (linked_sight low) (merged U lowers z)
  shows-more x z h g =
      named-seen V lowers x m.number h ∙ ap (see_inode 0) m.now
      ∙ sym (ap (option_map (linked_sight low)) (named-seen U lowers z m.number g ∙ ap (see_inode 0) m.before))

  -- a path that is linked with p names the inode
  same-number : (x : Path) → AreLinked U p x → held U x ≡ Some (Named m.number)
  same-number x l =
      let number : l.number ≡ m.number = (let w : Some (Named l.number) ≡ Some (Named m.number) = sym l.first ∙ m.source in cc) in
      l.second ∙ ap (λ k. Some (Named k)) number

  linked-more : (x : Path) → AreLinked U p x → merged V lowers x ≡ option_map (linked_sight low) (merged U lowers x)
  linked-more x l = let h = same-number x l in shows-more x x (named-now x m.number h) h

  cut-through : is_directory (through V lowers path) ≡ false
  cut-through = ap (λ o. is_directory (unless (cut o (cuts V q)) (shows 1 lowers (spell o n (below V q))))) m.here

  -- any other path shows what it did
  others-stay : (x : Path) → x ≢ path → (AreLinked U p x → ⊥) → merged V lowers x ≡ merged U lowers x
  others-stay x apart unlinked = elim (place path x) [
    | inl y ↦ below-it y.0 y.1
    | inr out ↦ alike-outside U V lowers path m.beneath m.elsewhere x out (λ k h. m.inodes k (λ e. unlinked (record { number = m.number; first = m.source; second = h ∙ ap (λ k. Some (Named k)) e })))
  ]
    where
      below-it : (r : Path) → x ≡ r ++ path → merged V lowers x ≡ merged U lowers x
      below-it [] e = absurd (apart e)
      below-it (y ∷ r) e =
          ap (merged V lowers) e
          ∙ none-beneath U V lowers path m.beneath m.elsewhere a.1 cut-through y r
          ∙ sym (ap (merged U lowers) e ∙ ap (see _) (unshown y r))

  -- a path that is linked with the new name was linked with p
  linked-with : (x : Path) → x ≢ path → AreLinked V x path → AreLinked U p x
  linked-with x apart l =
      let number : l.number ≡ m.number = (let w : Some (Named l.number) ≡ Some (Named m.number) = sym l.second ∙ m.here in cc) in
      record { number = m.number; first = m.source; second = named-before x m.number apart (l.first ∙ ap (λ k. Some (Named k)) number) }

  added : GainsName U V lowers low p path
  added = record {
    layers = b;
    here = shows-more p p (named-now p m.number m.source) m.source;
    there = shows-more path p m.here m.source;
    together = record { number = m.number; first = named-now p m.number m.source; second = m.here };
    linked = λ x apart away l. linked-more x l;
    others = λ x apart away unlinked. others-stay x away unlinked;
    earlier = λ x z apart away l. inr (record { number = l.number; first = named-before x l.number apart l.first; second = named-before z l.number away l.second });
    later = λ x z l. record { number = l.number; first = named-now x l.number l.first; second = named-now z l.number l.second };
    at = λ x apart l. inr (linked-with x apart l);
  }

-- a further name of an inode of the upper, where nothing was shown, is all that is gained
pub law_of_added_name : LawOfAddedName
law_of_added_name = added

-- a file or link of a lower layer that was copied up to W, which then gains the name
module _ (U W V : Layer) (lowers : List Layer) (low : Bool) (p q : Path) (j l : ℕ) (i : Inode) (lower : shows 0 (U ∷ lowers) p ≡ Some (Contents (suc j) l (Some i))) (c : Alters U W lowers low p i.attributes) (g : GainsName W V lowers low p q) where
  -- the upper named no inode there
  unnamed : (k : ℕ) → held U p ≡ Some (Named k) → ⊥
  unnamed k h = let z : Some (Contents 0 k (U.inodes k)) ≡ Some (Contents (suc j) l (Some i)) = sym (ap (λ o. over 0 U.inodes o (through U lowers p)) h) ∙ lower in cc

  unlinked : (x : Path) → AreLinked U p x → ⊥
  unlinked x w = unnamed w.number w.first

  -- it is copied up with one name, and has two then
  two-shown : option_map (linked_sight low) (merged W lowers p) ≡ option_map (linked_sight low) (merged U lowers p)
  two-shown =
      ap (option_map (linked_sight low)) (c.here ∙ ap (λ s. option_map (altered low i.attributes) (see (base U lowers p) s)) lower)
      ∙ sym (ap (λ s. option_map (linked_sight low) (see (base U lowers p) s)) lower)

  not-linked : (x : Path) → x ≢ p → AreLinked W p x → ⊥
  not-linked x apart w = elim (c.earlier p x w) [ inl e ↦ apart (sym e) | inr u ↦ unlinked x u ]

  before-copy : (x z : Path) → (x ≡ z) ⊎ AreLinked W x z → (x ≡ z) ⊎ AreLinked U x z
  before-copy x z (inl e) = inl e
  before-copy x z (inr w) = c.earlier x z w

  at-copy : (x : Path) → (x ≡ p) ⊎ AreLinked W p x → (x ≡ p) ⊎ AreLinked U p x
  at-copy x (inl e) = inl e
  at-copy x (inr w) = elim (c.earlier p x w) [ inl e ↦ inl (sym e) | inr u ↦ inr u ]

  copied : GainsName U V lowers low p q
  copied = record {
    layers = g.layers;
    here = g.here ∙ two-shown;
    there = g.there ∙ two-shown;
    together = g.together;
    linked = λ x apart away w. absurd (unlinked x w);
    others = λ x apart away w. g.others x apart away (not-linked x apart) ∙ c.others x apart w;
    earlier = λ x z apart away w. before-copy x z (g.earlier x z apart away w);
    later = λ x z w. g.later x z (c.later x z w);
    at = λ x apart w. at-copy x (g.at x apart w);
  }

-- where the file or link is copied up first, the name is all that is gained too
pub law_of_copied_name : LawOfCopiedName
law_of_copied_name = copied
