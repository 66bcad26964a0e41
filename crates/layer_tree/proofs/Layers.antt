-- A layer stays a layer in the words of the definitions, where the names of an inode are counted by paths.
use Rattle.std.proofs.Common.{◌≡◌, ◌≢◌, ◌↔◌, ◌⊎◌, ℕ, ◌+◌, ◌-◌, Bool, true, false, ◌||◌, List, [], ◌∷◌, ◌++◌, map, Option, Some, None, is_some, refl, sym, ap, subst, ◌∙◌, inl, inr, true≢false}
use Rattle.std.specs.Prelude.{option_map}
use Rattle.std.specs.List.{list_any, IsDistinct}
use Rattle.std.proofs.lemmas.Bool.{cases_eq}
use Rattle.ov_base.specs.declared.redirect.Redirect.TheVariants as redirect
use Rattle.plain_model.specs.Layers as layers
use Rattle.plain_model.specs.Layers.{Layer, Path, Named, held, same_path, AreLinks, HasAllPaths, IsLayer}
use Rattle.plain_model.specs.Laws.{IsOutside}
use Rattle.plain_model.proofs.Paths.{paths_tell, one_or_not, place}
use Rattle.plain_model.proofs.Counting.{Counted, count-same, count-more, count-less}
use Rattle.layer_tree.specs.Tree.{SetsPath, ReplacesPath, SameObjects, IsHeldTogether, with_less}
use Rattle.layer_tree.specs.Link.{with_more}
use Rattle.layer_tree.specs.Move.{MovesPath}
use Rattle.layer_tree.proofs.Walks.{unwrapped}
use Rattle.layer_tree.proofs.Roots.{links_of}
use Rattle.layer_tree.proofs.Swapping.{member-swap, count-swap, swapped, swapped-first, swapped-second, swapped-neither, swapped-back, by_place}

-- the path names the inode
abbrev pub Names : Layer → ℕ → Path → Type 0
Names L k p = held L p ≡ Some (Named k)

abbrev Count : Layer → ℕ → ℕ → Type 0
Count L k n = Counted Path same_path paths_tell (Names L k) n

-- the paths of an inode as a count, and back
opens : (L : Layer) (k n : ℕ) → AreLinks L k n → Count L k n
opens L k n a = record { items = a.paths; once = a.once; exact = a.exact; counted = a.counted }

shuts : (L : Layer) (k n : ℕ) → Count L k n → AreLinks L k n
shuts L k n c = record { paths = c.items; once = c.once; exact = c.exact; counted = c.counted }

-- what is held is a name of the inode, or not
pub cases_named : (o : Option layers.Object) (k : ℕ) → (o ≡ Some (Named k)) ⊎ (o ≢ Some (Named k))
cases_named None k = inr (λ e. cc)
cases_named (Some layers.Whiteout) k = inr (λ e. cc)
cases_named (Some (layers.Directory j a b r)) k = inr (λ e. cc)
cases_named (Some (Named j)) k = elim (cases_eq j k) [ inl e ↦ inl (ap (λ (x : ℕ). Some (Named x)) e) | inr off ↦ inr (λ e. off (cc)) ]

-- where the same paths name an inode, it has as many names
links-same : (old new : Layer) (k n : ℕ) → ((w : Path) → Names old k w ↔ Names new k w) → AreLinks old k n → AreLinks new k n
links-same old new k n same a = shuts new k n (count-same Path same_path paths_tell (Names old k) (Names new k) n same (opens old k n a))

-- no path is listed twice in no list
none-twice : IsDistinct same_path []
unfolding IsDistinct
none-twice = tt

-- a test or a later one holds
or-later : (a b : Bool) → (a ≡ false → b ≡ true) → a || b ≡ true
or-later true b h = refl
or-later false b h = h refl

-- a list with the root, one path, and every other path that is held
has_all : (L : Layer) (path : Path) (ps : List Path) → ((n : List ℕ) (p : Path) → n ∷ p ≢ path → is_some (held L (n ∷ p)) ≡ true → list_any (same_path (n ∷ p)) ps ≡ true) → HasAllPaths L ([] ∷ path ∷ ps)
has_all L path ps others [] is = refl
has_all L path ps others (n ∷ p) is =
    or-later (same_path (n ∷ p) path) (list_any (same_path (n ∷ p)) ps) (λ off. others n p (λ e. true≢false (sym ((paths_tell (n ∷ p) path).1 e) ∙ off)) is)

-- a layer of nothing but its root
pub IsLayer-root : (L : Layer) → ((n : List ℕ) (p : Path) → held L (n ∷ p) ≡ None) → ((k : ℕ) → L.inodes k ≡ None) → IsLayer L
IsLayer-root L nothing no_inodes =
    record {
      parents = λ n p h. absurd (true≢false (sym h ∙ ap is_some (nothing n p)));
      redirects = λ p k a o q h. leads p k a o q h;
      present = λ p k h. named p k h;
      links = λ k i h. absurd (true≢false (sym (ap is_some h) ∙ ap is_some (no_inodes k)));
      paths = [] ∷ [] ∷ [];
      finite = has_all L [] [] (λ n p off h. absurd (true≢false (sym h ∙ ap is_some (nothing n p))));
    }
  where
    leads : (p : Path) (k : ℕ) (a : _) (o : Bool) (q : Path) → held L p ≡ Some (layers.Directory k a o (Some (redirect.Absolute q))) → q ≢ []
    leads [] k a o q h = absurd (cc)
    leads (n ∷ p) k a o q h = absurd (true≢false (sym (ap is_some h) ∙ ap is_some (nothing n p)))

    named : (p : Path) (k : ℕ) → held L p ≡ Some (Named k) → is_some (L.inodes k) ≡ true
    named [] k h = absurd (cc)
    named (n ∷ p) k h = absurd (true≢false (sym (ap is_some h) ∙ ap is_some (nothing n p)))

-- where the same is held, and inodes have as many names as they had
pub IsLayer-alike : (old new : Layer) → SameObjects old new → ((k : ℕ) → option_map links_of (new.inodes k) ≡ option_map links_of (old.inodes k)) → IsLayer old → IsLayer new
IsLayer-alike old new same counts layer =
    record {
      parents = λ n p h. ap layers.holds_directory (same p) ∙ layer.parents n p (sym (ap is_some (same (n ∷ p))) ∙ h);
      redirects = λ p k a o q h. layer.redirects p k a o q (sym (same p) ∙ h);
      present = λ p k h. sym (mapped (new.inodes k)) ∙ ap is_some (counts k) ∙ mapped (old.inodes k) ∙ layer.present p k (sym (same p) ∙ h);
      links = λ k i h. links k i (old.inodes k) refl (sym (ap (option_map links_of) h) ∙ counts k);
      paths = [] ∷ [] ∷ layer.paths;
      finite = has_all new [] layer.paths (λ n p off h. layer.finite (n ∷ p) (sym (ap is_some (same (n ∷ p))) ∙ h));
    }
  where
    mapped : (o : Option layers.Inode) → is_some (option_map links_of o) ≡ is_some o
    mapped None = refl
    mapped (Some i) = refl

    links : (k : ℕ) (i : layers.Inode) (o : Option layers.Inode) → old.inodes k ≡ o → Some i.links ≡ option_map links_of o → AreLinks new k i.links
    links k i None was e = absurd (cc)
    links k i (Some j) was e =
        let kept : AreLinks new k j.links = links-same old new k j.links (λ w. ((λ h. same w ∙ h), (λ h. sym (same w) ∙ h))) (layer.links k j was) in
        subst (AreLinks new k) (sym (unwrapped i.links j.links e)) kept

-- where the same is held, and no inode is new
pub IsLayer-fewer : (old new : Layer) → SameObjects old new → ((k : ℕ) (i : layers.Inode) → new.inodes k ≡ Some i → old.inodes k ≡ Some i) → IsHeldTogether new → IsLayer old → IsLayer new
IsLayer-fewer old new same was together layer =
    record {
      parents = together.parents;
      redirects = together.redirects;
      present = together.present;
      links = λ k i h. links-same old new k i.links (λ w. ((λ f. same w ∙ f), (λ f. sym (same w) ∙ f))) (layer.links k i (was k i h));
      paths = [] ∷ [] ∷ layer.paths;
      finite = has_all new [] layer.paths (λ n p off h. layer.finite (n ∷ p) (sym (ap is_some (same (n ∷ p))) ∙ h));
    }

-- the number of the inode that is named
abbrev pub named_number : Option layers.Object → Option ℕ
named_number (Some (Named k)) = Some k
named_number _ = None

named_tells : (o : Option layers.Object) (k : ℕ) → named_number o ≡ Some k → o ≡ Some (Named k)
named_tells None k h = absurd (cc)
named_tells (Some layers.Whiteout) k h = absurd (cc)
named_tells (Some (layers.Directory j a b r)) k h = absurd (cc)
named_tells (Some (Named j)) k h = ap (λ (x : ℕ). Some (Named x)) (cc)

-- where each path holds something if it did, and names the inode that it named, which has as many names as it had
pub IsLayer-named : (old new : Layer) → ((p : Path) → is_some (held new p) ≡ is_some (held old p)) → ((p : Path) → named_number (held new p) ≡ named_number (held old p)) → ((k : ℕ) (i : layers.Inode) → new.inodes k ≡ Some i → (j : layers.Inode) × (old.inodes k ≡ Some j) × (j.links ≡ i.links)) → IsHeldTogether new → IsLayer old → IsLayer new
IsLayer-named old new there names was together layer =
    record {
      parents = together.parents;
      redirects = together.redirects;
      present = together.present;
      links = λ k i h.
          let before = was k i h in
          subst (AreLinks new k) before.2 (links-same old new k before.0.links (same k) (layer.links k before.0 before.1));
      paths = [] ∷ [] ∷ layer.paths;
      finite = has_all new [] layer.paths (λ n p off h. layer.finite (n ∷ p) (sym (there (n ∷ p)) ∙ h));
    }
  where
    same : (k : ℕ) (w : Path) → Names old k w ↔ Names new k w
    same k w = ((λ h. named_tells (held new w) k (names w ∙ ap named_number h)), (λ h. named_tells (held old w) k (sym (names w) ∙ ap named_number h)))

-- an inode with one name less was there with that name
pub one_less : (i : layers.Inode) (o : Option layers.Inode) → Some i ≡ option_map with_less o → (j : layers.Inode) × (o ≡ Some j) × (i.links ≡ j.links - 1)
one_less i None e = absurd (cc)
one_less i (Some j) e = (j, refl, ap (λ (x : layers.Inode). x.links) (unwrapped i (with_less j) e))

-- A path is replaced by what names no inode, and below it no path named one: an inode that it named has one name less.
module _ (old new : Layer) (path : Path) (o : Option layers.Object) (replaces : ReplacesPath old new path o) (no_name : (k : ℕ) → o ≢ Some (Named k)) (bare : (n : List ℕ) (s : Path) (k : ℕ) → held old (n ∷ (s ++ path)) ≢ Some (Named k)) where
  -- an inode keeps its names but for the path
  names_left : (k : ℕ) (w : Path) → Names new k w ↔ (Names old k w × (w ≡ path → ⊥))
  names_left k w = (there, back)
    where
      none_inside : (s : Path) → w ≡ s ++ path → Names new k w → ⊥
      none_inside [] f h = no_name k (sym replaces.there ∙ sym (ap (held new) f) ∙ h)
      none_inside (n ∷ s) f h = true≢false (sym (ap is_some h) ∙ ap (λ x. is_some (held new x)) f ∙ ap is_some (replaces.below n s))

      none_was : (s : Path) → w ≡ s ++ path → Names old k w → (w ≡ path → ⊥) → ⊥
      none_was [] f h off = off f
      none_was (n ∷ s) f h off = bare n s k (sym (ap (held old) f) ∙ h)

      there : Names new k w → Names old k w × (w ≡ path → ⊥)
      there h = elim (place path w) [
        | inl found ↦ absurd (none_inside found.0 found.1 h)
        | inr off ↦ (sym (replaces.elsewhere w off) ∙ h, off [])
      ]

      back : Names old k w × (w ≡ path → ⊥) → Names new k w
      back h = elim (place path w) [
        | inl found ↦ absurd (none_was found.0 found.1 h.0 h.1)
        | inr off ↦ replaces.elsewhere w off ∙ h.0
      ]

  -- an inode that the path named has one name less
  links-less : (k n : ℕ) → Names old k path → AreLinks old k n → AreLinks new k (n - 1)
  links-less k n named a = shuts new k (n - 1) (count-less Path same_path paths_tell (Names old k) (Names new k) n path named (names_left k) (opens old k n a))

  -- any other has as many as it had
  links-kept : (k n : ℕ) → (Names old k path → ⊥) → AreLinks old k n → AreLinks new k n
  links-kept k n off = links-same old new k n (λ w. ((λ h. (names_left k w).1 (h, λ f. off (sym (ap (held old) f) ∙ h))), (λ h. ((names_left k w).0 h).0)))

  -- with the path the list of all paths has all of them still
  finite-replaced : (ps : List Path) → HasAllPaths old ps → HasAllPaths new ([] ∷ path ∷ ps)
  finite-replaced ps all = has_all new path ps others
    where
      inside : (w s : Path) → w ≡ s ++ path → w ≢ path → is_some (held new w) ≡ true → ⊥
      inside w [] f off h = off f
      inside w (n ∷ s) f off h = true≢false (sym h ∙ ap (λ x. is_some (held new x)) f ∙ ap is_some (replaces.below n s))

      others : (n : List ℕ) (p : Path) → n ∷ p ≢ path → is_some (held new (n ∷ p)) ≡ true → list_any (same_path (n ∷ p)) ps ≡ true
      others n p off h = elim (place path (n ∷ p)) [
        | inl found ↦ absurd (inside (n ∷ p) found.0 found.1 off h)
        | inr away ↦ all (n ∷ p) (sym (ap is_some (replaces.elsewhere (n ∷ p) away)) ∙ h)
      ]

  -- the layer after it
  pub IsLayer-replaced : ((k : ℕ) → Names old k path → new.inodes k ≡ option_map with_less (old.inodes k)) → ((k : ℕ) → (Names old k path → ⊥) → new.inodes k ≡ old.inodes k) → IsHeldTogether new → IsLayer old → IsLayer new
  IsLayer-replaced less same together layer =
      record {
        parents = together.parents;
        redirects = together.redirects;
        present = together.present;
        links = λ k i h. elim (cases_named (held old path) k) [
          | inl named ↦
              let was = one_less i (old.inodes k) (sym h ∙ less k named) in
              subst (AreLinks new k) (sym was.2) (links-less k was.0.links named (layer.links k was.0 was.1))
          | inr off ↦ links-kept k i.links off (layer.links k i (sym (same k off) ∙ h))
        ];
        paths = [] ∷ path ∷ layer.paths;
        finite = finite-replaced layer.paths layer.finite;
      }

-- A path that named no inode is set to a new object, whose key names none, or an inode of one name.
module _ (old new : Layer) (path : Path) (o : layers.Object) (key : ℕ) (sets : SetsPath old new path o) (vacant : (k : ℕ) → Names old k path → ⊥) (fresh : old.inodes key ≡ None) where
  -- an inode other than the new one keeps its names
  names_beside : (k : ℕ) → (Some o ≢ Some (Named k)) → (w : Path) → Names old k w ↔ Names new k w
  names_beside k differs w = (there, back)
    where
      there : Names old k w → Names new k w
      there h = sets.elsewhere w (λ f. vacant k (sym (ap (held old) f) ∙ h)) ∙ h

      back : Names new k w → Names old k w
      back h = sym (sets.elsewhere w (λ f. differs (sym sets.there ∙ sym (ap (held new) f) ∙ h))) ∙ h

  -- the new inode has the one name
  names_first : IsLayer old → o ≡ Named key → AreLinks new key 1
  names_first layer is = shuts new key 1 (count-more Path same_path paths_tell (Names old key) (Names new key) 0 path (vacant key) exact none)
    where
      unnamed : (w : Path) → Names old key w → ⊥
      unnamed w h = true≢false (sym (layer.present w key h) ∙ ap is_some fresh)

      none : Count old key 0
      none = record { items = []; once = none-twice; exact = λ w. ((λ h. absurd (true≢false (sym h))), (λ h. absurd (unnamed w h))); counted = refl }

      exact : (w : Path) → Names new key w ↔ ((w ≡ path) ⊎ Names old key w)
      exact w = (there, back)
        where
          there : Names new key w → (w ≡ path) ⊎ Names old key w
          there h = elim (one_or_not paths_tell w path) [
            | inl f ↦ inl f
            | inr off ↦ absurd (unnamed w (sym (sets.elsewhere w off) ∙ h))
          ]

          back : (w ≡ path) ⊎ Names old key w → Names new key w
          back (inl f) = ap (held new) f ∙ sets.there ∙ ap Some is
          back (inr h) = absurd (unnamed w h)

  -- with the path the list of all paths has all of them still
  finite-set : (ps : List Path) → HasAllPaths old ps → HasAllPaths new ([] ∷ path ∷ ps)
  finite-set ps all = has_all new path ps (λ n p off h. all (n ∷ p) (sym (ap is_some (sets.elsewhere (n ∷ p) off)) ∙ h))

  -- the layer after it
  pub IsLayer-set : ((i : layers.Inode) → new.inodes key ≡ Some i → (o ≡ Named key) × (i.links ≡ 1)) → ((k : ℕ) → k ≢ key → (new.inodes k ≡ old.inodes k) × (o ≢ Named k)) → IsHeldTogether new → IsLayer old → IsLayer new
  IsLayer-set first same together layer =
      record {
        parents = together.parents;
        redirects = together.redirects;
        present = together.present;
        links = λ k i h. elim (cases_eq k key) [
          | inl e ↦
              let one = first i (sym (ap new.inodes e) ∙ h) in
              subst (λ (x : ℕ). AreLinks new x i.links) (sym e) (subst (AreLinks new key) (sym one.1) (names_first layer one.0))
          | inr off ↦
              links-same old new k i.links (names_beside k (λ f. (same k off).1 (cc))) (layer.links k i (sym (same k off).0 ∙ h))
        ];
        paths = [] ∷ path ∷ layer.paths;
        finite = finite-set layer.paths layer.finite;
      }

-- A path that named no inode is set to a further name of an inode that is there.
module _ (old new : Layer) (path : Path) (key : ℕ) (sets : SetsPath old new path (Named key)) (vacant : (k : ℕ) → Names old k path → ⊥) where
  -- the inode keeps its names, and has the path beside them
  names_further : (w : Path) → Names new key w ↔ ((w ≡ path) ⊎ Names old key w)
  names_further w = (there, back)
    where
      there : Names new key w → (w ≡ path) ⊎ Names old key w
      there h = elim (one_or_not paths_tell w path) [
        | inl f ↦ inl f
        | inr off ↦ inr (sym (sets.elsewhere w off) ∙ h)
      ]

      back : (w ≡ path) ⊎ Names old key w → Names new key w
      back (inl f) = ap (held new) f ∙ sets.there
      back (inr h) = sets.elsewhere w (λ f. vacant key (sym (ap (held old) f) ∙ h)) ∙ h

  -- another inode keeps its names
  names_apart : (k : ℕ) → k ≢ key → (w : Path) → Names old k w ↔ Names new k w
  names_apart k differs w = (there, back)
    where
      there : Names old k w → Names new k w
      there h = sets.elsewhere w (λ f. vacant k (sym (ap (held old) f) ∙ h)) ∙ h

      number : Some (Named key) ≡ Some (Named k) → k ≡ key
      number e = cc

      back : Names new k w → Names old k w
      back h = sym (sets.elsewhere w (λ f. differs (number (sym sets.there ∙ sym (ap (held new) f) ∙ h)))) ∙ h

  -- so it has one name more
  links-more : (n : ℕ) → AreLinks old key n → AreLinks new key (n + 1)
  links-more n a = shuts new key (n + 1) (count-more Path same_path paths_tell (Names old key) (Names new key) n path (vacant key) names_further (opens old key n a))

  -- the layer after it
  pub IsLayer-linked : new.inodes key ≡ option_map with_more (old.inodes key) → ((k : ℕ) → k ≢ key → new.inodes k ≡ old.inodes k) → IsHeldTogether new → IsLayer old → IsLayer new
  IsLayer-linked more same together layer =
      record {
        parents = together.parents;
        redirects = together.redirects;
        present = together.present;
        links = λ k i h. elim (cases_eq k key) [
          | inl e ↦ subst (λ (x : ℕ). AreLinks new x i.links) (sym e) (gained i (old.inodes key) refl (sym (ap new.inodes e) ∙ h))
          | inr off ↦ links-same old new k i.links (names_apart k off) (layer.links k i (sym (same k off) ∙ h))
        ];
        paths = [] ∷ path ∷ layer.paths;
        finite = has_all new path layer.paths (λ n p off h. layer.finite (n ∷ p) (sym (ap is_some (sets.elsewhere (n ∷ p) off)) ∙ h));
      }
    where
      gained : (i : layers.Inode) (o : Option layers.Inode) → old.inodes key ≡ o → new.inodes key ≡ Some i → AreLinks new key i.links
      gained i None was h = let none : new.inodes key ≡ None = more ∙ ap (option_map with_more) was in absurd (cc)
      gained i (Some j) was h =
          let one : j.links + 1 ≡ i.links = ap (λ (x : layers.Inode). x.links) (unwrapped (with_more j) i (sym (ap (option_map with_more) was) ∙ sym more ∙ h)) in
          subst (AreLinks new key) one (links-more j.links (layer.links key j was))

-- What stands at a place is moved to another, at which a name may go and below which no path names an inode; neither is below the other.
module _ (old new : Layer) (m n : List ℕ) (p q : Path) (left : Option layers.Object) (moves : MovesPath old new (m ∷ p) (n ∷ q) left) (to_out : IsOutside (m ∷ p) (n ∷ q)) (from_out : IsOutside (n ∷ q) (m ∷ p)) (no_name : (k : ℕ) → left ≢ Some (Named k)) (bare : (l : List ℕ) (s : Path) (k : ℕ) → held old (l ∷ (s ++ n ∷ q)) ≢ Some (Named k)) where
  abbrev swap : Path → Path
  swap = swapped (m ∷ p) (n ∷ q)

  swap-back : (w : Path) → swap (swap w) ≡ w
  swap-back = swapped-back (m ∷ p) (n ∷ q) to_out from_out

  -- an inode has the names that it had, with the places exchanged, but for the one at the place that is taken
  names_moved : (k : ℕ) (w : Path) → Names new k w ↔ (Names old k (swap w) × (w ≡ m ∷ p → ⊥))
  names_moved k = by_place (m ∷ p) (n ∷ q) to_out from_out (λ w. Names new k w ↔ (Names old k (swap w) × (w ≡ m ∷ p → ⊥))) first second neither
    where
      none_now : (r : Path) → Names new k (r ++ m ∷ p) → ⊥
      none_now [] h = no_name k (sym moves.leaves ∙ h)
      none_now (l ∷ r) h = true≢false (sym (ap is_some h) ∙ ap is_some (moves.emptied l r))

      none_was : (r : Path) → Names old k (r ++ n ∷ q) → (r ++ m ∷ p ≡ m ∷ p → ⊥) → ⊥
      none_was [] h off = off refl
      none_was (l ∷ r) h off = bare l r k h

      first : (r : Path) → Names new k (r ++ m ∷ p) ↔ (Names old k (swap (r ++ m ∷ p)) × (r ++ m ∷ p ≡ m ∷ p → ⊥))
      first r = ((λ h. absurd (none_now r h)), (λ h. absurd (none_was r (sym (ap (held old) (swapped-first (m ∷ p) (n ∷ q) to_out from_out r)) ∙ h.0) h.1)))

      second : (r : Path) → Names new k (r ++ n ∷ q) ↔ (Names old k (swap (r ++ n ∷ q)) × (r ++ n ∷ q ≡ m ∷ p → ⊥))
      second r = (
        (λ h. (ap (held old) (swapped-second (m ∷ p) (n ∷ q) to_out from_out r) ∙ sym (moves.inside r) ∙ h, λ e. from_out r (sym e))),
        (λ h. moves.inside r ∙ sym (ap (held old) (swapped-second (m ∷ p) (n ∷ q) to_out from_out r)) ∙ h.0),
      )

      neither : (w : Path) → IsOutside (m ∷ p) w → IsOutside (n ∷ q) w → Names new k w ↔ (Names old k (swap w) × (w ≡ m ∷ p → ⊥))
      neither w x y = (
        (λ h. (ap (held old) (swapped-neither (m ∷ p) (n ∷ q) to_out from_out w x y) ∙ sym (moves.elsewhere w x y) ∙ h, x [])),
        (λ h. moves.elsewhere w x y ∙ sym (ap (held old) (swapped-neither (m ∷ p) (n ∷ q) to_out from_out w x y)) ∙ h.0),
      )

  counts_swapped : (k count : ℕ) → AreLinks old k count → Counted Path same_path paths_tell (λ w. Names old k (swap w)) count
  counts_swapped k count a = count-swap Path same_path paths_tell swap swap-back (Names old k) count (opens old k count a)

  -- an inode that the place named has one name less
  links-taken : (k count : ℕ) → Names old k (n ∷ q) → AreLinks old k count → AreLinks new k (count - 1)
  links-taken k count named a =
      shuts new k (count - 1) (count-less Path same_path paths_tell (λ w. Names old k (swap w)) (Names new k) count (m ∷ p) (ap (held old) (swapped-first (m ∷ p) (n ∷ q) to_out from_out []) ∙ named) (names_moved k) (counts_swapped k count a))

  -- any other has as many as it had
  links-moved : (k count : ℕ) → (Names old k (n ∷ q) → ⊥) → AreLinks old k count → AreLinks new k count
  links-moved k count off a =
      shuts new k count (count-same Path same_path paths_tell (λ w. Names old k (swap w)) (Names new k) count
      (λ w. ((λ h. (names_moved k w).1 (h, λ e. off (sym (ap (held old) (ap swap e ∙ swapped-first (m ∷ p) (n ∷ q) to_out from_out [])) ∙ h))), (λ h. ((names_moved k w).0 h).0)))
      (counts_swapped k count a))

  -- a path at which something is held now, but for the place that was left, was swapped from one at which something was
  held_swapped : (w : Path) → (w ≡ m ∷ p → ⊥) → is_some (held new w) ≡ true → is_some (held old (swap w)) ≡ true
  held_swapped = by_place (m ∷ p) (n ∷ q) to_out from_out (λ w. (w ≡ m ∷ p → ⊥) → is_some (held new w) ≡ true → is_some (held old (swap w)) ≡ true) first second neither
    where
      first : (r : Path) → (r ++ m ∷ p ≡ m ∷ p → ⊥) → is_some (held new (r ++ m ∷ p)) ≡ true → is_some (held old (swap (r ++ m ∷ p))) ≡ true
      first [] off h = absurd (off refl)
      first (l ∷ r) off h = absurd (true≢false (sym h ∙ ap is_some (moves.emptied l r)))

      second : (r : Path) → (r ++ n ∷ q ≡ m ∷ p → ⊥) → is_some (held new (r ++ n ∷ q)) ≡ true → is_some (held old (swap (r ++ n ∷ q))) ≡ true
      second r off h = ap (λ x. is_some (held old x)) (swapped-second (m ∷ p) (n ∷ q) to_out from_out r) ∙ sym (ap is_some (moves.inside r)) ∙ h

      neither : (w : Path) → IsOutside (m ∷ p) w → IsOutside (n ∷ q) w → (w ≡ m ∷ p → ⊥) → is_some (held new w) ≡ true → is_some (held old (swap w)) ≡ true
      neither w x y off h = ap (λ z. is_some (held old z)) (swapped-neither (m ∷ p) (n ∷ q) to_out from_out w x y) ∙ sym (ap is_some (moves.elsewhere w x y)) ∙ h

  -- no path below the root is swapped with the root
  never_root : (l : List ℕ) (w : Path) → swap (l ∷ w) ≡ [] → ⊥
  never_root l w e =
      let root : swap [] ≡ [] = swapped-neither (m ∷ p) (n ∷ q) to_out from_out [] (λ r f. empty r m p f) (λ r f. empty r n q f) in
      let same : l ∷ w ≡ [] = sym (swap-back (l ∷ w)) ∙ ap swap e ∙ root in
      cc
    where
      empty : (r : Path) (x : List ℕ) (y : Path) → [] ≡ r ++ x ∷ y → ⊥
      empty [] x y f = cc
      empty (z ∷ r) x y f = cc

  finite-moved : (ps : List Path) → HasAllPaths old ps → HasAllPaths new ([] ∷ (m ∷ p) ∷ map swap ps)
  finite-moved ps all = has_all new (m ∷ p) (map swap ps) (λ l w off h. member-swap Path same_path paths_tell swap swap-back (l ∷ w) ps ∙ all (swap (l ∷ w)) (below_root (swap (l ∷ w)) (never_root l w) ∙ held_swapped (l ∷ w) off h))
    where
      below_root : (w : Path) → (w ≡ [] → ⊥) → is_some (old.objects w) ≡ is_some (held old w)
      below_root [] off = absurd (off refl)
      below_root (x ∷ w) off = refl

  -- the layer after it
  pub IsLayer-moved : ((k : ℕ) → Names old k (n ∷ q) → new.inodes k ≡ option_map with_less (old.inodes k)) → ((k : ℕ) → (Names old k (n ∷ q) → ⊥) → new.inodes k ≡ old.inodes k) → IsHeldTogether new → IsLayer old → IsLayer new
  IsLayer-moved less same together layer =
      record {
        parents = together.parents;
        redirects = together.redirects;
        present = together.present;
        links = λ k i h. elim (cases_named (held old (n ∷ q)) k) [
          | inl named ↦
              let was = one_less i (old.inodes k) (sym h ∙ less k named) in
              subst (AreLinks new k) (sym was.2) (links-taken k was.0.links named (layer.links k was.0 was.1))
          | inr off ↦ links-moved k i.links off (layer.links k i (sym (same k off) ∙ h))
        ];
        paths = [] ∷ (m ∷ p) ∷ map swap layer.paths;
        finite = finite-moved layer.paths layer.finite;
      }
