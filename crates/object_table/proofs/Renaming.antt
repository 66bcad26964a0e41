-- What is opened after a directory was renamed.
use Rattle.std.proofs.Common.{◌≡◌, ◌≢◌, ℕ, ◌<◌, [], ◌∷◌, ◌++◌, Option, Some, None, IsSome, refl, sym, ap, subst, ◌∙◌, true≢false, append-nil}
use Rattle.std.specs.Prelude.{option_map}
use Rattle.object_table.specs.declared.dentry.Unlisted.{Unlisted}
use Rattle.plain_model.specs.Layers.{Name, Path}
use Rattle.plain_model.specs.Laws.{IsOutside}
use Rattle.object_table.specs.declared.dentry.Place.TheVariants as place
use Rattle.object_table.specs.Dentries.{Dentries, ROOT, place_at, held, child, StandsAt, IsTree}
use Rattle.object_table.specs.Steps.{IsListed, Exchanges}
use Rattle.object_table.specs.Opened.{At, Apart, opened, holders, after_removal, SameHandles, Removes, NoneBelow}
use Rattle.object_table.specs.Renames.{IsOpenWithin, IsReady, Moves}
use Rattle.object_table.proofs.Standing.{one_path, one_there, one_above}
use Rattle.object_table.proofs.Located.{unheld, stands, removed, standing, opened-none, opened-stands, opened-removed, opened-at}
use Rattle.object_table.proofs.Removing.{childless-idle, off_root, more_names, open-from, removal-other, removal-here}
use Rattle.object_table.proofs.Exchanging.{none-below, outside-childless, stands-inside, stands-other, stands-outside, tree-exchanged, childless-new}

-- the path of a place
at_path : (p q : Path) → Some (At p) ≡ Some (At q) → p ≡ q
at_path p q e = cc

-- where an entry stands at the path, one stands at the other path, and no further one is idle
pub ready-reads : (t : Dentries) (p q : Path) → IsReady t p q → (k : ℕ) → StandsAt t k p → (j : ℕ) × StandsAt t j q × IsTree t j
unfolding IsReady
ready-reads t p q ready = ready

-- what stands below the root is listed
listed : (t : Dentries) (i k : ℕ) (p : Path) → IsTree t i → p ≢ [] → StandsAt t k p → IsListed t k
listed t i k [] tree off s = absurd (off refl)
listed t i k (n ∷ p) tree off s = record { parent = s.0; name = n; placed = s.1; listed = tree.listed k s.0 n s.1 }

-- an entry is renamed to a path at which another one stands, and below which nothing is open
module _ (old : Dentries) (k j : ℕ) (p q : Path) (ready : IsReady old p q) (at : StandsAt old k p) (other : StandsAt old j q) (apart : IsOutside p q) (below : NoneBelow old q) where
  -- no entry is idle but the other one
  tree : IsTree old j
  tree = let reached = ready-reads old p q ready k at in subst (IsTree old) (one_there old reached.0 reached.2 q reached.0 j reached.1 other) reached.2

  -- which has no child
  childless : (m : Name) → child old j m ≡ None
  childless = childless-idle old j q tree below other

  -- the two are two, and both listed
  pub two : k ≢ j
  two e = apart [] (one_path old j q p other (subst (λ (y : ℕ). StandsAt old y p) e at))

  pub listed-one : IsListed old k
  listed-one = listed old j k p tree (λ e. apart q (sym (append-nil q) ∙ ap (λ (y : Path). q ++ y) (sym e))) at

  pub listed-other : q ≢ [] → IsListed old j
  listed-other off = listed old j j q tree off other

  -- the two were exchanged
  module _ (new : Dentries) (x : Exchanges old new k j) where
    -- the tree then
    pub tree-renamed : IsTree new j
    tree-renamed = tree-exchanged old new k j p q x tree at other apart childless

    -- a handle that held a number holds it
    still : (i : ℕ) → 0 < held old i → 0 < held new i
    still i some = subst (λ (y : ℕ). 0 < y) (sym (x.counts i)) some

    -- what was idle went
    module _ (mid : Dentries) (same : SameHandles new mid) where
      -- what was open at the path or below it
      inside : (i : ℕ) (r : Path) → opened old i ≡ Some (At (r ++ p)) → opened mid i ≡ Some (At (r ++ q))
      inside i r is =
          let was = opened-at old j tree i (r ++ p) is in
          same.located i ∙ opened-stands new j tree-renamed i (r ++ q) (stands-inside old new k j p q x tree at other apart childless i r was.0) (still i was.1)

      -- what was open at the other path
      beyond : (i : ℕ) → opened old i ≡ Some (At q) → opened mid i ≡ Some (At p)
      beyond i is =
          let was = opened-at old j tree i q is in
          let one : j ≡ i = one_there old j tree q j i other was.0 in
          same.located i ∙ opened-stands new j tree-renamed i p (subst (λ (y : ℕ). StandsAt new y p) one (stands-other old new k j p q x tree at other apart childless)) (still i was.1)

      -- what was open elsewhere
      outside : (i : ℕ) → ((r : Path) → opened old i ≢ Some (At (r ++ p))) → opened old i ≢ Some (At q) → opened mid i ≡ opened old i
      outside i off away = same.located i ∙ elim (standing old j tree i) [
        | unheld none e ↦ opened-none new j tree-renamed i (x.counts i ∙ none) ∙ sym e
        | stands some r s e ↦
            let not_other : i ≢ j = λ f. away (e ∙ ap (λ (y : Path). Some (At y)) (one_path old j r q (subst (λ (y : ℕ). StandsAt old y r) f s) other)) in
            let out : IsOutside p r = λ y f. off y (e ∙ ap (λ (z : Path). Some (At z)) f) in
            opened-stands new j tree-renamed i r (stands-outside old new k j p q x tree at other apart childless i r not_other out s) (still i some) ∙ sym e
        | removed some a gone e ↦
            let not_one : i ≢ k = λ f. let no : Some (place.Apart a) ≡ Some (place.In x.one.parent x.one.name) = sym gone ∙ ap (place_at old) f ∙ x.one.placed in absurd (cc) in
            let not_other : i ≢ j = λ f. let no : Some (place.Apart a) ≡ Some (place.In x.other.parent x.other.name) = sym gone ∙ ap (place_at old) f ∙ x.other.placed in absurd (cc) in
            opened-removed new j tree-renamed i a (x.places i not_one not_other ∙ gone) (still i some) ∙ sym e
      ]

      -- nothing is open below the path any more
      pub below-left : NoneBelow mid p
      below-left i n r is =
          none-below new j j p tree-renamed (stands-other old new k j p q x tree at other apart childless) (childless-new old new k j p q x tree at other apart childless) r i n (opened-at new j tree-renamed i (n ∷ (r ++ p)) (sym (same.located i) ∙ is)).0

      -- where nothing was open at the other path, that is all
      pub moves-plain : ((i : ℕ) → opened old i ≢ Some (At q)) → Moves old mid p q None
      unfolding holders
      moves-plain none =
          record { inside = inside; removed = λ i a e is. absurd (none i is); outside = outside; counted = λ i. same.counted i ∙ x.counts i }

      -- what was open there is removed at last
      pub moves-removed : (end : Dentries) (a : Unlisted) → Removes mid end p a → Moves old end p q (Some a)
      unfolding holders
      moves-removed end a gone =
          record {
            inside = λ i r is. gone.located i ∙ ap (option_map (after_removal p a)) (inside i r is) ∙ removal-other p a (Some (At (r ++ q))) (λ e. outside-childless old j j q tree other childless k p at (λ f. apart [] (sym f)) r (sym (at_path (r ++ q) p e)));
            removed = λ i b e is. gone.located i ∙ ap (option_map (after_removal p a)) (beyond i is) ∙ removal-here p a ∙ (let one : a ≡ b = cc in ap (λ (y : Unlisted). Some (Apart y)) one);
            outside = λ i off away. gone.located i ∙ ap (option_map (after_removal p a)) (outside i off away) ∙ removal-other p a (opened old i) (off []);
            counted = λ i. gone.counted i ∙ same.counted i ∙ x.counts i;
          }

-- nothing stood at the path, and what was idle went
module _ (old mid : Dentries) (i : ℕ) (p q : Path) (tree : IsTree old i) (none : (k : ℕ) → StandsAt old k p → ⊥) (same : SameHandles old mid) where
  -- nothing was open below it
  absent : (k : ℕ) (r : Path) → opened old k ≢ Some (At (r ++ p))
  absent k r is = let up = one_above old k r p (opened-at old i tree k (r ++ p) is).0 in none up.0 up.1

  -- where nothing was open at the other path, nothing changes
  pub moves-none : ((k : ℕ) → opened old k ≢ Some (At q)) → Moves old mid p q None
  moves-none empty =
      record { inside = λ k r is. absurd (absent k r is); removed = λ k a e is. absurd (empty k is); outside = λ k off away. same.located k; counted = same.counted }

  -- what was open there is removed
  pub moves-over : (end : Dentries) (a : Unlisted) → Removes mid end q a → Moves old end p q (Some a)
  moves-over end a gone =
      record {
        inside = λ k r is. absurd (absent k r is);
        removed = λ k b e is. gone.located k ∙ ap (option_map (after_removal q a)) (same.located k ∙ is) ∙ removal-here q a ∙ (let one : a ≡ b = cc in ap (λ (y : Unlisted). Some (Apart y)) one);
        outside = λ k off away. gone.located k ∙ ap (option_map (after_removal q a)) (same.located k) ∙ removal-other q a (opened old k) away;
        counted = λ k. gone.counted k ∙ same.counted k;
      }

-- where nothing was replaced, nothing was open
pub none-replaced : (t : Dentries) (q : Path) (o : Option Unlisted) → o ≡ None → ((k : ℕ) → opened t k ≡ Some (At q) → IsSome o) → (k : ℕ) → opened t k ≢ Some (At q)
none-replaced t q o is some k e = let no : IsSome {T = Unlisted} None = subst IsSome is (some k e) in absurd (true≢false (sym no))

-- where nothing stands at a path, a rename of it takes nothing
pub ready-absent : (t : Dentries) (p q : Path) → ((k : ℕ) → StandsAt t k p → ⊥) → IsReady t p q
unfolding IsReady
ready-absent t p q none k s = absurd (none k s)

-- where an entry stands at the other path and no further one is idle, it takes nothing either
pub ready-reached : (t : Dentries) (j : ℕ) (p q : Path) → StandsAt t j q → IsTree t j → IsReady t p q
unfolding IsReady
ready-reached t j p q s tree k at = (j, s, tree)

-- where an entry stands at a path that isn't the root's, and none is idle, something is open there or below it
pub within : (old new : Dentries) (k : ℕ) (p : Path) → IsTree new ROOT → SameHandles old new → StandsAt new k p → p ≢ [] → IsOpenWithin old p
within old new k [] whole same s off = absurd (off refl)
within old new k (n ∷ p) whole same s off =
    let found = open-from new ROOT n p whole (λ j r at. off_root new ROOT j (r ++ (n ∷ p)) whole at (more_names r n p)) k s in
    (found.0, found.1, sym (same.located found.0) ∙ found.2)
