-- What always holds of open directories, and what is read of one.
use Rattle.std.proofs.Common.{◌≡◌, ◌≢◌, ◌↔◌, ℕ, ◌<◌, [], ◌∷◌, Option, Some, None, IsSome, cond, refl, sym, ap, subst, ◌∙◌, inl, inr, arith, true≢false, nat_eq, get_or}
use Rattle.std.specs.Prelude.{option_map}
use Rattle.std.specs.Option.{option_and_then, option_map_or}
use Rattle.std.proofs.lemmas.Bool.{cases_eq}
use Rattle.slab.specs.Slab.{get, Updates}
use Rattle.plain_model.specs.Layers.{Name, Path}
use Rattle.std.specs.Map.{lookup}
use Rattle.std.specs.Cmp.Lexicographic.{pointwise}
use Rattle.ov_base.specs.declared.attributes.Attributes.{Attributes}
use Rattle.object_table.specs.declared.dentry.Unlisted.{Unlisted}
use Rattle.object_table.specs.declared.dentry.Unlisted.TheVariants as unlisted
use Rattle.object_table.specs.declared.dentry.Dentry.{Dentry}
use Rattle.object_table.specs.declared.dentry.Place.{Place}
use Rattle.object_table.specs.declared.dentry.Place.TheVariants as place
use Rattle.object_table.specs.Dentries.{Dentries, ROOT, place_at, held, child_in, child, StandsAt, Stands, IsTree}
use Rattle.object_table.specs.Steps.{left_unlisted}
use Rattle.object_table.specs.Opened.{Location, At, location, opened, holders, path_in, attributes_in, unlisted_in}
use Rattle.object_table.specs.Opened as locations
use Rattle.object_table.proofs.Standing.{one_there}
use Rattle.object_table.proofs.Located.{unheld, stands, removed, standing, opened-none, opened-stands, opened-at}
use Rattle.object_table.proofs.Handles.{opened-held}

-- a number is opened exactly where a handle holds it
pub opened-counted : (t : Dentries) (i : ℕ) → IsTree t i → (k : ℕ) → IsSome (opened t k) ↔ 0 < holders t k
unfolding holders
opened-counted t i tree k = (opened-held t i tree k, λ some. back some)
  where
    back : 0 < held t k → IsSome (opened t k)
    back some = elim (standing t i tree k) [
      | unheld none e ↦ absurd (omega arith)
      | stands _ p s e ↦ subst IsSome (sym e) refl
      | removed _ a gone e ↦ subst IsSome (sym e) refl
    ]

-- no two are opened at one path
pub opened-one : (t : Dentries) (i : ℕ) → IsTree t i → (p : Path) (j k : ℕ) → opened t j ≡ Some (At p) → opened t k ≡ Some (At p) → j ≡ k
opened-one t i tree p j k e f = one_there t i tree p j k (opened-at t i tree j p e).0 (opened-at t i tree k p f).0

-- what is read of the entry of an opened directory
pub unlisted-read : (t : Dentries) (i k : ℕ) (e : Dentry) → IsTree t i → IsSome (opened t k) → get t k ≡ Some e → left_unlisted e.place ≡ option_and_then unlisted_in (opened t k)
unlisted-read t i k e tree is_open at = elim (standing t i tree k) [
  | unheld none f ↦ let no : IsSome {T = Location} None = subst IsSome f is_open in absurd (true≢false (sym no))
  | stands some p s f ↦ none_left p s ∙ sym (ap (option_and_then unlisted_in) f)
  | removed some a gone f ↦
      let same : Some e.place ≡ Some (place.Apart a) = sym (ap (option_map (λ (e : Dentry). e.place)) at) ∙ gone in
      let one : e.place ≡ place.Apart a = cc in
      ap left_unlisted one ∙ sym (ap (option_and_then unlisted_in) f)
]
  where
    none_left : (p : Path) → StandsAt t k p → left_unlisted e.place ≡ None
    none_left [] s =
        let same : Some e.place ≡ Some place.Root = sym (ap (option_map (λ (e : Dentry). e.place)) at) ∙ s in
        let one : e.place ≡ place.Root = cc in
        ap left_unlisted one
    none_left (n ∷ p) s =
        let same : Some e.place ≡ Some (place.In s.0 n) = sym (ap (option_map (λ (e : Dentry). e.place)) at) ∙ s.1 in
        let one : e.place ≡ place.In s.0 n = cc in
        ap left_unlisted one

-- the attributes of what was removed
abbrev attributes_of : Unlisted → Option Attributes
attributes_of (unlisted.Removed a) = Some a
attributes_of (unlisted.Upper key) = None
attributes_of unlisted.Nowhere = None

-- are read of what is known of it
pub attributes-read : (o : Option Location) (x : Option Unlisted) → x ≡ option_and_then unlisted_in o → option_and_then attributes_of x ≡ option_and_then attributes_in o
attributes-read o x is = ap (option_and_then attributes_of) is ∙ of o
  where
    of : (o : Option Location) → option_and_then attributes_of (option_and_then unlisted_in o) ≡ option_and_then attributes_in o
    of None = refl
    of (Some (At p)) = refl
    of (Some (locations.Apart (unlisted.Removed a))) = refl
    of (Some (locations.Apart (unlisted.Upper key))) = refl
    of (Some (locations.Apart unlisted.Nowhere)) = refl

-- what is opened has an entry
pub opened-there : (t : Dentries) (k : ℕ) → IsSome (opened t k) → get t k ≢ None
unfolding opened
opened-there t k is_open none = let no : IsSome {T = Location} None = subst (λ o. IsSome (option_and_then (λ (e : Dentry). cond (nat_eq e.holders 0) None (location t k e.place)) o)) none is_open in absurd (true≢false (sym no))

-- what wasn't removed stands somewhere
pub stands-opened : (t : Dentries) (i k : ℕ) → IsTree t i → IsSome (opened t k) → option_and_then unlisted_in (opened t k) ≡ None → Stands t k
stands-opened t i k tree is_open kept = elim (standing t i tree k) [
  | unheld none f ↦ let no : IsSome {T = Location} None = subst IsSome f is_open in absurd (true≢false (sym no))
  | stands some p s f ↦ (p, s)
  | removed some a gone f ↦ let no : Some a ≡ None = sym (ap (option_and_then unlisted_in) f) ∙ kept in absurd (cc)
]

-- and its path is the one of its names
pub path-read : (t : Dentries) (i k : ℕ) (p : Path) → IsTree t i → IsSome (opened t k) → StandsAt t k p → Some p ≡ option_and_then path_in (opened t k)
path-read t i k p tree is_open s = sym (ap (option_and_then path_in) (opened-stands t i tree k p s (opened-held t i tree k is_open)))

-- what is found at a path is open there where a handle holds it, and otherwise none is
module _ (t : Dentries) (i : ℕ) (tree : IsTree t i) (p : Path) where
  -- where nothing stands at the path
  pub none-at : ((k : ℕ) → StandsAt t k p → ⊥) → (k : ℕ) → opened t k ≢ Some (At p)
  none-at none k e = none k (opened-at t i tree k p e).0

  -- where no handle holds what stands there
  pub none-held : (d : ℕ) (e : Dentry) → StandsAt t d p → get t d ≡ Some e → e.holders ≡ 0 → (k : ℕ) → opened t k ≢ Some (At p)
  none-held d e s at none k is =
      let here = opened-at t i tree k p is in
      let one : k ≡ d = one_there t i tree p k d here.0 s in
      let count : held t k ≡ 0 = ap (held t) one ∙ ap (λ o. option_map_or (λ (e : Dentry). e.holders) o 0) at ∙ none in
      let some = here.1 in
      absurd (omega arith)

  -- where a handle does
  pub found-held : (d : ℕ) (e : Dentry) → StandsAt t d p → get t d ≡ Some e → e.holders ≢ 0 → opened t d ≡ Some (At p)
  found-held d e s at some =
      let count : held t d ≡ e.holders = ap (λ o. option_map_or (λ (e : Dentry). e.holders) o 0) at in
      opened-stands t i tree d p s (let more : 0 < e.holders = omega arith in omega arith)

-- the tree of the root alone
module _ (old new : Dentries) (e : Dentry) (key : ℕ) (empty : old.slots ≡ []) (is : key ≡ ROOT) (updates : Updates old new key (Some e)) (at_root : e.place ≡ place.Root) (unheld_yet : e.holders ≡ 0) (bare : e.children.entries ≡ []) where
  -- the root is there
  at_top : get new ROOT ≡ Some e
  at_top = ap (get new) (sym is) ∙ updates.changed

  -- and nothing else
  others : (k : ℕ) → k ≢ ROOT → get new k ≡ None
  others k off = updates.others k (λ f. off (f ∙ is)) ∙ ap (λ s. get_or s k None) empty

  -- so what stands anywhere is the root
  place_others : (k : ℕ) (x : Place) → place_at new k ≡ Some x → (k ≡ ROOT)
  place_others k x f = elim (cases_eq k ROOT) [
    | inl same ↦ same
    | inr off ↦ let no : None ≡ Some x = sym (ap (option_map (λ (e : Dentry). e.place)) (others k off)) ∙ f in absurd (cc)
  ]

  -- which stands as the root
  place_top : place_at new ROOT ≡ Some place.Root
  place_top = ap (option_map (λ (e : Dentry). e.place)) at_top ∙ ap Some at_root

  -- and in no other way
  only_root : (k : ℕ) (x : Place) → place_at new k ≡ Some x → x ≡ place.Root
  only_root k x f = let same : Some x ≡ Some place.Root = sym f ∙ ap (place_at new) (place_others k x f) ∙ place_top in cc

  -- no entry has a child
  no_child : (k : ℕ) (n : Name) → child new k n ≡ None
  no_child k n = elim (cases_eq k ROOT) [
    | inl same ↦ ap (λ (x : ℕ). child new x n) same ∙ ap (option_and_then (λ (e : Dentry). child_in e n)) at_top ∙ ap (lookup (pointwise nat_eq n)) bare
    | inr off ↦ ap (option_and_then (λ (e : Dentry). child_in e n)) (others k off)
  ]

  -- it is a tree in which nothing is idle
  pub tree-root : IsTree new ROOT
  tree-root =
      record {
        root = place_top;
        one_root = λ k f. place_others k place.Root f;
        listed = λ k d n f. let no : place.In d n ≡ place.Root = only_root k (place.In d n) f in absurd (cc);
        placed = λ k d n f. let no : Some k ≡ None = sym f ∙ no_child d n in absurd (cc);
        rooted = λ k d n f. let no : place.In d n ≡ place.Root = only_root k (place.In d n) f in absurd (cc);
        bare = λ k a f. let no : place.Apart a ≡ place.Root = only_root k (place.Apart a) f in absurd (cc);
        kept = λ k there off _. let no : IsSome {T = Place} None = subst IsSome (ap (option_map (λ (e : Dentry). e.place)) (others k off)) there in absurd (true≢false (sym no));
      }

  -- in which nothing is opened
  pub opened-root : (k : ℕ) → opened new k ≡ None
  opened-root k = opened-none new ROOT tree-root k (elim (cases_eq k ROOT) [
    | inl same ↦ ap (held new) same ∙ ap (λ o. option_map_or (λ (e : Dentry). e.holders) o 0) at_top ∙ unheld_yet
    | inr off ↦ ap (λ o. option_map_or (λ (e : Dentry). e.holders) o 0) (others k off)
  ])
