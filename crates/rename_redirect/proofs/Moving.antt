-- An entry that moves in the upper, in a layer in which room was made.
use Rattle.std.proofs.Common.{◌≡◌, ◌≢◌, ℕ, [], ◌∷◌, ◌++◌, Option, Some, None, IsSome, refl, sym, ap, ap₂, ◌∙◌, option_map, is_some, cond, inl, inr}
use Rattle.std.proofs.lemmas.Bool.{false≢true}
use Rattle.slab.specs.Slab.{get}
use Rattle.std.specs.Option.{option_and_then}
use Rattle.plain_model.specs.Layers.{Name, Path, Object, Directory, Named, Whiteout, Inode, Layer, held, IsLayer}
use Rattle.plain_model.proofs.Paths.{cases_pair}
use Rattle.layer_tree.specs.Table.{object_key}
use Rattle.layer_tree.specs.Tree.{Tree, IsTree, layer_of, key_at, entry, child, seen_at, inode_at, seen_entry, with_less, IsDirectory, HoldsNoObjects, SameObjects, SameTree, SetsPath, IsHeldTogether, Inserts, directory_number, seen_object}
use Rattle.layer_tree.specs.Move.{Moves, MovesPath, left_object, left_entry}
use Rattle.layer_tree.specs.Nameless.{KeepsObjects}
use Rattle.layer_tree.specs.declared.name_table.Entry.{Entry}
use Rattle.layer_tree.specs.declared.name_table.Entry.TheVariants as bound
use Rattle.layer_tree.specs.declared.node.Object.{Object as NewObject}
use Rattle.layer_tree.proofs.Nameless.{keeps_same, keeps_then, keeps_leaf, vacant_before}
use Rattle.merged_lookup.proofs.Descending.{held-in, key-of}
use Rattle.make_remove.specs.Removing.{released_by, last_named, has_more}
use Rattle.copy_up.specs.Showing.{is_object, number_of}
use Rattle.copy_up.proofs.Nodes.{table-some, free-entry}
use Rattle.merged_lookup.proofs.Folders.{held-node}
use Rattle.mount_laws.proofs.Places.{longer}
use Rattle.make_remove.proofs.Unnaming.{bare-below, entry-object, number-child, released-key, nameless-left, lost-inodes, lost-link, last-entry}
use Rattle.rename_redirect.specs.declared.entries.Route.{Route}
use Rattle.rename_redirect.specs.Routes.{IsUnder, IsRoute, Leads, MovesEntry, MovesNew}

-- where each name leads where it led, an object is there still
child-same : (a b : Tree) → SameTree a b → (d : ℕ) (n : Name) → child b d n ≡ child a d n
child-same a b same d n = ap (option_and_then object_key) (same.entries d n)

-- the directory of a key that a path leads to
pub under-key : (t : Tree) (p : Path) (k : ℕ) → IsUnder (layer_of t) p k → key_at t p ≡ Some k
under-key t p k u = key-of t p k u.attributes u.opaque u.redirect u.directory

pub under-directory : (t : Tree) (p : Path) (k : ℕ) → IsTree t → IsUnder (layer_of t) p k → IsDirectory t k
under-directory t p k tree u = table-some (get t k) u.attributes (held-node t tree p k u.attributes u.opaque u.redirect u.directory)

-- a route, by the keys of the layer
pub record RouteKeys (t : Tree) (p q : Path) (r : Route) : Type 0 where
  pub from : key_at t p ≡ Some r.from
  pub to : key_at t q ≡ Some r.to
  pub from_directory : IsDirectory t r.from
  pub to_directory : IsDirectory t r.to
  pub bare : HoldsNoObjects t r.to r.further.now

pub route-keys : (t : Tree) (p q : Path) (r : Route) → IsTree t → IsRoute (layer_of t) p q r → RouteKeys t p q r
route-keys t p q r tree h = record {
  from = under-key t p r.from h.from;
  to = under-key t q r.to h.to;
  from_directory = under-directory t p r.from tree h.from;
  to_directory = under-directory t q r.to tree h.to;
  bare = bare-below t q r.to r.further.now tree (under-key t q r.to h.to) h.bare;
}

-- a directory stays where one path is set at which it isn't
under-kept : (L M : Layer) (p : Path) (k : ℕ) → held M p ≡ held L p → IsUnder L p k → IsUnder M p k
under-kept L M p k e u = record { attributes = u.attributes; opaque = u.opaque; redirect = u.redirect; directory = e ∙ u.directory }

-- a route stays one where the same is held
pub route-same : (L M : Layer) (p q : Path) (r : Route) → SameObjects L M → IsRoute L p q r → IsRoute M p q r
route-same L M p q r alike h = record {
  from = under-kept L M p r.from (alike p) h.from;
  to = under-kept L M q r.to (alike q) h.to;
  bare = λ n. ap is_object (alike (n ∷ r.further.now ∷ q)) ∙ h.bare n;
  out = h.out;
  within = h.within;
}

-- and where its first name is set
pub route-set : (L M : Layer) (p q : Path) (r : Route) (o : Object) → SetsPath L M (r.name.now ∷ p) o → IsRoute L p q r → IsRoute M p q r
route-set L M p q r o sets h = record {
  from = under-kept L M p r.from (sets.elsewhere p (λ e. longer p r.name.now [] e)) h.from;
  to = under-kept L M q r.to (sets.elsewhere q (λ e. h.out (r.further.now ∷ []) (ap (λ x. r.further.now ∷ x) e))) h.to;
  bare = λ n. ap is_object (sets.elsewhere (n ∷ r.further.now ∷ q) (λ e. h.within (n ∷ []) (sym e))) ∙ h.bare n;
  out = h.out;
  within = h.within;
}

pub leads-same : (a b : Tree) (r : Route) → SameTree a b → Leads a r → Leads b r
leads-same a b r same h = record {
  object = ap is_some (child-same a b same r.from r.name.now) ∙ h.object;
  apart = λ e. h.apart (sym (child-same a b same r.to r.further.now) ∙ e ∙ child-same a b same r.from r.name.now);
}

-- whose name is the last one is told by the inodes
last-same : (a b : Tree) → ((k : ℕ) → inode_at b k ≡ inode_at a k) → (o : Option Object) → last_named b o ≡ last_named a o
last-same a b same None = refl
last-same a b same (Some Whiteout) = refl
last-same a b same (Some (Directory k x o r)) = refl
last-same a b same (Some (Named k)) = ap (λ i. cond (has_more 1 i) None (Some k)) (same k)

-- an entry that moves after room was made
pub entry-since : (a b c : Tree) (p q : Path) (left : Option Object) (released : Option ℕ) → SameTree a b → SameObjects (layer_of a) (layer_of b) → MovesEntry b c p q left released → MovesEntry a c p q left released
entry-since a b c p q left released same alike m = record {
  path = record {
    inside = λ rest. m.path.inside rest ∙ alike (rest ++ p);
    leaves = m.path.leaves;
    emptied = m.path.emptied;
    elsewhere = λ x out off. m.path.elsewhere x out off ∙ alike x;
  };
  fewer = λ k h. m.fewer k (alike q ∙ h) ∙ ap (option_map with_less) (same.inodes k);
  inodes = λ k off. m.inodes k (λ h. off (sym (alike q) ∙ h)) ∙ same.inodes k;
  seen = λ k. m.seen k ∙ same.seen k;
  nameless = λ k h. m.nameless k ((keeps_same a b same).nameless k h);
  handed_back = m.handed_back ∙ last-same a b same.inodes (held (layer_of b) q) ∙ ap (last_named a) (alike q);
  unnamed = m.unnamed;
}

-- an entry that moved, by what the layer's move says
module _ (old new : Tree) (r : Route) (released : Option ℕ) (was : Option Entry) (tree : IsTree old) (leads : Leads old r) (moves : Moves old new r.from r.name.now r.to r.further.now (left_entry r.covered)) (path : (p q : Path) → key_at old p ≡ Some r.from → key_at old q ≡ Some r.to → IsRoute (layer_of old) p q r → MovesPath (layer_of old) (layer_of new) (r.name.now ∷ p) (r.further.now ∷ q) (left_object r.covered)) (objects : (q : Path) → key_at old q ≡ Some r.to → KeepsObjects old new (child old r.to r.further.now)) (unnamed : (key : ℕ) → child old r.to r.further.now ≡ Some key → IsDirectory old key → (d : ℕ) (n : Name) → child new d n ≢ Some key) (linkless : (key : ℕ) (i : Inode) → inode_at new key ≡ Some i → i.links ≡ 0 → (d : ℕ) (n : Name) → child new d n ≢ Some key) (is_was : was ≡ entry old r.to r.further.now) (is_released : released ≡ released_by new (option_and_then object_key was)) (p q : Path) (is_route : IsRoute (layer_of old) p q r) where
  route : RouteKeys old p q r
  route = route-keys old p q r tree is_route

  -- what stands in the object that loses its name stays
  inside : (key : ℕ) → child old r.to r.further.now ≡ Some key → (n : Name) → entry new key n ≡ entry old key n
  inside key led n =
      moves.others key n
      (λ e f. let z : IsSome (child old r.from r.name.now) = leads.object in
      let none : child old r.from r.name.now ≡ None = ap₂ (child old) (sym e) (sym f) ∙ route.bare key led n in
      absurd (false≢true (sym (ap is_some none) ∙ z)))
      (λ e f. let none : Some key ≡ None = sym led ∙ ap₂ (child old) (sym e) (sym f) ∙ route.bare key led n in cc)

  present : (j : ℕ) → entry old r.to r.further.now ≡ Some (bound.Object j) → IsSome (get old j)
  present j e = tree.present r.to r.further.now j (ap (option_and_then object_key) e)

  is_led : released ≡ released_by new (child old r.to r.further.now)
  is_led = is_released ∙ ap (λ e. released_by new (option_and_then object_key e)) is_was

  pub moves-entry : MovesEntry old new (r.name.now ∷ p) (r.further.now ∷ q) (left_object r.covered) released
  moves-entry = record {
    path = path p q route.from route.to is_route;
    fewer = lost-link old new q r.to r.further.now route.to moves.unlinked moves.inodes;
    inodes = lost-inodes old new q r.to r.further.now route.to moves.unlinked moves.inodes;
    seen = moves.seen;
    nameless = (objects q route.to).nameless;
    handed_back = is_led ∙ last-entry old old new (entry old r.to r.further.now) present (λ k. refl) moves.unlinked ∙ sym (ap (last_named old) (held-in old q r.to r.further.now route.to));
    unnamed = λ k is.
        let found = released-key new (child old r.to r.further.now) k (sym is_led ∙ is) in
        nameless-left old new r.to r.further.now tree route.bare moves.seen inside unnamed linkless k found.0 found.1;
  }

-- a new object stands at a route's first name, in a layer in which room was made
module _ (start old new : Tree) (r : Route) (o : NewObject) (key : ℕ) (same : SameTree start old) (alike : SameObjects (layer_of start) (layer_of old)) (tree : IsTree old) (together : IsHeldTogether (layer_of old)) (i : Inserts old new r.from r.name.now o key) (sets : (path : Path) → key_at old path ≡ Some r.from → SetsPath (layer_of old) (layer_of new) (r.name.now ∷ path) (seen_object key o)) (p q : Path) (route : IsRoute (layer_of start) p q r) where
  roomed : IsRoute (layer_of old) p q r
  roomed = route-same (layer_of start) (layer_of old) p q r alike route

  from-key : key_at old p ≡ Some r.from
  from-key = under-key old p r.from roomed.from

  set-there : SetsPath (layer_of old) (layer_of new) (r.name.now ∷ p) (seen_object key o)
  set-there = sets p from-key

  -- the route is one still
  pub route-inserted : IsRoute (layer_of new) p q r
  route-inserted = route-set (layer_of old) (layer_of new) p q r (seen_object key o) set-there roomed

  led : child new r.from r.name.now ≡ Some key
  led = ap (option_and_then object_key) i.binds.at

  apart : child new r.to r.further.now ≢ child new r.from r.name.now
  apart e = elim (cases_pair r.to r.from r.further.now r.name.now) [
    | inl both ↦
        let u = roomed.from in
        let v = roomed.to in
        let one : p ≡ q = together.one_path p q r.from (ap directory_number u.directory) (ap directory_number v.directory ∙ ap Some both.0) in
        route.out [] (ap₂ (λ x y. x ∷ y) both.1 (sym one))
    | inr off ↦
        let there = tree.present r.to r.further.now key (sym (ap (option_and_then object_key) (i.binds.others r.to r.further.now off)) ∙ e ∙ led) in
        false≢true (sym (ap is_some i.fresh) ∙ there)
  ]

  pub leads-inserted : Leads new r
  leads-inserted = record { object = ap is_some led; apart = apart }

  pub inserted : (last : Tree) (left : Option Object) (released : Option ℕ) → (IsLayer (layer_of start) → IsLayer (layer_of old)) → ((path : Path) → key_at old path ≡ Some r.from → IsLayer (layer_of old) → IsLayer (layer_of new)) → MovesEntry new last (r.name.now ∷ p) (r.further.now ∷ q) left released → MovesNew start last (r.name.now ∷ p) (r.further.now ∷ q) o left key released
  inserted last left released first keeps m = record {
    mid = new;
    vacant = vacant_before start old None (keeps_same start old same) key i.fresh;
    sets = record { there = set-there.there; elsewhere = λ x off. set-there.elsewhere x off ∙ alike x };
    inode = i.inode;
    inodes = λ k off. i.inodes k off ∙ same.inodes k;
    objects = keeps_then start old new (Some key) (keeps_same start old same) (keeps_leaf old new r.from r.name.now o key i p from-key);
    layer = λ h. keeps p from-key (first h);
    moves = m;
  }

-- what a name of a directory leads to is held there
child-held : (t : Tree) (p : Path) (dir : ℕ) (n : Name) (k : ℕ) → key_at t p ≡ Some dir → child t dir n ≡ Some k → held (layer_of t) (n ∷ p) ≡ seen_at t k
child-held t p dir n k at h = held-in t p dir n at ∙ ap (option_and_then (seen_entry t)) (entry-object (entry t dir n) k h)

-- an object that is held at a route's first name, and not at its last, is there to move
pub leads-held : (t : Tree) (p q : Path) (r : Route) (k : ℕ) → IsTree t → IsRoute (layer_of t) p q r → number_of (held (layer_of t) (r.name.now ∷ p)) ≡ Some k → (held (layer_of t) (r.further.now ∷ q) ≡ held (layer_of t) (r.name.now ∷ p) → ⊥) → Leads t r
leads-held t p q r k tree route number off =
    let keys = route-keys t p q r tree route in
    let led : child t r.from r.name.now ≡ Some k = number-child t p r.from r.name.now k keys.from number in
    record {
      object = ap is_some led;
      apart = λ e. off (child-held t q r.to r.further.now k keys.to (e ∙ led) ∙ sym (child-held t p r.from r.name.now k keys.from led));
    }

-- no object is where nothing is held
pub free-held : (t : Tree) (p q : Path) (r : Route) → IsTree t → IsRoute (layer_of t) p q r → held (layer_of t) (r.name.now ∷ p) ≡ None → child t r.from r.name.now ≡ None
free-held t p q r tree route none =
    let keys = route-keys t p q r tree route in
    free-entry t (entry t r.from r.name.now) (λ j e. tree.present r.from r.name.now j (ap (option_and_then object_key) e))
    (sym (ap is_object (held-in t p r.from r.name.now keys.from)) ∙ ap is_object none)
